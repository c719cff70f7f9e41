use Rattle.std.proofs.Common.{◌≡◌, ◌+◌, ◌-◌, Bool, List, ℕ, Option, length, take, drop, refl, sym, ap, subst, ◌∙◌, arith}
use Rattle.std.specs.Prelude.{◌||◌, IfSome, is_some}
use Rattle.std.specs.Io.KnownBytes.{Appends}
use Rattle.std.proofs.lemmas.List.{length-drop}
use Rattle.tcap_record.specs.declared.entry.Entry.{Entry}
use Rattle.tcap_record.specs.declared.entry.EntryView.{EntryView}
use Rattle.tcap_record.specs.PartialRecord.{FramerState}
use Rattle.tcap_record.specs.LentEntry.{IsLent}
use Rattle.tcap_record.specs.Lines.{entry_lines}
use Rattle.tcap_record.specs.EntryView.{entry_read}
use Rattle.tcap_record.proofs.FeederLaws.{rest_is}
use Rattle.tcap_lines.specs.ShowRun.{is_bad}
use Rattle.tcap_lines.specs.RecordLines.{Leads}
use Rattle.tcap_lines.proofs.ShowLaws.{leads_passed}
use Rattle.tcap_lines.proofs.showing.ShowState.show_whole.Goals.{then-self, else-self}
use Rattle.tcap_lines.proofs.showing.ShowState.show_whole.Goals as goal

pub loop-entry-preserved : goal.loop-entry-preserved
loop-entry-preserved g c =
    let was = c.loop-entry.invariant in
    let piece = c.args.piece.now in
    let at = c.loop-entry.taken in
    let rest : List ℕ = take (length piece - at) (drop at piece) in
    let behind : rest ≡ drop at piece = rest_is piece at in
    let entry : Entry = entry_read c.in-Some.entry in
    let len = c.in-Some.len in
    let found = c.in-Some.is in
    let lent = subst (λ (r : Option (EntryView × ℕ)). IfSome r (λ x. IsLent c.loop-entry.self.frames.place rest (entry_read x.0) x.1)) found c.lend.ensures.entry in
    let free = c.lend.ensures.exact.0 (ap is_some found) in
    let there = c.in_ok-bad.ensures.shown c.in_ok-bad.bad refl in
    let lines = subst (λ (n : ℕ). Appends (g.W.Write.taken c.loop-entry.writer) (g.W.Write.taken c.show_entry.new.writer) (entry_lines n entry)) c.dropped.ensures.count there.0 in
    let bad_is : c.if-self.self ≡ (c.loop-entry.self.bad || is_bad entry) = elim c.if-self.branch [
      | then-self w ↦ w.self-is ∙ w.if-self.true ∙ sym (ap (λ (b : Bool). b || is_bad entry) w.if-self.true)
      | else-self w ↦ w.self-is ∙ there.1 ∙ sym (ap (λ (b : Bool). b || is_bad entry) w.if-self.false)
    ] in
    record {
      held = λ held. c.pass.ensures.held;
      octets = ap (λ (h : FramerState). h.octets) c.pass.ensures.dropped ∙ sym free.1 ∙ was.octets;
      none_failed = c.in_ok-bad.ensures.others (λ is. cc) ∙ was.none_failed;
      most = omega (arith, was.most, lent.most, ap length behind, length-drop at piece);
      leads = subst (λ (b : Bool). Leads c.args.self.now.frames c.args.self.now.bad (g.W.Write.taken c.args.writer.now) (take (at + len) piece) c.pass.new.self b (g.W.Write.taken c.show_entry.new.writer)) (sym bad_is)
          (leads_passed _ _ _ piece (take len rest) at len c.loop-entry.self.frames c.pass.new.self c.loop-entry.self.bad (g.W.Write.taken c.loop-entry.writer) (g.W.Write.taken c.show_entry.new.writer) entry
          (ap (take len) behind) (λ returned entries fed. c.pass.ensures.fed returned entries entry lent.is_entry fed) lines was.leads);
    }
