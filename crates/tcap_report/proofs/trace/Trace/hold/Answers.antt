use Rattle.std.proofs.Common.{arith, cond, Some, ◌++◌, sym, ap, subst, ◌∙◌}
use Rattle.std.specs.Prelude.{◌==◌, filter, length}
use Rattle.std.specs.BTreeMap as tree
use Rattle.std.specs.Ordering.{nat_cmp}
use Rattle.tcap_dialogues.specs.Course.{is_free}
use Rattle.tcap_dialogues.specs.CutDialogues.{AreCompleteDialogues}
use Rattle.tcap_dialogues.specs.CutState.{IsCut}
use Rattle.tcap_dialogues.specs.HeadingReading.{heading_read}
use Rattle.tcap_dialogues.proofs.HeldLaws.{at_number}
use Rattle.tcap_traces.specs.Segments.{is_unreadable}
use Rattle.tcap_traces.specs.UnreadableEntries.{after_entry, notes_in}
use Rattle.tcap_report.specs.declared.trace.Trace.{Trace}
use Rattle.tcap_report.specs.KeptState.{courses_at, headings_of}
use Rattle.tcap_report.proofs.EntryLaws.{entry_held, heading_made, ok_of}
use Rattle.tcap_report.proofs.trace.Trace.hold.Goals as goal

pub returns : goal.returns
returns c = λ options s reading.
    let hs = headings_of s in
    let live = courses_at options s in
    let h = heading_read c.heading_of-heading.result in
    let rest = c.note.ensures.rest in
    let cut = subst (IsCut options.reuse hs) (sym (ap (λ (x : Trace). x.cut) rest)) reading.cut in
    let (now, (given, is, are)) = c.in_ok-begins.ensures.takes options.reuse hs cut in
    let updates = ok_of c.insert.result _ (sym c.is_err.ensures.value ∙ c.if-is_err.false) c.insert.ensures.updates in
    let counted = c.in-Some.ensures.1 in
    let before = ap (λ (x : Trace). x.count) rest in
    entry_held options s c.args.entry h c.in_ok-begins.begins c.take.new.done.items c.args.self.now _
    (heading_made options s c.args.entry c.args.self.now h reading c.heading_of-heading.ensures) reading
    (c.in_ok-begins.ensures.begins options.reuse hs cut)
    (subst (AreCompleteDialogues (filter (is_free options.reuse (length hs) live h) live.live))
    (sym (is ∙ ap (λ l. l ++ given) c.new-done.ensures.items)) are)
    now
    (c.in_ok-note.ensures ∙ ap (λ (x : Trace). after_entry x.count (is_unreadable h) c.in_ok-begins.begins (notes_in x.unread)) rest)
    (λ n.
    updates.0 n ∙ ap (λ b. cond b (Some c.args.entry) (tree.get nat_cmp c.note.new.self.held n)) (at_number c.note.new.self.count n)
    ∙ ap (λ (x : Trace). cond (x.count == n) (Some c.args.entry) (tree.get nat_cmp x.held n)) rest)
    c.note.ensures.messages c.note.ensures.readable (omega (counted, before, arith))
    (ap (λ (x : Trace). record x { cut = c.take.new.self; held = c.insert.new.self; count = c.in-Some.count; unread = c.note-2.new.self }) rest)
