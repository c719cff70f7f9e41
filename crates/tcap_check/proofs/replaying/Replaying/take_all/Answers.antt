use Rattle.std.proofs.Common.{◌≡◌, arith, length, List, Option, Result, Err, sym, ap, ap₂, subst, ◌∙◌, map, take, drop, true, ◌∷◌, ◌++◌, ◌+◌}
use Rattle.std.proofs.lemmas.Result.{err_from_is_err_and}
use Rattle.tcap_record.specs.declared.entry.End.{End as Side}
use Rattle.tcap_model.specs.declared.reason.Reason.{Reason}
use Rattle.tcap_model.specs.World.{Item}
use Rattle.tcap_model.specs.Entries.{item_of}
use Rattle.tcap_certificate.specs.declared.fault.CheckFault.{CheckFault}
use Rattle.tcap_check.specs.CheckerMeaning.{HasTakenListing, taken}
use Rattle.tcap_check.specs.ReplayInvariants.{checking_of, kept_in}
use Rattle.tcap_certificate.specs.Replay.{replay_by}
use Rattle.tcap_check.proofs.checker_laws.RefusalLaws.{refused_at, taken_at, took_more, whole_is}
use Rattle.tcap_end.specs.Table.{Table}
use Rattle.tcap_check.specs.RunSoFar.{IsRefusedThere}
use Rattle.tcap_check.proofs.refusal_laws.SendShows.{next_shows}
use Rattle.tcap_check.proofs.refusal_laws.TakenEntriesLaws.{GoesAlike, among_refused, refused_next}
use Rattle.tcap_check.proofs.progress_laws.KeptLeft.{next_left}
use Rattle.tcap_record.specs.declared.entry.Entry.{Entry}
use Rattle.tcap_check.proofs.replaying.Replaying.take_all.Goals as goal

pub returns-in_err-take_entry-clause-refused : goal.returns-in_err-take_entry-clause-refused
returns-in_err-take_entry-clause-refused c =
    let all = c.args.record.now.entries.items in
    let i = c.loop-entry.entry-index in
    let r = c.loop-entry.self in
    let s = c.args.self.now in
    let before = map item_of (take i all) in
    let so_far = taken_at all c.deref-entry-items.result.now i c.entry-item.result c.deref-entry-items.ensures.value
    c.loop-entry-test.true c.entry-item.is in
    let p = err_from_is_err_and c.from_residual.result c.from_residual.ensures.1 in
    let kept = c.loop-entry.invariant in
    λ listed f start same other.
    let fault : c.in_err-take_entry.field-0.0 ≡ f = cc in
    ap (λ (judged : Option Side). replay_by judged s.table.now s.certificate.now (map item_of all)) (sym kept.judged)
    ∙ ap₂ (λ t x. replay_by r.judged t x (map item_of all)) (sym (ap (λ x. x.now) kept.table)) (sym (ap (λ x. x.now) kept.certificate))
    ∙ refused_at listed r.judged r.table.now r.certificate.now (kept_in r) (item_of c.entry-item.result) f
    (c.in_err-take_entry.ensures.taken (λ is. other (sym fault ∙ is)) ∙ ap (λ (x : CheckFault). Err x) fault)
    before (map item_of (drop (i + 1) all)) (map item_of all) (kept.took listed start)
    (ap (λ (x : List (Result Item Reason)). x ++ map item_of (drop (i + 1) all)) (sym so_far) ∙ whole_is all (i + 1))

pub loop-entry-preserved : goal.loop-entry-preserved
loop-entry-preserved c =
    let all = c.args.record.now.entries.items in
    let i = c.loop-entry.entry-index in
    let so_far = taken_at all c.deref-entry-items.result.now i c.entry-item.result c.deref-entry-items.ensures.value
    c.loop-entry-test.true c.entry-item.is in
    record {
      ready = c.in_ok-take_entry.ensures.ready;
      took = λ listed start. subst (λ (x : List (Result Item Reason)). HasTakenListing listed (checking_of c.take_entry.new.self) x) (sym so_far)
          (took_more listed c.loop-entry.self c.take_entry.new.self (item_of c.entry-item.result) c.take_entry.ensures.judged
          c.take_entry.ensures.table c.take_entry.ensures.certificate c.in_ok-take_entry.ensures.taken (map item_of (take i all))
          (c.loop-entry.invariant.took listed start));
      judged = c.take_entry.ensures.judged ∙ c.loop-entry.invariant.judged;
      table = c.take_entry.ensures.table ∙ c.loop-entry.invariant.table;
      certificate = c.take_entry.ensures.certificate ∙ c.loop-entry.invariant.certificate;
    }

pub returns-in_err-take_entry-clause-so_far : goal.returns-in_err-take_entry-clause-so_far
returns-in_err-take_entry-clause-so_far c =
    let all = c.args.record.now.entries.items in
    let i = c.loop-entry.entry-index in
    let r = c.loop-entry.self in
    let kept = c.loop-entry.invariant in
    let next = taken_at all c.deref-entry-items.result.now i c.entry-item.result c.deref-entry-items.ensures.value
    c.loop-entry-test.true c.entry-item.is in
    let length_is = ap length c.deref-entry-items.ensures.value in
    let left_is = ap (λ (x : List Entry). drop i x) (sym c.deref-entry-items.ensures.value)
    ∙ next_left c.deref-entry-items.result.now i c.entry-item.result c.loop-entry-test.true
    ∙ ap₂ (λ (e : Entry) (x : List Entry). e ∷ drop (i + 1) x) (sym c.entry-item.is) c.deref-entry-items.ensures.value in
    let less_is = c.loop-entry-test.true in
    let alike : GoesAlike c.args.self.now r = record { judged = kept.judged; table = kept.table; certificate = kept.certificate } in
    let p = err_from_is_err_and c.from_residual.result c.from_residual.ensures.1 in
    rw p.1 (λ start other.
    let refused = refused_next r (item_of c.entry-item.result) c.in_err-take_entry.field-0.0
    (c.in_err-take_entry.ensures.taken (λ is. other (p.2 ∙ is))) (map item_of (take i all)) (kept.took true start) in
    among_refused c.args.self.now r all i c.entry-item.result c.in_err-take_entry.field-0.0 c.take_entry.new.self.progress alike
    (omega (arith, length_is, less_is)) left_is (kept.took true start) (ap (λ x. taken r.judged r.table.now r.certificate.now x) next ∙ refused)
    (λ listed. c.in_err-take_entry.ensures.left listed (λ is. other (p.2 ∙ is))))

pub returns-in_err-take_entry-clause-shows : goal.returns-in_err-take_entry-clause-shows
returns-in_err-take_entry-clause-shows c =
    let all = c.args.record.now.entries.items in
    let kept = c.loop-entry.invariant in
    let left = c.take_entry.new.self.progress in
    let p = err_from_is_err_and c.from_residual.result c.from_residual.ensures.1 in
    rw p.1 (λ start.
    subst (λ (f : CheckFault). IsRefusedThere c.args.self.now.table.now all f left.a.end left.b.end) (sym p.2)
    (subst (λ (t : Table). IsRefusedThere t all c.in_err-take_entry.field-0.0 left.a.end left.b.end) (ap (λ x. x.now) kept.table)
    (next_shows c.loop-entry.self.table.now all c.deref-entry-items.result.now c.loop-entry.entry-index c.entry-item.result c.loop-entry.self
    c.in_err-take_entry.field-0.0 left c.deref-entry-items.ensures.value c.loop-entry-test.true c.entry-item.is (kept.took true start)
    c.in_err-take_entry.ensures.shows)))
