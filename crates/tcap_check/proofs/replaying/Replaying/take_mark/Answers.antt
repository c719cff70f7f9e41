use Rattle.std.proofs.Common.{◌≡◌, ◌+◌, ◌^◌, ◌++◌, ◌∷◌, [], Some, arith, length, rules, vec_len, length-append, ap, sym, ◌∙◌}
use Rattle.std.specs.Prelude.{slice_get}
use Rattle.std.proofs.lemmas.Option.{slice_get_within}
use Rattle.std.proofs.lemmas.Result.{err_from_is_err_and}
use Rattle.tcap_end.proofs.AnsweringLaws.{some_ok}
use Rattle.tcap_model.specs.declared.reason.Reason.TheVariants.{FateCount}
use Rattle.tcap_certificate.specs.Replay.{fault_at, is_gap}
use Rattle.tcap_certificate.specs.declared.certificate.Fate.{Fate}
use Rattle.tcap_check.specs.declared.outline.Outline.{Outline}
use Rattle.tcap_check.specs.declared.outline.Outline.TheVariants.{Mark}
use Rattle.tcap_check.specs.declared.replaying.Replaying.{Replaying}
use Rattle.tcap_check.specs.Progress.{GrewBy, load, unheard_load}
use Rattle.tcap_check.specs.ReplayInvariants.{IsReady, IsSameBesideProgress}
use Rattle.tcap_check.proofs.progress_laws.KeptGrowth.{on_ok}
use Rattle.tcap_check.proofs.refusal_laws.TakenEntriesLaws.{listed_behind, mark_after}
use Rattle.tcap_check.proofs.replaying.Replaying.take_mark.Goals as goal

pub returns-in_err-be_quiet-clause-left : goal.returns-in_err-be_quiet-clause-left
returns-in_err-be_quiet-clause-left c =
    let x = c.args.self.now in
    let y = c.pass_gap.new.self in
    let passed = c.in_ok-pass_gap.ensures.passed in
    let count : vec_len x.entries ≡ length x.entries.items = search rules in
    let p = err_from_is_err_and c.from_residual-in_err-be_quiet.result c.from_residual-in_err-be_quiet.ensures.1 in
    rw p.1 (λ listed other.
    c.in_err-be_quiet.ensures.left (listed_behind x y.progress listed passed) (λ is. other (p.2 ∙ is))
    ∙ mark_after x y c.in_ok-fate.fate c.in_ok-pass_gap.ensures.others
    (some_ok (slice_get x.certificate.now.fates (length x.entries.items)) (fault_at FateCount (length x.entries.items)) c.in_ok-fate.fate (sym c.in_ok-fate.ensures))
    (ap (λ n. is_gap (n + 1) c.in_ok-fate.fate) (sym (c.len-entry.ensures ∙ count)) ∙ sym c.is_gap_after.ensures ∙ c.if-not-is_gap_after.false) passed)

-- After one more entry the replay is ready for the next.
ready_after : (x y z w : Replaying) (mark : Outline) (fate : Fate) → IsReady x → IsSameBesideProgress x y → IsSameBesideProgress y z
    → GrewBy (2 ^ 66) 0 x.progress y.progress → GrewBy (2 ^ 66) 0 y.progress z.progress
    → slice_get x.certificate.now.fates (length x.entries.items) ≡ Some fate
    → w.certificate ≡ z.certificate → w.plan ≡ z.plan → w.progress ≡ z.progress → w.entries.items ≡ z.entries.items ++ mark ∷ [] → IsReady w
ready_after x y z w mark fate ready passed quiet gap grows has certificate plan progress entries =
    let within = slice_get_within x.certificate.now.fates (length x.entries.items) fate has in
    let same : w.certificate ≡ x.certificate = certificate ∙ quiet.certificate ∙ passed.certificate in
    let fates : length w.certificate.now.fates ≡ length x.certificate.now.fates = ap (λ (c : _). length c.now.fates) same in
    let count : length w.entries.items ≡ length x.entries.items + 1 = ap length entries ∙ length-append z.entries.items (mark ∷ [])
    ∙ ap (λ (es : _). length es.items + 1) (quiet.entries ∙ passed.entries) in
    let moved : load w.progress ≡ load z.progress = ap load progress in
    let lost : unheard_load w.progress ≡ unheard_load z.progress = ap unheard_load progress in
    let few = ready.few in
    let room = ready.room in
    let unheard = ready.unheard in
    let a = gap.0 in
    let b = grows.0 in
    let d = gap.1 in
    let e = grows.1 in
    record {
      plan = rw (same, plan ∙ quiet.plan ∙ passed.plan) ready.plan;
      count = omega (arith, within, fates, count);
      few = omega (arith, fates, few);
      room = omega (arith, count, moved, room, a, b);
      unheard = omega (arith, count, lost, unheard, d, e);
    }

pub returns-clause-ready : goal.returns-clause-ready
returns-clause-ready c =
    let x = c.args.self.now in
    let y = c.pass_gap.new.self in
    let z = c.be_quiet.new.self in
    let kept = c.keep.ensures.others in
    on_ok c.keep.result c.keep.ensures.kept (ready_after x y z c.keep.new.self Mark c.in_ok-fate.fate c.requires.ready
    c.in_ok-pass_gap.ensures.others c.in_ok-be_quiet.ensures.others c.in_ok-pass_gap.ensures.grows c.in_ok-be_quiet.ensures.grows
    (some_ok (slice_get x.certificate.now.fates (length x.entries.items)) (fault_at FateCount (length x.entries.items)) c.in_ok-fate.fate (sym c.in_ok-fate.ensures))
    kept.certificate kept.plan kept.progress)
