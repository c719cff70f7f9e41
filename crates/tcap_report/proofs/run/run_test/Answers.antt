use Rattle.std.proofs.Common.{◌≡◌, ◌+◌, [], refl, ◌∙◌, sym, arith}
use Rattle.tcap_report.proofs.RunLaws.{answers_more}
use Rattle.tcap_report.proofs.run.run_test.Goals as goal

pub loop-name-init : goal.loop-name-init
loop-name-init g c = (refl, omega arith, record { verdicts = []; count_is = refl; each = (refl, refl); counted = refl }, refl)

pub loop-name-preserved : goal.loop-name-preserved
loop-name-preserved g c =
    let (same, opened, so_far, same_sum) = c.loop-name.invariant in
    let one = c.in_ok-test_trace.ensures in
    let next = one.next in (
      one.same ∙ same,
      omega (opened, next, arith),
      answers_more _ _ _ _ c.in_ok-test_trace.field-0 _ _ _ _ _ _ so_far (rw (sym same, sym opened) one.answers) one.counted,
      c.test_trace.ensures.same_sum ∙ same_sum,
    )
