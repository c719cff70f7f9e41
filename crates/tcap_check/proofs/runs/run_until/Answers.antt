use Rattle.std.proofs.Common.{Some, sym, ap, ◌∙◌}
use Rattle.tcap_check.specs.RunSoFar.{EndsListed, stopped_at}
use Rattle.tcap_check.specs.ReportedSteps.{ListedRun}
use Rattle.tcap_check.proofs.checker_laws.ListedStepsLaws.{nothing_answered, nothing_stopped, run_answered, run_stopped}
use Rattle.tcap_check.proofs.refusal_laws.TakenEntriesLaws.{Among, in_memory, listed_kept, replay_so_far}
use Rattle.tcap_check.proofs.runs.run_until.Goals.{in-Some, in-None}
use Rattle.tcap_check.proofs.runs.run_until.Goals as goal

pub returns-in-Err-clause-answer : goal.returns-in-Err-clause-answer
returns-in-Err-clause-answer c =
    let made = c.nothing_of.ensures in
    nothing_answered c.nothing_of.result c.args.judged c.args.table.now c.args.certificate.now c.args.record.now.entries.items c.in-Err.fault
    made.refused made.memory (c.in-Err.ensures.refused c.in-Err.fault cc)

pub returns-in-Err-clause-stopped : goal.returns-in-Err-clause-stopped
returns-in-Err-clause-stopped c =
    let made = c.nothing_of.ensures in
    nothing_stopped c.nothing_of.result c.args.judged c.args.table.now c.args.certificate.now c.args.record.now.entries.items c.in-Err.fault
    made.refused made.memory (c.in-Err.ensures.refused c.in-Err.fault cc)

pub returns-clause-answer : goal.returns-clause-answer
returns-clause-answer c =
    let x = c.in-Ok.replaying in
    let entries = c.args.record.now.entries.items in
    let took = c.in-Ok.ensures.took in
    let kept = c.go_through.new.replaying.progress in
    let so = c.in_ok-refused.ensures in
    let among = in_memory c.go_through.result (Among x entries kept) (c.go_through.ensures.so_far took.0) so.memory in
    let ends = in_memory c.go_through.result (EndsListed x.judged x.table.now x.certificate.now entries c.go_through.result kept)
    (c.go_through.ensures.answer took.0) so.memory in
    elim c.match-steps.branch [
      | in-Some v ↦ rw v.steps-is (run_answered x c.args.judged c.args.table.now c.args.certificate.now entries kept c.into_progress-a.result
          c.go_through.result c.in_ok-refused.refused v.into_list-steps.result.items took.1 took.2 took.3 c.into_progress-a.ensures so.refused ends
          (v.in-Some.is ∙ ap (λ (t : ListedRun). Some t) (sym v.into_list-steps.ensures)))
      | in-None v ↦ absurd (listed_kept x.judged x.certificate.now (stopped_at x.judged x.table.now x.certificate.now entries among.count among.goes.front) kept among.stands
          (ap (λ p. p.steps) (sym c.into_progress-a.ensures) ∙ v.in-None.is))
    ]

pub returns-clause-stopped : goal.returns-clause-stopped
returns-clause-stopped c =
    let x = c.in-Ok.replaying in
    let took = c.in-Ok.ensures.took in
    run_stopped x c.args.table.now c.args.record.now.entries.items c.go_through.new.replaying.progress c.into_progress-a.result c.go_through.result
    c.in_ok-refused.refused took.2 c.into_progress-a.ensures c.in_ok-refused.ensures.refused (c.go_through.ensures.shows took.0)

pub returns-clause-so_far : goal.returns-clause-so_far
returns-clause-so_far c fits =
    let x = c.in-Ok.replaying in
    let entries = c.args.record.now.entries.items in
    let took = c.in-Ok.ensures.took in
    let kept = c.go_through.new.replaying.progress in
    let among = in_memory c.go_through.result (Among x entries kept) (c.go_through.ensures.so_far took.0) c.in_ok-refused.ensures.memory in
    elim c.match-steps.branch [
      | in-Some v ↦ rw v.steps-is (replay_so_far x c.args.judged c.args.table.now c.args.certificate.now entries kept c.into_progress-a.result v.into_list-steps.result.items took.1 took.2 took.3
          c.into_progress-a.ensures among (rw v.in-Some.is v.into_list-steps.ensures))
      | in-None v ↦ absurd (listed_kept x.judged x.certificate.now (stopped_at x.judged x.table.now x.certificate.now entries among.count among.goes.front) kept among.stands
          (ap (λ p. p.steps) (sym c.into_progress-a.ensures) ∙ v.in-None.is))
    ]

pub returns-clause-none : goal.returns-clause-none
returns-clause-none c fault refused =
    let fits = c.in-Ok.ensures.fits in
    let never : ⊥ = cc in
    absurd never
