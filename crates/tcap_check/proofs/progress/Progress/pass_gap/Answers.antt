use Rattle.std.proofs.Common.{arith}
use Rattle.tcap_check.specs.ListedSteps.{listed_judged}
use Rattle.tcap_check.proofs.progress_laws.KeptGrowth.{listed_grows, on_ok, some_listed}
use Rattle.tcap_check.proofs.progress.Progress.pass_gap.Goals as goal

pub deliver_all-requires : goal.deliver_all-requires
deliver_all-requires c =
    let hidden = listed_grows c.args.table.now c.args.entries.now c.args.since (listed_judged c.args.judged c.get.result.now)
    c.args.self.now c.hide_all.new.self c.in_ok-hide_all.ensures.hidden in
    let few = some_listed c.args.judged c.get.result.now in
    let m = hidden.0 in let w = hidden.1 in let u = hidden.2 in
    record { no_overflow = omega (arith, m, w, few); count = omega (arith, w, u) }

pub returns-clause-grows : goal.returns-clause-grows
returns-clause-grows c =
    let hidden = listed_grows c.args.table.now c.args.entries.now c.args.since (listed_judged c.args.judged c.get.result.now)
    c.args.self.now c.hide_all.new.self c.in_ok-hide_all.ensures.hidden in
    let few = some_listed c.args.judged c.get.result.now in
    let m = hidden.0 in let w = hidden.1 in let u = hidden.2 in
    on_ok c.deliver_all.result c.deliver_all.ensures.grows
    (λ less. let a = less.0 in let b = less.1 in (omega (arith, a, m, w, few), omega (arith, b, w, u)))
