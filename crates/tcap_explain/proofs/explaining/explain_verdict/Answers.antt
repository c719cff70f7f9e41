use Rattle.std.proofs.Common.{rules, ◌≡◌, Some}
use Rattle.std.specs.String.{string_bytes}
use Rattle.tcap_judge.specs.Verdict.{refutation_by, proposed_by}
use Rattle.tcap_explain.proofs.LawfulRuns.{named_says}
use Rattle.tcap_explain.proofs.explaining.explain_verdict.Goals as goal

pub returns-in-Some : goal.returns-in-Some
returns-in-Some c =
    let judged = c.args.options.judged in
    let entries = c.args.read.now.entries.items in
    let named : refutation_by judged c.args.table.now entries ≡ Some c.in-Some.refutation = search rules in
    named_says (λ why. why.outcome) (λ why. string_bytes why.after) judged c.args.table.now (proposed_by judged entries) entries
    c.in-Some.refutation c.explain_refuted.result named c.explain_refuted.ensures
