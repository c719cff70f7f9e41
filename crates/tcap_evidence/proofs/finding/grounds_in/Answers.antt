-- The next thing is not for quiet marks only.
use Rattle.tcap_evidence.proofs.Common.{arith, is_of_mark}
use Rattle.std.proofs.lemmas.Grind.{common_steps}
use Rattle.tcap_evidence.specs.declared.shown_facts.ShownFact.TheVariants as facts
use Rattle.tcap_evidence.proofs.AskedLaws.{fails_at}
use Rattle.tcap_evidence.proofs.finding.grounds_in.Goals as goal

pub loop-fact-preserved : goal.loop-fact-preserved
loop-fact-preserved c = λ s is none.
    let here = fails_at is_of_mark c.args.facts.now c.loop-fact.fact-index facts.PeerBegins c.loop-fact-test.true none in
    let shown = c.in_ok-shown.ensures s is here in
    grind (arith, common_steps, shown, c.loop-fact.invariant s is none, c.in_ok-push.ensures.items)
