use Rattle.tcap_judge.proofs.BlamedLaws.{lawful_blame, prints_blame}
use Rattle.tcap_judge.proofs.blaming.run_blame.Goals as goal

pub returns-clause-blames : goal.returns-clause-blames
returns-clause-blames g c =
    prints_blame _ _ c.blame_outcome-reported.result.outcome c.blame_outcome-reported.result.ends _ _ c.write_said.result c.blame_outcome-reported.ensures c.write_said.ensures.text

pub returns-clause-lawful : goal.returns-clause-lawful
returns-clause-lawful g c =
    lawful_blame _ _ _ _ c.write_said.result
    (prints_blame _ _ c.blame_outcome-reported.result.outcome c.blame_outcome-reported.result.ends _ _ c.write_said.result c.blame_outcome-reported.ensures c.write_said.ensures.text)
