use Rattle.tcap_judge.proofs.VerdictLaws.{lawful_run, prints_of, refuted_run, rightly}
use Rattle.tcap_judge.proofs.judging.run_judge.Goals as goal

pub returns-clause-judges : goal.returns-clause-judges
returns-clause-judges g c =
    prints_of c.args.judged _ _ _ _ _ _ _ _ c.write_outcome.result c.deref.ensures c.judge-reported.ensures c.write_outcome.ensures.text

pub returns-clause-lawful : goal.returns-clause-lawful
returns-clause-lawful g c =
    lawful_run c.args.judged _ _ _ _ _ c.write_outcome.result
    (prints_of c.args.judged _ _ _ _ _ _ _ _ c.write_outcome.result c.deref.ensures c.judge-reported.ensures c.write_outcome.ensures.text)

pub returns-clause-refuted : goal.returns-clause-refuted
returns-clause-refuted g c =
    refuted_run c.args.judged (rightly c.refuted_is_at_fault.ensures c.blamed_is_at_fault.ensures c.args.judged) _ _ _ _ _
    c.write_outcome.result
    (prints_of c.args.judged _ _ _ _ _ _ _ _ c.write_outcome.result c.deref.ensures c.judge-reported.ensures c.write_outcome.ensures.text)
