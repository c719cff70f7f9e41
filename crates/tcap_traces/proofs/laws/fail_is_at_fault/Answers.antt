use Rattle.tcap_traces.proofs.TraceMeaningLaws.{each_at_fault, fail_means}
use Rattle.tcap_traces.proofs.laws.fail_is_at_fault.Goals as goal

pub returns-clause-each : goal.returns-clause-each
returns-clause-each c = each_at_fault

pub returns-clause-verdict : goal.returns-clause-verdict
returns-clause-verdict c = fail_means
