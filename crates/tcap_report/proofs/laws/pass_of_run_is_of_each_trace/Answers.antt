use Rattle.tcap_report.proofs.RunLaws.{pass_of_each}
use Rattle.tcap_report.proofs.laws.pass_of_run_is_of_each_trace.Goals as goal

pub returns : goal.returns
returns c = pass_of_each
