use Rattle.tcap_check.proofs.described_run_laws.DescribedRuns.{same_runs}
use Rattle.tcap_check.proofs.given_run_laws.names_do_not_matter.Goals as goal

pub returns : goal.returns
returns c = same_runs
