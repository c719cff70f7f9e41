use Rattle.tcap_check.proofs.described_run_laws.DescribedRuns.{described_is_given}
use Rattle.tcap_check.proofs.given_run_laws.gives_where_a_run_is_described.Goals as goal

pub returns : goal.returns
returns c = described_is_given
