use Rattle.tcap_check.proofs.described_run_laws.DescribedRuns.{follows_is_described}
use Rattle.tcap_check.proofs.given_run_laws.what_follows_is_described.Goals as goal

pub returns : goal.returns
returns c = follows_is_described
