use Rattle.tcap_check.proofs.given_run_lemmas.GivenRuns.{nothing_left}
use Rattle.tcap_check.proofs.given_run_laws.described_runs_take_all.Goals as goal

pub returns : goal.returns
returns c = nothing_left
