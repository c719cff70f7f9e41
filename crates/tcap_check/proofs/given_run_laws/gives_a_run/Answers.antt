use Rattle.tcap_check.proofs.given_run_lemmas.GivenRuns.{gives}
use Rattle.tcap_check.proofs.given_run_laws.gives_a_run.Goals as goal

pub returns : goal.returns
returns c = gives
