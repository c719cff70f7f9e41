use Rattle.tcap_check.proofs.one_end_lemmas.AloneRuns.{gives_for}
use Rattle.tcap_check.proofs.one_end_laws.gives_a_run_of_one_end.Goals as goal

pub returns : goal.returns
returns c = gives_for
