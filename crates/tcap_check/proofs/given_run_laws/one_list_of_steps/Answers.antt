use Rattle.tcap_check.proofs.given_run_lemmas.StepsAreOne.{one_list}
use Rattle.tcap_check.proofs.given_run_laws.one_list_of_steps.Goals as goal

pub returns : goal.returns
returns c = one_list
