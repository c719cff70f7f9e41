use Rattle.tcap_check.proofs.refusal_laws.ReasonLaws.{refusal_says}
use Rattle.tcap_check.proofs.given_run_laws.refusals_have_reasons.Goals as goal

pub returns : goal.returns
returns c = refusal_says
