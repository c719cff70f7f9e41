use Rattle.tcap_check.proofs.prompt_laws.PromptLaws.{prompt_plain}
use Rattle.tcap_check.proofs.given_run_laws.prompt_runs_are_plain.Goals as goal

pub returns : goal.returns
returns c = prompt_plain
