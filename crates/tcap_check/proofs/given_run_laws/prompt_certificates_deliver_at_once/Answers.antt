use Rattle.tcap_check.proofs.prompt_laws.AtOnceLaws.{followed_at_once}
use Rattle.tcap_check.proofs.given_run_lemmas.GivenRuns.{gives}
use Rattle.tcap_check.proofs.prompt_laws.PromptLaws.{prompt_plain}
use Rattle.tcap_check.proofs.given_run_laws.prompt_certificates_deliver_at_once.Goals as goal

pub returns : goal.returns
returns c table certificate entries events is_prompt is =
    let given = gives table certificate entries events is in (
      followed_at_once table certificate given.items events is_prompt given.run given.follows,
      prompt_plain certificate given.items events is_prompt given.follows,
    )
