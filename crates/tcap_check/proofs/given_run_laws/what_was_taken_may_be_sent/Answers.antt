use Rattle.tcap_check.proofs.refusal_laws.TakenEntriesLaws.{took_may_be_sent}
use Rattle.tcap_check.proofs.given_run_laws.what_was_taken_may_be_sent.Goals as goal

pub returns : goal.returns
returns c = took_may_be_sent
