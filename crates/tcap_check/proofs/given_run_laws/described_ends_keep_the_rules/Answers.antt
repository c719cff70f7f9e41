use Rattle.tcap_check.proofs.given_run_lemmas.GivenRuns.{described_keeps}
use Rattle.tcap_check.proofs.given_run_laws.described_ends_keep_the_rules.Goals as goal

pub returns : goal.returns
returns c = described_keeps
