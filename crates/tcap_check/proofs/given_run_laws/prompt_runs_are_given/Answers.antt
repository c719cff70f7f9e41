use Rattle.tcap_check.proofs.prompt_laws.AtOnceLaws.{at_once_follows}
use Rattle.tcap_check.proofs.described_run_laws.DescribedRuns.{followed_is_given}
use Rattle.tcap_certificate.specs.Certificate.{prompt}
use Rattle.tcap_check.proofs.given_run_laws.prompt_runs_are_given.Goals as goal

pub returns : goal.returns
returns c table entries items events are run seen at_once =
    let given = followed_is_given table (prompt _) entries items events are run (at_once_follows table items events run seen at_once) in
    (given.0, given.1)
