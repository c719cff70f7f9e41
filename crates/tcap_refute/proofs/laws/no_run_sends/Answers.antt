use Rattle.tcap_refute.proofs.KindLaws.{none_of_kind}
use Rattle.tcap_refute.proofs.laws.no_run_sends.Goals as goal

pub returns : goal.returns
returns c = none_of_kind
