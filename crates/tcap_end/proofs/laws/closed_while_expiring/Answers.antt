use Rattle.tcap_end.proofs.StepLaws.{expires}
use Rattle.tcap_end.proofs.laws.closed_while_expiring.Goals as goal

pub returns : goal.returns
returns c = λ table e next name id f sound had closed is. (expires table e next name id sound is).stays f had closed
