use Rattle.tcap_end.proofs.StepLaws.{receives}
use Rattle.tcap_end.proofs.laws.closed_while_receiving.Goals as goal

pub returns : goal.returns
returns c = λ table e next m f sound had closed is. (receives table e next m sound is).stays f had closed
