use Rattle.tcap_end.proofs.StepLaws.{sends}
use Rattle.tcap_end.proofs.laws.closed_while_sending.Goals as goal

pub returns : goal.returns
returns c = λ table e next m f sound had closed is. (sends table e next m sound is).stays f had closed
