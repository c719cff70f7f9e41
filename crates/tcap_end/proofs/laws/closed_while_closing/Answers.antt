use Rattle.tcap_end.proofs.StepLaws.{closes}
use Rattle.tcap_end.proofs.laws.closed_while_closing.Goals as goal

pub returns : goal.returns
returns c = λ table e next name f sound had closed is. (closes table e next name sound is).stays f had closed
