use Rattle.tcap_model.proofs.RunLaws.{steps_for_items}
use Rattle.tcap_model.proofs.laws.steps_at_least_items.Goals as goal

pub returns : goal.returns
returns c = λ items table moves lawful.
    rw (← lawful.1.2, ← lawful.3) (steps_for_items table lawful.0 lawful.1.0 lawful.1.1)
