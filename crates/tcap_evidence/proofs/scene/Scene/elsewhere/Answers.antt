use Rattle.tcap_evidence.proofs.Common.{sym, ◌∙◌}
use Rattle.tcap_evidence.proofs.SceneLaws.{went_nowhere}
use Rattle.tcap_evidence.proofs.scene.Scene.elsewhere.Goals as goal

pub returns-in-None : goal.returns-in-None
returns-in-None c = λ s are. c.new.ensures.items ∙ went_nowhere s (sym c.in-None.is ∙ are.to) s.own
