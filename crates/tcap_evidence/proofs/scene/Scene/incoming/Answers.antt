use Rattle.tcap_evidence.proofs.Common.{ap, ◌∙◌, IfOk-weaker, in_order, numbered_of}
use Rattle.tcap_evidence.proofs.scene.Scene.incoming.Goals as goal

pub returns : goal.returns
returns c = λ s are.
    IfOk-weaker c.in_order.result _ _
    (λ v is. is ∙ ap in_order (ap numbered_of c.deref.ensures.value ∙ c.in_ok-incoming_first.ensures s are)) c.in_order.ensures
