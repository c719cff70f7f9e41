use Rattle.tcap_evidence.proofs.Common.{◌++◌, ap, ap₂, ◌∙◌, IfOk-weaker, in_order, numbered_of}
use Rattle.tcap_evidence.proofs.SceneLaws.{filter_all}
use Rattle.tcap_evidence.proofs.scene.Scene.invoked.Goals as goal

pub returns : goal.returns
returns c = λ s are.
    IfOk-weaker c.in_order.result _ _
    (λ v is. is
    ∙ ap in_order
    (ap numbered_of c.deref-2.ensures.value
    ∙ c.in_ok-push_where.ensures
    ∙ ap₂ (λ a b. a ++ b) c.in_ok-invoked.ensures (filter_all _ ∙ ap numbered_of c.deref.ensures.value ∙ are.outgoing)
    ∙ c.sent_begin.ensures s are))
    c.in_order.ensures
