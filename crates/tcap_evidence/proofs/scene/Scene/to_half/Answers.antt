use Rattle.tcap_evidence.proofs.Common.{ap, ◌∙◌, IfOk-weaker, numbered_of}
use Rattle.tcap_evidence.proofs.SceneLaws.{to_half_is}
use Rattle.tcap_evidence.proofs.scene.Scene.to_half.Goals as goal

pub returns : goal.returns
returns c = λ s are.
    IfOk-weaker c.sent_where.result _ _
    (λ v is. is ∙ to_half_is s _ (c.as_ref.ensures.value ∙ are.half) _ (ap numbered_of c.deref.ensures.value ∙ are.peer_from_dtid))
    c.sent_where.ensures
