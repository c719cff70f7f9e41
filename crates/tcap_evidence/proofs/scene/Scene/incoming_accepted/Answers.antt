use Rattle.tcap_evidence.proofs.Common.{◌++◌, ap, ap₂, ◌∙◌, find, is_a, numbered_of}
use Rattle.std.specs.Prelude.{option_to_list}
use Rattle.tcap_msg.specs.declared.kind.Kind.TheVariants as forms
use Rattle.tcap_evidence.proofs.SceneLaws.{to_half_is}
use Rattle.tcap_evidence.proofs.scene.Scene.incoming_accepted.Goals as goal

pub returns : goal.returns
returns c = λ s are.
    c.in_ok-push_where.ensures
    ∙ ap₂ (λ a b. a ++ b)
    (c.in_ok-incoming.ensures
    ∙ ap option_to_list
    (c.first_where.ensures ∙ ap (find (λ n. is_a forms.Begin n.1)) (ap numbered_of c.deref.ensures.value ∙ are.peer_from_dtid)))
    (to_half_is s _ (c.as_ref.ensures.value ∙ are.half) _ (ap numbered_of c.deref-2.ensures.value ∙ are.peer_from_dtid))
