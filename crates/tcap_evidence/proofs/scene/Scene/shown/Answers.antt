use Rattle.tcap_evidence.proofs.Common.{◌&&◌, ap, ap₂, ◌∙◌, IfOk-weaker, otid_in, is_a, entries_where, numbered_of, is_same_id}
use Rattle.tcap_msg.specs.declared.kind.Kind.TheVariants as forms
use Rattle.tcap_model.specs.SinceMark.{is_begin_with_request}
use Rattle.tcap_evidence.proofs.scene.Scene.shown.Goals as goal

pub returns-in-Begun : goal.returns-in-Begun
returns-in-Begun c = λ s are of_message.
    rw c.in-Begun.is
    (IfOk-weaker c.entries_where-in-Begun.result _ _
    (λ v is. is
    ∙ ap₂ (λ id sent. entries_where (λ m. is_a forms.Begin m && is_same_id id (otid_in m)) sent)
    (c.own_id.ensures s are) (ap numbered_of c.deref-in-Begun.ensures.value ∙ are.own))
    c.entries_where-in-Begun.ensures)

pub returns-in-OwnRequests : goal.returns-in-OwnRequests
returns-in-OwnRequests c = λ s are of_message.
    rw c.in-OwnRequests.is
    (IfOk-weaker c.entries_where-in-OwnRequests.result _ _
    (λ v is. is
    ∙ ap₂ (λ id sent. entries_where (λ m. is_begin_with_request m && is_same_id id (otid_in m)) sent)
    (c.own_id-in-OwnRequests.ensures s are) (ap numbered_of c.deref-in-OwnRequests.ensures.value ∙ are.own))
    c.entries_where-in-OwnRequests.ensures)
