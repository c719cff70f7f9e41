use Rattle.std.proofs.Common.{◌||◌, refl, ap, subst, ◌∙◌}
use Rattle.std.proofs.lemmas.Result.{on_ok_weaker}
use Rattle.tcap_msg.specs.Meaning.{id_of}
use Rattle.tcap_dialogues.specs.Course.{lower}
use Rattle.tcap_dialogues.specs.HeadingReading.{heading_read}
use Rattle.tcap_dialogues.specs.CutState.{earlier_of, higher, is_unsettled}
use Rattle.tcap_dialogues.specs.CutUpdate.{HasId, ids_at}
use Rattle.tcap_dialogues.proofs.LiveLaws.{entry_added}
use Rattle.tcap_dialogues.proofs.live.LiveDialogue.add.Goals as goal

pub returns : goal.returns
returns c =
    let h = heading_read c.args.heading in
    let own = c.args.own in
    let peer = c.args.peer in
    let noted = c.note_sender.new.self in
    on_ok_weaker c.add_id-2.result
    (λ second.
    entry_added c.args.number h own peer c.args.self.now noted c.add_id.new.self c.add_id-2.new.self c.insert.new.self
    (noted.begun || c.begins.result) _ (noted.unsettled || (c.is_unsettled.result || c.is_unsettled-2.result))
    c.lower-self.result c.higher-self.result c.in_ok-insert.ensures.updates.0 c.note_sender.ensures c.in_ok-add_id.ensures
    (subst (λ end. HasId (ids_at end (id_of c.args.heading.dtid)) c.add_id.new.self c.add_id-2.new.self) c.other.ensures second)
    (ap (λ b. noted.begun || b) c.begins.ensures) (c.lower-self.ensures ∙ ap (lower noted.over) c.is_over.ensures) refl
    (c.higher-self.ensures
    ∙ ap (higher noted.earlier)
    (c.higher.ensures ∙ ap (λ number. higher number c.earlier-2.result) c.earlier.ensures ∙ ap (higher (earlier_of own)) c.earlier-2.ensures))
    (ap (λ b. noted.unsettled || (b || c.is_unsettled-2.result)) c.is_unsettled.ensures
    ∙ ap (λ b. noted.unsettled || (is_unsettled own || b)) c.is_unsettled-2.ensures))
    c.add_id-2.ensures
