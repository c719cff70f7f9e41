use Rattle.std.proofs.Common.{◌∙◌}
use Rattle.std.proofs.lemmas.Result.{IfOk-at_ok}
use Rattle.tcap_msg.specs.Parts.{components_in}
use Rattle.tcap_faults.specs.HalfByPeerId.{half_of}
use Rattle.tcap_faults.proofs.component_laws.FewComponentsLaws.{incoming_are_few, invoked_are_few, outgoing_are_few}
use Rattle.tcap_faults.proofs.verdict_laws.LowestKindLaws.{kind_last, kind_of_dialogue, kinds_found}
use Rattle.tcap_faults.proofs.transaction.tangled_ids.Ends.half_kind.Goals as goal

pub returns-then-is_wrong_dialogue : goal.returns-then-is_wrong_dialogue
returns-then-is_wrong_dialogue g c = λ side items own is plain roomy.
    let m = g.M.MessageParts.meaning c.args.message.now in
    let id = c.args.peer_id.id.now in
    let half = IfOk-at_ok _ c.in_ok-half.was (c.half.ensures c.args.table.now side items own is) in
    kind_of_dialogue c.args.table.now side id items m (half_of side items id)
    (c.if-is_wrong_half.ensures c.args.table.now side items _ own half)
    (c.if-is_wrong_dialogue.ensures c.args.table.now side items _ is half)

pub returns : goal.returns
returns g c = λ side items own is plain roomy.
    let m = g.M.MessageParts.meaning c.args.message.now in
    let id = c.args.peer_id.id.now in
    let half = IfOk-at_ok _ c.in_ok-half.was (c.half.ensures c.args.table.now side items own is) in
    kind_last c.args.table.now side id items m (half_of side items id) c.kind_of_faults.result
    (c.if-is_wrong_half.ensures c.args.table.now side items _ own half)
    (c.if-is_wrong_dialogue.ensures c.args.table.now side items _ is half)
    (c.kind_of_faults.ensures
    ∙ kinds_found c.args.table.now (half_of side items id) (components_in m) c.in_ok-faults.faults
    (IfOk-at_ok _ c.in_ok-faults.was
    (c.faults_of.ensures _ half (incoming_are_few side id items m roomy) (invoked_are_few side id items m roomy)
    (outgoing_are_few side id items m roomy))))
