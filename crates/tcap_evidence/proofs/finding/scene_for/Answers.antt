-- The stored scene is the message's scene.
use Rattle.tcap_evidence.proofs.Common.{map, take, ap, ◌∙◌, IfOk-weaker, component_of, item_of, since_quiet, items_among, invoke_id_in}
use Rattle.tcap_evidence.proofs.FindingLaws.{scene_is}
use Rattle.tcap_evidence.proofs.finding.scene_for.Goals as goal

pub returns : goal.returns
returns c = λ side entries own peer.
    let number = c.args.at.entry in
    let items = since_quiet (items_among (map item_of (take number entries))) in
    let id = c.invoke_id_of-id.ensures ∙ ap (invoke_id_in c.args.at.kind) c.component_at.ensures in
    IfOk-weaker c.new.result _ _
    (λ kept is. scene_is c.args.table.now side entries number c.args.message.now c.args.at.kind c.args.about.now c.args.messages_by_end
    (map component_of c.in_ok-all.all.items) (map component_of c.in_ok-earlier.earlier.items) c.invoke_id_of-id.result
    kept is own peer c.in_ok-all.ensures c.in_ok-earlier.ensures id) (c.new.ensures side items)
