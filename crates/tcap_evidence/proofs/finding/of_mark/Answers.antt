-- From the messages of each end before the mark.
use Rattle.tcap_evidence.proofs.Common.{refl, mark_scene}
use Rattle.tcap_evidence.proofs.StretchLaws.{stretch_at_mark}
use Rattle.tcap_evidence.proofs.finding.of_mark.Goals as goal

pub returns-clause-grounds : goal.returns-clause-grounds
returns-clause-grounds c = λ side entries number own peer.
    let table = c.args.table.now in
    let is = stretch_at_mark table side entries number c.args.messages_by_end.now (own, peer) in
    let shown = c.in_ok-open_continues.ensures (mark_scene table side entries number) refl is in
    rw (c.in_ok-push.ensures.items, c.new-grounds.ensures.items, shown) refl
