use Rattle.std.proofs.Common.{◌∙◌}
use Rattle.tcap_faults.specs.TangledIds.{peers_of, tangle_of_peer}
use Rattle.tcap_faults.proofs.transaction_laws.FirstTangled.{first_none_of, first_one_of}
use Rattle.tcap_faults.proofs.transaction.tangled_ids.Ends.tangled_after.Goals as goal

pub returns-in-Some : goal.returns-in-Some
returns-in-Some c = λ table side items id own_is peer_is is same.
    c.tangled_peer.ensures table side items c.in-Some.joined own_is peer_is (c.peer_id.ensures table side items own_is peer_is)
    ∙ first_one_of c.args.peer (tangle_of_peer side items) (peers_of side items id) c.in-Some.joined
    (c.in-Some.ensures table side items id is) same

pub returns-in-None : goal.returns-in-None
returns-in-None c = λ table side items id own_is peer_is is same.
    first_none_of c.args.peer (tangle_of_peer side items) (peers_of side items id) (c.in-None.ensures table side items id is)
