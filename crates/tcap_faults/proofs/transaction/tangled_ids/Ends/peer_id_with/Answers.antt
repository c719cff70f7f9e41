use Rattle.tcap_faults.proofs.transaction.tangled_ids.Ends.peer_id_with.Goals as goal

pub returns-in-Some : goal.returns-in-Some
returns-in-Some c = λ table side items own_is peer_is.
    rw c.in-Some.is (c.peer_id.ensures table side items own_is peer_is)

pub returns-in-None : goal.returns-in-None
returns-in-None c = λ table side items own_is peer_is. rw c.in-None.is tt
