use Rattle.tcap_faults.proofs.transaction.tangled_ids.Ends.find.Goals as goal

pub returns : goal.returns
returns c = λ table side items m own_is peer_is otid dtid. record {
  own = rw otid at (c.own_with.ensures table side items own_is peer_is);
  peer_id = rw dtid at (c.peer_id_with.ensures table side items own_is peer_is);
}
