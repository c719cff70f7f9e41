use Rattle.tcap_faults.proofs.transaction.history.SideFacts.first_from.Goals as goal

pub returns-in-Some : goal.returns-in-Some
returns-in-Some c = λ table side items fact is.
    let id = c.in-Some.id.octets.now in
    rw c.in-Some.is
    (c.first_of.ensures table side items id fact (rw (c.get.ensures.value, c.to_transaction_id.ensures) (is.from id)))
