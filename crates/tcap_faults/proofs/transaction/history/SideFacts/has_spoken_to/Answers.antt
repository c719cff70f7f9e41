use Rattle.tcap_faults.proofs.transaction.history.SideFacts.has_spoken_to.Goals as goal

pub returns : goal.returns
returns c = λ table side items is. c.tells.ensures table side items c.args.id.now (rw c.get.ensures.value (is.to c.args.id.now))
