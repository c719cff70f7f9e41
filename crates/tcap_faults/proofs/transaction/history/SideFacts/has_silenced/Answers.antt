use Rattle.tcap_faults.proofs.transaction.history.SideFacts.has_silenced.Goals as goal

pub returns : goal.returns
returns c = λ table side items is. c.is_silenced.ensures table side items c.args.id.now (rw c.get.ensures.value (is.to c.args.id.now))
