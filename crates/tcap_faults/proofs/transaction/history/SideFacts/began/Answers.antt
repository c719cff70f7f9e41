use Rattle.tcap_faults.proofs.transaction.history.SideFacts.began.Goals as goal

pub returns : goal.returns
returns c = λ table side items is. c.begins.ensures table side items c.args.id.now (rw c.get.ensures.value (is.from c.args.id.now))
