use Rattle.tcap_faults.specs.History.{sent_from}
use Rattle.tcap_faults.proofs.transaction.history.SideFacts.goes_to.Goals as goal

pub returns : goal.returns
returns c = λ table side items is. c.goes_to.ensures table (sent_from side items c.args.id.now) (rw c.get.ensures.value (is.from c.args.id.now))
