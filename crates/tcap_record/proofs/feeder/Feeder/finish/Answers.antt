use Rattle.tcap_record.proofs.FeederLaws.{may_end}
use Rattle.tcap_record.proofs.feeder.Feeder.finish.Goals as goal

pub returns-clause-ok : goal.returns-clause-ok
returns-clause-ok c = rw (← c.self.view_is) (may_end c.finish.result c.self.inside.frames c.self.invariant.1 c.finish.ensures)
