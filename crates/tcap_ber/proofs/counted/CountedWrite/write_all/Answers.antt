use Rattle.tcap_ber.proofs.DeviceLemmas.{Takes-behind}
use Rattle.tcap_ber.proofs.counted.CountedWrite.write_all.Goals as goal

pub returns-clause-takes : goal.returns-clause-takes
returns-clause-takes g c = Takes-behind _ _ _ c.args.octets.now c.in_ok-taken.taken _ c.in_ok-taken.ensures.taken c.write_rest.ensures.takes
