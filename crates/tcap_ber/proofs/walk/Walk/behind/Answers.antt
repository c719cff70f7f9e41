use Rattle.std.proofs.Common.{refl, arith}
use Rattle.tcap_ber.proofs.OpeningLaws.{no_octets}
use Rattle.tcap_ber.proofs.walk.Walk.behind.Goals as goal

pub invariant_of-result : goal.invariant_of-result
invariant_of-result c = record { placed = c.requires.placed; room = (omega arith, refl, c.requires.few); unfinished = no_octets c.args.progress.at }
