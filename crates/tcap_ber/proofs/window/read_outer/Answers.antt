use Rattle.std.proofs.Common.{arith}
use Rattle.tcap_ber.proofs.ShortLaws.{short_whole, short_need}
use Rattle.tcap_ber.proofs.window.read_outer.Goals as goal

pub returns-in-Some : goal.returns-in-Some
returns-in-Some c = record { exact = short_whole c.in-Some.len c.args.octets.now c.in-Some.ensures.found (omega (arith, c.if-len-octets.true)) }

pub returns-in-Some-2 : goal.returns-in-Some-2
returns-in-Some-2 c = record { exact = short_need c.in-Some.len c.args.octets.now c.in-Some.ensures.found (omega (arith, c.if-len-octets.false)) }
