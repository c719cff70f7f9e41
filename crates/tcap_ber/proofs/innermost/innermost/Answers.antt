use Rattle.std.proofs.Common.{arith}
use Rattle.tcap_ber.proofs.OuterLaws.{innermost_within}
use Rattle.tcap_ber.proofs.innermost.innermost.Goals as goal

pub returns-clause-within : goal.returns-clause-within
returns-clause-within c = omega (arith, innermost_within c.args.octets.now, c.find_innermost.ensures)
