use Rattle.tcap_ber.specs.Reading.{span}
use Rattle.tcap_parts.proofs.PortionLaws.{some_left}
use Rattle.tcap_parts.proofs.portion.PortionView.some_components.Goals as goal

pub returns-in-Octets-clause-some : goal.returns-in-Octets-clause-some
returns-in-Octets-clause-some c = rw c.in-Octets.is (some_left (span c.in-Octets.portion.content) c.in-Octets.portion.some c.in-Octets.portion.whole)
