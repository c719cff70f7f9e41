-- the octets left decide, given whether the next one begins a subidentifier
use Rattle.std.proofs.Common.{◌≡◌, true, drop}
use Rattle.tcap_ber.specs.Reading.{are_subidentifiers}
use Rattle.tcap_ber.proofs.object_ids.is_read_object_id.Given as goal

abbrev pub invariant-loop-octet : goal.invariant-loop-octet
invariant-loop-octet l = are_subidentifiers true l.octets ≡ are_subidentifiers l.start (drop l.octet-index l.octets)
