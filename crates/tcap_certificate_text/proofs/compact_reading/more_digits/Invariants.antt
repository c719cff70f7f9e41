-- the digits of the number so far, with the rest, are all digits and octets
use Rattle.std.proofs.Common.{◌≡◌, ◌<◌, ◌≤◌, ◌++◌, decimal, length}
use Rattle.tcap_certificate.specs.Certificate.{number_limit}
use Rattle.tcap_certificate_text.proofs.compact_reading.more_digits.Given as goal

abbrev pub invariant-loop-left : goal.invariant-loop-left
invariant-loop-left l = record {
  above : 0 < l.number;
  within : l.number ≤ number_limit;
  text : decimal l.fn.first ++ l.fn.octets ≡ decimal l.number ++ l.left;
}

abbrev pub decreases-loop-left : goal.decreases-loop-left
decreases-loop-left l = length l.left
