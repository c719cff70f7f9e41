use Rattle.std.proofs.Common.{◌≡◌, ◌≤◌, ◌+◌, length, true, Err}
use Rattle.tcap_ber.specs.declared.fault.Fault.{Fault}
use Rattle.tcap_ber.specs.Reading.{span, is_read, read_or_none}
use Rattle.tcap_parts.specs.Reading.{components_at}
use Rattle.tcap_parts.proofs.portion.check_components.Given as goal

abbrev pub invariant-loop-rest : goal.invariant-loop-rest
invariant-loop-rest l = record {
  read : is_read (components_at (span l.content)) ≡ is_read (components_at (span l.rest));
  few : l.count + length l.rest.octets.now ≤ length l.content.octets.now;
  counted : is_read (components_at (span l.content)) ≡ true
      → l.count + length (read_or_none (components_at (span l.rest))) ≡ length (read_or_none (components_at (span l.content)));
  fault : (f : Fault) → components_at (span l.rest) ≡ Err f → components_at (span l.content) ≡ Err f;
}

abbrev pub decreases-loop-rest : goal.decreases-loop-rest
decreases-loop-rest l = length l.rest.octets.now
