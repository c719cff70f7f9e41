use Rattle.std.proofs.Common.{length}
use Rattle.tcap_ber.specs.Reading.{span}
use Rattle.tcap_parts.proofs.InfoLaws.{Counted}
use Rattle.tcap_parts.proofs.info.count_externals.Given as goal

abbrev pub invariant-loop-rest : goal.invariant-loop-rest
invariant-loop-rest l = record {
  so_far : Counted (span l.content) (span l.rest) l.count;
}

abbrev pub decreases-loop-rest : goal.decreases-loop-rest
decreases-loop-rest l = length l.rest.octets.now
