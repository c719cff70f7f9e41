use Rattle.std.proofs.Common.{◌≡◌, ◌++◌, length}
use Rattle.std.specs.Prelude.{option_map}
use Rattle.std.specs.Option.{option_to_list}
use Rattle.tcap_ber.specs.Reading.{span}
use Rattle.tcap_dialogues.specs.HeadingReading.{agreed}
use Rattle.tcap_dialogues.proofs.HeadingLaws.{ids_in}
use Rattle.tcap_dialogues.proofs.heading.ids_among.Given as goal

-- The IDs of the content are those that are known, and then those of the rest.
abbrev pub invariant-loop-found : goal.invariant-loop-found
invariant-loop-found l = record {
  own : agreed (ids_in 0x48 (span l.content)) ≡ agreed (option_to_list (option_map (λ id. id.octets.now) l.otid) ++ ids_in 0x48 (span l.rest));
  peer : agreed (ids_in 0x49 (span l.content)) ≡ agreed (option_to_list (option_map (λ id. id.octets.now) l.dtid) ++ ids_in 0x49 (span l.rest));
}

abbrev pub decreases-loop-found : goal.decreases-loop-found
decreases-loop-found l = length l.rest.octets.now
