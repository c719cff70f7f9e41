use Rattle.std.proofs.Common.{◌≡◌, length}
use Rattle.tcap_ber.specs.Reading.{span}
use Rattle.tcap_dialogues.specs.SoundPart.{components_before}
use Rattle.tcap_dialogues.proofs.SoundLaws.{with_read}
use Rattle.tcap_dialogues.proofs.malformed.components_before.Given as goal

abbrev pub invariant-loop-component : goal.invariant-loop-component
invariant-loop-component l = record { read : components_before (span l.content) ≡ with_read l.components.items (span l.rest) }

abbrev pub decreases-loop-component : goal.decreases-loop-component
decreases-loop-component l = length l.rest.octets.now
