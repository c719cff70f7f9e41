-- the total is the count of octets of the components so far
use Rattle.std.proofs.Common.{◌≤◌}
use Rattle.tcap_parts.specs.Meaning.{components_of, components_left}
use Rattle.tcap_parts.proofs.WritingLaws.{Counted}
use Rattle.tcap_parts.proofs.writing.len_components.Given as goal

abbrev pub invariant-loop-component : goal.invariant-loop-component
invariant-loop-component l = record {
  counted : Counted (components_of l.portion) l.total (components_left l.component-iterator);
  within : l.total ≤ 65535;
}
