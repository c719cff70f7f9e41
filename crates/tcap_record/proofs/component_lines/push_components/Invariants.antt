-- the appended text and the lines of the components left are the lines of all
use Rattle.std.proofs.Common.{◌≡◌, ◌++◌}
use Rattle.std.specs.List.{flat_map}
use Rattle.std.specs.String.{string_bytes}
use Rattle.tcap_parts.specs.Meaning.{components_left}
use Rattle.tcap_record.specs.Lines.{component_line}
use Rattle.tcap_record.proofs.component_lines.push_components.Given as goal

abbrev pub invariant-loop-component : goal.invariant-loop-component
invariant-loop-component l =
    string_bytes l.text ++ flat_map component_line (components_left l.component-iterator)
    ≡ string_bytes l.initial.text ++ flat_map component_line (components_left l.fn.components)
