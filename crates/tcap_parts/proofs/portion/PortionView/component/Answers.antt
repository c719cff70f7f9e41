use Rattle.std.proofs.Common.{Some, sym, ap, ◌∙◌}
use Rattle.std.specs.Option.{option_map}
use Rattle.std.proofs.lemmas.Option.{slice_get-get_or}
use Rattle.std.proofs.lemmas.Iterator.Consumers.{nth_from_yields_List, YieldsList-from_first}
use Rattle.tcap_parts.specs.Meaning.{component_of, components_of, components_left}
use Rattle.tcap_parts.proofs.portion.PortionView.component.Goals as goal

pub returns-in-Octets : goal.returns-in-Octets
returns-in-Octets c =
    sym (nth_from_yields_List c.nth.result c.nth.new.self c.args.index c.nth.ensures.ran (YieldsList-from_first component_of components_left (components_of c.args.self) c.components.ensures))
    ∙ ap (option_map component_of) c.unwrap.ensures

pub returns-in-Value : goal.returns-in-Value
returns-in-Value c =
    rw (c.in-Value.is, ← c.items.ensures.value) (slice_get-get_or c.items.result.now c.args.index c.index-items-index.result (rw (c.in-Value.is, ← c.items.ensures.value) at c.requires)
    ∙ ap (λ x. Some x) (sym c.index-items-index.is ∙ sym c.view.ensures))
