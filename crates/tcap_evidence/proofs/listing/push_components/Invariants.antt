-- The entries so far and those of the remaining components are all.
use Rattle.tcap_evidence.proofs.Common.{◌≡◌, ◌++◌, filter, map, components_left, components_in, is_sort}
use Rattle.tcap_evidence.proofs.listing.push_components.Given as goal

abbrev pub invariant-loop-component : goal.invariant-loop-component
invariant-loop-component l =
    l.entries.items ++ map (λ c. l.one.number) (filter (is_sort l.table l.id l.sort) (components_left l.component-iterator))
    ≡ l.fn.entries.items ++ map (λ c. l.one.number) (filter (is_sort l.table l.id l.sort) (components_in l.one.message.now))
