-- The entries so far and those of the remaining components are all.
use Rattle.tcap_evidence.proofs.Common.{◌≡◌, ◌++◌, drop, filter, map, component_of, is_sort}
use Rattle.tcap_evidence.proofs.listing.push_sorted.Given as goal

abbrev pub invariant-loop-component : goal.invariant-loop-component
invariant-loop-component l =
    l.entries.items
    ++ map (λ c. l.number) (filter (is_sort l.table l.id l.sort) (map component_of (drop l.component-index l.components)))
    ≡ l.fn.entries.items ++ map (λ c. l.number) (filter (is_sort l.table l.id l.sort) (map component_of l.components))
