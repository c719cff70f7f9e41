-- The codes that are left decide.
use Rattle.std.proofs.Common.{◌≡◌, drop}
use Rattle.std.specs.List.{list_any}
use Rattle.tcap_faults.specs.LinkProblems.{links_as}
use Rattle.tcap_faults.proofs.component.code_count_maps.ManyCodes.links_as.Given as goal

abbrev pub invariant-loop-place : goal.invariant-loop-place
invariant-loop-place l = record {
  items : l.to-items ≡ l.self.codes.items;
  left : list_any (links_as l.table l.linkable) (drop l.place l.to-items)
      ≡ list_any (links_as l.table l.linkable) l.to-items;
}
