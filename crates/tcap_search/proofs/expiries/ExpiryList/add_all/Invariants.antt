-- The rest of the components add the rest.
use Rattle.std.proofs.Common.{◌≡◌, drop}
use Rattle.tcap_search.specs.ListedExpiries.{IsListed, all_rejected}
use Rattle.tcap_search.specs.Sweep.{answer_rejected}
use Rattle.tcap_search.proofs.expiries.ExpiryList.add_all.Given as goal

abbrev pub invariant-loop-component : goal.invariant-loop-component
invariant-loop-component l = record {
  added : all_rejected (answer_rejected l.sweep l.transaction l.side) l.side l.self.expiries.items
      (drop l.component-index l.components)
      ≡ all_rejected (answer_rejected l.sweep l.transaction l.side) l.side l.fn.self.expiries.items l.components;
  listed : IsListed l.self;
}
