-- no entry so far
use Rattle.std.proofs.Common.{◌≡◌, false, take}
use Rattle.std.specs.List.{list_any}
use Rattle.tcap_search.specs.Rejections.{has_rejection}
use Rattle.tcap_search.proofs.expiries.is_any_rejected.Given as goal

abbrev pub invariant-loop-entry : goal.invariant-loop-entry
invariant-loop-entry l = list_any has_rejection (take l.entry-index l.entries) ≡ false
