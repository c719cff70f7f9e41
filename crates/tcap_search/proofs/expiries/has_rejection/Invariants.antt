-- no component so far
use Rattle.std.proofs.Common.{◌≡◌, false, take}
use Rattle.std.specs.List.{list_any}
use Rattle.tcap_search.specs.Rejections.{rejects}
use Rattle.tcap_search.proofs.expiries.has_rejection.Given as goal

abbrev pub invariant-loop-component : goal.invariant-loop-component
invariant-loop-component l = list_any rejects (take l.component-index l.components) ≡ false
