-- no entry so far
use Rattle.std.proofs.Common.{◌≡◌, false, take}
use Rattle.std.specs.List.{list_any}
use Rattle.tcap_search.specs.ProviderAborts.{aborts_by_provider}
use Rattle.tcap_search.proofs.ties.has_provider_abort.Given as goal

abbrev pub invariant-loop-entry : goal.invariant-loop-entry
invariant-loop-entry l = list_any aborts_by_provider (take l.entry-index l.entries) ≡ false
