-- So far there are this many empty lists.
use Rattle.std.proofs.Common.{◌≡◌, ℕ, [], length}
use Rattle.std.specs.Prelude.{slice_get}
use Rattle.tcap_check.specs.Buckets.{items_of}
use Rattle.tcap_check.proofs.buckets.Buckets.new.Given as goal

abbrev pub invariant-loop : goal.invariant-loop
invariant-loop g l = record {
  empty : (n : ℕ) → items_of (slice_get l.lists.items n) ≡ [];
  count : length l.lists.items ≡ l.counter;
}
