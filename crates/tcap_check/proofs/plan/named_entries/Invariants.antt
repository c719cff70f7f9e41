-- These are the flags of the entries named so far.
use Rattle.std.proofs.Common.{◌≡◌, ◌<◌, ◌==◌, ◌||◌, ℕ, length, take}
use Rattle.std.specs.Prelude.{slice_get}
use Rattle.std.specs.List.{list_any}
use Rattle.tcap_check.specs.Plan.{flag_by}
use Rattle.tcap_check.proofs.plan.named_entries.Given as goal

abbrev pub invariant-loop-x : goal.invariant-loop-x
invariant-loop-x l = record {
  named : (entry : ℕ) → entry < l.count
      → flag_by (slice_get l.named.items entry) ≡ list_any (λ x. x.entry == entry) (take l.x-index l.x-items);
  count : length l.named.items ≡ l.count;
  items : l.x-items ≡ l.certificate.close;
}

abbrev pub invariant-loop-x-2 : goal.invariant-loop-x-2
invariant-loop-x-2 l = record {
  named : (entry : ℕ) → entry < l.count
      → flag_by (slice_get l.named.items entry)
      ≡ (list_any (λ x. x.entry == entry) l.certificate.close
      || list_any (λ x. x.entry == entry) (take l.x-index l.x-items));
  count : length l.named.items ≡ l.count;
  items : l.x-items ≡ l.certificate.expire;
}
