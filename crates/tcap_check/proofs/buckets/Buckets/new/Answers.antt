use Rattle.std.proofs.Common.{◌≡◌, ℕ, zero, suc, List, [], ◌∷◌, ◌++◌, Vec, arith, length-append, refl}
use Rattle.std.specs.Prelude.{slice_get}
use Rattle.tcap_check.specs.Buckets.{items_of}
use Rattle.tcap_check.proofs.buckets.Buckets.new.Goals as goal

-- If all lists are empty, they still are with one more empty list.
one_more_empty : {T A : Type 0} (lists : List (Vec T A)) (list : Vec T A) → list.items ≡ []
    → ((n : ℕ) → items_of (slice_get lists n) ≡ []) → (n : ℕ) → items_of (slice_get (lists ++ list ∷ []) n) ≡ []
one_more_empty [] list is empty zero = is
one_more_empty [] list is empty (suc n) = refl
one_more_empty (first ∷ lists) list is empty zero = empty zero
one_more_empty (first ∷ lists) list is empty (suc n) = one_more_empty lists list is (λ k. empty (suc k)) n

pub loop-preserved : goal.loop-preserved
loop-preserved g c = record {
  empty = λ n. rw c.in_ok-push.ensures.items
      (one_more_empty c.loop.lists.items c.new.result c.new.ensures.items c.loop.invariant.empty n);
  count = rw (c.in_ok-push.ensures.items, length-append c.loop.lists.items) (omega arith);
}
