-- The total weight of the halves of an end when one is replaced, and the length of a list by keys when an element is
-- put or removed.
use Rattle.std.proofs.Common.{arith, ◌≡◌, ◌≤◌, ◌+◌, ℕ, suc, Bool, true, false, cond, List, [], ◌∷◌, length, Option, Some, None, refl, ap}
use Rattle.std.specs.declared.cmp.Ordering.{Ordering}
use Rattle.std.specs.declared.cmp.Ordering.TheVariants.{Less, Equal, Greater}
use Rattle.std.specs.Cmp.{IsTotalOrder}
use Rattle.std.specs.List.Sorted.{IsStrictlySortedBy}
use Rattle.std.specs.Map.{lookup, remove_entry}
use Rattle.std.specs.BTreeMap.{insert_entry}
use Rattle.std.specs.Ordering.{is_eq, match_ordering}
use Rattle.tcap_end.specs.declared.half.Slot.{Slot}
use Rattle.tcap_end.specs.declared.half.Slot.TheVariants.{Begun, Accepted}
use Rattle.tcap_end.specs.Half.{Half}
use Rattle.tcap_end.specs.End.{End, KeyedHalf, put}
use Rattle.tcap_end.specs.ReachableEnd.{HasHalf, IsEnd, Rises, halves_of}
use Rattle.tcap_end.proofs.MapLaws.{below_first, kept_at}
use Rattle.tcap_end.proofs.FoundLaws.{half_at, octets_total}
use Rattle.tcap_check.proofs.given_run_lemmas.StepCounts.{total}

-- ---- lists by keys

-- the total weight of all values
abbrev pub weight : {K A : Type 0} → (A → ℕ) → List (K × A) → ℕ
weight weigh es = total (λ e. weigh e.1) es

-- the weight of the value that was found, or 0
abbrev pub weight_of : {A : Type 0} → (A → ℕ) → Option A → ℕ
weight_of weigh None = 0
weight_of weigh (Some v) = weigh v

-- Putting a value adds its weight, and subtracts that of the value that it replaces.
pub put_weighs : {K A : Type 0} {cmp : K → K → Ordering} → IsTotalOrder cmp
    → (weigh : A → ℕ) (k : K) (v : A) (es : List (K × A))
    → Rises cmp es
    → weight weigh (insert_entry cmp es k v) + weight_of weigh (kept_at cmp es k) ≡ weight weigh es + weigh v
unfolding IsStrictlySortedBy
put_weighs order weigh k v [] rises = omega arith
put_weighs {A = A} {cmp = cmp} order weigh k v (e ∷ es) rises =
    by (cmp k e.0) refl (kept_at cmp es k) refl (put_weighs order weigh k v es rises.1)
  where
    by : (r : Ordering) → cmp k e.0 ≡ r → (o : Option A) → kept_at cmp es k ≡ o
        → weight weigh (insert_entry cmp es k v) + weight_of weigh o ≡ weight weigh es + weigh v
        → weight weigh (match_ordering r ((k, v) ∷ e ∷ es) ((e.0, v) ∷ es) (e ∷ insert_entry cmp es k v))
        + weight_of weigh (cond (is_eq r) (Some e.1) o) ≡ weigh e.1 + weight weigh es + weigh v
    by Less is None found rest = omega arith
    by Less is (Some w) found rest = below_first order k e es w rises is found
    by Equal is o found rest = omega arith
    by Greater is o found rest = omega (arith, rest)

ones : {K A : Type 0} (es : List (K × A)) → weight (λ v. 1) es ≡ length es
ones [] = refl
ones (e ∷ es) = omega (arith, ones es)

pub put_most : {K A : Type 0} (cmp : K → K → Ordering) (k : K) (v : A) (es : List (K × A))
    → length (insert_entry cmp es k v) ≤ length es + 1
put_most cmp k v [] = omega arith
put_most cmp k v (e ∷ es) = by (cmp k e.0) (put_most cmp k v es)
  where
    by : (r : Ordering) → length (insert_entry cmp es k v) ≤ length es + 1
        → length (match_ordering r ((k, v) ∷ e ∷ es) ((e.0, v) ∷ es) (e ∷ insert_entry cmp es k v))
        ≤ suc (length es) + 1
    by Less rest = omega arith
    by Equal rest = omega arith
    by Greater rest = omega (arith, rest)

pub put_again : {K A : Type 0} {cmp : K → K → Ordering} → IsTotalOrder cmp → (k : K) (v w : A) (es : List (K × A))
    → Rises cmp es → kept_at cmp es k ≡ Some w → length (insert_entry cmp es k v) ≡ length es
put_again {cmp = cmp} order k v w es rises found = omega (
  arith,
  put_weighs order (λ v. 1) k v es rises,
  ap (weight_of (λ v. 1)) found,
  ones es,
  ones (insert_entry cmp es k v),
)

pub taken_one : {K A : Type 0} (test : K → Bool) (v : A) (es : List (K × A)) → lookup test es ≡ Some v
    → length (remove_entry test es) + 1 ≡ length es
taken_one test v [] found = cc
taken_one test v (e ∷ es) found = by (test e.0) found (taken_one test v es)
  where
    by : (b : Bool) → cond b (Some e.1) (lookup test es) ≡ Some v
        → (lookup test es ≡ Some v → length (remove_entry test es) + 1 ≡ length es)
        → length (cond b es (e ∷ remove_entry test es)) + 1 ≡ suc (length es)
    by true found rest = omega arith
    by false found rest = omega (arith, rest found)

pub taken_most : {K A : Type 0} (test : K → Bool) (es : List (K × A)) → length (remove_entry test es) ≤ length es
taken_most test [] = omega arith
taken_most test (e ∷ es) = by (test e.0) (taken_most test es)
  where
    by : (b : Bool) → length (remove_entry test es) ≤ length es
        → length (cond b es (e ∷ remove_entry test es)) ≤ suc (length es)
    by true rest = omega arith
    by false rest = omega (arith, rest)

-- ---- ends

-- the total weight of the halves of an end
abbrev pub halves_weigh : (Half → ℕ) → End → ℕ
halves_weigh weigh e = weight weigh e.begun + weight weigh e.accepted

-- Putting a half adds its weight, and subtracts that of the half that it replaces.
half_weighs : (weigh : Half → ℕ) (e : End) (slot : Slot) (key : List ℕ) (h : Half) → IsEnd e
    → halves_weigh weigh (put e slot key h) + weight_of weigh (half_at (halves_of slot e) key)
    ≡ halves_weigh weigh e + weigh h
half_weighs weigh e Begun key h sound = omega (arith, put_weighs octets_total weigh key h e.begun sound.begun)
half_weighs weigh e Accepted key h sound = omega (arith, put_weighs octets_total weigh key h e.accepted sound.accepted)

-- So at most its own weight is added.
pub half_most : (weigh : Half → ℕ) (e : End) (slot : Slot) (key : List ℕ) (h : Half) → IsEnd e
    → halves_weigh weigh (put e slot key h) ≤ halves_weigh weigh e + weigh h
half_most weigh e slot key h sound = omega (arith, half_weighs weigh e slot key h sound)

-- If an end has a half, this is the half that is replaced.
pub half_over : (weigh : Half → ℕ) (e : End) (f : KeyedHalf) (h : Half) → IsEnd e → HasHalf e f
    → halves_weigh weigh (put e f.slot f.key h) + weigh f.half ≡ halves_weigh weigh e + weigh h
half_over weigh e f h sound had = omega (arith, half_weighs weigh e f.slot f.key h sound, ap (weight_of weigh) had)
