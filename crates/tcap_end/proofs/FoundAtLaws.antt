-- The index of an ID in a sorted list, or the index at which it would be inserted; lookups and insertions there.
use Rattle.std.proofs.Common.{◌≡◌, false, ℕ, zero, suc, ◌+◌, ◌<◌, ◌≤◌, ℤ, length, List, [], ◌∷◌, Some, None, Result, Ok, Err, slice_index_or, slice_set, refl, sym, ap, subst, ◌∙◌, arith}
use Rattle.std.specs.declared.cmp.Ordering.{Ordering}
use Rattle.std.specs.declared.cmp.Ordering.TheVariants.{Less, Equal, Greater}
use Rattle.std.specs.FinMap.{int_cmp-IsAntisymmetric}
use Rattle.std.specs.List.{AllByRecursion, AllWithin, HoldsAt, insert}
use Rattle.std.specs.List.Sorted.{IsBinarySearchResult, IsSearchInRange, IsStrictlySortedBy}
use Rattle.std.specs.Map.{keys_of, lookup}
use Rattle.std.specs.BTreeMap.{insert_entry, is_at}
use Rattle.std.specs.Ordering.{int_cmp, is_lt, match_ordering}
use Rattle.std.proofs.lemmas.Cmp.{int_cmp_total}
use Rattle.std.proofs.lemmas.List.Sorted.{searchable_from_sorted}
use Rattle.tcap_end.specs.ReachableEnd.{Rises}
use Rattle.tcap_end.specs.OwnInvocations.{found_at, one_on}
use Rattle.tcap_lists.proofs.KeepLaws.{lookup_above}
use Rattle.tcap_lists.proofs.MapLaws.{below_all, turned, turned_less}

-- The entry at the index is what a lookup returns, and setting it is an insertion.
pub record IsThere {A : Type 0} (id : ℤ) (es : List (ℤ × A)) (at : ℕ) : Type 0 where
  pub stands : (x : ℤ × A) → x ≡ slice_index_or es at x → lookup (is_at (int_cmp id)) es ≡ Some x.1
  pub changes : (x : ℤ × A) (v : A) → x ≡ slice_index_or es at x → insert_entry int_cmp es id v ≡ slice_set es at (x.0, v)

pub found_there : {A : Type 0} (id : ℤ) (es : List (ℤ × A)) (at : ℕ) → found_at id es ≡ Ok at → IsThere id es at
found_there id [] at found = absurd cc
found_there {A} id (e ∷ es) at found = by (int_cmp id e.0) refl (found_at id es) refl at found (found_there id es)
  where
    by : (r : Ordering) → int_cmp id e.0 ≡ r → (f : Result ℕ ℕ) → found_at id es ≡ f → (at : ℕ)
        → match_ordering r (Err 0) (Ok 0) (one_on f) ≡ Ok at
        → ((at : ℕ) → found_at id es ≡ Ok at → IsThere id es at) → IsThere id (e ∷ es) at
    by Less is f rest at same more = absurd cc
    by Equal is f rest zero same more = record {
      stands = λ x here. rw (is, here) refl;
      changes = λ x v here. rw (is, here) refl;
    }
    by Equal is f rest (suc at) same more = absurd cc
    by Greater is (Ok n) rest zero same more = absurd cc
    by Greater is (Ok n) rest (suc at) same more =
        let place : n ≡ at = cc in
        let there = more at (rest ∙ ap Ok place) in
        record {
          stands = λ x here. rw is (there.stands x here);
          changes = λ x v here. rw is (ap (λ others. e ∷ others) (there.changes x v here));
        }
    by Greater is (Err n) rest at same more = absurd cc

-- The ID is absent: a lookup returns None, and an insertion goes to the index.
pub record IsAbsent {A : Type 0} (id : ℤ) (es : List (ℤ × A)) (at : ℕ) : Type 0 where
  pub nothing : Rises int_cmp es → lookup (is_at (int_cmp id)) es ≡ None
  pub adds : (v : A) → insert_entry int_cmp es id v ≡ insert es at (id, v)

pub found_absent : {A : Type 0} (id : ℤ) (es : List (ℤ × A)) (at : ℕ) → found_at id es ≡ Err at → IsAbsent id es at
unfolding IsStrictlySortedBy
found_absent id [] zero found = record { nothing = λ rises. refl; adds = λ v. refl }
found_absent id [] (suc at) found = absurd cc
found_absent {A} id (e ∷ es) at found = by (int_cmp id e.0) refl (found_at id es) refl at found (found_absent id es)
  where
    by : (r : Ordering) → int_cmp id e.0 ≡ r → (f : Result ℕ ℕ) → found_at id es ≡ f → (at : ℕ)
        → match_ordering r (Err 0) (Ok 0) (one_on f) ≡ Err at
        → ((at : ℕ) → found_at id es ≡ Err at → IsAbsent id es at) → IsAbsent id (e ∷ es) at
    by Less is f rest zero same more = record {
      nothing = λ rises. rw is (lookup_above id es (below_all int_cmp_total id e.0 (keys_of es) is rises.0));
      adds = λ v. rw is refl;
    }
    by Less is f rest (suc at) same more = absurd cc
    by Equal is f rest at same more = absurd cc
    by Greater is (Ok n) rest at same more = absurd cc
    by Greater is (Err n) rest zero same more = absurd cc
    by Greater is (Err n) rest (suc at) same more =
        let place : n ≡ at = cc in
        let absent = more at (rest ∙ ap Err place) in
        record {
          nothing = λ rises. rw is (absent.nothing rises.1);
          adds = λ v. rw is (ap (λ others. e ∷ others) (absent.adds v));
        }

-- ---- the result of a search

-- any entry is above a key that all entries are above
above_at : {A : Type 0} (key : ℤ) (es : List (ℤ × A)) (at : ℕ) (d : ℤ × A) → at < length es
    → AllByRecursion (λ y. int_cmp key y ≡ Less) (keys_of es) → int_cmp key (slice_index_or es at d).0 ≡ Less
above_at key [] at d within all = absurd (omega arith)
above_at key (e ∷ es) zero d within all = all.0
above_at key (e ∷ es) (suc at) d within all = above_at key es at d (omega arith) all.1

-- an entry with the ID is found at its index
found_equal : {A : Type 0} (id : ℤ) (es : List (ℤ × A)) (at : ℕ) → Rises int_cmp es → at < length es
    → HoldsAt (λ e. int_cmp e.0 id ≡ Equal) es at → found_at id es ≡ Ok at
unfolding IsStrictlySortedBy
found_equal id [] at rises within equal = absurd (omega arith)
found_equal id (e ∷ es) zero rises within equal =
    let same : e.0 ≡ id = int_cmp-IsAntisymmetric e.0 id (equal e) in
    rw (ap (λ x. int_cmp id x) same ∙ ap (λ x. int_cmp x id) (sym same) ∙ equal e) refl
found_equal id (e ∷ es) (suc at) rises within equal =
    let same : (slice_index_or es at e).0 ≡ id = int_cmp-IsAntisymmetric _ id (equal e) in
    let below : int_cmp e.0 id ≡ Less = ap (λ x. int_cmp e.0 x) (sym same) ∙ above_at e.0 es at e (omega arith) rises.0 in
    rw (turned_less int_cmp_total e.0 id below, found_equal id es at rises.1 (omega arith) (λ d. equal d)) refl

-- the ID belongs between the lesser and the greater entries
found_between : {A : Type 0} (id : ℤ) (es : List (ℤ × A)) (at : ℕ) → at ≤ length es
    → AllWithin (λ e. int_cmp e.0 id ≡ Less) es 0 at → AllWithin (λ e. int_cmp e.0 id ≡ Greater) es at (length es)
    → found_at id es ≡ Err at
found_between id [] zero within less greater = refl
found_between id [] (suc at) within less greater = absurd (omega arith)
found_between id (e ∷ es) zero within less greater =
    rw (turned int_cmp_total e.0 id (greater 0 e (omega arith) (omega arith))) refl
found_between id (e ∷ es) (suc at) within less greater =
    rw (
      turned_less int_cmp_total e.0 id (less 0 e (omega arith) (omega arith)),
      found_between id es at (omega arith) (λ k d low high. less (suc k) d (omega arith) (omega arith))
          (λ k d low high. greater (suc k) d (omega arith) (omega arith)),
    ) refl

-- no entry is below the entry before it
sorted : {A : Type 0} (es : List (ℤ × A)) → Rises int_cmp es → (k : ℕ) (d : ℤ × A) → suc k < length es
    → is_lt (int_cmp (slice_index_or es (suc k) d).0 (slice_index_or es k d).0) ≡ false
unfolding IsStrictlySortedBy
sorted [] rises k d within = absurd (omega arith)
sorted (e ∷ es) rises zero d within =
    rw (turned_less int_cmp_total e.0 (slice_index_or es 0 d).0 (above_at e.0 es 0 d (omega arith) rises.0)) refl
sorted (e ∷ es) rises (suc k) d within = sorted es rises.1 k d (omega arith)

-- the result of a binary search by the IDs
pub searched : {A : Type 0} (id : ℤ) (es : List (ℤ × A)) (r : Result ℕ ℕ) → Rises int_cmp es → IsSearchInRange r (length es)
    → IsBinarySearchResult (λ e. int_cmp e.0 id) es r → r ≡ found_at id es
searched id es (Ok at) rises within equal = sym (found_equal id es at rises within equal)
searched id es (Err at) rises within between =
    let parts = between (searchable_from_sorted int_cmp_total (λ e. e.0) es id (λ k d low high.
    let next : suc k ≡ k + 1 = omega arith in
    subst (λ j. is_lt (int_cmp (slice_index_or es j d).0 (slice_index_or es k d).0) ≡ false) next
    (sorted es rises k d (omega arith)))) in
    sym (found_between id es at within parts.0 parts.1)
