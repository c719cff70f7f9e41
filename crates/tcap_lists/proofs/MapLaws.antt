-- Sorted lists of entries: lookups after a change, and why the list stays sorted.
use Rattle.std.proofs.Common.{◌≡◌, ◌≢◌, Bool, true, false, cond, List, [], ◌∷◌, Option, Some, IsSome, ◌⊎◌, inl, inr, refl, sym, ap, subst, ◌∙◌}
use Rattle.std.specs.declared.cmp.Ordering.{Ordering}
use Rattle.std.specs.declared.cmp.Ordering.TheVariants.{Less, Equal, Greater}
use Rattle.std.specs.Cmp.{IsTotalOrder}
use Rattle.std.specs.List.{AllByRecursion}
use Rattle.std.specs.List.Sorted.{IsStrictlySortedBy}
use Rattle.std.specs.Map.{keys_of, lookup, remove_entry}
use Rattle.std.specs.BTreeMap.{insert_entry, is_at}
use Rattle.std.specs.Ordering.{is_eq, match_ordering, ordering_reverse}
use Rattle.std.proofs.lemmas.Cmp.{alike_right, eq_by_cmp_equiv, tied_itself}
use Rattle.std.proofs.lemmas.Map.{lookup-none}
use Rattle.std.proofs.lemmas.Map.Entries.{none_past_head}
use Rattle.std.proofs.lemmas.Map.Keys.{IsDistinct-from_sorted}
use Rattle.std.proofs.lemmas.Map.Lookups.{CmpEqualImpliesEq}
use Rattle.tcap_lists.specs.Items.{Rises}

-- the value of a key
abbrev pub kept_at : {K A : Type 0} → (K → K → Ordering) → List (K × A) → K → Option A
kept_at cmp es q = lookup (is_at (cmp q)) es

-- ---- a property of each

-- entry, after one is removed
pub all_removed : {K A : Type 0} (P : K × A → Type 0) (test : K → Bool) (es : List (K × A))
    → AllByRecursion P es → AllByRecursion P (remove_entry test es)
all_removed P test [] all = tt
all_removed P test (e ∷ es) all = by (test e.0) (all_removed P test es all.1)
  where
    by : (b : Bool) → AllByRecursion P (remove_entry test es) → AllByRecursion P (cond b es (e ∷ remove_entry test es))
    by true rest = all.1
    by false rest = (all.0, rest)

-- key, after one is removed
keys_removed : {K A : Type 0} (P : K → Type 0) (test : K → Bool) (es : List (K × A))
    → AllByRecursion P (keys_of es) → AllByRecursion P (keys_of (remove_entry test es))
keys_removed P test [] all = tt
keys_removed P test (e ∷ es) all = by (test e.0) (keys_removed P test es all.1)
  where
    by : (b : Bool) → AllByRecursion P (keys_of (remove_entry test es))
        → AllByRecursion P (keys_of (cond b es (e ∷ remove_entry test es)))
    by true rest = all.1
    by false rest = (all.0, rest)

-- value, after a value with the property is inserted
pub all_inserted : {K A : Type 0} (P : A → Type 0) (cmp : K → K → Ordering) (es : List (K × A)) (k : K) (v : A)
    → P v → AllByRecursion (λ e. P e.1) es → AllByRecursion (λ e. P e.1) (insert_entry cmp es k v)
all_inserted P cmp [] k v new all = (new, tt)
all_inserted P cmp (e ∷ es) k v new all = by (cmp k e.0) (all_inserted P cmp es k v new all.1)
  where
    by : (r : Ordering) → AllByRecursion (λ e. P e.1) (insert_entry cmp es k v)
        → AllByRecursion (λ e. P e.1) (match_ordering r ((k, v) ∷ e ∷ es) ((e.0, v) ∷ es) (e ∷ insert_entry cmp es k v))
    by Less rest = (new, all)
    by Equal rest = (new, all.1)
    by Greater rest = (all.0, rest)

-- key, after a key with the property is inserted
keys_inserted : {K A : Type 0} (P : K → Type 0) (cmp : K → K → Ordering) (es : List (K × A)) (k : K) (v : A)
    → P k → AllByRecursion P (keys_of es) → AllByRecursion P (keys_of (insert_entry cmp es k v))
keys_inserted P cmp [] k v new all = (new, tt)
keys_inserted P cmp (e ∷ es) k v new all = by (cmp k e.0) (keys_inserted P cmp es k v new all.1)
  where
    by : (r : Ordering) → AllByRecursion P (keys_of (insert_entry cmp es k v))
        → AllByRecursion P (keys_of (match_ordering r ((k, v) ∷ e ∷ es) ((e.0, v) ∷ es) (e ∷ insert_entry cmp es k v)))
    by Less rest = (new, all)
    by Equal rest = all
    by Greater rest = (all.0, rest)

-- ---- orders

-- a proof for both results of a test
either : {P : Type 0} (b : Bool) → (b ≡ true → P) → (b ≡ false → P) → P
either true if_so if_not = if_so refl
either false if_so if_not = if_not refl

-- Keys that an exact order does not distinguish are equal.
equal : {K : Type 0} {cmp : K → K → Ordering} → CmpEqualImpliesEq cmp → (x y : K) → is_at (cmp x) y ≡ true → x ≡ y
equal {cmp = cmp} exact x y same = exact x y (by (cmp x y) same)
  where
    by : (r : Ordering) → is_eq r ≡ true → r ≡ Equal
    by Less is = cc
    by Equal is = refl
    by Greater is = cc

module _ {K : Type 0} {cmp : K → K → Ordering} (total : IsTotalOrder cmp) where
  pub turned : (x y : K) → cmp x y ≡ Greater → cmp y x ≡ Less
  turned x y is = total.antisymm y x ∙ ap ordering_reverse is

  pub turned_less : (x y : K) → cmp x y ≡ Less → cmp y x ≡ Greater
  turned_less x y is = total.antisymm y x ∙ ap ordering_reverse is

  -- A key below another is below all that are above that one.
  pub below_all : (k x : K) (ks : List K) → cmp k x ≡ Less
      → AllByRecursion (λ y. cmp x y ≡ Less) ks → AllByRecursion (λ y. cmp k y ≡ Less) ks
  below_all k x [] is all = tt
  below_all k x (y ∷ ks) is all = (total.trans k x y is all.0, below_all k x ks is all.1)

  -- The order does not distinguish equal keys.
  pub tied : (q k : K) → q ≡ k → is_at (cmp q) k ≡ true
  tied q k same = ap (λ x. is_eq (cmp x k)) same ∙ ap is_eq (tied_itself total k)

  -- Two keys are equal or not.
  pub keys_eq : CmpEqualImpliesEq cmp → (q k : K) → (q ≡ k) ⊎ (q ≢ k)
  keys_eq exact q k = by (cmp q k) refl
    where
      apart : (r : Ordering) → cmp q k ≡ r → is_eq r ≡ false → q ≢ k
      apart r is not same = let yes = sym (ap is_eq is) ∙ tied q k same in cc

      by : (r : Ordering) → cmp q k ≡ r → (q ≡ k) ⊎ (q ≢ k)
      by Less is = inr (apart Less is refl)
      by Equal is = inl (exact q k is)
      by Greater is = inr (apart Greater is refl)

-- ---- sorted keys

-- The list stays sorted after a removal.
pub rises_removed : {K A : Type 0} (cmp : K → K → Ordering) (test : K → Bool) (es : List (K × A))
    → Rises cmp es → Rises cmp (remove_entry test es)
unfolding IsStrictlySortedBy
rises_removed cmp test [] rises = tt
rises_removed cmp test (e ∷ es) rises = by (test e.0) (rises_removed cmp test es rises.1)
  where
    by : (b : Bool) → Rises cmp (remove_entry test es) → Rises cmp (cond b es (e ∷ remove_entry test es))
    by true rest = rises.1
    by false rest = (keys_removed (λ y. cmp e.0 y ≡ Less) test es rises.0, rest)

module _ {K A : Type 0} {cmp : K → K → Ordering} (total : IsTotalOrder cmp) where
  -- The list stays sorted after an insertion.
  pub rises_inserted : (es : List (K × A)) (k : K) (v : A) → Rises cmp es → Rises cmp (insert_entry cmp es k v)
  unfolding IsStrictlySortedBy
  rises_inserted [] k v rises = (tt, tt)
  rises_inserted (e ∷ es) k v rises = by (cmp k e.0) refl (rises_inserted es k v rises.1)
    where
      by : (r : Ordering) → cmp k e.0 ≡ r → Rises cmp (insert_entry cmp es k v)
          → Rises cmp (match_ordering r ((k, v) ∷ e ∷ es) ((e.0, v) ∷ es) (e ∷ insert_entry cmp es k v))
      by Less is rest = ((is, below_all total k e.0 (keys_of es) is rises.0), rises)
      by Equal is rest = rises
      by Greater is rest = (keys_inserted (λ y. cmp e.0 y ≡ Less) cmp es k v (turned total k e.0 is) rises.0, rest)

  -- A key that is found after the first entry is not the first key.
  pub behind_first : (q : K) (e : K × A) (es : List (K × A)) (v : A) → Rises cmp (e ∷ es)
      → kept_at cmp es q ≡ Some v → is_at (cmp q) e.0 ≡ false
  behind_first q e es v rises found = either (is_at (cmp q) e.0) first (λ other. other)
    where
      first : is_at (cmp q) e.0 ≡ true → is_at (cmp q) e.0 ≡ false
      first same =
          let distinct = IsDistinct-from_sorted cmp (keys_of (e ∷ es)) rises in
          let none = lookup-none (is_at (cmp q)) es (none_past_head (eq_by_cmp_equiv total) q e es distinct same) in cc

  -- ---- lookups after an insertion

  inserted : (q k : K) (v : A) (es : List (K × A))
      → kept_at cmp (insert_entry cmp es k v) q ≡ cond (is_at (cmp q) k) (Some v) (kept_at cmp es q)
  inserted q k v [] = refl
  inserted q k v (e ∷ es) = by (cmp k e.0) refl (inserted q k v es)
    where
      alike : (b : Bool) → cond b (Some v) (kept_at cmp es q) ≡ cond b (Some v) (cond b (Some e.1) (kept_at cmp es q))
      alike true = refl
      alike false = refl

      apart : cmp k e.0 ≡ Greater → (r : Ordering) → cmp q e.0 ≡ r
          → cond (is_eq r) (Some e.1) (cond (is_eq (cmp q k)) (Some v) (kept_at cmp es q))
          ≡ cond (is_eq (cmp q k)) (Some v) (cond (is_eq r) (Some e.1) (kept_at cmp es q))
      apart is Less there = refl
      apart is Equal there = let below : cmp q k ≡ Less = total.congr q e.0 k there ∙ turned total k e.0 is in rw below refl
      apart is Greater there = refl

      by : (r : Ordering) → cmp k e.0 ≡ r
          → kept_at cmp (insert_entry cmp es k v) q ≡ cond (is_eq (cmp q k)) (Some v) (kept_at cmp es q)
          → kept_at cmp (match_ordering r ((k, v) ∷ e ∷ es) ((e.0, v) ∷ es) (e ∷ insert_entry cmp es k v)) q
          ≡ cond (is_eq (cmp q k)) (Some v) (cond (is_eq (cmp q e.0)) (Some e.1) (kept_at cmp es q))
      by Less is rest = refl
      by Equal is rest = rw (alike_right total k e.0 q is) (alike (is_eq (cmp q e.0)))
      by Greater is rest = rw rest (apart is (cmp q e.0) refl)

  -- A key that was found is still found.
  pub still_found : (q k : K) (v : A) (es : List (K × A)) → IsSome (kept_at cmp es q) → IsSome (kept_at cmp (insert_entry cmp es k v) q)
  still_found q k v es there = subst IsSome (sym (inserted q k v es)) (by (is_at (cmp q) k))
    where
      by : (b : Bool) → IsSome (cond b (Some v) (kept_at cmp es q))
      by true = refl
      by false = there

  module _ (exact : CmpEqualImpliesEq cmp) where
    -- The found value is the new one, or was there before.
    pub found_inserted : (q k : K) (v w : A) (es : List (K × A)) → kept_at cmp (insert_entry cmp es k v) q ≡ Some w
        → ((q ≡ k) × (w ≡ v)) ⊎ (kept_at cmp es q ≡ Some w)
    found_inserted q k v w es found = by (is_at (cmp q) k) refl (sym (inserted q k v es) ∙ found)
      where
        by : (b : Bool) → is_at (cmp q) k ≡ b → cond b (Some v) (kept_at cmp es q) ≡ Some w
            → ((q ≡ k) × (w ≡ v)) ⊎ (kept_at cmp es q ≡ Some w)
        by true same is = inl (equal exact q k same, cc)
        by false other is = inr is

    -- Any other key finds its earlier value.
    pub found_other : (q k : K) (v w : A) (es : List (K × A)) → q ≢ k
        → kept_at cmp es q ≡ Some w → kept_at cmp (insert_entry cmp es k v) q ≡ Some w
    found_other q k v w es apart found = either (is_at (cmp q) k) (λ same. absurd (apart (equal exact q k same))) other
      where
        other : is_at (cmp q) k ≡ false → kept_at cmp (insert_entry cmp es k v) q ≡ Some w
        other is = inserted q k v es ∙ ap (λ b. cond b (Some v) (kept_at cmp es q)) is ∙ found

-- ---- one key

module _ {K A : Type 0} {cmp : K → K → Ordering} (total : IsTotalOrder cmp) where
  -- A key below the first is not found.
  pub below_first : {P : Type 0} (q : K) (e : K × A) (es : List (K × A)) (v : A) → Rises cmp (e ∷ es)
      → cmp q e.0 ≡ Less → kept_at cmp es q ≡ Some v → P
  unfolding IsStrictlySortedBy
  below_first q e [] v rises less found = cc
  below_first q e (f ∷ es) v rises less found =
      let next = total.trans q e.0 f.0 less rises.0.0 in below_first q f es v rises.1 next (rw next at found)

  -- Inserting a value that is there changes nothing.
  pub insert_again : (k : K) (v : A) (es : List (K × A)) → Rises cmp es → kept_at cmp es k ≡ Some v → insert_entry cmp es k v ≡ es
  unfolding IsStrictlySortedBy
  insert_again k v [] rises found = cc
  insert_again k v (e ∷ es) rises found = by (cmp k e.0) refl found (insert_again k v es rises.1)
    where
      by : (r : Ordering) → cmp k e.0 ≡ r → cond (is_eq r) (Some e.1) (kept_at cmp es k) ≡ Some v
          → (kept_at cmp es k ≡ Some v → insert_entry cmp es k v ≡ es)
          → match_ordering r ((k, v) ∷ e ∷ es) ((e.0, v) ∷ es) (e ∷ insert_entry cmp es k v) ≡ e ∷ es
      by Less is found rest = below_first k e es v rises is found
      by Equal is found rest = let same : v ≡ e.1 = cc in ap (λ w. (e.0, w) ∷ es) same
      by Greater is found rest = ap (λ more. e ∷ more) (rest found)

  -- The key finds the inserted value.
  pub found_new : (k : K) (v : A) (es : List (K × A)) → kept_at cmp (insert_entry cmp es k v) k ≡ Some v
  found_new k v es = inserted total k k v es ∙ ap (λ r. cond (is_eq r) (Some v) (kept_at cmp es k)) (tied_itself total k)

  -- The first key finds its value.
  pub found_first : (e : K × A) (es : List (K × A)) → kept_at cmp (e ∷ es) e.0 ≡ Some e.1
  found_first e es = ap (λ r. cond (is_eq r) (Some e.1) (kept_at cmp es e.0)) (tied_itself total e.0)

  -- A key that is found after the first entry is found in the whole list.
  pub found_later : (e : K × A) (es : List (K × A)) (q : K) (v : A) → Rises cmp (e ∷ es)
      → kept_at cmp es q ≡ Some v → kept_at cmp (e ∷ es) q ≡ Some v
  found_later e es q v rises found = ap (λ b. cond b (Some e.1) (kept_at cmp es q)) (behind_first total q e es v rises found) ∙ found

  -- The second of two values inserted at one key counts.
  pub insert_twice : (k : K) (v w : A) (es : List (K × A))
      → insert_entry cmp (insert_entry cmp es k v) k w ≡ insert_entry cmp es k w
  insert_twice k v w [] = ap (λ r. match_ordering r ((k, w) ∷ (k, v) ∷ []) ((k, w) ∷ []) ((k, v) ∷ (k, w) ∷ [])) (tied_itself total k)
  insert_twice k v w (e ∷ es) = by (cmp k e.0) refl (insert_twice k v w es)
    where
      by : (r : Ordering) → cmp k e.0 ≡ r → insert_entry cmp (insert_entry cmp es k v) k w ≡ insert_entry cmp es k w
          → insert_entry cmp (match_ordering r ((k, v) ∷ e ∷ es) ((e.0, v) ∷ es) (e ∷ insert_entry cmp es k v)) k w
          ≡ match_ordering r ((k, w) ∷ e ∷ es) ((e.0, w) ∷ es) (e ∷ insert_entry cmp es k w)
      by Less is rest =
          ap (λ r. match_ordering r ((k, w) ∷ (k, v) ∷ e ∷ es) ((k, w) ∷ e ∷ es) ((k, v) ∷ insert_entry cmp (e ∷ es) k w))
          (tied_itself total k)
      by Equal is rest = ap (λ r. match_ordering r ((k, w) ∷ (e.0, v) ∷ es) ((e.0, w) ∷ es) ((e.0, v) ∷ insert_entry cmp es k w)) is
      by Greater is rest =
          ap (λ r. match_ordering r ((k, w) ∷ e ∷ insert_entry cmp es k v) ((e.0, w) ∷ insert_entry cmp es k v)
          (e ∷ insert_entry cmp (insert_entry cmp es k v) k w)) is
          ∙ ap (λ more. e ∷ more) rest
