-- The place of the first item that passes a test.
use Rattle.std.proofs.Common.{◌≡◌, ℕ, zero, suc, ◌+◌, ◌<◌, ◌≤◌, ◌⊎◌, inl, inr, Bool, true, false, List, [], ◌∷◌, Option, Some, None, length, refl, sym, ap, ◌∙◌, arith, get_or, ltb}
use Rattle.std.proofs.lemmas.Bool.{cases_eq, cases_lt}
use Rattle.std.proofs.lemmas.Bool.Decides.{nat_tests}
use Rattle.std.proofs.lemmas.Option.{none-some, slice_get_past}
use Rattle.std.specs.Prelude.{◌==◌, ◌&&◌, ◌||◌, cond, is_some, map, option_map}
use Rattle.std.specs.List.{list_any, slice_get}
use Rattle.tcap_lists.specs.Row.{earlier, filled, fits_in, is_wanted, items_in, kind_at, kind_in, place_of}

pub place_map : {A B : Type 0} (fits : B → Bool) (f : A → B) (items : List A) → place_of fits (map f items) ≡ place_of (λ a. fits (f a)) items
place_map fits f [] = refl
place_map fits f (item ∷ items) = ap (λ place. cond (fits (f item)) (Some 0) (option_map suc place)) (place_map fits f items)

pub place_same : {A : Type 0} (fits other : A → Bool) (items : List A) → ((item : A) → fits item ≡ other item)
    → place_of fits items ≡ place_of other items
place_same fits other [] same = refl
place_same fits other (item ∷ items) same = rw (same item, place_same fits other items same) refl

pub place_never : {A : Type 0} (fits : A → Bool) (items : List A) → ((item : A) → fits item ≡ false) → place_of fits items ≡ None
place_never fits [] never = refl
place_never fits (item ∷ items) never = rw (never item, place_never fits items never) refl

none_less : (n : ℕ) → 0 ≡ cond (ltb (suc n) 0) (suc n) 0
none_less n = grind (arith, nat_tests)

zero_less : (n : ℕ) → 0 ≡ cond (ltb 0 (suc n)) 0 (suc n)
zero_less n = grind (arith, nat_tests)

one_more : (n m : ℕ) → suc (cond (ltb m n) m n) ≡ cond (ltb (suc m) (suc n)) (suc m) (suc n)
one_more n m = grind (arith, nat_tests)

-- a test that is either of two tests
pub place_either : {A : Type 0} (fits first other : A → Bool) (items : List A) → ((item : A) → fits item ≡ (first item || other item))
    → place_of fits items ≡ earlier (place_of first items) (place_of other items)
place_either fits first other [] either = refl
place_either {A} fits first other (item ∷ items) either =
    rw (either item, place_either fits first other items either)
    (by (first item) (other item) (place_of first items) (place_of other items))
  where
    by : (a b : Bool) (p q : Option ℕ)
        → cond (a || b) (Some 0) (option_map suc (earlier p q)) ≡ earlier (cond a (Some 0) (option_map suc p)) (cond b (Some 0) (option_map suc q))
    by true true p q = refl
    by true false p None = refl
    by true false p (Some n) = ap Some (none_less n)
    by false true None q = refl
    by false true (Some n) q = ap Some (zero_less n)
    by false false None q = refl
    by false false (Some n) None = refl
    by false false (Some n) (Some m) = ap Some (one_more n m)

pub place_at : {A : Type 0} (fits : A → Bool) (d : A) (items : List A) (at : ℕ) → fits d ≡ false
    → ((n : ℕ) → n < at → fits (get_or items n d) ≡ false) → fits (get_or items at d) ≡ true → place_of fits items ≡ Some at
place_at fits d [] at not before here = let bad : true ≡ false = sym here ∙ not in cc
place_at fits d (item ∷ items) zero not before here = rw here refl
place_at fits d (item ∷ items) (suc at) not before here =
    rw (before 0 (omega arith), place_at fits d items at not (λ n below. before (suc n) (omega (arith, below))) here) refl

-- The item after those that were passed does not fit either.
pub none_passed : {A : Type 0} (fits : A → Bool) (d : A) (items : List A) (at : ℕ)
    → ((n : ℕ) → n < at → fits (get_or items n d) ≡ false) → fits (get_or items at d) ≡ false
    → (n : ℕ) → n < at + 1 → fits (get_or items n d) ≡ false
none_passed fits d items at before here n below = by (cases_lt n at)
  where
    by : (n < at) ⊎ (at ≤ n) → fits (get_or items n d) ≡ false
    by (inl less) = before n less
    by (inr past) = let e : n ≡ at = omega (arith, below, past) in rw e here

pub place_nowhere : {A : Type 0} (fits : A → Bool) (d : A) (items : List A) → ((n : ℕ) → fits (get_or items n d) ≡ false)
    → place_of fits items ≡ None
place_nowhere fits d [] none = refl
place_nowhere fits d (item ∷ items) none = rw (none 0, place_nowhere fits d items (λ n. none (suc n))) refl

-- a place in the whole list, from a place in the rest
abbrev pub shifted : ℕ → Option ℕ → Option ℕ
shifted at place = option_map (λ n. at + n) place

-- ---- a stricter test

module _ {A : Type 0} (fits more : A → Bool) (so : (item : A) → fits item ≡ false → more item ≡ false) where
  pub none_more : (items : List A) → place_of fits items ≡ None → place_of more items ≡ None
  none_more [] e = refl
  none_more (item ∷ items) e = by (fits item) refl (place_of fits items) e (none_more items)
    where
      by : (fit : Bool) → fits item ≡ fit → (place : Option ℕ) → cond fit (Some 0) (option_map suc place) ≡ None
          → (place ≡ None → place_of more items ≡ None) → cond (more item) (Some 0) (option_map suc (place_of more items)) ≡ None
      by true is place bad rest = absurd (none-some 0 (sym bad))
      by false is None e rest = rw (so item is, rest refl) refl
      by false is (Some n) bad rest = absurd (none-some (suc n) (sym bad))

  -- The first item that fits also passes the stricter test.
  pub first_more : (d : A) (items : List A) (at : ℕ) → more d ≡ false → place_of fits items ≡ Some at → more (get_or items at d) ≡ true
      → place_of more items ≡ Some at
  first_more d [] at not e here = absurd (none-some at e)
  first_more d (item ∷ items) at not e here = by (fits item) refl (place_of fits items) at e here (first_more d items)
    where
      by : (fit : Bool) → fits item ≡ fit → (place : Option ℕ) (at : ℕ) → cond fit (Some 0) (option_map suc place) ≡ Some at
          → more (get_or (item ∷ items) at d) ≡ true
          → ((n : ℕ) → more d ≡ false → place ≡ Some n → more (get_or items n d) ≡ true → place_of more items ≡ Some n)
          → cond (more item) (Some 0) (option_map suc (place_of more items)) ≡ Some at
      by true is place zero e here rest = rw here refl
      by true is place (suc at) bad here rest = let wrong : 0 ≡ suc at = cc in absurd (omega (arith, wrong))
      by false is None at bad here rest = absurd (none-some at bad)
      by false is (Some n) zero bad here rest = let wrong : suc n ≡ 0 = cc in absurd (omega (arith, wrong))
      by false is (Some n) (suc at) e here rest = let same : n ≡ at = cc in
          rw (so item is, rest at not (ap Some same) here) refl

-- ---- a look at all kinds

-- whether an item fits whose kind number is below `n`
abbrev pub fits_below : {K : Type 0} → (K → Bool) → List K → ℕ → Option ℕ → Bool
fits_below fits kinds n None = false
fits_below fits kinds n (Some kind) = ltb kind n && fits_in fits (slice_get kinds kind)

or_false : (b : Bool) → (b || false) ≡ b
or_false true = refl
or_false false = refl

and_false : (b : Bool) → (b && false) ≡ false
and_false true = refl
and_false false = refl

module _ {K : Type 0} (fits : K → Bool) (kinds : List K) (places : List (Option ℕ)) where
  pub below_none : place_of (fits_below fits kinds 0) places ≡ None
  below_none = place_never (fits_below fits kinds 0) places never
    where
      never : (place : Option ℕ) → fits_below fits kinds 0 place ≡ false
      never None = refl
      never (Some kind) = let not : ltb kind 0 ≡ false = grind (arith, nat_tests) in rw not refl

  -- The next kind fits.
  pub below_yes : (n : ℕ) (kind : K) → slice_get kinds n ≡ Some kind → fits kind ≡ true
      → earlier (place_of (fits_below fits kinds n) places) (place_of (is_wanted (Some n)) places)
      ≡ place_of (fits_below fits kinds (n + 1)) places
  below_yes n kind is fit = sym (place_either (fits_below fits kinds (n + 1)) (fits_below fits kinds n) (is_wanted (Some n)) places either)
    where
      either : (place : Option ℕ) → fits_below fits kinds (n + 1) place ≡ (fits_below fits kinds n place || is_wanted (Some n) place)
      either None = refl
      either (Some other) = by (cases_eq other n)
        where
          by : (other ≡ n) ⊎ (other ≡ n → ⊥) → (ltb other (n + 1) && fits_in fits (slice_get kinds other))
              ≡ ((ltb other n && fits_in fits (slice_get kinds other)) || (other == n))
          by (inl same) =
              let here : ltb n (n + 1) ≡ true = grind (arith, nat_tests) in let not : ltb n n ≡ false = grind (arith, nat_tests) in
              let eq : (n == n) ≡ true = grind (arith, nat_tests) in
              rw (same, is, fit, here, not, eq) refl
          by (inr apart) =
              let same : ltb other (n + 1) ≡ ltb other n = grind (arith, nat_tests) in
              let not : (other == n) ≡ false = grind (arith, nat_tests) in
              rw (same, not) (sym (or_false (ltb other n && fits_in fits (slice_get kinds other))))

  -- The next kind does not fit.
  pub below_no : (n : ℕ) (kind : K) → slice_get kinds n ≡ Some kind → fits kind ≡ false
      → place_of (fits_below fits kinds n) places ≡ place_of (fits_below fits kinds (n + 1)) places
  below_no n kind is not = place_same (fits_below fits kinds n) (fits_below fits kinds (n + 1)) places same
    where
      same : (place : Option ℕ) → fits_below fits kinds n place ≡ fits_below fits kinds (n + 1) place
      same None = refl
      same (Some other) = by (cases_eq other n)
        where
          by : (other ≡ n) ⊎ (other ≡ n → ⊥) → (ltb other n && fits_in fits (slice_get kinds other))
              ≡ (ltb other (n + 1) && fits_in fits (slice_get kinds other))
          by (inl e) = rw (e, is, not, and_false (ltb n n), and_false (ltb n (n + 1))) refl
          by (inr apart) = let same : ltb other (n + 1) ≡ ltb other n = grind (arith, nat_tests) in rw same refl

  -- All kinds were looked at.
  pub below_all : (n : ℕ) → length kinds ≤ n → place_of (fits_below fits kinds n) places ≡ place_of (fits_in fits) (items_in kinds places)
  below_all n all = place_same (fits_below fits kinds n) (λ place. fits_in fits (kind_in kinds place)) places same
      ∙ sym (place_map (fits_in fits) (kind_in kinds) places)
    where
      same : (place : Option ℕ) → fits_below fits kinds n place ≡ fits_in fits (kind_in kinds place)
      same None = refl
      same (Some kind) = by (cases_lt kind n)
        where
          by : (kind < n) ⊎ (n ≤ kind) → (ltb kind n && fits_in fits (slice_get kinds kind)) ≡ fits_in fits (slice_get kinds kind)
          by (inl below) = let yes : ltb kind n ≡ true = grind (arith, nat_tests) in rw yes refl
          by (inr past) = let none : slice_get kinds kind ≡ None = slice_get_past kinds kind (omega (arith, all, past)) in
              let not : ltb kind n ≡ false = grind (arith, nat_tests) in rw (none, not) refl

  -- ---- the oldest of all

  not_wanted : (place : Option ℕ) → is_wanted None place ≡ false → fits_in fits (kind_in kinds place) ≡ false
  not_wanted None e = refl
  not_wanted (Some kind) bad = let wrong : true ≡ false = bad in cc

  pub none_at_all : place_of (is_wanted None) places ≡ None → place_of (fits_in fits) (items_in kinds places) ≡ None
  none_at_all e = place_map (fits_in fits) (kind_in kinds) places
      ∙ none_more (is_wanted None) (λ place. fits_in fits (kind_in kinds place)) not_wanted places e

  pub oldest_fits : (at : ℕ) (kind : K) → place_of (is_wanted None) places ≡ Some at → kind_in kinds (kind_at places at) ≡ Some kind
      → fits kind ≡ true → place_of (fits_in fits) (items_in kinds places) ≡ Some at
  oldest_fits at kind e is fit = place_map (fits_in fits) (kind_in kinds) places
      ∙ first_more (is_wanted None) (λ place. fits_in fits (kind_in kinds place)) not_wanted None places at refl e
      (rw is fit)

-- ---- an item of one kind

some_suc : (place : Option ℕ) → is_some (option_map suc place) ≡ is_some place
some_suc None = refl
some_suc (Some n) = refl

-- If there is an item of a kind that fits, there is an item that fits.
pub kind_there : {K : Type 0} (fits : K → Bool) (kinds : List K) (n : ℕ) (kind : K) (places : List (Option ℕ))
    → slice_get kinds n ≡ Some kind → fits kind ≡ true → is_some (place_of (is_wanted (Some n)) places) ≡ true
    → is_some (place_of (fits_in fits) (items_in kinds places)) ≡ true
kind_there fits kinds n kind [] is fit there = there
kind_there fits kinds n kind (None ∷ places) is fit there =
    some_suc _ ∙ kind_there fits kinds n kind places is fit (sym (some_suc _) ∙ there)
kind_there fits kinds n kind (Some other ∷ places) is fit there =
    by (cases_eq other n) (kind_there fits kinds n kind places is fit)
  where
    later : (b : Bool) → is_some (place_of (fits_in fits) (items_in kinds places)) ≡ true
        → is_some (cond b (Some 0) (option_map suc (place_of (fits_in fits) (items_in kinds places)))) ≡ true
    later true rest = refl
    later false rest = some_suc _ ∙ rest

    by : (other ≡ n) ⊎ (other ≡ n → ⊥)
        → (is_some (place_of (is_wanted (Some n)) places) ≡ true
        → is_some (place_of (fits_in fits) (items_in kinds places)) ≡ true)
        → is_some (cond (fits_in fits (slice_get kinds other)) (Some 0)
        (option_map suc (place_of (fits_in fits) (items_in kinds places)))) ≡ true
    by (inl same) rest = rw (same, is, fit) refl
    by (inr apart) rest =
        let not : (other == n) ≡ false = grind (arith, nat_tests) in
        later (fits_in fits (slice_get kinds other))
        (rest (sym (some_suc _) ∙ (rw not at there)))

-- ---- the items without the empty places

-- whether an item in the places fits
pub any_filled : {A : Type 0} (fits : A → Bool) (places : List (Option A)) → list_any fits (filled places) ≡ is_some (place_of (fits_in fits) places)
any_filled fits [] = refl
any_filled fits (None ∷ places) = any_filled fits places ∙ by (place_of (fits_in fits) places)
  where
    by : (place : Option ℕ) → is_some place ≡ is_some (option_map suc place)
    by None = refl
    by (Some n) = refl
any_filled {A} fits (Some item ∷ places) = rw (any_filled fits places) (by (fits item) (place_of (fits_in fits) places))
  where
    by : (fit : Bool) (place : Option ℕ) → (fit || is_some place) ≡ is_some (cond fit (Some 0) (option_map suc place))
    by true place = refl
    by false None = refl
    by false (Some n) = refl

-- ---- a loop over the kinds

module _ {K : Type 0} (fits : K → Bool) (kinds : List K) (places : List (Option ℕ)) (n : ℕ) (kind : K)
    (is : slice_get kinds n ≡ Some kind) (found : Option ℕ) (was : found ≡ place_of (fits_below fits kinds n) places) where
  -- The next kind fits.
  pub asked_yes : (oldest now : Option ℕ) → fits kind ≡ true → oldest ≡ place_of (is_wanted (Some n)) places → now ≡ earlier found oldest
      → now ≡ place_of (fits_below fits kinds (n + 1)) places
  asked_yes oldest now fit is_oldest is_now = rw (is_now, was, is_oldest) (below_yes fits kinds places n kind is fit)

  -- The next kind does not fit.
  pub asked_no : (now : Option ℕ) → fits kind ≡ false → now ≡ found → now ≡ place_of (fits_below fits kinds (n + 1)) places
  asked_no now not is_now = is_now ∙ was ∙ below_no fits kinds places n kind is not

-- All kinds were looked at.
pub asked_all : {K : Type 0} (fits : K → Bool) (kinds all : List K) (places : List (Option ℕ)) (n : ℕ) (found : Option ℕ) → kinds ≡ all
    → length kinds ≤ n → found ≡ place_of (fits_below fits kinds n) places → found ≡ place_of (fits_in fits) (items_in all places)
asked_all fits kinds all places n found same past was =
    was ∙ below_all fits kinds places n past ∙ ap (λ kinds. place_of (fits_in fits) (items_in kinds places)) same
