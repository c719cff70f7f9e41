-- The place of the oldest item of a kind.
use Rattle.std.proofs.Common.{◌≡◌, ℕ, zero, suc, ◌≢◌, ◌⊎◌, inl, inr, Bool, true, false, List, [], ◌∷◌, Option, Some, None, Result, Ok, Err, OnOk, OnErr, refl, sym, ap, ◌∙◌, arith, get_or, set, length, length-append, take, ◌<◌, ◌≤◌}
use Rattle.std.proofs.lemmas.Bool.{cases_eq, cases_lt}
use Rattle.std.proofs.lemmas.Bool.Decides.{nat_tests}
use Rattle.std.proofs.lemmas.Grind.{get_or-set_at}
use Rattle.std.proofs.lemmas.List.{get_or-set_other}
use Rattle.std.proofs.lemmas.Option.{none-some}
use Rattle.std.specs.Prelude.{◌==◌, ◌++◌, IsSome, cond, is_ok}
use Rattle.smallvec.specs.SmallVec.{SmallVec}
use Rattle.tcap_lists.specs.Row.{AreNumbered, AreOldest, IsOldest, is_wanted, kind_at, place_of}
use Rattle.tcap_lists.proofs.ChainLaws.{pad_same}
use Rattle.tcap_lists.proofs.PlaceLaws.{place_at, place_nowhere}

-- ---- the oldest

false_unless : (b : Bool) → (b ≡ true → ⊥) → b ≡ false
false_unless true not = absurd (not refl)
false_unless false not = refl

-- The oldest wanted item is in that place.
pub oldest_stands : (wanted : Option ℕ) (places : List (Option ℕ)) (at : ℕ) → IsOldest wanted places at
    → is_wanted wanted (kind_at places at) ≡ true → place_of (is_wanted wanted) places ≡ Some at
oldest_stands wanted places at oldest here =
    place_at (is_wanted wanted) None places at refl
    (λ n below. false_unless (is_wanted wanted (kind_at places n)) (λ yes. absurd (omega (arith, (oldest n yes).0, below)))) here

-- There is no wanted item.
pub none_stands : (wanted : Option ℕ) (places : List (Option ℕ)) (at : ℕ) → IsOldest wanted places at
    → is_wanted wanted (kind_at places at) ≡ false → place_of (is_wanted wanted) places ≡ None
none_stands wanted places at oldest not =
    place_nowhere (is_wanted wanted) None places
    (λ n. false_unless (is_wanted wanted (kind_at places n)) (λ yes. let bad : true ≡ false = sym (oldest n yes).1 ∙ not in cc))

-- ---- one place changes

-- The oldest stays the oldest if the same places are wanted.
pub oldest_stays : (wanted : Option ℕ) (places other : List (Option ℕ)) (oldest : ℕ)
    → ((n : ℕ) → is_wanted wanted (kind_at other n) ≡ is_wanted wanted (kind_at places n)) → IsOldest wanted places oldest
    → IsOldest wanted other oldest
oldest_stays wanted places other oldest same was = λ n yes.
    let there = was n (sym (same n) ∙ yes) in (there.0, same oldest ∙ there.1)

module _ (places : List (Option ℕ)) (at : ℕ) (new : Option ℕ) (within : at < length places) where
  stood_here : (n : ℕ) → n ≡ at → kind_at (set places at new) n ≡ new
  stood_here n is = get_or-set_at places at n new None is within

  stood_there : (n : ℕ) → n ≢ at → kind_at (set places at new) n ≡ kind_at places n
  stood_there n apart = get_or-set_other places at n new None apart

  wanted_same : (wanted : Option ℕ) → is_wanted wanted new ≡ is_wanted wanted (kind_at places at) → (n : ℕ)
      → is_wanted wanted (kind_at (set places at new) n) ≡ is_wanted wanted (kind_at places n)
  wanted_same wanted same n = by (cases_eq n at)
    where
      by : (n ≡ at) ⊎ (n ≡ at → ⊥) → is_wanted wanted (kind_at (set places at new) n) ≡ is_wanted wanted (kind_at places n)
      by (inl is) = rw (stood_here n is, is) same
      by (inr apart) = rw (stood_there n apart) refl

  -- All kind numbers stay below the limit.
  pub set_numbered : (count : ℕ) → ((kind : ℕ) → new ≡ Some kind → kind < count) → AreNumbered places count
      → AreNumbered (set places at new) count
  set_numbered count below numbered = λ n kind is. by n kind is (cases_eq n at)
    where
      by : (n kind : ℕ) → kind_at (set places at new) n ≡ Some kind → (n ≡ at) ⊎ (n ≡ at → ⊥) → kind < count
      by n kind is (inl here) = below kind (sym (stood_here n here) ∙ is)
      by n kind is (inr apart) = numbered n kind (sym (stood_there n apart) ∙ is)

  -- The oldest item of one kind changes, and no other kind changes.
  pub set_oldest : (oldest : List ℕ) (kind now : ℕ) → kind < length oldest
      → ((other : ℕ) → other ≢ kind → is_wanted (Some other) new ≡ is_wanted (Some other) (kind_at places at))
      → AreOldest places oldest → IsOldest (Some kind) (set places at new) now → AreOldest (set places at new) (set oldest kind now)
  set_oldest oldest kind now there same were is = λ other. by other (cases_eq other kind)
    where
      by : (other : ℕ) → (other ≡ kind) ⊎ (other ≡ kind → ⊥) → IsOldest (Some other) (set places at new) (get_or (set oldest kind now) other 0)
      by other (inl e) = rw (get_or-set_at oldest kind other now 0 e there, e) is
      by other (inr apart) = rw (get_or-set_other oldest kind other now 0 apart)
          (oldest_stays (Some other) places (set places at new) (get_or oldest other 0)
          (wanted_same (Some other) (same other apart)) (were other))

-- Another kind is not wanted.
pub apart_kinds : (other kind : ℕ) → other ≢ kind → (kind == other) ≡ false
apart_kinds other kind apart = grind (arith, nat_tests)

-- ---- a place is appended

-- The appended place, which was empty, is filled.
pub set_behind : {A : Type 0} (places : List A) (first new : A) (n : ℕ) → n ≡ length places
    → set (places ++ first ∷ []) n new ≡ places ++ new ∷ []
set_behind [] first new n is = rw is refl
set_behind (place ∷ places) first new n is = rw is (ap (λ more. place ∷ more) (set_behind places first new (length places) refl))

pub same_kind : (kind : ℕ) → (kind == kind) ≡ true
same_kind kind = grind (arith, nat_tests)

some_here : (places : List (Option ℕ)) (at kind : ℕ) → kind_at places at ≡ Some kind → at < length places
some_here [] at kind is = cc
some_here (place ∷ places) zero kind is = omega arith
some_here (place ∷ places) (suc at) kind is = omega (arith, some_here places at kind is)

pub stands_within : (places : List (Option ℕ)) (at : ℕ) → IsSome (kind_at places at) → at < length places
stands_within places at is = by (kind_at places at) refl is
  where
    by : (o : Option ℕ) → kind_at places at ≡ o → IsSome o → at < length places
    by None e bad = absurd (let wrong : false ≡ true = bad in cc)
    by (Some kind) e some = some_here places at kind e

-- ---- a place is appended, or the last ones are removed

-- One more item, or the same items if memory runs out.
pub pushed_items : {T E A : Type 0} (pushed : Result T E) (was now : SmallVec A) (new : A) → OnOk pushed (now.items ≡ was.items ++ new ∷ [])
    → OnErr pushed (now ≡ was) → now.items ≡ cond (is_ok pushed) (was.items ++ new ∷ []) was.items
pushed_items (Ok value) was now new joined same = joined
pushed_items {A = A} (Err error) was now new joined same = ap (λ (v : SmallVec A). v.items) same

stood_grown : (places : List (Option ℕ)) (n : ℕ) → kind_at (places ++ None ∷ []) n ≡ kind_at places n
stood_grown [] zero = refl
stood_grown [] (suc n) = refl
stood_grown (place ∷ places) zero = refl
stood_grown (place ∷ places) (suc n) = stood_grown places n

pub pushed_numbered : (pushed : Bool) (places : List (Option ℕ)) (count : ℕ) → AreNumbered places count
    → AreNumbered (cond pushed (places ++ None ∷ []) places) count
pushed_numbered true places count numbered = λ n kind is. numbered n kind (sym (stood_grown places n) ∙ is)
pushed_numbered false places count numbered = numbered

pub pushed_oldest : (pushed : Bool) (wanted : Option ℕ) (places : List (Option ℕ)) (oldest : ℕ) → IsOldest wanted places oldest
    → IsOldest wanted (cond pushed (places ++ None ∷ []) places) oldest
pushed_oldest true wanted places oldest was =
    oldest_stays wanted places (places ++ None ∷ []) oldest (λ n. ap (is_wanted wanted) (stood_grown places n)) was
pushed_oldest false wanted places oldest was = was

-- A kind without items is added.
pub widened : (pushed : Bool) (places : List (Option ℕ)) (oldest : List ℕ) → AreOldest places oldest
    → AreOldest places (cond pushed (oldest ++ 0 ∷ []) oldest)
widened true places oldest were = λ kind. rw (pad_same oldest kind) (were kind)
widened false places oldest were = were

pub long_enough : (pushed : Bool) (oldest : List ℕ) (count : ℕ) → count ≤ length oldest → count ≤ length (cond pushed (oldest ++ 0 ∷ []) oldest)
long_enough true oldest count fits = omega (arith, fits, length-append oldest (0 ∷ []))
long_enough false oldest count fits = fits

stood_front : (places : List (Option ℕ)) (count n : ℕ) → n < count → kind_at (take count places) n ≡ kind_at places n
stood_front [] zero n below = refl
stood_front [] (suc count) n below = refl
stood_front (place ∷ places) zero n below = absurd (omega (arith, below))
stood_front (place ∷ places) (suc count) zero below = refl
stood_front (place ∷ places) (suc count) (suc n) below = stood_front places count n (omega (arith, below))

stood_gone : (places : List (Option ℕ)) (count n : ℕ) → count ≤ n → kind_at (take count places) n ≡ None
stood_gone [] zero n past = refl
stood_gone [] (suc count) n past = refl
stood_gone (place ∷ places) zero n past = refl
stood_gone (place ∷ places) (suc count) zero past = absurd (omega (arith, past))
stood_gone (place ∷ places) (suc count) (suc n) past = stood_gone places count n (omega (arith, past))

none_wanted : (wanted : Option ℕ) → is_wanted wanted None ≡ false
none_wanted None = refl
none_wanted (Some kind) = refl

pub less_numbered : (places : List (Option ℕ)) (fewer count : ℕ) → AreNumbered places count → AreNumbered (take fewer places) count
less_numbered places fewer count numbered = λ n kind is. by n kind is (cases_lt n fewer)
  where
    by : (n kind : ℕ) → kind_at (take fewer places) n ≡ Some kind → (n < fewer) ⊎ (fewer ≤ n) → kind < count
    by n kind is (inl below) = numbered n kind (sym (stood_front places fewer n below) ∙ is)
    by n kind is (inr past) = absurd (none-some kind (sym (stood_gone places fewer n past) ∙ is))

pub less_oldest : (wanted : Option ℕ) (places : List (Option ℕ)) (fewer oldest : ℕ) → IsOldest wanted places oldest
    → IsOldest wanted (take fewer places) oldest
less_oldest wanted places fewer oldest was = λ n want. by n want (cases_lt n fewer)
  where
    by : (n : ℕ) → is_wanted wanted (kind_at (take fewer places) n) ≡ true → (n < fewer) ⊎ (fewer ≤ n)
        → (oldest ≤ n) × (is_wanted wanted (kind_at (take fewer places) oldest) ≡ true)
    by n want (inl below) =
        let old = was n (ap (is_wanted wanted) (sym (stood_front places fewer n below)) ∙ want) in
        let front = old.0 in
        (old.0, ap (is_wanted wanted) (stood_front places fewer oldest (omega (arith, below, front))) ∙ old.1)
    by n want (inr past) =
        let bad : is_wanted wanted (kind_at (take fewer places) n) ≡ false = ap (is_wanted wanted) (stood_gone places fewer n past) ∙ none_wanted wanted in
        absurd (let wrong : true ≡ false = sym want ∙ bad in cc)
