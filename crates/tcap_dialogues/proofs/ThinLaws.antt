-- Halves in the order of their keys, without those whose keys fail a test.
use Rattle.std.proofs.Common.{◌≡◌, ℕ, Bool, true, false, cond, List, [], ◌∷◌, Some, refl, sym, ap, ◌∙◌}
use Rattle.std.specs.declared.cmp.Ordering.{Ordering}
use Rattle.std.specs.declared.cmp.Ordering.TheVariants.{Less, Equal, Greater}
use Rattle.std.specs.List.{AllByRecursion}
use Rattle.std.specs.List.Sorted.{IsStrictlySortedBy}
use Rattle.std.specs.Map.{keys_of}
use Rattle.std.specs.BTreeMap.{insert_entry}
use Rattle.std.specs.Ordering.{match_ordering}
use Rattle.std.proofs.lemmas.Map.Lookups.{exact_bytes}
use Rattle.tcap_end.specs.declared.half.Slot.{Slot}
use Rattle.tcap_end.specs.Table.{octets_cmp}
use Rattle.tcap_end.specs.Half.{Half, is_closed}
use Rattle.tcap_end.specs.End.{KeyedHalf, all_closed, first_half}
use Rattle.tcap_end.specs.ReachableEnd.{Rises}
use Rattle.tcap_end.proofs.MapLaws.{below_all, found_first, found_later}
use Rattle.tcap_end.proofs.FoundLaws.{half_at, octets_total}

-- the halves whose keys pass
abbrev pub thin : (List ℕ → Bool) → List (List ℕ × Half) → List (List ℕ × Half)
thin test [] = []
thin test (e ∷ es) = cond (test e.0) (e ∷ thin test es) (thin test es)

-- ---- insertions

-- A property of all keys holds for those left.
keys_thin : (P : List ℕ → Type 0) (test : List ℕ → Bool) (es : List (List ℕ × Half)) → AllByRecursion P (keys_of es)
    → AllByRecursion P (keys_of (thin test es))
keys_thin P test [] all = tt
keys_thin P test (e ∷ es) all = by (test e.0) (keys_thin P test es all.1)
  where
    by : (b : Bool) → AllByRecursion P (keys_of (thin test es))
        → AllByRecursion P (keys_of (cond b (e ∷ thin test es) (thin test es)))
    by true rest = (all.0, rest)
    by false rest = rest

-- A key below all others is inserted first.
insert_below : (es : List (List ℕ × Half)) (k : List ℕ) (v : Half) → AllByRecursion (λ y. octets_cmp k y ≡ Less) (keys_of es)
    → insert_entry octets_cmp es k v ≡ (k, v) ∷ es
insert_below [] k v all = refl
insert_below (e ∷ es) k v all =
    ap (λ r. match_ordering r ((k, v) ∷ e ∷ es) ((e.0, v) ∷ es) (e ∷ insert_entry octets_cmp es k v)) all.0

-- A key that passes is inserted among those left.
pub thin_in : (test : List ℕ → Bool) (es : List (List ℕ × Half)) (k : List ℕ) (v : Half) → Rises octets_cmp es → test k ≡ true
    → thin test (insert_entry octets_cmp es k v) ≡ insert_entry octets_cmp (thin test es) k v
unfolding IsStrictlySortedBy
thin_in test [] k v rises passes = rw passes refl
thin_in test (e ∷ es) k v rises passes = by (octets_cmp k e.0) refl (test e.0) refl (thin_in test es k v rises.1 passes)
  where
    by : (r : Ordering) → octets_cmp k e.0 ≡ r → (b : Bool) → test e.0 ≡ b
        → thin test (insert_entry octets_cmp es k v) ≡ insert_entry octets_cmp (thin test es) k v
        → thin test (match_ordering r ((k, v) ∷ e ∷ es) ((e.0, v) ∷ es) (e ∷ insert_entry octets_cmp es k v))
        ≡ insert_entry octets_cmp (cond b (e ∷ thin test es) (thin test es)) k v
    by Less is true so rest = rw (passes, so, is) refl
    by Less is false so rest =
        rw (passes, so)
        (sym (insert_below (thin test es) k v (keys_thin _ test es (below_all octets_total k e.0 (keys_of es) is rises.0))))
    by Equal is true so rest = rw (so, is) refl
    by Equal is false so rest = let same : true ≡ false = sym passes ∙ ap test (exact_bytes k e.0 is) ∙ so in cc
    by Greater is true so rest = rw (so, is) (ap (λ more. e ∷ more) rest)
    by Greater is false so rest = rw so rest

-- A key that fails is not.
pub thin_out : (test : List ℕ → Bool) (es : List (List ℕ × Half)) (k : List ℕ) (v : Half) → test k ≡ false
    → thin test (insert_entry octets_cmp es k v) ≡ thin test es
thin_out test [] k v fails = rw fails refl
thin_out test (e ∷ es) k v fails = by (octets_cmp k e.0) refl (thin_out test es k v fails)
  where
    by : (r : Ordering) → octets_cmp k e.0 ≡ r → thin test (insert_entry octets_cmp es k v) ≡ thin test es
        → thin test (match_ordering r ((k, v) ∷ e ∷ es) ((e.0, v) ∷ es) (e ∷ insert_entry octets_cmp es k v)) ≡ thin test (e ∷ es)
    by Less is rest = rw fails refl
    by Equal is rest = let out : test e.0 ≡ false = sym (ap test (exact_bytes k e.0 is)) ∙ fails in rw out refl
    by Greater is rest = ap (λ more. cond (test e.0) (e ∷ more) more) rest

-- ---- halves that are found

-- A property of each half kept holds for all.
pub all_kept : (P : List ℕ × Half → Type 0) (es : List (List ℕ × Half)) → Rises octets_cmp es
    → ((key : List ℕ) (half : Half) → half_at es key ≡ Some half → P (key, half)) → AllByRecursion P es
unfolding IsStrictlySortedBy
all_kept P [] rises all = tt
all_kept P (e ∷ es) rises all = (
  all e.0 e.1 (found_first octets_total e es),
  all_kept P es rises.1 (λ key half at. all key half (found_later octets_total e es key half rises at)),
)

-- If the keys of all halves that pass are left, the first that passes is.
pub first_thin : (passes : Half → Bool) (test : List ℕ → Bool) (slot : Slot) (es : List (List ℕ × Half))
    → AllByRecursion (λ e. passes e.1 ≡ true → test e.0 ≡ true) es
    → first_half passes slot (thin test es) ≡ first_half passes slot es
first_thin passes test slot [] all = refl
first_thin passes test slot (e ∷ es) all = by (passes e.1) refl (test e.0) refl (first_thin passes test slot es all.1)
  where
    first : KeyedHalf
    first = record { slot = slot; key = e.0; half = e.1 }

    by : (p : Bool) → passes e.1 ≡ p → (b : Bool) → test e.0 ≡ b
        → first_half passes slot (thin test es) ≡ first_half passes slot es
        → first_half passes slot (cond b (e ∷ thin test es) (thin test es)) ≡ cond p (Some first) (first_half passes slot es)
    by true is true so rest = rw is refl
    by true is false so rest = let bad : true ≡ false = sym (all.0 is) ∙ so in cc
    by false is true so rest = rw is rest
    by false is false so rest = rest

-- If all halves are closed, those left are.
pub closed_thin : (test : List ℕ → Bool) (es : List (List ℕ × Half)) → all_closed es ≡ true → all_closed (thin test es) ≡ true
closed_thin test [] all = refl
closed_thin test (e ∷ es) all = by (is_closed e.1.phase) (test e.0) refl all (closed_thin test es)
  where
    by : (c b : Bool) → is_closed e.1.phase ≡ c → cond c (all_closed es) false ≡ true → (all_closed es ≡ true → all_closed (thin test es) ≡ true)
        → all_closed (cond b (e ∷ thin test es) (thin test es)) ≡ true
    by true true is all rest = rw is (rest all)
    by true false is all rest = rest all
    by false b is all rest = cc
