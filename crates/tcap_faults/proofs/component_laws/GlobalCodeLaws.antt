-- Counts and lists of global codes, by their octets, after one more code.
use Rattle.std.proofs.Common.{◌≡◌, ℕ, ℤ, Bool, true, false, cond, List, [], ◌∷◌, ◌++◌, Option, Some, None, is_some, Result, Ok, Err, OnOk, OnErr, Ordering, Less, Equal, Greater, nat_cmp, refl, sym, ap, ◌∙◌, arith}
use Rattle.std.specs.BTreeMap.{insert_entry, is_at}
use Rattle.std.specs.Cmp.Lexicographic.{slice_cmp}
use Rattle.std.specs.Global.{Vec}
use Rattle.std.specs.List.{list_any}
use Rattle.std.specs.Map.{lookup, set_value}
use Rattle.std.specs.Ordering.{is_eq, match_ordering}
use Rattle.std.proofs.lemmas.Bool.{or_left, or_right}
use Rattle.std.proofs.lemmas.Cmp.{tied_itself}
use Rattle.std.proofs.lemmas.List.Folds.{list_any-append}
use Rattle.std.proofs.lemmas.Map.Lookups.{exact_bytes}
use Rattle.std.proofs.lemmas.Map.Views.{tells_apart}
use Rattle.tcap_parts.specs.declared.code.Code.{Code}
use Rattle.tcap_parts.specs.declared.code.Code.TheVariants.{Local, Global}
use Rattle.tcap_end.specs.Component.{is_code}
use Rattle.tcap_end.proofs.FoundLaws.{octets_total}
use Rattle.tcap_faults.specs.CountedCodes.{AreListed, counted}
use Rattle.tcap_faults.specs.InvokeCounts.{more_if, sum}
use Rattle.tcap_faults.specs.TallyMeaning.{or_zero}

-- Whether both lists of octets are equal.
abbrev same : List ℕ → List ℕ → Bool
same octets others = is_at (slice_cmp nat_cmp octets) others

-- Whether a key has these octets.
abbrev pub at : List ℕ → Vec ℕ → Bool
at octets key = same octets key.items

itself : (octets : List ℕ) → same octets octets ≡ true
itself octets = ap is_eq (tied_itself octets_total octets)

one : (octets others : List ℕ) → same octets others ≡ true → octets ≡ others
one octets others is = tells_apart exact_bytes octets others is

-- ---- look-ups

-- The count changed at these octets alone.
abbrev pub IsPut : List ℕ → ℕ → List (Vec ℕ × ℕ) → List (Vec ℕ × ℕ) → Type 0
IsPut octets n old new = (q : List ℕ) → lookup (at q) new ≡ cond (same q octets) (Some n) (lookup (at q) old)

swapped : {A : Type 0} (a b : Bool) (x y : A) (rest : Option A) → (a ≡ true → b ≡ true → ⊥)
    → cond a (Some x) (cond b (Some y) rest) ≡ cond b (Some y) (cond a (Some x) rest)
swapped a b x y rest not_both = grind (arith, not_both)

pub is_set : (octets : List ℕ) (n : ℕ) (es : List (Vec ℕ × ℕ)) → is_some (lookup (at octets) es) ≡ true
    → IsPut octets n es (set_value (at octets) es n)
is_set octets n [] there q = cc
is_set octets n (e ∷ es) there q = by (at octets e.0) refl (λ left. is_set octets n es left q)
  where
    by : (b : Bool) → at octets e.0 ≡ b
        → (is_some (lookup (at octets) es) ≡ true
        → lookup (at q) (set_value (at octets) es n) ≡ cond (same q octets) (Some n) (lookup (at q) es))
        → lookup (at q) (cond b ((e.0, n) ∷ es) (e ∷ set_value (at octets) es n))
        ≡ cond (same q octets) (Some n) (lookup (at q) (e ∷ es))
    by true is rest = rw (← one octets e.0.items is) (within (same q octets))
      where
        within : (b : Bool) → cond b (Some n) (lookup (at q) es)
            ≡ cond b (Some n) (cond b (Some e.1) (lookup (at q) es))
        within true = refl
        within false = refl
    by false is rest =
        let left : is_some (lookup (at octets) es) ≡ true = rw is at there in
        ap (λ o. cond (at q e.0) (Some e.1) o) (rest left)
        ∙ swapped (at q e.0) (same q octets) e.1 n (lookup (at q) es)
        (λ here same. let f : q ≡ octets = one q octets same in let g : at octets e.0 ≡ true = rw (← f) here in cc)

pub is_inserted : (key : Vec ℕ) (n : ℕ) (es : List (Vec ℕ × ℕ)) → None ≡ lookup (at key.items) es
    → IsPut key.items n es (insert_entry (λ a b. slice_cmp nat_cmp a.items b.items) es key n)
is_inserted key n [] none q = refl
is_inserted key n (e ∷ es) none q =
    by (slice_cmp nat_cmp key.items e.0.items) refl (λ left. is_inserted key n es left q)
  where
    by : (r : Ordering) → slice_cmp nat_cmp key.items e.0.items ≡ r
        → (None ≡ lookup (at key.items) es
        → lookup (at q) (insert_entry (λ a b. slice_cmp nat_cmp a.items b.items) es key n)
        ≡ cond (same q key.items) (Some n) (lookup (at q) es))
        → lookup (at q) (match_ordering r ((key, n) ∷ e ∷ es) ((e.0, n) ∷ es)
        (e ∷ insert_entry (λ a b. slice_cmp nat_cmp a.items b.items) es key n))
        ≡ cond (same q key.items) (Some n) (lookup (at q) (e ∷ es))
    by Less is rest = refl
    by Equal is rest = let here : None ≡ Some e.1 = rw is at none in cc
    by Greater is rest =
        let left : None ≡ lookup (at key.items) es = rw is at none in
        ap (λ o. cond (at q e.0) (Some e.1) o) (rest left)
        ∙ swapped (at q e.0) (same q key.items) e.1 n (lookup (at q) es)
        (λ here same.
        let f : q ≡ key.items = one q key.items same in
        let g : at key.items e.0 ≡ true = rw (← f) here in
        let h : is_eq (slice_cmp nat_cmp key.items e.0.items) ≡ false = rw is refl in cc)

-- ---- counts and lists

module _ (octets : List ℕ) (locals : List (ℤ × ℕ)) (old new : List (Vec ℕ × ℕ)) (n : ℕ)
    (put : IsPut octets n old new) where
  pub counts_one_more : n ≡ sum (or_zero (lookup (at octets) old)) 1 → (code : Code)
      → or_zero (counted locals new code)
      ≡ more_if (is_code code (Global octets)) (or_zero (counted locals old code))
  counts_one_more more (Local m) = refl
  counts_one_more more (Global q) = ap or_zero (put q) ∙ by (same q octets) refl
    where
      by : (b : Bool) → same q octets ≡ b
          → or_zero (cond b (Some n) (lookup (at q) old)) ≡ more_if b (or_zero (lookup (at q) old))
      by true is = let e : q ≡ octets = one q octets is in rw e more
      by false is = refl

  -- Each counted code is listed, and so is the new one.
  pub lists_one_more : (codes : List Code) → ((code : Code) → is_some (counted locals old code) ≡ true
      → list_any (is_code code) codes ≡ true) → list_any (is_code (Global octets)) codes ≡ true
      → AreListed locals new codes
  lists_one_more codes listed here (Local m) there = listed (Local m) there
  lists_one_more codes listed here (Global q) there = by (same q octets) refl
    where
      by : (b : Bool) → same q octets ≡ b → list_any (is_code (Global q)) codes ≡ true
      by true is = let e : q ≡ octets = one q octets is in rw e here
      by false is =
          listed (Global q) (sym (ap is_some (put q ∙ ap (λ b. cond b (Some n) (lookup (at q) old)) is)) ∙ there)

-- With one more listed code, all counted codes are still listed.
pub listed_before : (locals : List (ℤ × ℕ)) (globals : List (Vec ℕ × ℕ)) (codes : List Code) (code : Code)
    → AreListed locals globals codes → AreListed locals globals (codes ++ code ∷ [])
listed_before locals globals codes code listed other there =
    list_any-append (is_code other) codes (code ∷ []) ∙ or_left _ _ (listed other there)

pub listed_last : (codes : List Code) (octets : List ℕ)
    → list_any (is_code (Global octets)) (codes ++ Global octets ∷ []) ≡ true
listed_last codes octets =
    list_any-append (is_code (Global octets)) codes (Global octets ∷ [])
    ∙ or_right _ _ (or_left _ _ (itself octets))

-- After an insertion of a new key, which may have failed.
module _ (locals : List (ℤ × ℕ)) (old new : List (Vec ℕ × ℕ)) (key : Vec ℕ) (octets : List ℕ) (n : ℕ)
    (its : key.items ≡ octets) (none : None ≡ lookup (at octets) old) where
  pub inserted : new ≡ insert_entry (λ a b. slice_cmp nat_cmp a.items b.items) old key n → IsPut octets n old new
  inserted puts = rw (puts, ← its) (is_inserted key n old (rw (← its) at none))

  pub listed_inserted : {A E : Type 0} (r : Result A E) (codes pushed : List Code)
      → pushed ≡ codes ++ Global octets ∷ []
      → OnOk r (new ≡ insert_entry (λ a b. slice_cmp nat_cmp a.items b.items) old key n) → OnErr r (new ≡ old)
      → AreListed locals old codes → AreListed locals new pushed
  listed_inserted (Ok x) codes pushed more puts kept listed = rw more
      (lists_one_more octets locals old new n (inserted puts) (codes ++ Global octets ∷ [])
      (listed_before locals old codes (Global octets) listed) (listed_last codes octets))
  listed_inserted (Err e) codes pushed more puts kept listed =
      rw (more, kept) (listed_before locals old codes (Global octets) listed)
