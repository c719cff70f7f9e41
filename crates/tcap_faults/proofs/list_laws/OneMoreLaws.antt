-- Lists with one more element at the end.
use Rattle.std.proofs.Common.{◌≡◌, ◌⊎◌, inl, inr, ℕ, ◌≤◌, ◌^◌, Bool, true, false, cond, ◌||◌, List, [], ◌∷◌, ◌++◌, length, Option, Some, None, refl, sym, ap, ◌∙◌, arith}
use Rattle.std.specs.Prelude.{filter, filter_map}
use Rattle.std.specs.List.{list_any}
use Rattle.std.proofs.lemmas.List.{append-nil, length-append}
use Rattle.std.proofs.lemmas.List.Elements.{filter-append, filter_map-append}
use Rattle.std.proofs.lemmas.List.Folds.{list_any-append}
use Rattle.std.proofs.lemmas.Grind.{flat_map-append}
use Rattle.tcap_msg.specs.declared.message.Message.{Message}
use Rattle.tcap_msg.specs.Parts.{components_in}
use Rattle.tcap_refute.specs.EarlierMessages.{components_of}
use Rattle.tcap_refute.proofs.TestLaws.{or_none}
use Rattle.tcap_faults.specs.Counts.{count, is_nothing}
use Rattle.tcap_faults.specs.InvokeCounts.{more_if}
use Rattle.tcap_faults.proofs.component_laws.SumLaws.{count_one_more}

module _ {A : Type 0} where
  pub something : (xs : List A) (x : A) → is_nothing (xs ++ x ∷ []) ≡ false
  something [] x = refl
  something (y ∷ xs) x = refl

  module _ (p : A → Bool) where
    pub filter_more : (xs : List A) (x : A) → filter p (xs ++ x ∷ []) ≡ filter p xs ++ cond (p x) (x ∷ []) []
    filter_more xs x = filter-append p xs (x ∷ [])

    pub any_more : (xs : List A) (x : A) → list_any p (xs ++ x ∷ []) ≡ (list_any p xs || p x)
    any_more xs x = list_any-append p xs (x ∷ []) ∙ ap (λ b. list_any p xs || b) (sym (or_none (p x)))

    -- A count that is exact for few elements stays exact.
    pub count_kept : (xs : List A) (x : A) (n more : ℕ) → (length xs ≤ 2 ^ 126 → n ≡ count p xs)
        → more ≡ more_if (p x) n → length (xs ++ x ∷ []) ≤ 2 ^ 126 → more ≡ count p (xs ++ x ∷ [])
    count_kept xs x n more was is few =
        is ∙ ap (more_if (p x)) (was (omega (arith, length-append xs (x ∷ []), few))) ∙ count_one_more p xs x few

-- ---- IDs of messages

-- An element that passes and has an ID adds this ID.
module _ {A : Type 0} (p : A → Bool) (id_in : A → Option (List ℕ)) (xs : List A) (x : A) where
  pub ids_more : (id : List ℕ) → p x ≡ true → id_in x ≡ Some id
      → filter_map id_in (filter p (xs ++ x ∷ [])) ≡ filter_map id_in (filter p xs) ++ id ∷ []
  ids_more id passes has =
      ap (filter_map id_in) (filter_more p xs x ∙ rw passes refl) ∙ filter_map-append id_in (filter p xs) (x ∷ [])
      ∙ rw has refl

  -- An element that does not pass, or has no ID, adds none.
  pub ids_same : (p x ≡ false) ⊎ (id_in x ≡ None)
      → filter_map id_in (filter p (xs ++ x ∷ [])) ≡ filter_map id_in (filter p xs)
  ids_same why =
      ap (filter_map id_in) (filter_more p xs x) ∙ filter_map-append id_in (filter p xs) (cond (p x) (x ∷ []) [])
      ∙ ap (λ more. filter_map id_in (filter p xs) ++ more) (by (p x) (id_in x) refl why)
      ∙ append-nil (filter_map id_in (filter p xs))
    where
      by : (b : Bool) (o : Option (List ℕ)) → id_in x ≡ o → (b ≡ false) ⊎ (o ≡ None)
          → filter_map id_in (cond b (x ∷ []) []) ≡ []
      by false o is why = refl
      by true o is (inl bad) = cc
      by true None is (inr none) = rw is refl
      by true (Some id) is (inr bad) = cc

-- ---- components of messages

pub components_more : (ms : List Message) (m : Message)
    → components_of (ms ++ m ∷ []) ≡ components_of ms ++ components_in m
components_more ms m =
    flat_map-append components_in ms (m ∷ []) ∙ ap (λ cs. components_of ms ++ cs) (append-nil (components_in m))
