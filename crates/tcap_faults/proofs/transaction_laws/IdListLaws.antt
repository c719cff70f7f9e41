-- A list of kept IDs after one more ID.
use Rattle.std.proofs.Common.{◌≡◌, ◌⊎◌, inl, inr, ℕ, ◌+◌, ◌-◌, ◌≤◌, ◌<◌, Bool, true, false, cond, ◌||◌, not, List, [], ◌∷◌, ◌++◌, length, drop, get_or, Option, Some, None, bytes_eq, refl, sym, ap, ◌∙◌, arith}
use Rattle.std.specs.Prelude.{Contains, slice_get}
use Rattle.std.specs.Option.{option_or}
use Rattle.std.specs.List.{find}
use Rattle.std.proofs.lemmas.List.Folds.{find-append}
use Rattle.std.proofs.lemmas.List.{at_drop_all, at_drop_more}
use Rattle.std.proofs.lemmas.List.Elements.{Contains-append_left, Contains-append_right, Contains-push, Contains-push_cases}
use Rattle.std.proofs.lemmas.Option.{get_or_from_slice_get, slice_get_within}
use Rattle.std.proofs.lemmas.Slice.Eq.{bytes_eq-Decides}
use Rattle.tcap_faults.specs.Counts.{is_nothing}
use Rattle.tcap_faults.proofs.list_laws.FindLaws.{find_none}
use Rattle.tcap_faults.specs.declared.transaction.id_list.Ids.{Ids}
use Rattle.tcap_faults.specs.IdList.{AreIds, ids_first, ids_kept}
use Rattle.tcap_faults.specs.TangledIds.{two_differ}
use Rattle.tcap_faults.proofs.list_laws.OneMoreLaws.{any_more, something}

-- ---- the last kept ID

pub record IsLast (first : List ℕ) (more : List (List ℕ)) (last : List ℕ) : Type 0 where
  pub among : Contains (first ∷ more) last
  pub only : is_nothing more ≡ true → last ≡ first

pub last_is_first : (first : List ℕ) (more : List (List ℕ)) → IsLast first more first
last_is_first first more = record { among = (0, omega arith, refl); only = λ none. refl }

pub last_of_more : (first : List ℕ) (more : List (List ℕ)) (last : List ℕ)
    → slice_get more (length more - 1) ≡ Some last → IsLast first more last
last_of_more first [] last is = cc
last_of_more first (id ∷ more) last is = record {
  among = Contains-append_right (first ∷ []) (id ∷ more) last (
    length (id ∷ more) - 1,
    slice_get_within (id ∷ more) _ last is,
    get_or_from_slice_get (id ∷ more) _ last last is,
  );
  only = λ none. cc;
}

-- ---- one more ID

-- An ID that is already there is not the first that passes.
found_again : (p : List ℕ → Bool) (ids : List (List ℕ)) (id : List ℕ) → Contains ids id
    → find p (ids ++ id ∷ []) ≡ find p ids
found_again p ids id has = find-append p ids (id ∷ []) ∙ by (find p ids) (p id) refl refl
  where
    by : (o : Option (List ℕ)) (b : Bool) → find p ids ≡ o → p id ≡ b → option_or o (cond b (Some id) None) ≡ o
    by (Some x) b is passes = refl
    by None true is passes = find_none p ids id is has passes
    by None false is passes = refl

same_octets : (a b : List ℕ) → not (bytes_eq a b) ≡ false → a ≡ b
same_octets a b is = by (bytes_eq a b) refl is
  where
    by : (c : Bool) → bytes_eq a b ≡ c → not c ≡ false → a ≡ b
    by true same _ = (bytes_eq-Decides a b).0 same
    by false apart bad = cc

module _ (id : List ℕ) (ids : List (List ℕ)) (old : Ids) (was : AreIds ids old) (first last : List ℕ)
    (is : old.first ≡ Some first) (at_last : IsLast first old.more.items last) where
  first_stays : old.first ≡ ids_first (ids ++ id ∷ [])
  first_stays = was.first ∙ by ids (sym is ∙ was.first)
    where
      by : (ids : List (List ℕ)) → Some first ≡ ids_first ids → ids_first ids ≡ ids_first (ids ++ id ∷ [])
      by ids is = grind (arith, is)

  differ_more : two_differ (ids ++ id ∷ []) ≡ (two_differ ids || not (bytes_eq first id))
  differ_more = by ids (sym is ∙ was.first)
    where
      by : (ids : List (List ℕ)) → Some first ≡ ids_first ids
          → two_differ (ids ++ id ∷ []) ≡ (two_differ ids || not (bytes_eq first id))
      by [] is = cc
      by (x ∷ ids) is =
          let same : first ≡ x = cc in
          rw same (any_more (λ other. not (bytes_eq x other)) ids id)

  -- The ID repeats the last one.
  pub ids_again : not (bytes_eq last id) ≡ false → AreIds (ids ++ id ∷ []) old
  ids_again again = record {
    first = first_stays;
    there = λ x has. there x (Contains-push_cases ids id x has);
    back = λ x has. Contains-append_left ids (id ∷ []) x (was.back x has);
    found = λ p. was.found p ∙ sym (found_again p ids id (rw same at (was.back last (rw is at_last.among))));
    several = rw (differ_more, ← was.several) (several old.more.items at_last.only);
  }
    where
      same : last ≡ id
      same = same_octets last id again

      there : (x : List ℕ) → Contains ids x ⊎ (id ≡ x) → Contains (ids_kept old.first old.more.items) x
      there x (inl has) = was.there x has
      there x (inr one) = rw (is, ← one, ← same) at_last.among

      several : (more : List (List ℕ)) → (is_nothing more ≡ true → last ≡ first)
          → not (is_nothing more) ≡ (not (is_nothing more) || not (bytes_eq first id))
      several [] only = rw (← only refl, again) refl
      several (x ∷ more) only = refl

  -- The ID differs from the last one.
  pub ids_other : (new : Ids) → not (bytes_eq last id) ≡ true → new.first ≡ old.first
      → new.more.items ≡ old.more.items ++ id ∷ [] → AreIds (ids ++ id ∷ []) new
  ids_other new differs stays grows = record {
    first = stays ∙ first_stays;
    there = λ x has. rw (stays, grows, is) (there x (Contains-push_cases ids id x has));
    back = λ x has. back x (Contains-push_cases (first ∷ old.more.items) id x (rw (stays, grows, is) at has));
    found = λ p. rw (stays, grows, is)
        (find-append p (first ∷ old.more.items) (id ∷ [])
        ∙ ap (λ o. option_or o (find p (id ∷ []))) (rw is at was.found p)
        ∙ sym (find-append p ids (id ∷ [])));
    several = rw (grows, something old.more.items id, differ_more, ← was.several)
        (several old.more.items at_last.only);
  }
    where
      there : (x : List ℕ) → Contains ids x ⊎ (id ≡ x) → Contains (first ∷ old.more.items ++ id ∷ []) x
      there x (inl has) =
          Contains-append_left (first ∷ old.more.items) (id ∷ []) x (rw is at (was.there x has))
      there x (inr one) = rw (← one) (Contains-push (first ∷ old.more.items) id)

      back : (x : List ℕ) → Contains (first ∷ old.more.items) x ⊎ (id ≡ x) → Contains (ids ++ id ∷ []) x
      back x (inl has) = Contains-append_left ids (id ∷ []) x (was.back x (rw is has))
      back x (inr one) = rw (← one) (Contains-push ids id)

      several : (more : List (List ℕ)) → (is_nothing more ≡ true → last ≡ first)
          → true ≡ (not (is_nothing more) || not (bytes_eq first id))
      several [] only = rw (← only refl, differs) refl
      several (x ∷ more) only = refl

-- ---- the first ID that passes

module _ (p : List ℕ → Bool) (xs : List (List ℕ)) (i : ℕ) where
  -- The first that passes is the next one, or the first of those after it.
  left_is : (x : List ℕ) → i < length xs → x ≡ get_or xs i x
      → find p (drop i xs) ≡ cond (p x) (Some x) (find p (drop (i + 1) xs))
  left_is x within at =
      at_drop_more (find p) xs i x within ∙ ap (λ y. cond (p y) (Some y) (find p (drop (i + 1) xs))) (sym at)

  pub left_here : (x : List ℕ) → i < length xs → x ≡ get_or xs i x → p x ≡ true → find p (drop i xs) ≡ Some x
  left_here x within at passes = left_is x within at ∙ rw passes refl

  pub left_on : (x : List ℕ) → i < length xs → x ≡ get_or xs i x → p x ≡ false
      → find p (drop i xs) ≡ find p (drop (i + 1) xs)
  left_on x within at passes = left_is x within at ∙ rw passes refl

  -- At the end, nothing is left.
  pub left_nothing : length xs ≤ i → find p (drop i xs) ≡ None
  left_nothing long = at_drop_all (find p) xs i long

module _ (p : List ℕ → Bool) (ids : List (List ℕ)) (kept : Ids) (are : AreIds ids kept) where
  -- If no ID is kept, none passes.
  pub found_nothing : None ≡ kept.first → None ≡ find p ids
  found_nothing none = ap (λ o. find p (ids_kept o kept.more.items)) none ∙ are.found p

  module _ (first : List ℕ) (is : kept.first ≡ Some first) where
    with_first : find p (first ∷ kept.more.items) ≡ find p ids
    with_first = ap (λ o. find p (ids_kept o kept.more.items)) (sym is) ∙ are.found p

    -- Otherwise the first that passes is the first kept ID, or one after it.
    pub found_first : p first ≡ true → Some first ≡ find p ids
    found_first passes = sym (ap (λ b. cond b (Some first) (find p kept.more.items)) passes) ∙ with_first

    pub found_later : p first ≡ false → find p kept.more.items ≡ find p ids
    found_later passes = sym (ap (λ b. cond b (Some first) (find p kept.more.items)) passes) ∙ with_first
