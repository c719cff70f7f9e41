-- Lists of transaction IDs with the same members, and whether two of the IDs differ.
use Rattle.std.proofs.Common.{◌≡◌, ◌⊎◌, inl, inr, ℕ, Bool, true, false, not, List, [], ◌∷◌, ◌++◌, Option, Some, None, bytes_eq, refl, sym, ap, ◌∙◌, arith}
use Rattle.std.specs.Prelude.{Contains}
use Rattle.std.specs.List.{list_any}
use Rattle.std.proofs.lemmas.Bool.{both_ways, true_from_ne_false}
use Rattle.std.proofs.lemmas.List.{append-nil}
use Rattle.std.proofs.lemmas.List.Elements.{Contains-append_cases, Contains-append_left, Contains-append_right}
use Rattle.std.proofs.lemmas.Slice.Eq.{bytes_eq-Decides}
use Rattle.tcap_refute.proofs.Members.{any_has, has_first, has_later, has_not}
use Rattle.tcap_faults.specs.declared.transaction.id_list.Ids.{Ids}
use Rattle.tcap_faults.specs.IdList.{AreAmong, AreIds, AreSame, IsOneOf, ids_first}
use Rattle.tcap_faults.specs.TangledIds.{two_differ}
use Rattle.tcap_faults.proofs.transaction_laws.TangledLaws.{all_same}
use Rattle.tcap_faults.proofs.list_laws.TwoTests.{none_passes}

-- ---- whether two differ

-- All IDs are equal.
abbrev pub AreOne : List (List ℕ) → Type 0
AreOne ids = (x y : List ℕ) → Contains ids x → Contains ids y → x ≡ y

-- If all IDs are equal, no two differ.
pub none_differ : (ids : List (List ℕ)) → AreOne ids → two_differ ids ≡ false
none_differ [] one = refl
none_differ (id ∷ more) one = none_passes _ more same
  where
    same : (other : List ℕ) → Contains more other → not (bytes_eq id other) ≡ false
    same other has =
        ap not ((bytes_eq-Decides id other).1 (one id other (has_first id more) (has_later id more other has)))

-- If not all IDs are equal, two differ.
pub some_differ : (ids : List (List ℕ)) → (AreOne ids → ⊥) → two_differ ids ≡ true
some_differ ids apart = true_from_ne_false _ (λ none. apart (λ x y. all_same ids x y none))

-- Whether two IDs differ depends on the members alone.
pub differ_so : (xs ys : List (List ℕ)) → ((id : List ℕ) → Contains xs id → Contains ys id)
    → two_differ ys ≡ false → two_differ xs ≡ false
differ_so xs ys there none =
    none_differ xs (λ x y has_x has_y. all_same ys x y none (there x has_x) (there y has_y))

pub differ_same : (xs ys : List (List ℕ)) → AreSame xs ys → two_differ xs ≡ two_differ ys
differ_same xs ys same = by (two_differ xs) refl (two_differ ys) refl
  where
    by : (a : Bool) → two_differ xs ≡ a → (b : Bool) → two_differ ys ≡ b → a ≡ b
    by true is_x true is_y = refl
    by false is_x false is_y = refl
    by true is_x false is_y = sym is_x ∙ differ_so xs ys same.there is_y
    by false is_x true is_y = sym (differ_so ys xs same.back is_x) ∙ is_y

-- If all IDs are equal, what holds for one holds for all.
pub any_one : (p : List ℕ → Bool) (ids : List (List ℕ)) (x : List ℕ) → Contains ids x → two_differ ids ≡ false
    → list_any p ids ≡ p x
any_one p ids x has none = by (p x) refl
  where
    by : (b : Bool) → p x ≡ b → list_any p ids ≡ b
    by true so = any_has p ids x has so
    by false so = none_passes p ids (λ y has_y. ap p (all_same ids y x none has_y has) ∙ so)

-- ---- what is kept of a list

-- A list without members is empty.
pub none_same : (ids : List (List ℕ)) → AreSame [] ids → ids ≡ []
none_same [] same = refl
none_same (id ∷ more) same = has_not id (same.back id (has_first id more))

-- The first ID is a member.
pub first_has : (ids : List (List ℕ)) (x : List ℕ) → ids_first ids ≡ Some x → Contains ids x
first_has [] x first = cc
first_has (id ∷ more) x first = let same : id ≡ x = cc in rw (← same) (has_first id more)

pub first_none : (ids : List (List ℕ)) → ids_first ids ≡ None → ids ≡ []
first_none ids first = grind (arith, first)

-- What is kept of a list has the same members.
pub among_these : (ids : List (List ℕ)) (kept : Ids) → AreIds ids kept → AreAmong ids (Some kept)
among_these ids kept are = (ids, are, record { there = λ id has. has; back = λ id has. has })

module _ {ids : List (List ℕ)} {kept : Ids} where
  -- Whether two IDs differ is the same for every list that is kept so.
  pub among_differ : (b : Bool) → ((those : List (List ℕ)) → AreIds those kept → b ≡ two_differ those)
      → AreAmong ids (Some kept) → b ≡ two_differ ids
  among_differ b says (those, are, same) = says those are ∙ differ_same those ids same

  -- The first kept ID is a member of the list.
  pub among_one : (o : Option (List ℕ)) → ((those : List (List ℕ)) → AreIds those kept → o ≡ ids_first those)
      → AreAmong ids (Some kept) → IsOneOf ids o
  among_one None says (those, are, same) = none_same ids (rw (first_none those (sym (says those are))) at same)
  among_one (Some x) says (those, are, same) = same.there x (first_has those x (sym (says those are)))

-- ---- two joined lists

module _ (xs ys : List (List ℕ)) where
  -- If two IDs of one list differ, two of the joined list differ.
  pub left_differ : two_differ xs ≡ true → two_differ (xs ++ ys) ≡ true
  left_differ some =
      true_from_ne_false _
      (λ none. both_ways _ (differ_so xs (xs ++ ys) (Contains-append_left xs ys) none) some)

  pub right_differ : two_differ ys ≡ true → two_differ (xs ++ ys) ≡ true
  right_differ some =
      true_from_ne_false _
      (λ none. both_ways _ (differ_so ys (xs ++ ys) (Contains-append_right xs ys) none) some)

  -- Otherwise two of the joined list differ exactly if an ID of one differs from an ID of the other.
  pub both_differ : two_differ xs ≡ false → two_differ ys ≡ false → (x y : List ℕ) → Contains xs x → Contains ys y
      → not (bytes_eq x y) ≡ two_differ (xs ++ ys)
  both_differ none_x none_y x y has_x has_y = by (bytes_eq x y) refl
    where
      is_x : x ≡ y → (z : List ℕ) → Contains (xs ++ ys) z → z ≡ x
      is_x same z has = of (Contains-append_cases xs ys z has)
        where
          of : Contains xs z ⊎ Contains ys z → z ≡ x
          of (inl in_x) = all_same xs z x none_x in_x has_x
          of (inr in_y) = all_same ys z y none_y in_y has_y ∙ sym same

      by : (b : Bool) → bytes_eq x y ≡ b → not b ≡ two_differ (xs ++ ys)
      by true equal =
          let same : x ≡ y = (bytes_eq-Decides x y).0 equal in
          sym (none_differ (xs ++ ys) (λ z w has_z has_w. is_x same z has_z ∙ sym (is_x same w has_w)))
      by false apart =
          sym (some_differ (xs ++ ys) (λ one.
          both_ways _ apart ((bytes_eq-Decides x y).1
          (one x y (Contains-append_left xs ys x has_x) (Contains-append_right xs ys y has_y)))))

  -- If one list is empty, the other decides.
  pub left_none : xs ≡ [] → two_differ ys ≡ two_differ (xs ++ ys)
  left_none none = rw none refl

  pub right_none : ys ≡ [] → two_differ xs ≡ two_differ (xs ++ ys)
  right_none none = rw (none, append-nil xs) refl
