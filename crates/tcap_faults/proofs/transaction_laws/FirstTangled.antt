-- There is a first tangled ID exactly if a message goes over tangled IDs, and it is found from what is kept.
use Rattle.std.proofs.Common.{◌≡◌, ◌⊎◌, inl, inr, ℕ, Bool, true, false, cond, ◌||◌, List, [], ◌∷◌, ◌++◌, Option, Some, None, is_some, refl, sym, ap, ap₂, ◌∙◌, arith}
use Rattle.std.specs.Option.{option_or}
use Rattle.std.proofs.lemmas.Bool.Decides.{nat_tests}
use Rattle.std.specs.Prelude.{Contains, ◌&&◌, nat_le}
use Rattle.std.specs.List.{flat_map, list_any}
use Rattle.std.proofs.lemmas.Bool.{or_parts}
use Rattle.std.proofs.lemmas.Grind.{flat_map-append}
use Rattle.std.proofs.lemmas.List.{append-nil}
use Rattle.tcap_msg.specs.declared.kind.Kind.TheVariants as forms
use Rattle.tcap_msg.specs.declared.message.Message.{Message}
use Rattle.tcap_msg.specs.Parts.{dtid_in}
use Rattle.tcap_record.specs.declared.entry.End.{End as Side}
use Rattle.tcap_record.specs.Ends.{other}
use Rattle.tcap_model.specs.World.{Item}
use Rattle.tcap_refute.specs.EarlierMessages.{peer_sent_from, has_a, is_a}
use Rattle.tcap_refute.proofs.Members.{has_first, has_later, has_not}
use Rattle.tcap_faults.specs.declared.verdict.unblamed_reason.Tangle.{Tangle}
use Rattle.tcap_faults.specs.declared.verdict.unblamed_reason.Tangle.TheVariants.{TwoIds, BegunTwice, BothBegan, Guessed}
use Rattle.tcap_faults.specs.declared.verdict.unblamed_reason.TangledId.{TangledId}
use Rattle.tcap_faults.specs.Counts.{count}
use Rattle.tcap_faults.specs.IdList.{IsOneOf}
use Rattle.tcap_faults.specs.TangledIds.{IsOver, are_tangled, first_tangled, goes_over_tangled, goes_to_begun, guesses, is_own_tangled, is_peer_tangled, near, own_of_continue, owns_of, peers_of, tangle_of_own, tangle_of_peer, tangled_for, tangled_id, tangled_in, two_differ}
use Rattle.tcap_faults.specs.SentToId.{one_passes}
use Rattle.tcap_faults.proofs.transaction_laws.JoinTestLaws.{plain_joined, plain_same, plain_itself}
use Rattle.tcap_faults.proofs.transaction_laws.TangledLaws.{all_same}

-- ---- whether there is one

none_from : {A : Type 0} (o : Option A) → is_some o ≡ false → o ≡ None
none_from o none = grind (arith, none)

either_some : {A : Type 0} (a b : Option A) → is_some (option_or a b) ≡ (is_some a || is_some b)
either_some a b = grind arith

option_or_all : {A : Type 0} (a b c : Option A) → option_or (option_or a b) c ≡ option_or a (option_or b c)
option_or_all a b c = grind arith

-- An own ID has a reason exactly if it is tangled.
own_has : (side : Side) (items : List Item) (own : List ℕ) → is_some (tangle_of_own side items own) ≡ is_own_tangled side items own
own_has side items own = grind arith

-- An ID of the peer has a reason exactly if it is tangled.
peer_has : (side : Side) (items : List Item) (id : List ℕ) → is_some (tangle_of_peer side items id) ≡ is_peer_tangled side items id
peer_has side items id = grind (arith, nat_tests)

module _ (of : Side) where
  for_has : (id : List ℕ) (o : Option Tangle) → is_some (tangled_for of id o) ≡ is_some o
  for_has id o = grind arith

  module _ (why : List ℕ → Option Tangle) (p : List ℕ → Bool) (is : (id : List ℕ) → is_some (why id) ≡ p id) where
    -- There is a first tangled ID among some IDs exactly if one of them is tangled.
    first_any : (ids : List (List ℕ)) → is_some (first_tangled of why ids) ≡ list_any p ids
    first_any [] = refl
    first_any (id ∷ more) =
        either_some (tangled_for of id (why id)) (first_tangled of why more)
        ∙ ap₂ (λ a b. a || b) (for_has id (why id) ∙ is id) (first_any more)

    -- If none of them is tangled, there is no first.
    first_not : (ids : List (List ℕ)) → list_any p ids ≡ false → first_tangled of why ids ≡ None
    first_not ids none = none_from (first_tangled of why ids) (first_any ids ∙ none)

  module _ (why : List ℕ → Option Tangle) where
    -- The first of two joined lists is the first of the first list, or else of the second.
    first_both : (xs ys : List (List ℕ))
        → first_tangled of why (xs ++ ys) ≡ option_or (first_tangled of why xs) (first_tangled of why ys)
    first_both [] ys = refl
    first_both (x ∷ xs) ys =
        ap (option_or (tangled_for of x (why x))) (first_both xs ys)
        ∙ sym (option_or_all (tangled_for of x (why x)) (first_tangled of why xs) (first_tangled of why ys))

    -- If all IDs are equal, the first tangled ID is any of them, if it is tangled.
    first_same : (ids : List (List ℕ)) (x : List ℕ) → Contains ids x → two_differ ids ≡ false
        → first_tangled of why ids ≡ tangled_for of x (why x)
    first_same [] x has same = has_not x has
    first_same (id ∷ more) x has same =
        ap (λ o. option_or o (first_tangled of why more)) (ap (λ y. tangled_for of y (why y)) here) ∙ by (why x) refl
      where
        here : id ≡ x
        here = all_same (id ∷ more) id x same (has_first id more) has

        rest : (ys : List (List ℕ)) → ((y : List ℕ) → Contains ys y → y ≡ x) → why x ≡ None → first_tangled of why ys ≡ None
        rest [] so none = refl
        rest (y ∷ ys) so none =
            ap (λ z. option_or (tangled_for of z (why z)) (first_tangled of why ys)) (so y (has_first y ys))
            ∙ ap (λ o. option_or (tangled_for of x o) (first_tangled of why ys)) none
            ∙ rest ys (λ z in_ys. so z (has_later y ys z in_ys)) none

        by : (o : Option Tangle) → why x ≡ o
            → option_or (tangled_for of x (why x)) (first_tangled of why more) ≡ tangled_for of x (why x)
        by None none =
            let left = rest more (λ y in_more. all_same (id ∷ more) y x same (has_later id more y in_more) has) none in
            rw (none, left) refl
        by (Some t) some = rw some refl

    -- So it is found from one of them, if there is one.
    pub first_one_of : (ids : List (List ℕ)) (x : List ℕ) → IsOneOf ids (Some x) → two_differ ids ≡ false
        → tangled_for of x (why x) ≡ first_tangled of why ids
    first_one_of ids x has same = sym (first_same ids x has same)

    pub first_none_of : (ids : List (List ℕ)) → IsOneOf ids None → None ≡ first_tangled of why ids
    first_none_of ids none = ap (first_tangled of why) (sym none)

-- ---- which it is

for_is : (of : Side) (id : List ℕ) (o : Option Tangle) (t : TangledId) → tangled_for of id o ≡ Some t
    → (t.side ≡ of) × (t.id ≡ id) × (o ≡ Some t.why)
for_is of id None t is = cc
for_is of id (Some why) t is =
    let same : record { side = of; id = id; why = why } ≡ t = cc in rw (← same) (refl, refl, refl)

first_is : (of : Side) (why : List ℕ → Option Tangle) (ids : List (List ℕ)) (t : TangledId) → first_tangled of why ids ≡ Some t
    → (t.side ≡ of) × Contains ids t.id × (why t.id ≡ Some t.why)
first_is of why [] t is = cc
first_is of why (id ∷ more) t is = by (λ rest. first_is of why more t rest) (tangled_for of id (why id)) refl
  where
    by : (first_tangled of why more ≡ Some t → (t.side ≡ of) × Contains more t.id × (why t.id ≡ Some t.why))
        → (o : Option TangledId) → tangled_for of id (why id) ≡ o
        → (t.side ≡ of) × Contains (id ∷ more) t.id × (why t.id ≡ Some t.why)
    by later None none = let (end, has, so) = later (rw none at is) in (end, has_later id more t.id has, so)
    by later (Some first) found =
        let same : first ≡ t = cc in
        let (end, here, so) = for_is of id (why id) t (found ∙ ap Some same) in
        (end, rw here (has_first id more), ap why here ∙ so)

-- The first value of three is one of them.
one_has : (a b c : Option TangledId) (t : TangledId) → option_or a (option_or b c) ≡ Some t
    → (a ≡ Some t) ⊎ ((b ≡ Some t) ⊎ (c ≡ Some t))
one_has (Some x) b c t is = inl is
one_has None (Some x) c t is = inr (inl is)
one_has None None c t is = inr (inr is)

-- The message goes over the first tangled ID, and the ID is tangled for the given reason.
pub first_over : (side : Side) (items : List Item) (own : List (List ℕ)) (id : List ℕ) (t : TangledId)
    → tangled_id side items own id ≡ Some t → IsOver side items own id t
first_over side items own id t is = by
    (one_has (tangled_for (other side) id (tangle_of_peer side items id))
    (first_tangled side (tangle_of_own side items) (near side items own id))
    (first_tangled (other side) (tangle_of_peer side items) (flat_map (peers_of side items) (near side items own id))) t is)
  where
    by : (tangled_for (other side) id (tangle_of_peer side items id) ≡ Some t)
        ⊎ ((first_tangled side (tangle_of_own side items) (near side items own id) ≡ Some t)
        ⊎ (first_tangled (other side) (tangle_of_peer side items) (flat_map (peers_of side items) (near side items own id))
        ≡ Some t)) → IsOver side items own id t
    by (inl found) =
        let (end, here, so) = for_is (other side) id (tangle_of_peer side items id) t found in
        inr (end, rw here (has_first id _), ap (tangle_of_peer side items) here ∙ so)
    by (inr (inl found)) = inl (first_is side (tangle_of_own side items) (near side items own id) t found)
    by (inr (inr found)) =
        let (end, has, so) =
        first_is (other side) (tangle_of_peer side items) (flat_map (peers_of side items) (near side items own id)) t found in
        inr (end, has_later id _ t.id has, so)

-- ---- the IDs that a message goes over

-- There is a first tangled ID near an ID of the peer, or beyond, exactly if one is tangled.
pub id_outgoing : (side : Side) (items : List Item) (own : List (List ℕ)) (id : List ℕ)
    → is_some (tangled_id side items own id) ≡ are_tangled side items own id
id_outgoing side items own id =
    either_some (tangled_for (other side) id (tangle_of_peer side items id)) _
    ∙ ap₂ (λ a b. a || b) (for_has (other side) id (tangle_of_peer side items id) ∙ peer_has side items id)
    (either_some (first_tangled side (tangle_of_own side items) (near side items own id)) _
    ∙ ap₂ (λ a b. a || b)
    (first_any side (tangle_of_own side items) (is_own_tangled side items) (own_has side items) (near side items own id))
    (first_any (other side) (tangle_of_peer side items) (is_peer_tangled side items) (peer_has side items)
    (flat_map (peers_of side items) (near side items own id))))
    ∙ turned (is_peer_tangled side items id) (list_any (is_own_tangled side items) (near side items own id)) _
  where
    turned : (a b c : Bool) → (a || (b || c)) ≡ (b || (a || c))
    turned a b c = grind arith

-- There is a first tangled ID of a message exactly if it goes over tangled IDs.
pub tangled_outgoing : (side : Side) (items : List Item) (m : Message)
    → is_some (tangled_in side items m) ≡ goes_over_tangled side items m
tangled_outgoing side items m = by (dtid_in m) refl
  where
    by : (o : Option (List ℕ)) → dtid_in m ≡ o → is_some (tangled_in side items m) ≡ goes_over_tangled side items m
    by None none = rw none refl
    by (Some id) to = rw to (id_outgoing side items (own_of_continue m) id)

-- The message goes over the first tangled ID.
pub tangled_over : (side : Side) (items : List Item) (m : Message) (t : TangledId) → tangled_in side items m ≡ Some t
    → (id : List ℕ) × (dtid_in m ≡ Some id) × IsOver side items (own_of_continue m) id t
tangled_over side items m t is = by (dtid_in m) refl
  where
    by : (o : Option (List ℕ)) → dtid_in m ≡ o → (id : List ℕ) × (dtid_in m ≡ Some id) × IsOver side items (own_of_continue m) id t
    by None none = let bad : None ≡ Some t = rw none at is in cc
    by (Some id) to = (id, to, first_over side items (own_of_continue m) id t (rw to at is))

-- ---- from what is kept

module _ (side : Side) (items : List Item) (id : List ℕ) where
  -- If the peer's ID is tangled, it is the first.
  pub tangled_first : (t : TangledId) (own : List (List ℕ))
      → Some t ≡ tangled_for (other side) id (tangle_of_peer side items id) → Some t ≡ tangled_id side items own id
  tangled_first t own is = rw (← is) refl

  -- If the peer's ID is not tangled, at most one own ID is joined with it.
  plain : tangled_for (other side) id (tangle_of_peer side items id) ≡ None → is_peer_tangled side items id ≡ false
  plain none =
      sym (peer_has side items id) ∙ sym (for_has (other side) id (tangle_of_peer side items id)) ∙ ap is_some none

  pub one_near : None ≡ tangled_for (other side) id (tangle_of_peer side items id) → two_differ (owns_of side items id) ≡ false
  one_near none = plain_same side items id (plain (sym none))

  module _ (none : None ≡ tangled_for (other side) id (tangle_of_peer side items id)) where
    -- If that own ID is tangled, it is the first.
    pub tangled_joined : (t : TangledId) (own : List (List ℕ))
        → Some t ≡ first_tangled side (tangle_of_own side items) (owns_of side items id) → Some t ≡ tangled_id side items own id
    tangled_joined t own is =
        rw (← none, first_both side (tangle_of_own side items) (owns_of side items id) own, ← is) refl

    module _ (no_own : None ≡ first_tangled side (tangle_of_own side items) (owns_of side items id)) where
      none_own : list_any (is_own_tangled side items) (owns_of side items id) ≡ false
      none_own =
          sym (first_any side (tangle_of_own side items) (is_own_tangled side items) (own_has side items) (owns_of side items id))
          ∙ ap is_some (sym no_own)

      none_behind : first_tangled (other side) (tangle_of_peer side items)
          (flat_map (peers_of side items) (owns_of side items id)) ≡ None
      none_behind =
          first_not (other side) (tangle_of_peer side items) (is_peer_tangled side items) (peer_has side items) _
          (ap (λ owns. list_any (is_peer_tangled side items) (flat_map (peers_of side items) owns))
          (sym (append-nil (owns_of side items id)))
          ∙ (or_parts (is_peer_tangled side items id) _ (or_parts
          (list_any (is_own_tangled side items) (near side items [] id)) _
          (sym (plain_joined side items id (plain (sym none)) none_own))).1).1)

      -- Otherwise, without an additional own ID, there is none.
      pub tangled_alone : None ≡ tangled_id side items [] id
      tangled_alone =
          rw (← none, append-nil (owns_of side items id), ← no_own) (sym none_behind)

      -- If the additional own ID is the joined one, there is none.
      pub tangled_itself : (own : List ℕ) → Contains (owns_of side items id) own → None ≡ tangled_id side items (own ∷ []) id
      tangled_itself own has =
          sym (none_from (tangled_id side items (own ∷ []) id)
          (id_outgoing side items (own ∷ []) id ∙ sym (plain_itself side items id (plain (sym none)) none_own own has)))

      near_besides : (own : List ℕ) → first_tangled side (tangle_of_own side items) (owns_of side items id ++ own ∷ [])
          ≡ option_or (tangled_for side own (tangle_of_own side items own)) None
      near_besides own =
          first_both side (tangle_of_own side items) (owns_of side items id) (own ∷ [])
          ∙ ap (λ o. option_or o (option_or (tangled_for side own (tangle_of_own side items own)) None)) (sym no_own)

      -- Otherwise the first is the additional own ID, or the first ID of the peer that is joined with it.
      pub tangled_besides : (own : List ℕ) (t : TangledId) → Some t ≡ tangled_for side own (tangle_of_own side items own)
          → Some t ≡ tangled_id side items (own ∷ []) id
      tangled_besides own t is = rw (← none, near_besides own, ← is) refl

      pub tangled_after : (own : List ℕ) → None ≡ tangled_for side own (tangle_of_own side items own)
          → first_tangled (other side) (tangle_of_peer side items) (peers_of side items own)
          ≡ tangled_id side items (own ∷ []) id
      tangled_after own plain_own = sym (
          rw (
            ← none,
            near_besides own,
            ← plain_own,
            flat_map-append (peers_of side items) (owns_of side items id) (own ∷ []),
            first_both (other side) (tangle_of_peer side items) (flat_map (peers_of side items) (owns_of side items id))
                (peers_of side items own ++ []),
            none_behind,
            append-nil (peers_of side items own),
          ) refl)

-- At most one ID of the peer is joined with an own ID that is not tangled.
pub one_behind : (side : Side) (items : List Item) (own : List ℕ) → None ≡ tangled_for side own (tangle_of_own side items own)
    → two_differ (peers_of side items own) ≡ false
one_behind side items own none =
    sym (own_has side items own) ∙ sym (for_has side own (tangle_of_own side items own)) ∙ ap is_some (sym none)
