-- The facts that are noted of a gathered dialogue are those of the dialogue that it represents.
use Rattle.std.proofs.Common.{◌≡◌, ◌⊎◌, inl, inr, ℕ, Bool, true, false, List, [], ◌∷◌, Option, Some, None, refl, sym, ap, subst, ◌∙◌}
use Rattle.std.specs.Prelude.{◌||◌, is_some, bytes_eq, map, Contains, slice_get}
use Rattle.std.specs.List.{list_any}
use Rattle.std.specs.Option.{option_to_list}
use Rattle.std.specs.BTreeMap.{is_at}
use Rattle.std.proofs.lemmas.Slice.Eq.{bytes_eq-Decides}
use Rattle.std.specs.BTreeSet.{BTreeSet}
use Rattle.std.proofs.lemmas.Bool.{false≢true, or_left, or_right}
use Rattle.tcap_record.specs.declared.entry.End.{End as Side}
use Rattle.tcap_record.specs.declared.entry.End.TheVariants as sides
use Rattle.tcap_record.specs.Ends.{other}
use Rattle.tcap_end.specs.Table.{octets_cmp}
use Rattle.tcap_dialogues.specs.Course.{Course, Heading}
use Rattle.tcap_dialogues.specs.DialoguesOfList.{IdOf, is_among, is_same}
use Rattle.tcap_dialogues.specs.CutDialogues.{IsCompleteDialogue, by_end}
use Rattle.tcap_dialogues.specs.declared.complete_dialogue.CompleteDialogue.{CompleteDialogue}
use Rattle.tcap_dialogues.proofs.CutIds.{among_in, is_itself}
use Rattle.tcap_dialogues.proofs.CutLists.{finds, first_in, found, none_in}
use Rattle.tcap_dialogues.proofs.HeldLists.{both_so}
use Rattle.tcap_traces.specs.declared.before_marks.Before.{Before as Known}
use Rattle.tcap_traces.specs.declared.before_marks.BeforeMarks.{BeforeMarks}
use Rattle.tcap_traces.specs.Case.{has_some}
use Rattle.tcap_traces.specs.IdsBeforeMarks.{has_open, is_in_use as is_in_use_by, is_sent_from, is_sent_to, known_in}
use Rattle.tcap_traces.specs.Segments.{Before, goes_to_earlier, is_in_use}
use Rattle.tcap_traces.proofs.MarksLaws.{at_octets}
use Rattle.tcap_traces.specs.TraceProgress.{id_of}

-- ---- sets of IDs

-- A set has its elements.
has_itself : (keys : List (List ℕ)) (k : List ℕ) → Contains keys k → list_any (is_at (octets_cmp k)) keys ≡ true
has_itself keys k has = finds (is_at (octets_cmp k)) keys k has (at_octets k k ∙ same k)
  where
    same : (o : List ℕ) → bytes_eq o o ≡ true
    same o = (bytes_eq-Decides o o).1 refl

-- and nothing else
is_element : (keys : List (List ℕ)) (o : List ℕ) → list_any (is_at (octets_cmp o)) keys ≡ true → Contains keys o
is_element keys o is =
    let (k, has, so) = found (is_at (octets_cmp o)) keys is in
    let same : k ≡ o = (bytes_eq-Decides k o).0 (sym (at_octets o k) ∙ so) in
    subst (Contains keys) same has

some_first : {X : Type 0} (xs : List X) (x : X) → Contains xs x → is_some (slice_get xs 0) ≡ true
some_first [] x has = absurd (none_in x has)
some_first (y ∷ xs) x has = refl

first_some : {X : Type 0} (xs : List X) → is_some (slice_get xs 0) ≡ true → (x : X) × Contains xs x
first_some [] none = absurd (false≢true none)
first_some (x ∷ xs) some = (x, first_in x xs)

module _ (d : Course) (g : CompleteDialogue) (are : IsCompleteDialogue d g) where
  -- the IDs of an end
  abbrev ids_at : Side → BTreeSet (List ℕ)
  ids_at side = by_end side g.a g.b

  -- An ID of the dialogue is in the set of its end, and there are no others.
  in_set : (id : IdOf) → Contains d.ids id → Contains (ids_at id.end).keys id.octets
  in_set id has = is_element (ids_at id.end).keys id.octets (are.ids id ∙ finds (is_same id) d.ids id has (is_itself id))

  from_set : (side : Side) (o : List ℕ) → Contains (ids_at side).keys o → Contains d.ids (id_of side o)
  from_set side o has = among_in d.ids (id_of side o) (sym (are.ids (id_of side o)) ∙ has_itself (ids_at side).keys o has)

  or_cases_of : (a b : Bool) → (a || b) ≡ true → (a ≡ true) ⊎ (b ≡ true)
  or_cases_of true b is = inl refl
  or_cases_of false b is = inr is

  -- A test of octets passes for an ID of either end exactly if it passes for an ID of the dialogue.
  pub any_id : (p : IdOf → Bool) → (list_any (λ o. p (id_of sides.A o)) g.a.keys || list_any (λ o. p (id_of sides.B o)) g.b.keys) ≡ list_any p d.ids
  any_id p =
      both_so _ _ (λ some. there (or_cases_of _ _ some)) (λ some. let (id, has, so) = found p d.ids some in back id id.end refl has so)
    where
      there : (list_any (λ o. p (id_of sides.A o)) g.a.keys ≡ true) ⊎ (list_any (λ o. p (id_of sides.B o)) g.b.keys ≡ true) → list_any p d.ids ≡ true
      there (inl some) = let (o, has, so) = found (λ o. p (id_of sides.A o)) g.a.keys some in finds p d.ids (id_of sides.A o) (from_set sides.A o has) so
      there (inr some) = let (o, has, so) = found (λ o. p (id_of sides.B o)) g.b.keys some in finds p d.ids (id_of sides.B o) (from_set sides.B o has) so

      at : (id : IdOf) (side : Side) → id.end ≡ side → p id ≡ true → p (id_of side id.octets) ≡ true
      at id side is so = ap (λ s. p (id_of s id.octets)) (sym is) ∙ so

      in_keys : (id : IdOf) (side : Side) → id.end ≡ side → Contains d.ids id → Contains (ids_at side).keys id.octets
      in_keys id side is has = subst (λ s. Contains (ids_at s).keys id.octets) is (in_set id has)

      back : (id : IdOf) (side : Side) → id.end ≡ side → Contains d.ids id → p id ≡ true
          → (list_any (λ o. p (id_of sides.A o)) g.a.keys || list_any (λ o. p (id_of sides.B o)) g.b.keys) ≡ true
      back id sides.A is has so =
          or_left (list_any (λ o. p (id_of sides.A o)) g.a.keys) (list_any (λ o. p (id_of sides.B o)) g.b.keys)
          (finds (λ o. p (id_of sides.A o)) g.a.keys id.octets (in_keys id sides.A is has) (at id sides.A is so))
      back id sides.B is has so =
          or_right (list_any (λ o. p (id_of sides.A o)) g.a.keys) (list_any (λ o. p (id_of sides.B o)) g.b.keys)
          (finds (λ o. p (id_of sides.B o)) g.b.keys id.octets (in_keys id sides.B is has) (at id sides.B is so))

  -- The gathered dialogue has an ID exactly if the dialogue has one.
  pub has_ids_is : (has_some g.a || has_some g.b) ≡ is_some (slice_get d.ids 0)
  has_ids_is = both_so _ _ (λ some. there (or_cases_of _ _ some)) (λ some. let (id, has) = first_some d.ids some in back id id.end refl has)
    where
      there : (has_some g.a ≡ true) ⊎ (has_some g.b ≡ true) → is_some (slice_get d.ids 0) ≡ true
      there (inl some) = let (o, has) = first_some g.a.keys some in some_first d.ids (id_of sides.A o) (from_set sides.A o has)
      there (inr some) = let (o, has) = first_some g.b.keys some in some_first d.ids (id_of sides.B o) (from_set sides.B o has)

      back : (id : IdOf) (side : Side) → id.end ≡ side → Contains d.ids id → (has_some g.a || has_some g.b) ≡ true
      back id sides.A is has =
          or_left (has_some g.a) (has_some g.b) (some_first g.a.keys id.octets (subst (λ s. Contains (ids_at s).keys id.octets) is (in_set id has)))
      back id sides.B is has =
          or_right (has_some g.a) (has_some g.b) (some_first g.b.keys id.octets (subst (λ s. Contains (ids_at s).keys id.octets) is (in_set id has)))

-- ---- IDs in use before the segment

module _ (before : Before) (m : BeforeMarks)
    (at_a : (o : List ℕ) → known_in m.a o ≡ record { sent = is_among before.sent (id_of sides.A o); «open» = is_among before.open (id_of sides.A o) })
    (at_b : (o : List ℕ) → known_in m.b o ≡ record { sent = is_among before.sent (id_of sides.B o); «open» = is_among before.open (id_of sides.B o) }) where
  known_at : (side : Side) (o : List ℕ)
      → known_in (by_end side m.a m.b) o ≡ record { sent = is_among before.sent (id_of side o); «open» = is_among before.open (id_of side o) }
  known_at sides.A o = at_a o
  known_at sides.B o = at_b o

  -- whether a heading goes to an ID of an earlier segment
  pub sent_to_is : (h : Heading) → is_sent_to m h ≡ goes_to_earlier before h
  sent_to_is h = by h.dtid refl
    where
      or_none : (b : Bool) → b ≡ (b || false)
      or_none true = refl
      or_none false = refl

      by : (o : Option (List ℕ)) → h.dtid ≡ o → is_sent_to m h ≡ goes_to_earlier before h
      by None is =
          ap (λ x. is_sent_from (by_end (other h.sender) m.a m.b) x) is
          ∙ sym (ap (λ x. list_any (is_among before.sent) (map (id_of (other h.sender)) (option_to_list x))) is)
      by (Some o) is =
          ap (λ x. is_sent_from (by_end (other h.sender) m.a m.b) x) is
          ∙ ap (λ (k : Known). k.sent) (known_at (other h.sender) o)
          ∙ or_none (is_among before.sent (id_of (other h.sender) o))
          ∙ sym (ap (λ x. list_any (is_among before.sent) (map (id_of (other h.sender)) (option_to_list x))) is)

  opens : (side : Side) (os : List (List ℕ))
      → list_any (λ o. (known_in (by_end side m.a m.b) o).open) os ≡ list_any (λ o. is_among before.open (id_of side o)) os
  opens side [] = refl
  opens side (o ∷ os) =
      ap (λ (k : Known). k.open || list_any (λ q. (known_in (by_end side m.a m.b) q).open) os) (known_at side o)
      ∙ ap (λ b. is_among before.open (id_of side o) || b) (opens side os)

  -- whether a dialogue is in use before its segment
  pub in_use_is : (d : Course) (g : CompleteDialogue) (h : Heading) → IsCompleteDialogue d g → is_in_use_by m h g ≡ is_in_use before (Some h) d.ids
  in_use_is d g h are =
      ap (λ b. b || (has_open m.a g.a || has_open m.b g.b)) (sent_to_is h)
      ∙ ap (λ b. goes_to_earlier before h || (b || has_open m.b g.b)) (opens sides.A g.a.keys)
      ∙ ap (λ b. goes_to_earlier before h || (list_any (λ o. is_among before.open (id_of sides.A o)) g.a.keys || b)) (opens sides.B g.b.keys)
      ∙ ap (λ b. goes_to_earlier before h || b) (any_id d g are (is_among before.open))
