-- The laws of the dialogues of a list, from the invariant of each front of it.
use Rattle.std.proofs.Common.{arith, ◌≡◌, ◌⊎◌, inl, inr, ℕ, ◌+◌, ◌<◌, ◌≤◌, ◌-◌, Bool, true, List, [], ◌∷◌, Some, None, sym, ap, ◌∙◌}
use Rattle.std.specs.Prelude.{Contains, slice_get}
use Rattle.std.proofs.lemmas.Bool.{cases_lt}
use Rattle.tcap_msg.specs.declared.message.Message.{Message}
use Rattle.tcap_record.specs.declared.entry.End.{End as Side}
use Rattle.tcap_end.specs.Table.{Table}
use Rattle.tcap_model.specs.World.{Item, Sent}
use Rattle.tcap_model.specs.Run.{IsLawfulFor}
use Rattle.tcap_dialogues.specs.DialoguesOfList.{Dialogue, IdOf, dialogues_behind, dialogues_of, ids_of, is_of, with_message}
use Rattle.tcap_dialogues.specs.Part.{IsClosed, ShareId, part_of}
use Rattle.tcap_dialogues.proofs.CutIds.{among_is}
use Rattle.tcap_dialogues.proofs.CutLists.{first_left, later_left}
use Rattle.tcap_dialogues.proofs.CutLaws.{IsCut, Owner, cut_more, cut_none, cut_quiet}
use Rattle.tcap_dialogues.proofs.PartLaws.{part_keeps}
use Rattle.tcap_dialogues.proofs.PartLists.{from_zero}
use Rattle.tcap_dialogues.proofs.HeldLists.{both_so}

-- ---- a closed part

-- A part is closed if it has, with each message, those that share an ID with it.
pub closed_from : (keeps : ℕ → Bool) (items : List Item)
    → ((i j : ℕ) (s t : Side) (m o : Message) → slice_get items i ≡ Some (Sent s m) → slice_get items j ≡ Some (Sent t o) → ShareId s m t o
    → keeps i ≡ true → keeps j ≡ true) → IsClosed keeps items
closed_from keeps items follows = record { same = λ i j s t m o is so shared. agree i j s t m o is so shared }
  where
    agree : (i j : ℕ) (s t : Side) (m o : Message) → slice_get items i ≡ Some (Sent s m) → slice_get items j ≡ Some (Sent t o)
        → ShareId s m t o → keeps i ≡ keeps j
    agree i j s t m o is so (end, id, hers, his) =
        both_so (keeps i) (keeps j) (follows i j s t m o is so (end, id, hers, his)) (follows j i t s o m so is (end, id, his, hers))

-- ---- the whole list

-- the invariant after the last message
record Ended (items : List Item) (dialogues : List Dialogue) : Type 0 where
  n : ℕ
  cut : IsCut items n dialogues
  past : (k : ℕ) → slice_get items (n + k) ≡ None

-- The invariant holds for a whole list, if it holds for the messages before.
cut_behind : (items left : List Item) (n : ℕ) (before : List Dialogue) → ((k : ℕ) → slice_get left k ≡ slice_get items (n + k))
    → IsCut items n before → Ended items (dialogues_behind before n left)
cut_behind items [] n before same c = record { n = n; cut = c; past = λ k. sym (same k) }
cut_behind items (Sent side m ∷ left) n before same c =
    cut_behind items left (n + 1) (with_message n (ids_of side m) before) (later_left items left n (Sent side m) same)
    (cut_more items n before side m (first_left items left n (Sent side m) same) c)
cut_behind items (Item.Quiet ∷ left) n before same c =
    cut_behind items left (n + 1) before (later_left items left n Item.Quiet same)
    (cut_quiet items n before (first_left items left n Item.Quiet same) c)

module _ (items : List Item) where
  -- It holds before the first message.
  ended : Ended items (dialogues_of items)
  ended = cut_behind items items 0 [] (λ k. ap (slice_get items) (sym (from_zero k))) (cut_none items)

  -- Each message has a dialogue.
  owner : (i : ℕ) (side : Side) (m : Message) → slice_get items i ≡ Some (Sent side m) → Owner (dialogues_of items) i (ids_of side m)
  owner i side m is = by (cases_lt i ended.n)
    where
      by : (i < ended.n) ⊎ (ended.n ≤ i) → Owner (dialogues_of items) i (ids_of side m)
      by (inl less) = ended.cut.owner i side m is less
      by (inr past) =
          let at : i ≡ ended.n + (i - ended.n) = omega arith in
          let bad : Some (Sent side m) ≡ None = sym is ∙ ap (slice_get items) at ∙ ended.past (i - ended.n) in cc

  -- ---- the laws

  -- Two messages that share an ID are in one dialogue.
  one_owner : (i j : ℕ) (s t : Side) (m o : Message) (is : slice_get items i ≡ Some (Sent s m)) (so : slice_get items j ≡ Some (Sent t o))
      → ShareId s m t o → (owner i s m is).dialogue ≡ (owner j t o so).dialogue
  one_owner i j s t m o is so (end, id, has, hers) =
      let it : IdOf = record { end = end; octets = id } in
      let a = owner i s m is in
      let b = owner j t o so in
      ended.cut.one_id a.dialogue b.dialogue it a.listed b.listed (a.all it (among_is s m it ∙ has)) (b.all it (among_is t o it ∙ hers))

  -- If one of them is in a dialogue, the other is.
  follows : (d : Dialogue) → Contains (dialogues_of items) d → (i j : ℕ) (s t : Side) (m o : Message) → slice_get items i ≡ Some (Sent s m)
      → slice_get items j ≡ Some (Sent t o) → ShareId s m t o → is_of d i ≡ true → is_of d j ≡ true
  follows d has i j s t m o is so shared of_it =
      let a = owner i s m is in
      let b = owner j t o so in
      let same : d ≡ b.dialogue = ended.cut.one_number d a.dialogue i has a.listed of_it a.has ∙ one_owner i j s t m o is so shared in
      ap (λ x. is_of x j) same ∙ b.has

  -- A dialogue shares no ID with the rest.
  pub share_nothing : (d : Dialogue) → Contains (dialogues_of items) d → IsClosed (is_of d) items
  share_nothing d has = closed_from (is_of d) items (follows d has)

  -- A part that shares no ID with the rest has all messages of a dialogue, or none.
  pub are_whole : (keeps : ℕ → Bool) (d : Dialogue) (i j : ℕ) → IsClosed keeps items → Contains (dialogues_of items) d → is_of d i ≡ true
      → is_of d j ≡ true → keeps i ≡ keeps j
  are_whole keeps d i j closed has is so = ended.cut.whole keeps closed d i j has is so

  -- Each message is in exactly one dialogue.
  pub has_its_one : (n : ℕ) (side : Side) (m : Message) → slice_get items n ≡ Some (Sent side m)
      → (d : Dialogue) × Contains (dialogues_of items) d × (is_of d n ≡ true)
      × ((another : Dialogue) → Contains (dialogues_of items) another → is_of another n ≡ true → another ≡ d)
  has_its_one n side m is =
      let o = owner n side m is in
      (o.dialogue, o.listed, o.has, λ another has so. ended.cut.one_number another o.dialogue n has o.listed so o.has)

  -- A lawful end may have sent its part of each dialogue.
  pub dialogue_keeps : (side : Side) (table : Table) (d : Dialogue) → Contains (dialogues_of items) d → IsLawfulFor side items table
      → IsLawfulFor side (part_of (is_of d) 0 items) table
  dialogue_keeps side table d has lawful = part_keeps side items table (is_of d) (share_nothing d has) lawful
