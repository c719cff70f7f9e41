-- The invariant of the dialogues of a list: no two share an ID, each is whole, and each message has one. One more
-- message keeps it.
use Rattle.std.proofs.Common.{arith, ◌≡◌, ◌⊎◌, inl, inr, ℕ, ◌+◌, ◌<◌, ◌≤◌, Bool, true, false, List, [], Some, refl, sym, ap, subst, ◌∙◌}
use Rattle.std.specs.Prelude.{Contains, filter, slice_get}
use Rattle.std.proofs.lemmas.Bool.{cases_Bool, cases_lt}
use Rattle.tcap_msg.specs.declared.message.Message.{Message}
use Rattle.tcap_record.specs.declared.entry.End.{End as Side}
use Rattle.tcap_model.specs.World.{Item, Sent}
use Rattle.tcap_dialogues.specs.DialoguesOfList.{Dialogue, IdOf, has_id_among, ids_of, is_among, is_of, joined, with_message}
use Rattle.tcap_dialogues.specs.Part.{IsClosed, ShareId}
use Rattle.tcap_dialogues.proofs.CutIds.{among_is, one_of}
use Rattle.tcap_dialogues.proofs.Joins.{Hit, IsJoin, below_more, id_comes, id_from, id_stays, joins, number_comes, number_of, number_stays, one_id_more, one_number_more, stays, which}
use Rattle.tcap_dialogues.proofs.CutLists.{none_in}

-- the dialogue of a message, which has its IDs
pub record Owner (dialogues : List Dialogue) (i : ℕ) (ids : List IdOf) : Type 0 where
  pub dialogue : Dialogue
  pub listed : Contains dialogues dialogue
  pub has : is_of dialogue i ≡ true
  pub all : (id : IdOf) → is_among ids id ≡ true → is_among dialogue.ids id ≡ true

-- a message of a dialogue that carries one of its IDs
pub record Bearer (items : List Item) (d : Dialogue) (id : IdOf) : Type 0 where
  pub i : ℕ
  pub side : Side
  pub message : Message
  pub listed : slice_get items i ≡ Some (Sent side message)
  pub has : is_of d i ≡ true
  pub bears : is_among (ids_of side message) id ≡ true

-- The invariant of the dialogues of the first n messages of a list.
pub record IsCut (items : List Item) (n : ℕ) (dialogues : List Dialogue) : Type 0 where
  -- Each message is in a dialogue, which has all its IDs.
  pub owner : (i : ℕ) (side : Side) (m : Message) → slice_get items i ≡ Some (Sent side m) → i < n → Owner dialogues i (ids_of side m)
  -- All numbers are below n.
  pub below : (d : Dialogue) (i : ℕ) → Contains dialogues d → is_of d i ≡ true → i < n
  -- Two dialogues with one number are equal.
  pub one_number : (d e : Dialogue) (i : ℕ) → Contains dialogues d → Contains dialogues e → is_of d i ≡ true → is_of e i ≡ true → d ≡ e
  -- Two dialogues with one ID are equal.
  pub one_id : (d e : Dialogue) (id : IdOf) → Contains dialogues d → Contains dialogues e → is_among d.ids id ≡ true
      → is_among e.ids id ≡ true → d ≡ e
  -- A message of the dialogue carries each ID.
  pub bearer : (d : Dialogue) (id : IdOf) → Contains dialogues d → is_among d.ids id ≡ true → Bearer items d id
  -- A part that shares no ID with the rest has all messages of a dialogue, or none.
  pub whole : (keeps : ℕ → Bool) → IsClosed keeps items → (d : Dialogue) (i j : ℕ) → Contains dialogues d → is_of d i ≡ true
      → is_of d j ≡ true → keeps i ≡ keeps j

-- ---- no message, and a quiet mark

-- It holds without messages.
pub cut_none : (items : List Item) → IsCut items 0 []
cut_none items = record {
  owner = λ i side m is less. absurd (omega (arith, less));
  below = λ d i has is. absurd (none_in d has);
  one_number = λ d e i has hers is so. absurd (none_in d has);
  one_id = λ d e id has hers is so. absurd (none_in d has);
  bearer = λ d id has is. absurd (none_in d has);
  whole = λ keeps closed d i j has is so. absurd (none_in d has);
}

-- A quiet mark changes nothing.
pub cut_quiet : (items : List Item) (n : ℕ) (dialogues : List Dialogue) → slice_get items n ≡ Some Item.Quiet → IsCut items n dialogues
    → IsCut items (n + 1) dialogues
cut_quiet items n dialogues mark c = record {
  owner = λ i side m is less. before i side m is less (cases_lt i n);
  below = λ d i has is. let less = c.below d i has is in omega (arith, less);
  one_number = c.one_number;
  one_id = c.one_id;
  bearer = c.bearer;
  whole = c.whole;
}
  where
    before : (i : ℕ) (side : Side) (m : Message) → slice_get items i ≡ Some (Sent side m) → i < n + 1 → (i < n) ⊎ (n ≤ i)
        → Owner dialogues i (ids_of side m)
    before i side m is less (inl old) = c.owner i side m is old
    before i side m is less (inr past) =
        let at : i ≡ n = omega arith in
        let bad : Some (Sent side m) ≡ Some Item.Quiet = sym is ∙ ap (slice_get items) at ∙ mark in cc

-- ---- one more message

module _ (items : List Item) (n : ℕ) (dialogues : List Dialogue) (sender : Side) (message : Message)
    (here : slice_get items n ≡ Some (Sent sender message)) (c : IsCut items n dialogues) where
  -- its IDs
  abbrev ids : List IdOf
  ids = ids_of sender message

  -- the dialogues with the message
  abbrev more : List Dialogue
  more = with_message n ids dialogues

  -- the new dialogue
  abbrev one : Dialogue
  one = joined (filter (has_id_among ids) dialogues) n ids

  made : IsJoin (λ (d : Dialogue). d.numbers) (λ (d : Dialogue). d.ids) n ids dialogues one
  made = record { numbers_are = refl; ids_are = refl }

  -- a dialogue that the message joins
  abbrev Joins : Dialogue → Type 0
  Joins = Hit made

  -- The dialogue of a message stays, or is joined.
  owner_stays : (i : ℕ) (of_it : List IdOf) → Owner dialogues i of_it → Owner more i of_it
  owner_stays i of_it o = by (cases_Bool (has_id_among ids o.dialogue))
    where
      by : (has_id_among ids o.dialogue ≡ true) ⊎ (has_id_among ids o.dialogue ≡ false) → Owner more i of_it
      by (inl hits) =
          let h : Joins o.dialogue = record { listed = o.listed; hit = hits } in
          record {
            dialogue = one;
            listed = joins made;
            has = number_stays made o.dialogue i h o.has;
            all = λ id is. id_stays made o.dialogue id h (o.all id is);
          }
      by (inr misses) = record {
        dialogue = o.dialogue;
        listed = stays made o.dialogue o.listed misses;
        has = o.has;
        all = o.all;
      }

  -- The message is in the new dialogue.
  owner_more : (i : ℕ) (side : Side) (m : Message) → slice_get items i ≡ Some (Sent side m) → i < n + 1 → (i < n) ⊎ (n ≤ i)
      → Owner more i (ids_of side m)
  owner_more i side m is less (inl old) = owner_stays i (ids_of side m) (c.owner i side m is old)
  owner_more i side m is less (inr past) =
      let at : i ≡ n = omega arith in
      let both : Some (Sent side m) ≡ Some (Sent sender message) = sym is ∙ ap (slice_get items) at ∙ here in
      let same_side : side ≡ sender = cc in
      let same_message : m ≡ message = cc in
      rw (at, same_side, same_message) (record {
        dialogue = one;
        listed = joins made;
        has = number_comes made;
        all = λ id is. id_comes made id is;
      })

  -- The message, or one of a joined dialogue, carries each ID of the new one.
  bearer_new : (id : IdOf) → is_among one.ids id ≡ true → Bearer items one id
  bearer_new id is = by (id_from made id is)
    where
      by : ((e : Dialogue) × Joins e × (is_among e.ids id ≡ true)) ⊎ (is_among ids id ≡ true) → Bearer items one id
      by (inl (e, h, its)) =
          let b = c.bearer e id h.listed its in
          record {
            i = b.i;
            side = b.side;
            message = b.message;
            listed = b.listed;
            has = number_stays made e b.i h b.has;
            bears = b.bears;
          }
      by (inr its) =
          record { i = n; side = sender; message = message; listed = here; has = number_comes made; bears = its }

  -- Some message carries each ID of each dialogue.
  bearer_more : (d : Dialogue) (id : IdOf) → Contains more d → is_among d.ids id ≡ true → Bearer items d id
  bearer_more d id has is = by (which made d has)
    where
      by : (Contains dialogues d × (has_id_among ids d ≡ false)) ⊎ (one ≡ d) → Bearer items d id
      by (inl (old, misses)) = c.bearer d id old is
      by (inr same) = subst (λ x. Bearer items x id) same (bearer_new id (ap (λ x. is_among x.ids id) same ∙ is))

  -- A part that shares no ID with the rest has the message if and only if it has one of a joined dialogue.
  joined_whole : (keeps : ℕ → Bool) → IsClosed keeps items → (e : Dialogue) (i : ℕ) → Joins e → is_of e i ≡ true → keeps i ≡ keeps n
  joined_whole keeps closed e i h is =
      let (id, its, hers) = one_of ids e.ids h.hit in
      let b = c.bearer e id h.listed hers in
      let shared : ShareId b.side b.message sender message =
      (id.end, id.octets, sym (among_is b.side b.message id) ∙ b.bears, sym (among_is sender message id) ∙ its) in
      c.whole keeps closed e i b.i h.listed is b.has ∙ closed.same b.i n b.side sender b.message message b.listed here shared

  -- So it is for the new dialogue.
  new_whole : (keeps : ℕ → Bool) → IsClosed keeps items → (i : ℕ) → is_of one i ≡ true → keeps i ≡ keeps n
  new_whole keeps closed i is = by (number_of made i is)
    where
      by : ((e : Dialogue) × Joins e × (is_of e i ≡ true)) ⊎ (n ≡ i) → keeps i ≡ keeps n
      by (inl (e, h, so)) = joined_whole keeps closed e i h so
      by (inr at) = ap keeps (sym at)

  -- The part has all messages of each dialogue, or none.
  whole_more : (keeps : ℕ → Bool) → IsClosed keeps items → (d : Dialogue) (i j : ℕ) → Contains more d → is_of d i ≡ true → is_of d j ≡ true
      → keeps i ≡ keeps j
  whole_more keeps closed d i j has is so = by (which made d has)
    where
      by : (Contains dialogues d × (has_id_among ids d ≡ false)) ⊎ (one ≡ d) → keeps i ≡ keeps j
      by (inl (old, misses)) = c.whole keeps closed d i j old is so
      by (inr same) =
          new_whole keeps closed i (ap (λ x. is_of x i) same ∙ is) ∙ sym (new_whole keeps closed j (ap (λ x. is_of x j) same ∙ so))

  -- The invariant holds with the message.
  pub cut_more : IsCut items (n + 1) (with_message n (ids_of sender message) dialogues)
  cut_more = record {
    owner = λ i side m is less. owner_more i side m is less (cases_lt i n);
    below = below_more made c.below;
    one_number = one_number_more made c.below c.one_number;
    one_id = one_id_more made c.one_id;
    bearer = bearer_more;
    whole = whole_more;
  }
