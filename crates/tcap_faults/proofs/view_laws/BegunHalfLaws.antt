-- Each message of an end that keeps the rules has its half; and a begun half and the list: its Begin, and the
-- Continue with which its peer answered.
use Rattle.std.proofs.Common.{◌≡◌, ◌⊎◌, inl, inr, Bool, true, false, cond, ℕ, List, [], ◌∷◌, Option, Some, None, refl, sym, ap, ◌∙◌}
use Rattle.std.specs.Prelude.{Contains, filter}
use Rattle.std.specs.Option.{option_or}
use Rattle.std.proofs.lemmas.Bool.{and_parts}
use Rattle.std.proofs.lemmas.List.Elements.{Contains-append_cases}
use Rattle.std.proofs.lemmas.List.Folds.{find-append}
use Rattle.tcap_parts.specs.declared.dialogue.Dialogue.{Dialogue}
use Rattle.tcap_msg.specs.declared.kind.Kind.TheVariants as forms
use Rattle.tcap_msg.specs.declared.message.Message.{Message}
use Rattle.tcap_msg.specs.declared.message.Message.TheVariants.{Begin, Continue, End as EndMessage, Abort}
use Rattle.tcap_msg.specs.Parts.{cause_in, dialogue_in, dtid_in}
use Rattle.tcap_record.specs.declared.entry.End.{End as Side}
use Rattle.tcap_end.specs.declared.half.Phase.{Phase}
use Rattle.tcap_end.specs.declared.half.Phase.TheVariants as phases
use Rattle.tcap_end.specs.declared.half.Slot.TheVariants.{Begun}
use Rattle.tcap_end.specs.declared.half.DialogueState.{DialogueState}
use Rattle.tcap_end.specs.declared.half.DialogueState.TheVariants as dialogue_states
use Rattle.tcap_end.specs.Table.{Table}
use Rattle.tcap_end.specs.Half.{Half}
use Rattle.tcap_end.specs.Dialogue.{answers_request, confirm, first_dialogue_state, is_response}
use Rattle.tcap_end.specs.End.{End, KeyedHalf, is_id, with_own}
use Rattle.tcap_end.specs.ReachableEnd.{HasHalf, IsEnd}
use Rattle.tcap_end.proofs.EndLaws.{no_half}
use Rattle.tcap_end.proofs.FoundLaws.{none_own, is_that_id}
use Rattle.tcap_end.proofs.StepLaws.{none_is}
use Rattle.tcap_record.specs.Ends.{other}
use Rattle.tcap_model.specs.World.{Item}
use Rattle.tcap_model.proofs.TurnLaws.{id_is}
use Rattle.tcap_refute.specs.EarlierMessages.{peer_sent_from, is_a, sent_by}
use Rattle.tcap_model.specs.SinceMark.{is_begin_with_request}
use Rattle.tcap_refute.proofs.Members.{filter_has, has_not}
use Rattle.tcap_refute.proofs.HalfLawsTurns.{Accepts, Deed, Learns, Starts, Turned, answers, closes, learns, stays}
use Rattle.tcap_faults.specs.HalfByPeerId.{responds}
use Rattle.tcap_faults.specs.SentToId.{begin_from, is_begin_from, is_continue_to, is_outgoing_to, outgoing}
use Rattle.tcap_faults.proofs.view_laws.ActLaws.{Uses, still_uses}
use Rattle.tcap_faults.proofs.view_laws.AdvanceLaws.{Advance, advances_keep}
use Rattle.tcap_faults.proofs.list_laws.FindLaws.{filter_is, find_has, request_is}
use Rattle.tcap_faults.proofs.view_laws.GrowthLaws.{begin_still, incoming_now, incoming_still}
use Rattle.tcap_faults.proofs.story_laws.Stories.{incoming_behind}
use Rattle.tcap_faults.proofs.view_laws.ViewLaws.{View}

-- ---- what was sent

abbrev AllUse : Side → End → List Item → Type 0
AllUse side e items = (m : Message) → Contains (sent_by side items) m → Uses e m

uses_then : {table : Table} {side : Side} (e next : End) (items after : List Item)
    → Advance table side e next items after → AllUse side e items → AllUse side next after
uses_then {side = side} e next items after step held m has =
    by (Contains-append_cases (sent_by side items) step.grows.mine m (rw (← step.grows.mine_is) has))
  where
    by : Contains (sent_by side items) m ⊎ Contains step.grows.mine m → Uses next m
    by (inl was) = still_uses step.acts m (held m was)
    by (inr new) = (step.uses m new).0

-- Each message that the end sent has its half.
pub all_use : {table : Table} {side : Side} {e : End} {coming : List Message} {items : List Item}
    → View table side e coming items → (m : Message) → Contains (sent_by side items) m → Uses e m
all_use {table} {side} {e} {coming} {items} view =
    advances_keep table side (AllUse side) (λ m has. has_not m has)
    (λ e next coming items after view step. uses_then e next items after step) e coming items view

-- If the end sent a message to an ID, it has a half with this peer.
pub outgoing_half : {table : Table} {side : Side} {e : End} {coming : List Message} {items : List Item}
    → View table side e coming items → (m : Message) (id : List ℕ) → Contains (outgoing side id items) m
    → (f : KeyedHalf) × HasHalf e f × (f.half.peer ≡ Some id)
outgoing_half {side = side} {e = e} {items = items} view m id has =
    let (there, tells) = filter_is (is_outgoing_to id) (sent_by side items) m has in
    let (to, causeless) = and_parts (is_id id (dtid_in m)) _ tells in
    by m (id_is id (dtid_in m) to) (none_is (cause_in m) causeless) (all_use view m there)
  where
    by : (m : Message) → dtid_in m ≡ Some id → cause_in m ≡ None → Uses e m
        → (f : KeyedHalf) × HasHalf e f × (f.half.peer ≡ Some id)
    by (Continue otid dtid dialogue components) to causeless (f, had, own, peer) = (f, had, peer ∙ to)
    by (EndMessage dtid dialogue components) to causeless (f, had, peer) = (f, had, peer ∙ to)
    by (Abort dtid reason) to causeless uses = let (f, had, peer) = uses causeless in (f, had, peer ∙ to)
    by m to causeless uses = cc

-- ---- the state of a dialogue

-- The state of a half's dialogue in each phase, if the half began with this portion.
abbrev pub standing_of : Phase → Option Dialogue → DialogueState
standing_of phases.Sent dialogue = first_dialogue_state dialogue
standing_of phases.Received dialogue = first_dialogue_state dialogue
standing_of phases.Active dialogue = confirm (first_dialogue_state dialogue)
standing_of phases.Closed dialogue = dialogue_states.Without

-- Each step keeps this.
pub stands_on : {table : Table} {deed : Deed} (h g : Half) (dialogue : Option Dialogue) → Turned table deed h g
    → h.dialogue_state ≡ standing_of h.phase dialogue → g.dialogue_state ≡ standing_of g.phase dialogue
stands_on h g dialogue (stays it) stands = rw (it.dialogue_state, it.phase) stands
stands_on h g dialogue (closes it) stands = rw (it.dialogue_state, it.phase) refl
stands_on h g dialogue (answers it) stands =
    let first : h.dialogue_state ≡ first_dialogue_state dialogue = rw (it.was) at stands in rw (it.dialogue_state, it.phase, first) refl
stands_on h g dialogue (learns it) stands =
    let first : h.dialogue_state ≡ first_dialogue_state dialogue = rw (it.was) at stands in rw (it.dialogue_state, it.phase, first) refl

-- ---- begun halves

-- The half's Begin is that of the list, and the dialogue has the state that the Begin gives.
pub record IsBegunBy (side : Side) (items : List Item) (f : KeyedHalf) : Type 0 where
  pub begin : Message
  pub is_begun : begin_from side f.key items ≡ Some begin
  pub stands : f.half.dialogue_state ≡ standing_of f.half.phase (dialogue_in begin)

abbrev AllBegun : Side → End → List Item → Type 0
AllBegun side e items = (f : KeyedHalf) → HasHalf e f → f.slot ≡ Begun → IsBegunBy side items f

-- A Begin that was sent has its half.
pub begin_used : {P : Type 0} (e : End) (id : List ℕ) (m : Message) → IsEnd e → with_own e id ≡ None
    → is_begin_from id m ≡ true → Uses e m → P
begin_used e id (Begin otid dialogue components) is_end none from (h, had) =
    let same : Some otid ≡ Some id = id_is id (Some otid) from in
    none_own e id (record { slot = Begun; key = otid; half = h }) none had
    (is_end.kept (record { slot = Begun; key = otid; half = h }) had ∙ same)
begin_used e id m is_end none from uses = cc

module _ {table : Table} {side : Side} (e next : End) (coming : List Message) (items after : List Item)
    (view : View table side e coming items) (step : Advance table side e next items after) where
  -- If no half has the ID, no Begin was sent from it, so the half begins with the message that is sent now.
  started : (g : KeyedHalf) → Starts step.deed e g → IsBegunBy side after g
  started g it = record {
    begin = m;
    is_begun = rw (
      step.grows.mine_is,
      step.said m it.deed_is,
      find-append (is_begin_from g.key) (sent_by side items) (m ∷ []),
    ) (by (begin_from side g.key items) refl);
    stands = it.dialogue_state ∙ ap (λ (p : Phase). standing_of p it.dialogue) (sym it.phase);
  }
    where
      m : Message
      m = Begin g.key it.dialogue it.components

      by : (o : Option Message) → begin_from side g.key items ≡ o
          → option_or o (cond (is_id g.key (Some g.key)) (Some m) None) ≡ Some m
      by None none = rw (is_that_id g.key (Some g.key) refl) refl
      by (Some n) some =
          let (has, passes) = find_has (is_begin_from g.key) (sent_by side items) n some in
          begin_used e g.key n step.is_end it.free passes (all_use view n has)

  begun_then : AllBegun side e items → AllBegun side next after
  begun_then held g had slot = by (step.acts.back g had)
    where
      by : (Starts step.deed e g ⊎ Accepts step.deed e g)
          ⊎ ((h : Half) × HasHalf e (record g { half = h }) × Turned table step.deed h g.half) → IsBegunBy side after g
      by (inl (inl new)) = started g new
      by (inl (inr new)) = let bad = sym slot ∙ new.slot in cc
      by (inr (h, was, turned)) =
          let old = held (record g { half = h }) was slot in
          record {
            begin = old.begin;
            is_begun = begin_still step.grows g.key old.begin old.is_begun;
            stands = stands_on h g.half (dialogue_in old.begin) turned old.stands;
          }

pub all_begun : {table : Table} {side : Side} {e : End} {coming : List Message} {items : List Item}
    → View table side e coming items → (f : KeyedHalf) → HasHalf e f → f.slot ≡ Begun → IsBegunBy side items f
all_begun {table} {side} {e} {coming} {items} view =
    advances_keep table side (AllBegun side) (λ f had slot. no_half f.slot f.key f.half had)
    (λ e next coming items after view step. begun_then e next coming items after view step) e coming items view

-- ---- their peers

-- The peer answered the half: the half heard a Continue from the peer's ID to its own.
pub record CameBack (side : Side) (items : List Item) (f : KeyedHalf) (id : List ℕ) : Type 0 where
  pub message : Message
  pub was_incoming : Contains (incoming_behind (begin_from side f.key items) (filter (is_continue_to f.key) (peer_sent_from side id items)))
      message

abbrev AllBack : Side → End → List Item → Type 0
AllBack side e items =
    (f : KeyedHalf) (id : List ℕ) → HasHalf e f → f.slot ≡ Begun → f.half.peer ≡ Some id → CameBack side items f id

-- A message that may answer a half in Sent answers its Begin.
answers_begin : (begin m : Message) (dialogue_state : DialogueState) (dialogue : Option Dialogue) → is_a forms.Begin begin ≡ true
    → dialogue_state ≡ first_dialogue_state (dialogue_in begin) → answers_request dialogue_state dialogue ≡ true → dialogue_in m ≡ dialogue
    → (is_begin_with_request begin ≡ false) ⊎ (responds m ≡ true)
answers_begin begin m dialogue_state dialogue begins stands answer of_it = by (is_begin_with_request begin) refl
  where
    by : (b : Bool) → is_begin_with_request begin ≡ b → (b ≡ false) ⊎ (responds m ≡ true)
    by true asks =
        let requested : dialogue_state ≡ dialogue_states.Requested = rw (stands, ← request_is begin begins, asks) refl in
        let response : is_response dialogue ≡ true = rw requested at answer in inr (rw of_it response)
    by false asks = inl refl

module _ {table : Table} {side : Side} (e next : End) (coming : List Message) (items after : List Item)
    (view : View table side e coming items) (step : Advance table side e next items after) where
  learnt : (g : KeyedHalf) (h : Half) (id : List ℕ) → HasHalf e (record g { half = h }) → g.slot ≡ Begun
      → Learns step.deed h g.half → g.half.peer ≡ Some id → CameBack side after g id
  learnt g h id was slot it peer = record {
    message = m;
    was_incoming = incoming_still step.grows g.key id m
        (incoming_now side items id g.key m begun.begin there goes begun.is_begun
        (answers_begin begun.begin m h.dialogue_state it.dialogue begins stands it.answers refl));
  }
    where
      m : Message
      m = Continue it.from it.id it.dialogue it.components

      from : is_id id (Some it.from) ≡ true
      from = is_that_id id (Some it.from) (sym it.peer ∙ peer)

      there : Contains (peer_sent_from side id items) m
      there = filter_has _ (sent_by (other side) items) m (step.incoming m it.deed_is) from

      begun : IsBegunBy side items (record g { half = h })
      begun = all_begun view (record g { half = h }) was slot

      goes : is_continue_to g.key m ≡ true
      goes =
          let kept : h.own ≡ Some g.key = rw slot at (step.is_end.kept (record g { half = h }) was) in
          is_that_id g.key (Some it.id) (sym it.own_was ∙ kept)

      begins : is_a forms.Begin begun.begin ≡ true
      begins =
          let (has, passes) = find_has (is_begin_from g.key) (sent_by side items) begun.begin begun.is_begun in
          (and_parts (is_a forms.Begin begun.begin) _ passes).0

      stands : h.dialogue_state ≡ first_dialogue_state (dialogue_in begun.begin)
      stands = begun.stands ∙ ap (λ (p : Phase). standing_of p (dialogue_in begun.begin)) it.was

  back_then : AllBack side e items → AllBack side next after
  back_then held g id had slot peer = by (step.acts.back g had)
    where
      still : (h : Half) → HasHalf e (record g { half = h }) → h.peer ≡ Some id → CameBack side after g id
      still h was peer =
          let old = held (record g { half = h }) id was slot peer in
          record { message = old.message; was_incoming = incoming_still step.grows g.key id old.message old.was_incoming }

      turns : (h : Half) → HasHalf e (record g { half = h }) → Turned table step.deed h g.half → CameBack side after g id
      turns h was (stays it) = still h was (sym it.peer ∙ peer)
      turns h was (closes it) = still h was (sym it.peer ∙ peer)
      turns h was (answers it) =
          let kept : h.own ≡ Some g.key = rw slot at (step.is_end.kept (record g { half = h }) was) in
          let bad = sym kept ∙ it.own_was in cc
      turns h was (learns it) = learnt g h id was slot it peer

      by : (Starts step.deed e g ⊎ Accepts step.deed e g)
          ⊎ ((h : Half) × HasHalf e (record g { half = h }) × Turned table step.deed h g.half) → CameBack side after g id
      by (inl (inl new)) = let bad = sym peer ∙ new.peer in cc
      by (inl (inr new)) = let bad = sym slot ∙ new.slot in cc
      by (inr (h, was, turned)) = turns h was turned

pub all_back : {table : Table} {side : Side} {e : End} {coming : List Message} {items : List Item}
    → View table side e coming items → (f : KeyedHalf) (id : List ℕ) → HasHalf e f → f.slot ≡ Begun → f.half.peer ≡ Some id
    → CameBack side items f id
all_back {table} {side} {e} {coming} {items} view =
    advances_keep table side (AllBack side) (λ f id had slot. no_half f.slot f.key f.half had)
    (λ e next coming items after view step. back_then e next coming items after view step) e coming items view
