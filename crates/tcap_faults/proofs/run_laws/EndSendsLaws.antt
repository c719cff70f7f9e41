-- The open halves of an end have their stories after a message that it sends.
use Rattle.std.proofs.Common.{◌≡◌, ◌⊎◌, inl, inr, ℕ, Bool, true, false, List, [], ◌∷◌, ◌++◌, Option, Some, None, Result, Ok, Err, is_none, refl, sym, ◌∙◌, arith}
use Rattle.tcap_parts.specs.declared.component.Component.{Component}
use Rattle.tcap_parts.specs.declared.dialogue.Dialogue.{Dialogue}
use Rattle.tcap_msg.specs.declared.message.Message.{Message}
use Rattle.tcap_msg.specs.declared.message.Message.TheVariants.{Unidirectional, Begin, Continue, End as EndMessage, Abort}
use Rattle.tcap_msg.specs.Parts.{dtid_in, items_of}
use Rattle.tcap_record.specs.declared.entry.End.{End as Side}
use Rattle.tcap_end.specs.declared.fault.EndFault.{EndFault}
use Rattle.tcap_end.specs.declared.fault.EndFault.TheVariants as faults
use Rattle.tcap_end.specs.declared.half.Phase.TheVariants as phases
use Rattle.tcap_end.specs.declared.half.Slot.{Slot}
use Rattle.tcap_end.specs.declared.half.Slot.TheVariants.{Begun, Accepted}
use Rattle.tcap_end.specs.Step.{◌>>◌}
use Rattle.tcap_end.specs.Table.{Table}
use Rattle.tcap_end.specs.Half.{Half, fresh, is_closed}
use Rattle.tcap_end.specs.Dialogue.{first_dialogue_state, may_be_uni, may_begin}
use Rattle.tcap_end.specs.End.{End, KeyedHalf, is_id, put, with_own}
use Rattle.tcap_end.specs.Message.{send, send_begin, send_components, send_uni_components}
use Rattle.tcap_end.specs.ReachableEnd.{HasHalf, IsEnd, IsHalfKey}
use Rattle.tcap_end.proofs.AnsweringLaws.{needs_ok, ok_same, then_ok}
use Rattle.tcap_end.proofs.EndLaws.{IsThere, put_has}
use Rattle.tcap_end.proofs.StepLaws.{none_is}
use Rattle.tcap_model.specs.World.{Item, Sent}
use Rattle.tcap_model.proofs.TurnLaws.{id_is, put_there}
use Rattle.tcap_end.proofs.FoundLaws.{is_that_id}
use Rattle.tcap_refute.proofs.OverLaws.{IsOver, over}
use Rattle.tcap_model.proofs.UsedLaws.{one_half}
use Rattle.tcap_refute.proofs.HalfLawsTurns.{Answers, Said, Turned, answers, closes, learns, stays}
use Rattle.tcap_faults.specs.SentToId.{begin_from}
use Rattle.tcap_faults.proofs.run_laws.MayHearLaws.{KeepsBegins}
use Rattle.tcap_faults.proofs.run_laws.HalfReceivesLaws.{story_begins}
use Rattle.tcap_faults.proofs.run_laws.HalfGoesOnLaws.{HasBegun, KeepsOwn, Story, begun_kept, story_later, story_sends}
use Rattle.tcap_faults.proofs.run_laws.ItemLaws.{begins_kept, sent_own, outgoing_not, outgoing_now}
use Rattle.tcap_faults.proofs.story_laws.Stories.{outgoing_to}
use Rattle.tcap_faults.proofs.view_laws.ActLaws.{keeps_peer}

-- Each open half of the end has its story.
abbrev pub HaveStories : Table → Side → List Item → List Message → End → Type 0
HaveStories table side items gone e =
    (f : KeyedHalf) → HasHalf e f → is_closed f.half.phase ≡ false → Story table side items gone f.slot f.key f.half

-- The end sent no Begin from an ID that no half has.
abbrev pub BeganNone : Side → List Item → End → Type 0
BeganNone side items e = (id : List ℕ) → with_own e id ≡ None → begin_from side id items ≡ None

-- ---- one half changes

module _ (table : Table) (side : Side) (items : List Item) (gone : List Message) (e next : End) (m : Message) where
  keeps : KeepsBegins side items (items ++ Sent side m ∷ [])
  keeps = begins_kept side items (items ++ Sent side m ∷ []) (m ∷ []) (sent_own side m items)

  -- The message was not sent to this ID.
  abbrev IsApart : Option (List ℕ) → Type 0
  IsApart peer = outgoing_to side (items ++ Sent side m ∷ []) peer ≡ outgoing_to side items peer

  -- The message has another destination ID, or none.
  apart_from : (peer : Option (List ℕ)) → ((q : List ℕ) → peer ≡ Some q → is_id q (dtid_in m) ≡ false) → IsApart peer
  apart_from None other = refl
  apart_from (Some q) other = outgoing_not side items m q (rw (other q refl) refl)

  -- A half that does not change keeps its story.
  story_kept : HaveStories table side items gone e → (g : KeyedHalf) → HasHalf e g → is_closed g.half.phase ≡ false
      → IsApart g.half.peer
      → Story table side (items ++ Sent side m ∷ []) gone g.slot g.key g.half
  story_kept had g in_g is_open apart =
      story_later table side items (items ++ Sent side m ∷ []) gone g.slot g.key g.half keeps apart (had g in_g is_open)

  -- The half with this peer changes.
  module _ (f : KeyedHalf) (k : Half) (id : List ℕ) (sound : IsEnd next) (made : put e f.slot f.key k ≡ next)
      (peer : k.peer ≡ Some id) (to : dtid_in m ≡ Some id)
      (now : is_closed k.phase ≡ false → Story table side (items ++ Sent side m ∷ []) gone f.slot f.key k) where
    there : HasHalf next (record f { half = k })
    there = rw (← made) (put_there e f.slot f.key k)

    is_it : (g : KeyedHalf) → (g.slot ≡ f.slot) × (g.key ≡ f.key) × (g.half ≡ k) → is_closed g.half.phase ≡ false
        → Story table side (items ++ Sent side m ∷ []) gone g.slot g.key g.half
    is_it g same is_open = rw (same.0, same.1, same.2) (now (rw (same.2) at is_open))

    -- Another half has another peer.
    another : HaveStories table side items gone e → (g : KeyedHalf) → HasHalf next g → HasHalf e g
        → is_closed g.half.phase ≡ false
        → Story table side (items ++ Sent side m ∷ []) gone g.slot g.key g.half
    another had g in_next in_g is_open = by g.half.peer refl
      where
        with : (q : List ℕ) → g.half.peer ≡ Some q → (b : Bool) → is_id q (dtid_in m) ≡ b
            → Story table side (items ++ Sent side m ∷ []) gone g.slot g.key g.half
        with q of true is =
            let same : Some id ≡ Some q = sym to ∙ id_is q (dtid_in m) is in
            let one = sound.one_peer g (record f { half = k }) id in_next there (of ∙ sym same) peer in
            is_it g (one.0, one.1, one_half next (record f { half = k }) g there in_next (sym one.0, sym one.1)) is_open
        with q of false is = story_kept had g in_g is_open (rw of (outgoing_not side items m q (rw is refl)))

        by : (o : Option (List ℕ)) → g.half.peer ≡ o
            → Story table side (items ++ Sent side m ∷ []) gone g.slot g.key g.half
        by None none = story_kept had g in_g is_open (rw none refl)
        by (Some q) of = with q of (is_id q (dtid_in m)) refl

    pub put_stories : HaveStories table side items gone e → HaveStories table side (items ++ Sent side m ∷ []) gone next
    put_stories had g in_next is_open = by (put_has e f.slot f.key k g (rw (← made) at in_next))
      where
        by : IsThere f.slot f.key k g ⊎ HasHalf e g → Story table side (items ++ Sent side m ∷ []) gone g.slot g.key g.half
        by (inl new) = is_it g new is_open
        by (inr old) = another had g in_next old is_open

-- ---- each message

module _ (table : Table) (side : Side) (items : List Item) (gone : List Message) (e next : End) (before : IsEnd e)
    (behind : IsEnd next) (had : HaveStories table side items gone e) where
  -- The end has its stories after this message.
  abbrev Go : Message → Type 0
  Go m = HaveStories table side (items ++ Sent side m ∷ []) gone next

  -- The step was Ok with this end.
  is_this : (x : End) → (let r : Result End EndFault = Ok x in r) ≡ Ok next → x ≡ next
  is_this x is = ok_same {F = EndFault} x next is

  -- A Unidirectional changes nothing.
  uni_goes : (dialogue : Option Dialogue) (components : List Component)
      → send table e (Unidirectional dialogue components) ≡ Ok next → Go (Unidirectional dialogue components)
  uni_goes dialogue components is =
      let may = needs_ok (may_be_uni dialogue) faults.WrongDialogue _ next is in
      let same = by (send_uni_components table [] components) may.1 in
      λ g in_g is_open.
      story_kept table side items gone e next (Unidirectional dialogue components) had g (rw same in_g) is_open
      (apart_from table side items gone e next (Unidirectional dialogue components) g.half.peer (λ q of. refl))
    where
      by : (r : Result (Unit {0}) EndFault) → (r >> Ok e) ≡ Ok next → e ≡ next
      by (Ok done) is = is_this e is
      by (Err reason) is = cc

  -- A Begin makes a half.
  begin_goes : BeganNone side items e → (otid : List ℕ) (dialogue : Option Dialogue)
      (components : Option (List Component))
      → send_begin table e otid dialogue (items_of components) ≡ Ok next → Go (Begin otid dialogue components)
  begin_goes none otid dialogue components is =
      let free = needs_ok (is_none (with_own e otid)) faults.IdUsed _ next is in
      let may = needs_ok (may_begin dialogue) faults.WrongDialogue _ next free.1 in
      let (k, sent, done) = then_ok
      (send_components table (fresh phases.Sent (Some otid) None (first_dialogue_state dialogue)) (items_of components))
      (λ half. Ok (put e Begun otid half)) next may.1 in
      let made = is_this _ done in
      let story = story_begins table side items gone otid dialogue components k
      (none otid (none_is (with_own e otid) free.0)) sent in
      λ g in_g is_open. by k made story g is_open (put_has e Begun otid k g (rw (← made) at in_g))
    where
      m : Message
      m = Begin otid dialogue components

      by : (k : Half) → put e Begun otid k ≡ next
          → Story table side (items ++ Sent side (Begin otid dialogue components) ∷ []) gone Begun otid k
          → (g : KeyedHalf)
          → is_closed g.half.phase ≡ false → IsThere Begun otid k g ⊎ HasHalf e g
          → Story table side (items ++ Sent side (Begin otid dialogue components) ∷ []) gone g.slot g.key g.half
      by k made story g is_open (inl new) = rw (new.0, new.1, new.2) story
      by k made story g is_open (inr old) =
          story_kept table side items gone e next (Begin otid dialogue components) had g old is_open
          (apart_from table side items gone e next (Begin otid dialogue components) g.half.peer (λ q of. refl))

  -- A message with a destination ID is sent over the half with this peer.
  module _ (m : Message) (id : List ℕ) (half : IsOver table e m id) (to : dtid_in m ≡ Some id)
      (is : send table e m ≡ Ok next) where
    abbrev later : List Item
    later = items ++ Sent side m ∷ []

    made : put e half.kept.slot half.kept.key half.now ≡ next
    made = is_this _ (sym half.leads ∙ is)

    peer : half.now.peer ≡ Some id
    peer = keeps_peer id half.turned half.peer

    -- A message that answers a Begin goes over an accepted half.
    answers_begin : Answers (Said m) half.kept.half half.now → half.kept.slot ≡ Accepted
    answers_begin it = grind (arith, before.kept half.kept half.had, it.own_was)

    keeps_own : Turned table (Said m) half.kept.half half.now → KeepsOwn half.kept.slot half.kept.half half.now
    keeps_own (stays it) = inl it.own
    keeps_own (closes it) = inl it.own
    keeps_own (answers it) = inr (answers_begin it, it.own_was, (it.id, it.own))
    keeps_own (learns it) = let never = it.deed_is in cc

    begun : is_closed half.now.phase ≡ false → Turned table (Said m) half.kept.half half.now
        → HasBegun side later gone half.kept.slot half.kept.key half.now
    begun still (stays it) =
        begun_kept side items later gone half.kept.slot half.kept.key half.kept.half half.now
        (keeps table side items gone e next m) it.phase it.peer it.dialogue_state (had half.kept half.had half.is_open).begun
    begun still (closes it) = let bad : true ≡ false = rw (it.phase) at still in cc
    begun still (answers it) = rw (answers_begin it) tt
    begun still (learns it) = let never = it.deed_is in cc

    over_goes : Go m
    over_goes =
        put_stories table side items gone e next m half.kept half.now id behind made peer to
        (λ still.
        story_sends table side items later gone half.kept.slot half.kept.key half.kept.half half.start half.now m id
        (half.out, half.inn, half.grants) (rw (half.is_now still) half.sends) half.peer (peer ∙ sym half.peer)
        (keeps_own half.turned) (outgoing_now side items m id (is_that_id id (dtid_in m) to) half.no_cause)
        (keeps table side items gone e next m) (begun still half.turned) (had half.kept half.had half.is_open)) had

  -- After each sent message, the end has its stories.
  pub sent_stories : BeganNone side items e → (m : Message) → send table e m ≡ Ok next → Go m
  sent_stories none (Unidirectional dialogue components) is = uni_goes dialogue components is
  sent_stories none (Begin otid dialogue components) is = begin_goes none otid dialogue components is
  sent_stories none (Continue otid dtid dialogue components) is =
      let m = Continue otid dtid dialogue components in
      over_goes m dtid (over table e next before m dtid is refl) refl is
  sent_stories none (EndMessage dtid dialogue components) is =
      let m = EndMessage dtid dialogue components in
      over_goes m dtid (over table e next before m dtid is refl) refl is
  sent_stories none (Abort dtid reason) is =
      let m = Abort dtid reason in over_goes m dtid (over table e next before m dtid is refl) refl is
