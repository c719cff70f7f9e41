-- The open halves of an end have their stories after a message that it receives, and after a hidden step.
use Rattle.std.proofs.Common.{◌≡◌, ◌⊎◌, inl, inr, ℕ, ℤ, Bool, true, false, cond, not, List, [], ◌∷◌, ◌++◌, Option, Some, None, Result, Ok, is_none, refl, subst}
use Rattle.std.specs.Prelude.{ok_or}
use Rattle.tcap_parts.specs.declared.dialogue.Dialogue.{Dialogue}
use Rattle.tcap_parts.specs.declared.component.Component.{Component}
use Rattle.tcap_msg.specs.declared.message.Message.{Message}
use Rattle.tcap_msg.specs.declared.message.Message.TheVariants.{Unidirectional, Begin, Continue, End as EndMessage, Abort}
use Rattle.tcap_msg.specs.Parts.{items_of}
use Rattle.tcap_record.specs.declared.entry.End.{End as Side}
use Rattle.tcap_end.specs.declared.fault.EndFault.{EndFault}
use Rattle.tcap_end.specs.declared.fault.EndFault.TheVariants as faults
use Rattle.tcap_end.specs.declared.half.HalfName.{HalfName}
use Rattle.tcap_end.specs.declared.half.Phase.{Phase}
use Rattle.tcap_end.specs.declared.half.Phase.TheVariants as phases
use Rattle.tcap_end.specs.declared.half.Slot.{Slot}
use Rattle.tcap_end.specs.declared.half.Slot.TheVariants.{Begun, Accepted}
use Rattle.tcap_end.specs.Table.{Table}
use Rattle.tcap_end.specs.Half.{Half, closed_half, fresh, is_closed}
use Rattle.tcap_end.specs.Component.{own_invocation}
use Rattle.tcap_end.specs.Dialogue.{answers_request, first_dialogue_state}
use Rattle.tcap_end.specs.End.{End, KeyedHalf, is_id, named, put, with_own, with_peer}
use Rattle.tcap_end.specs.HiddenSteps.{close, expire, may_close, may_expire, without_invocation}
use Rattle.tcap_end.specs.Message.{active_half, receive, receive_begin, receive_components, receive_continue, receive_end, receive_over}
use Rattle.tcap_end.specs.ReachableEnd.{FitsPhase, HasHalf, IsEnd, IsHalfKey}
use Rattle.tcap_end.proofs.AnsweringLaws.{needs_ok, ok_same, some_ok, then_ok}
use Rattle.tcap_end.proofs.EndLaws.{IsThere, put_has}
use Rattle.tcap_end.proofs.FoundLaws.{named_has, own_has}
use Rattle.tcap_end.proofs.StepLaws.{none_is}
use Rattle.tcap_model.specs.World.{Item}
use Rattle.tcap_model.proofs.TurnLaws.{id_is}
use Rattle.tcap_model.proofs.SentMoves.{own_is}
use Rattle.tcap_faults.specs.SentToId.{outgoing}
use Rattle.tcap_faults.proofs.run_laws.HalfReceivesLaws.{story_answered, story_goes_on, story_received}
use Rattle.tcap_faults.proofs.run_laws.HalfGoesOnLaws.{Story, story_ends, story_still}
use Rattle.tcap_faults.proofs.run_laws.EndSendsLaws.{HaveStories}

-- The end sent nothing to an ID that no half has as its peer's.
abbrev pub ToldNone : Side → List Item → End → Type 0
ToldNone side items e = (id : List ℕ) → with_peer e id ≡ None → outgoing side id items ≡ []

-- ---- one half

-- If one half changes, and has its story if it is open, all halves have their stories.
pub put_story : (table : Table) (side : Side) (items : List Item) (gone : List Message) (e next : End) (slot : Slot)
    (key : List ℕ) (k : Half) → put e slot key k ≡ next → HaveStories table side items gone e
    → (is_closed k.phase ≡ false → Story table side items gone slot key k) → HaveStories table side items gone next
put_story table side items gone e next slot key k made had now g in_next is_open =
    by (put_has e slot key k g (rw (← made) at in_next))
  where
    by : IsThere slot key k g ⊎ HasHalf e g → Story table side items gone g.slot g.key g.half
    by (inl new) = rw (new.0, new.1, new.2) (now (rw (new.2) at is_open))
    by (inr old) = had g old is_open

-- The step was Ok with this end.
is_this : (x next : End) → (let r : Result End EndFault = Ok x in r) ≡ Ok next → x ≡ next
is_this x next is = ok_same {F = EndFault} x next is

-- ---- hidden steps

module _ (table : Table) (side : Side) (items : List Item) (gone : List Message) (e next : End) (before : IsEnd e)
    (had : HaveStories table side items gone e) where
  -- An own invocation expires.
  pub expired_stories : (name : HalfName) (id : ℤ) → expire table e name id ≡ Ok next
      → HaveStories table side items gone next
  expired_stories name id is =
      let (f, ok, step) = then_ok (ok_or (named e name) faults.CannotExpire) _ next is in
      let still = needs_ok (not (is_closed f.half.phase)) faults.CannotExpire _ next step in
      let may = needs_ok (may_expire table (own_invocation f.half id)) faults.CannotExpire _ next still.1 in
      let in_f = named_has e name before f (some_ok _ _ f ok) in
      put_story table side items gone e next f.slot f.key (without_invocation id f.half) (is_this _ next may.1) had
      (λ is_open. story_ends table side items gone f.slot f.key f.half id may.0 (had f in_f is_open))

  -- A half closes.
  pub closed_stories : (name : HalfName) → close table e name ≡ Ok next → HaveStories table side items gone next
  closed_stories name is =
      let (f, ok, step) = then_ok (ok_or (named e name) faults.CannotClose) _ next is in
      let may = needs_ok (may_close table f.half.phase) faults.CannotClose _ next step in
      put_story table side items gone e next f.slot f.key (closed_half f.half) (is_this _ next may.1) had
      (λ is_open. cc)

-- ---- received messages

-- A message is taken from the channel.
pub stories_still : (table : Table) (side : Side) (items : List Item) (gone : List Message) (m : Message) (e : End)
    → HaveStories table side items gone e → HaveStories table side items (gone ++ m ∷ []) e
stories_still table side items gone m e had g in_g is_open =
    story_still table side items gone (m ∷ []) g.slot g.key g.half (had g in_g is_open)

module _ (table : Table) (side : Side) (items : List Item) (gone : List Message) (e next : End) (before : IsEnd e)
    (had : HaveStories table side items gone e) (outgoing_none : ToldNone side items e) where
  -- The end has its stories after this message.
  abbrev Got : Message → Type 0
  Got m = HaveStories table side items (gone ++ m ∷ []) next

  -- One half changes by the message.
  becomes : (m : Message) (slot : Slot) (key : List ℕ) (k : Half) → put e slot key k ≡ next
      → (is_closed k.phase ≡ false → Story table side items (gone ++ m ∷ []) slot key k) → Got m
  becomes m slot key k made now =
      put_story table side items (gone ++ m ∷ []) e next slot key k made
      (stories_still table side items gone m e had) now

  -- A Begin makes a half.
  begin_got : (otid : List ℕ) (dialogue : Option Dialogue) (components : Option (List Component))
      → receive_begin table e otid dialogue (items_of components) ≡ Ok next → Got (Begin otid dialogue components)
  begin_got otid dialogue components is =
      let step = needs_ok (is_none (with_peer e otid)) faults.IdUsed _ next is in
      becomes (Begin otid dialogue components) Accepted otid
      (receive_components table (fresh phases.Received None (Some otid) (first_dialogue_state dialogue))
      (items_of components))
      (is_this _ next step.1)
      (λ is_open.
      story_received table side items gone otid dialogue components
      (outgoing_none otid (none_is (with_peer e otid) step.0)))

  -- A Continue goes to the half with its destination ID: it answers the half's Begin, or goes on.
  module _ (otid dtid : List ℕ) (dialogue : Option Dialogue) (components : Option (List Component)) (f : KeyedHalf)
      (in_f : HasHalf e f) (own : f.half.own ≡ Some dtid) where
    abbrev goes : Message
    goes = Continue otid dtid dialogue components

    answer_got : f.half.phase ≡ phases.Sent → answers_request f.half.dialogue_state dialogue ≡ true
        → outgoing side otid items ≡ []
        → put e f.slot f.key (receive_components table (active_half Begun otid f.half) (items_of components)) ≡ next
        → Got goes
    answer_got at answers none made =
        becomes goes f.slot f.key (receive_components table (active_half Begun otid f.half) (items_of components)) made
        (λ is_open. by f.slot (before.kept f in_f) (had f in_f (rw at refl)))
      where
        fits : FitsPhase phases.Sent f.half
        fits = subst (λ (p : Phase). FitsPhase p f.half) at (before.halves f in_f).phase

        by : (slot : Slot) → IsHalfKey slot f.key f.half → Story table side items gone slot f.key f.half
            → Story table side items (gone ++ goes ∷ []) slot f.key
            (receive_components table (active_half Begun otid f.half) (items_of components))
        by Accepted kept story = let none_there = fits.1 in cc
        by Begun kept story =
            let same : f.key ≡ dtid = cc in
            rw same
            (story_answered table side items gone otid dtid dialogue components f.half at own fits.1 answers none
            (rw same at story))

    next_got : f.half.phase ≡ phases.Active → f.half.peer ≡ Some otid
        → put e f.slot f.key (receive_components table f.half (items_of components)) ≡ next → Got goes
    next_got at peer made =
        becomes goes f.slot f.key (receive_components table f.half (items_of components)) made
        (λ is_open.
        story_goes_on table side items gone otid dtid dialogue components f.slot f.key f.half at own peer
        (before.kept f in_f)
        (had f in_f (rw at refl)))

    over_got : (p : Phase) → f.half.phase ≡ p → receive_over table e otid dialogue (items_of components) f p ≡ Ok next
        → Got goes
    over_got phases.Sent at is =
        let free = needs_ok (is_none (with_peer e otid)) faults.IdUsed _ next is in
        let answers = needs_ok (answers_request f.half.dialogue_state dialogue) faults.WrongDialogue _ next free.1 in
        answer_got at answers.0 (outgoing_none otid (none_is (with_peer e otid) free.0)) (is_this _ next answers.1)
    over_got phases.Active at is =
        let peer = needs_ok (is_id otid f.half.peer) faults.NoTransaction _ next is in
        next_got at (id_is otid f.half.peer peer.0) (is_this _ next peer.1)
    over_got phase at is = cc

  continue_got : (otid dtid : List ℕ) (dialogue : Option Dialogue) (components : Option (List Component))
      → receive_continue table e otid dtid dialogue (items_of components) ≡ Ok next
      → Got (Continue otid dtid dialogue components)
  continue_got otid dtid dialogue components is =
      let (f, ok, step) = then_ok (ok_or (with_own e dtid) faults.NoTransaction) _ next is in
      let found = some_ok _ _ f ok in
      over_got otid dtid dialogue components f (own_has e dtid before f found) (own_is e dtid f found) f.half.phase refl
      step

  -- An End or an Abort closes a half, or changes nothing.
  end_got : (m : Message) (o : Option KeyedHalf) → receive_end e o ≡ next → Got m
  end_got m None is =
      subst (HaveStories table side items (gone ++ m ∷ [])) is (stories_still table side items gone m e had)
  end_got m (Some f) is = by (is_closed f.half.phase) is
    where
      by : (b : Bool) → cond b e (put e f.slot f.key (closed_half f.half)) ≡ next → Got m
      by true same =
          subst (HaveStories table side items (gone ++ m ∷ [])) same (stories_still table side items gone m e had)
      by false made = becomes m f.slot f.key (closed_half f.half) made (λ is_open. cc)

  -- After each received message, the end has its stories.
  pub received_stories : (m : Message) → receive table e m ≡ Ok next → Got m
  received_stories (Unidirectional dialogue components) is =
      subst (HaveStories table side items (gone ++ Unidirectional dialogue components ∷ [])) (is_this e next is)
      (stories_still table side items gone (Unidirectional dialogue components) e had)
  received_stories (Begin otid dialogue components) is = begin_got otid dialogue components is
  received_stories (Continue otid dtid dialogue components) is = continue_got otid dtid dialogue components is
  received_stories (EndMessage dtid dialogue components) is =
      end_got (EndMessage dtid dialogue components) (with_own e dtid) (is_this _ next is)
  received_stories (Abort dtid reason) is = end_got (Abort dtid reason) (with_own e dtid) (is_this _ next is)
