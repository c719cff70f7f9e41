-- What the steps that one end sees keep holds in each run.
use Rattle.std.proofs.Common.{◌≡◌, ◌⊎◌, inl, inr, true, false, ℕ, List, [], ◌∷◌, ◌++◌, Some, Result, Ok, refl, sym, ap, subst, ◌∙◌}
use Rattle.tcap_msg.specs.declared.message.Message.{Message}
use Rattle.tcap_record.specs.declared.entry.End.{End as Side}
use Rattle.tcap_record.specs.declared.entry.End.TheVariants as sides
use Rattle.tcap_end.specs.declared.fault.EndFault.{EndFault}
use Rattle.tcap_end.specs.Table.{Table}
use Rattle.tcap_end.specs.End.{End, nothing}
use Rattle.tcap_end.specs.ReachableEnd.{IsEnd}
use Rattle.tcap_end.proofs.StepLaws.{closes, expires}
use Rattle.tcap_record.specs.Ends.{other}
use Rattle.tcap_model.specs.World.{Item, MessageInTransit, World, channel_from, empty, end_at, with_channel, with_end}
use Rattle.tcap_model.specs.Run.{Event, Sends, Receives, Replies, Loses, Expires, Closes, Quiet, Tells, KeepsRules, Runs, after, is_tells_by, joined}
use Rattle.tcap_model.proofs.RunLaws.{IsDelivery, IsHidden, IsLoss, IsReply, IsSending, closing, delivery, expiry, loss, quiet, reply, runs_keep, sending, telling}
use Rattle.tcap_refute.specs.EarlierMessages.{since_quiet}
use Rattle.tcap_model.proofs.WorldLaws.{itself}
use Rattle.tcap_refute.proofs.HalfLawsTurns.{Acts, Internal}
use Rattle.tcap_refute.proofs.MomentLaws.{kept_before}
use Rattle.tcap_faults.proofs.view_laws.ActLaws.{closed_acts, expired_acts}
use Rattle.tcap_faults.proofs.view_laws.ViewLaws.{IsKeptBy, IsSeen, IsUnseen, View, coming_to, incoming_here, incoming_there, lost_here, lost_there, mark_seen, messages_of, refused_here, refused_there, said_here, said_there, outgoing_there, internal_here, internal_there, view_of, view_sound, which}

-- ---- along a run

-- What holds for the view holds for the world.
of_seen : (side : Side) (Holds : End → List Message → List Item → Type 0) (w : World) (e : End) (coming : List Message)
    (items : List Item) → IsSeen side w e coming items → Holds e coming items
    → Holds (end_at side w) (coming_to side w) (since_quiet w.sent)
of_seen side Holds w e coming items seen holds = rw (seen.end_is, seen.coming_is, seen.items_is) holds

-- What holds for the world holds for the view.
to_seen : (side : Side) (Holds : End → List Message → List Item → Type 0) (w : World) (e : End) (coming : List Message)
    (items : List Item) → IsSeen side w e coming items
    → Holds (end_at side w) (coming_to side w) (since_quiet w.sent) → Holds e coming items
to_seen side Holds w e coming items seen holds = rw (← seen.end_is, ← seen.coming_is, ← seen.items_is) holds

-- One more step of a run in which the end keeps the rules.
module _ (table : Table) (side : Side) (Holds : End → List Message → List Item → Type 0)
    (kept : IsKeptBy table side Holds) (before : List Event) (w next : World) (runs : Runs table before w)
    (keeps : KeepsRules side before) (held : Holds (end_at side w) (coming_to side w) (since_quiet w.sent)) where
  abbrev e : End
  e = end_at side w

  abbrev items : List Item
  items = since_quiet w.sent

  abbrev HoldsThen : World → Type 0
  HoldsThen v = Holds (end_at side v) (coming_to side v) (since_quiet v.sent)

  then_holds : (v : World) → next ≡ v → HoldsThen v → HoldsThen next
  then_holds v is holds = rw is holds

  view : View table side e (coming_to side w) items
  view = view_of table side before w runs keeps

  is_end : IsEnd e
  is_end = view_sound view

  -- The oldest message that is on its way to the end.
  module _ (head : MessageInTransit) (more : List MessageInTransit) (channel : channel_from (other side) w ≡ head ∷ more) where
    coming_is : coming_to side w ≡ head.message ∷ messages_of more
    coming_is = ap messages_of channel

    view_head : View table side e (head.message ∷ messages_of more) items
    view_head = subst (λ (coming : List Message). View table side e coming items) coming_is view

    held_head : Holds e (head.message ∷ messages_of more) items
    held_head = subst (λ (coming : List Message). Holds e coming items) coming_is held

  sent_keeps : (sender : Side) (m : Message) → (sender ≡ side) ⊎ (sender ≡ other side) → IsSending table sender m w next
      → HoldsThen next
  sent_keeps sender m (inl mine) s =
      then_holds _ (s.next_is ∙ ap (λ (p : Side). joined p m (with_end p s.made w)) mine)
      (of_seen side Holds _ s.made _ _ (said_here side m s.made w)
      (kept.says e s.made (coming_to side w) items m view (rw (← mine) s.step) held))
  sent_keeps sender m (inr theirs) s =
      then_holds _ (s.next_is ∙ ap (λ (p : Side). joined p m (with_end p s.made w)) theirs)
      (of_seen side Holds _ e _ _ (said_there side m s.made w) (kept.asks e (coming_to side w) items m view held))

  incoming_keeps : (receiver : Side) (number : ℕ) → (receiver ≡ side) ⊎ (receiver ≡ other side)
      → IsDelivery table receiver number w next → HoldsThen next
  incoming_keeps receiver number (inl mine) d =
      let channel : channel_from (other side) w ≡ d.head ∷ d.more = rw (← mine) d.channel in
      then_holds _ (d.next_is ∙ ap (λ (p : Side). with_end p d.made (with_channel (other p) d.more w)) mine)
      (of_seen side Holds _ d.made _ _ (incoming_here side d.more d.made w)
      (kept.hears e d.made (messages_of d.more) items d.head.message (view_head d.head d.more channel)
      (rw (← mine) d.step) (held_head d.head d.more channel)))
  incoming_keeps receiver number (inr theirs) d =
      then_holds _ (d.next_is ∙ ap (λ (p : Side). with_end p d.made (with_channel (other p) d.more w)) theirs)
      (of_seen side Holds _ e _ _ (incoming_there side d.more d.made w) held)

  refused_keeps : (replier : Side) (number : ℕ) → (replier ≡ side) ⊎ (replier ≡ other side)
      → IsReply replier number w next → HoldsThen next
  refused_keeps replier number (inl mine) r =
      let channel : channel_from (other side) w ≡ r.head ∷ r.more = rw (← mine) r.channel in
      then_holds _ (r.next_is ∙ ap (λ (p : Side). joined p r.abort (with_channel (other p) r.more w)) mine)
      (of_seen side Holds _ e _ _ (refused_here side r.abort r.more w)
      (kept.refuses e (messages_of r.more) items r.head.message r.abort (view_head r.head r.more channel)
      (rw (← mine) r.step) (held_head r.head r.more channel)))
  refused_keeps replier number (inr theirs) r =
      then_holds _ (r.next_is ∙ ap (λ (p : Side). joined p r.abort (with_channel (other p) r.more w)) theirs)
      (of_seen side Holds _ e _ _ (refused_there side r.abort r.more w)
      (kept.asks e (coming_to side w) items r.abort view held))

  lost_keeps : (sender : Side) (number : ℕ) → (sender ≡ side) ⊎ (sender ≡ other side) → IsLoss sender number w next
      → HoldsThen next
  lost_keeps sender number (inl mine) l =
      then_holds _ (l.next_is ∙ ap (λ (p : Side). with_channel p l.more w) mine)
      (of_seen side Holds _ e _ _ (lost_there side l.more w) held)
  lost_keeps sender number (inr theirs) l =
      let channel : channel_from (other side) w ≡ l.head ∷ l.more = rw (← theirs) l.channel in
      then_holds _ (l.next_is ∙ ap (λ (p : Side). with_channel p l.more w) theirs)
      (of_seen side Holds _ e _ _ (lost_here side l.more w)
      (kept.loses e (messages_of l.more) items l.head.message (view_head l.head l.more channel)
      (held_head l.head l.more channel)))

  internal_keeps : (place : Side) (step : End → Result End EndFault) → (place ≡ side) ⊎ (place ≡ other side)
      → ((made : End) → step e ≡ Ok made → IsEnd made × Acts table Internal e made × IsUnseen table e made)
      → IsHidden place step w next
      → HoldsThen next
  internal_keeps place step (inl mine) acts h =
      then_holds _ (h.next_is ∙ ap (λ (p : Side). with_end p h.made w) mine)
      (of_seen side Holds _ h.made _ _ (internal_here side h.made w)
      (let (is_made, acts_so, internal) = acts h.made (rw (← mine) h.step_is) in
      kept.internal e h.made (coming_to side w) items view is_made acts_so internal held))
  internal_keeps place step (inr theirs) acts h =
      then_holds _ (h.next_is ∙ ap (λ (p : Side). with_end p h.made w) theirs)
      (of_seen side Holds _ e _ _ (internal_there side h.made w) held)

  step_keeps : (event : Event) → after table event w ≡ Some next → is_tells_by side event ≡ false → HoldsThen next
  step_keeps (Sends sender m) is outgoing = sent_keeps sender m (which side sender) (sending table sender m w next is)
  step_keeps (Receives receiver number) is outgoing =
      incoming_keeps receiver number (which side receiver) (delivery table receiver number w next is)
  step_keeps (Replies replier number) is outgoing =
      refused_keeps replier number (which side replier) (reply table replier number w next is)
  step_keeps (Loses sender number) is outgoing =
      lost_keeps sender number (which side sender) (loss table sender number w next is)
  step_keeps (Expires place name id) is outgoing =
      internal_keeps place _ (which side place) (λ made step. (
        (expires table e made name id is_end step).sound,
        expired_acts table e made name id is_end step,
        inl (name, id, step),
      ))
      (expiry table place name id w next is)
  step_keeps (Closes place name) is outgoing =
      internal_keeps place _ (which side place) (λ made step.
      ((closes table e made name is_end step).sound, closed_acts table e made name is_end step, inr (name, step)))
      (closing table place name w next is)
  step_keeps (Tells teller m) is outgoing = by (which side teller)
    where
      by : (teller ≡ side) ⊎ (teller ≡ other side) → HoldsThen next
      by (inl mine) = let bad : true ≡ false = sym (itself side) ∙ rw mine at outgoing in cc
      by (inr theirs) =
          then_holds _ ((telling table teller m w next is).next_is ∙ ap (λ (p : Side). joined p m w) theirs)
          (of_seen side Holds _ e _ _ (outgoing_there side m w) (kept.asks e (coming_to side w) items m view held))
  step_keeps Quiet is outgoing =
      then_holds _ (quiet table w next is).next_is
      (of_seen side Holds _ nothing [] [] (mark_seen side w.sent) kept.blank)

module _ (table : Table) (side : Side) (Holds : End → List Message → List Item → Type 0)
    (kept : IsKeptBy table side Holds) where
  abbrev HoldsOf : List Event → World → Type 0
  HoldsOf events w = KeepsRules side events → Holds (end_at side w) (coming_to side w) (since_quiet w.sent)

  holds_empty : HoldsOf [] empty
  holds_empty keeps = of_seen side Holds empty nothing [] [] (by side) kept.blank
    where
      by : (side : Side) → IsSeen side empty nothing [] []
      by sides.A = record { end_is = refl; coming_is = refl; items_is = refl }
      by sides.B = record { end_is = refl; coming_is = refl; items_is = refl }

  holds_then : (before : List Event) (event : Event) (w next : World) → Runs table before w
      → after table event w ≡ Some next → HoldsOf before w → HoldsOf (before ++ event ∷ []) next
  holds_then before event w next runs is held keeps =
      let (kept_rules, outgoing) = kept_before side before event keeps in
      step_keeps table side Holds kept before w next runs kept_rules (held kept_rules) event is outgoing

  -- It holds for the view after each run.
  pub views_keep : (e : End) (coming : List Message) (items : List Item) → View table side e coming items
      → Holds e coming items
  views_keep e coming items view =
      to_seen side Holds view.world e coming items view.seen
      (runs_keep table HoldsOf holds_empty holds_then view.events view.world view.runs view.keeps)
