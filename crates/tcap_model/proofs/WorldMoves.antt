-- What each step does to a world: each end moves, and the sent list grows by at most one item.
use Rattle.std.proofs.Common.{◌≡◌, ◌⊎◌, inl, inr, ℕ, true, false, List, [], ◌∷◌, ◌++◌, Option, Some, None, Result, Ok, refl, sym, ◌∙◌}
use Rattle.std.specs.List.{AllByRecursion}
use Rattle.std.proofs.lemmas.Option.{cond_some}
use Rattle.tcap_msg.specs.declared.message.AbortReason.TheVariants.{Cause}
use Rattle.tcap_msg.specs.declared.message.Message.{Message}
use Rattle.tcap_msg.specs.declared.message.Message.TheVariants.{Unidirectional, Begin, Continue, End as EndMessage, Abort}
use Rattle.tcap_record.specs.declared.entry.End.{End as Side}
use Rattle.tcap_record.specs.declared.entry.End.TheVariants as sides
use Rattle.tcap_end.specs.declared.fault.EndFault.{EndFault}
use Rattle.tcap_end.specs.declared.half.Phase.TheVariants as phases
use Rattle.tcap_end.specs.Table.{Table}
use Rattle.tcap_end.specs.End.{End, KeyedHalf, nothing}
use Rattle.tcap_end.specs.Message.{send}
use Rattle.tcap_end.specs.ReachableEnd.{HasHalf, IsEnd}
use Rattle.tcap_end.proofs.EndLaws.{no_half}
use Rattle.tcap_record.specs.Ends.{other}
use Rattle.tcap_model.specs.World.{MessageInTransit, Sent, World, channel_from, empty, end_at, is_side, with_channel, with_end}
use Rattle.tcap_model.specs.Run.{Event, Sends, Receives, Replies, Loses, Expires, Closes, Quiet, Tells, Runs, after, is_tells_by, joined, reply_to}
use Rattle.tcap_model.specs.SinceMark.{HasUsed, SentSince, WasSent, ended_by}
use Rattle.tcap_model.proofs.Moves.{Moves}
use Rattle.tcap_model.proofs.TurnLaws.{moves_nowhere}
use Rattle.tcap_model.proofs.SentMoves.{begin_uses, closed_moves, continue_uses, ending_closes, expired_moves, sent_moves}
use Rattle.tcap_model.proofs.ReceivedMoves.{received_moves}
use Rattle.tcap_model.proofs.SinceLaws.{since_at, since_back, since_quiet, since_more}
use Rattle.tcap_model.proofs.ChannelLaws.{were_sent}
use Rattle.tcap_model.proofs.WorldLaws.{itself, sent_joined, sent_with_channel, sent_with_end}
use Rattle.tcap_model.proofs.RunLaws.{IsDelivery, IsHidden, IsLoss, IsQuiet, IsReply, IsSending, IsTold, closing, delivery, expiry, loss, quiet, reply, runs_keep, sending, sound, telling}

-- ---- what a step makes of a world

-- The received message, if any, was sent by the peer since the last mark.
abbrev pub CameSince : World → Side → Option Message → Type 0
CameSince w side None = Unit {0}
CameSince w side (Some m) = SentSince (other side) m w.sent

-- The end moves, with the message that it receives, if any.
pub record EndMoves (side : Side) (w next : World) : Type 1 where
  pub came : Option Message
  pub since : CameSince w side came
  pub moves : Moves came (end_at side w) (end_at side next)

-- If the message ended the dialogue with a peer, the end has a closed half with this peer ID.
abbrev pub HasEnded : World → Side → Message → Type 0
HasEnded w side m = (id : List ℕ) → ended_by m ≡ Some id
    → (f : KeyedHalf) × HasHalf (end_at side w) f × (f.half.peer ≡ Some id) × (f.half.phase ≡ phases.Closed)

-- Messages sent since the last mark stay so, and a new one of a lawful end has its half.
pub record SentMore (event : Event) (w next : World) : Type 0 where
  pub keeps : (side : Side) (m : Message) → SentSince side m w.sent → SentSince side m next.sent
  pub adds : (side : Side) (m : Message) → is_tells_by side event ≡ false
      → SentSince side m next.sent → SentSince side m w.sent ⊎ (HasUsed next side m × HasEnded next side m)

-- Both ends move, and the sent list grows.
pub record Advances (event : Event) (w next : World) : Type 1 where
  pub ends : (side : Side) → EndMoves side w next
  pub sent : SentMore event w next

-- There is no half, and nothing was sent since the last mark.
pub record IsBlank (w : World) : Type 0 where
  pub halves : (side : Side) (f : KeyedHalf) → HasHalf (end_at side w) f → ⊥
  pub sent : (side : Side) (m : Message) → SentSince side m w.sent → ⊥

-- ---- ends

-- one end is new, and the other stays
record Changes (side : Side) (made : End) (w next : World) : Type 0 where
  here : end_at side next ≡ made
  there : end_at (other side) next ≡ end_at (other side) w

-- If the new end is a move, both ends move.
one_end : (side : Side) (made : End) (w next : World) (came : Option Message) → Changes side made w next → CameSince w side came
    → Moves came (end_at side w) made → (place : Side) → EndMoves place w next
one_end side made w next came changes since moves place = by side place changes.here changes.there since moves
  where
    by : (side place : Side) → end_at side next ≡ made → end_at (other side) next ≡ end_at (other side) w → CameSince w side came
        → Moves came (end_at side w) made → EndMoves place w next
    by sides.A sides.A here there since moves = record { came = came; since = since; moves = rw here moves }
    by sides.A sides.B here there since moves = record { came = None; since = tt; moves = rw there (moves_nowhere None _) }
    by sides.B sides.A here there since moves = record { came = None; since = tt; moves = rw there (moves_nowhere None _) }
    by sides.B sides.B here there since moves = record { came = came; since = since; moves = rw here moves }

-- If no end changes, both ends move.
no_end : (side : Side) (w next : World) → Changes side (end_at side w) w next → (place : Side) → EndMoves place w next
no_end side w next changes = one_end side (end_at side w) w next None changes tt (moves_nowhere None _)

-- A sending changes its sender.
changes_sent : (side : Side) (m : Message) (made : End) (w : World) → Changes side made w (joined side m (with_end side made w))
changes_sent sides.A m made w = record { here = refl; there = refl }
changes_sent sides.B m made w = record { here = refl; there = refl }

-- A delivery changes its receiver.
changes_got : (side : Side) (more : List MessageInTransit) (made : End) (w : World)
    → Changes side made w (with_end side made (with_channel (other side) more w))
changes_got sides.A more made w = record { here = refl; there = refl }
changes_got sides.B more made w = record { here = refl; there = refl }

-- A provider's reply changes no end.
changes_replied : (side : Side) (m : Message) (more : List MessageInTransit) (w : World)
    → Changes side (end_at side w) w (joined side m (with_channel (other side) more w))
changes_replied sides.A m more w = record { here = refl; there = refl }
changes_replied sides.B m more w = record { here = refl; there = refl }

-- A loss changes no end.
changes_lost : (side : Side) (more : List MessageInTransit) (w : World) → Changes side (end_at side w) w (with_channel side more w)
changes_lost sides.A more w = record { here = refl; there = refl }
changes_lost sides.B more w = record { here = refl; there = refl }

-- A hidden step at an end changes this end.
changes_hidden : (side : Side) (made : End) (w : World) → Changes side made w (with_end side made w)
changes_hidden sides.A made w = record { here = refl; there = refl }
changes_hidden sides.B made w = record { here = refl; there = refl }

-- ---- the sent list

-- Nothing is sent.
none_sent : (event : Event) (w next : World) → next.sent ≡ w.sent → SentMore event w next
none_sent event w next is = record {
  keeps = λ side m was. rw is was;
  adds = λ side m told since. inl (rw is at since);
}

-- An end sends a message by the rules.
one_sent : (event : Event) (sender : Side) (n : Message) (w next : World) → next.sent ≡ w.sent ++ Sent sender n ∷ []
    → HasUsed next sender n → HasEnded next sender n → SentMore event w next
one_sent event sender n w next is used ended = record {
  keeps = λ side m was. rw is (since_more side sender m n w.sent was);
  adds = λ side m told since. by side m (since_back side sender m n w.sent (rw is at since));
}
  where
    by : (side : Side) (m : Message) → ((side ≡ sender) × (m ≡ n)) ⊎ SentSince side m w.sent
        → SentSince side m w.sent ⊎ (HasUsed next side m × HasEnded next side m)
    by side m (inl newest) = inr (rw (newest.0, newest.1) (used, ended))
    by side m (inr was) = inl was

-- An end sends a message by `Tells`.
one_told : (teller : Side) (n : Message) (w next : World) → next.sent ≡ w.sent ++ Sent teller n ∷ [] → SentMore (Tells teller n) w next
one_told teller n w next is = record {
  keeps = λ side m was. rw is (since_more side teller m n w.sent was);
  adds = λ side m told since. by side m told (since_back side teller m n w.sent (rw is at since));
}
  where
    by : (side : Side) (m : Message) → is_side side teller ≡ false → ((side ≡ teller) × (m ≡ n)) ⊎ SentSince side m w.sent
        → SentSince side m w.sent ⊎ (HasUsed next side m × HasEnded next side m)
    by side m told (inl newest) = let bad : true ≡ false = sym (itself teller) ∙ rw (newest.0) at told in cc
    by side m told (inr was) = inl was

-- ---- steps

-- The IDs of a sent message are used after it.
send_uses : (table : Table) (side : Side) (m : Message) (w next : World) → IsEnd (end_at side w)
    → send table (end_at side w) m ≡ Ok (end_at side next) → HasUsed next side m
send_uses table side (Unidirectional dialogue components) w next sound is = tt
send_uses table side (Begin otid dialogue components) w next sound is = begin_uses table _ _ otid dialogue components sound is
send_uses table side (Continue otid dtid dialogue components) w next sound is =
    continue_uses table _ _ otid dtid dialogue components sound is
send_uses table side (EndMessage dtid dialogue components) w next sound is = tt
send_uses table side (Abort dtid reason) w next sound is = tt

-- A sending advances the world.
send_advances : (table : Table) (side : Side) (m : Message) (w next : World) → ((place : Side) → IsEnd (end_at place w))
    → IsSending table side m w next → Advances (Sends side m) w next
send_advances table side m w next sound is = record {
  ends = one_end side is.made w next None changes tt (sent_moves table _ _ m (sound side) is.step);
  sent = one_sent (Sends side m) side m w next sent (send_uses table side m w next (sound side) step)
      (λ id. ending_closes table _ _ m id (sound side) step);
}
  where
    changes : Changes side is.made w next
    changes = rw is.next_is (changes_sent side m is.made w)

    step : send table (end_at side w) m ≡ Ok (end_at side next)
    step = rw changes.here is.step

    sent : next.sent ≡ w.sent ++ Sent side m ∷ []
    sent = rw (is.next_is, sent_joined side m (with_end side is.made w), sent_with_end side is.made w) refl

-- A delivery advances the world.
delivery_advances : (table : Table) (side : Side) (number : ℕ) (w next : World) → ((place : Side) → IsEnd (end_at place w))
    → AllByRecursion (WasSent w (other side)) (channel_from (other side) w) → IsDelivery table side number w next
    → Advances (Receives side number) w next
delivery_advances table side number w next sound on_their_way is = record {
  ends = one_end side is.made w next (Some is.head.message) changes since
      (received_moves table _ _ is.head.message (sound side) is.step);
  sent = none_sent (Receives side number) w next sent;
}
  where
    changes : Changes side is.made w next
    changes = rw is.next_is (changes_got side is.more is.made w)

    all : AllByRecursion (WasSent w (other side)) (is.head ∷ is.more)
    all = rw is.channel at on_their_way

    since : SentSince (other side) is.head.message w.sent
    since = since_at (other side) is.head.message w.sent is.head.number all.0.listed all.0.since

    sent : next.sent ≡ w.sent
    sent = rw (is.next_is, sent_with_end side is.made (with_channel (other side) is.more w), sent_with_channel (other side) is.more w) refl

-- A provider's reply is an Abort with a cause.
reply_aborts : (e : End) (m abort : Message) → reply_to e m ≡ Some abort
    → (otid : List ℕ) × (cause : ℕ) × (abort ≡ Abort otid (Some (Cause cause)))
reply_aborts e (Unidirectional dialogue components) abort is = cc
reply_aborts e (Begin otid dialogue components) abort is = (otid, 4, sym ((cond_some _ _ abort is).1))
reply_aborts e (Continue otid dtid dialogue components) abort is = (otid, 1, sym ((cond_some _ _ abort is).1))
reply_aborts e (EndMessage dtid dialogue components) abort is = cc
reply_aborts e (Abort dtid reason) abort is = cc

-- A provider's reply advances the world.
reply_advances : (side : Side) (number : ℕ) (w next : World) → IsReply side number w next → Advances (Replies side number) w next
reply_advances side number w next is = record {
  ends = no_end side w next changes;
  sent = one_sent (Replies side number) side is.abort w next sent (rw what.2 tt) (rw what.2 (λ id ends. cc));
}
  where
    what : (otid : List ℕ) × (cause : ℕ) × (is.abort ≡ Abort otid (Some (Cause cause)))
    what = reply_aborts (end_at side w) is.head.message is.abort is.step

    changes : Changes side (end_at side w) w next
    changes = rw is.next_is (changes_replied side is.abort is.more w)

    sent : next.sent ≡ w.sent ++ Sent side is.abort ∷ []
    sent = rw (is.next_is, sent_joined side is.abort (with_channel (other side) is.more w), sent_with_channel (other side) is.more w) refl

-- A loss advances the world.
loss_advances : (side : Side) (number : ℕ) (w next : World) → IsLoss side number w next → Advances (Loses side number) w next
loss_advances side number w next is = record {
  ends = no_end side w next (rw is.next_is (changes_lost side is.more w));
  sent = none_sent (Loses side number) w next (rw (is.next_is, sent_with_channel side is.more w) refl);
}

-- A message sent by `Tells` changes no end.
changes_told : (side : Side) (m : Message) (w : World) → Changes side (end_at side w) w (joined side m w)
changes_told sides.A m w = record { here = refl; there = refl }
changes_told sides.B m w = record { here = refl; there = refl }

-- A message sent by `Tells` advances the world.
told_advances : (side : Side) (m : Message) (w next : World) → IsTold side m w next → Advances (Tells side m) w next
told_advances side m w next is = record {
  ends = no_end side w next (rw is.next_is (changes_told side m w));
  sent = one_told side m w next (rw (is.next_is, sent_joined side m w) refl);
}

-- An expiry or a closing advances the world.
hidden_advances : (event : Event) (side : Side) (step : End → Result End EndFault) (w next : World)
    → ((made : End) → step (end_at side w) ≡ Ok made → Moves None (end_at side w) made) → IsHidden side step w next
    → Advances event w next
hidden_advances event side step w next moves is = record {
  ends = one_end side is.made w next None (rw is.next_is (changes_hidden side is.made w)) tt (moves is.made is.step_is);
  sent = none_sent event w next (rw (is.next_is, sent_with_end side is.made w) refl);
}

-- ---- blank worlds

-- Empty ends have no half.
none_had : (w : World) → w.a ≡ nothing → w.b ≡ nothing → (side : Side) (f : KeyedHalf) → HasHalf (end_at side w) f → ⊥
none_had w a b sides.A f had = no_half f.slot f.key f.half (rw a at had)
none_had w a b sides.B f had = no_half f.slot f.key f.half (rw b at had)

-- Nothing was sent in the beginning.
none_since : (side : Side) (m : Message) → SentSince side m [] → ⊥
none_since side m ([], behind, is, unmarked) = cc
none_since side m (item ∷ front, behind, is, unmarked) = cc

-- The empty world is blank.
empty_blank : IsBlank empty
empty_blank = record { halves = none_had empty refl refl; sent = none_since }

-- The world after a quiet mark is blank.
quiet_blank : (w next : World) → IsQuiet w next → IsBlank next
quiet_blank w next is = rw is.next_is (record { halves = none_had _ refl refl; sent = λ side m. since_quiet side m w.sent })

-- ---- runs

-- A step advances the world, or leaves it blank.
step_advances : (table : Table) (before : List Event) (event : Event) (w next : World) → Runs table before w
    → after table event w ≡ Some next → Advances event w next ⊎ IsBlank next
step_advances table before (Sends side m) w next runs is =
    inl (send_advances table side m w next (sound table before w runs) (sending table side m w next is))
step_advances table before (Receives side number) w next runs is =
    inl (delivery_advances table side number w next (sound table before w runs) (were_sent table before w runs (other side))
    (delivery table side number w next is))
step_advances table before (Replies side number) w next runs is =
    inl (reply_advances side number w next (reply table side number w next is))
step_advances table before (Loses side number) w next runs is =
    inl (loss_advances side number w next (loss table side number w next is))
step_advances table before (Expires side name id) w next runs is =
    inl (hidden_advances (Expires side name id) side _ w next (λ made. expired_moves table _ made name id (sound table before w runs side))
    (expiry table side name id w next is))
step_advances table before (Closes side name) w next runs is =
    inl (hidden_advances (Closes side name) side _ w next (λ made. closed_moves table _ made name (sound table before w runs side))
    (closing table side name w next is))
step_advances table before (Tells side m) w next runs is = inl (told_advances side m w next (telling table side m w next is))
step_advances table before Quiet w next runs is = inr (quiet_blank w next (quiet table w next is))

-- A property of blank worlds that each advance keeps holds after each run.
pub worlds_keep : (table : Table) (Holds : List Event → World → Type 0)
    → ((events : List Event) (w : World) → IsBlank w → Holds events w)
    → ((before : List Event) (event : Event) (w next : World) → ((side : Side) → IsEnd (end_at side w)) → Advances event w next
    → Holds before w → Holds (before ++ event ∷ []) next)
    → (events : List Event) (w : World) → Runs table events w → Holds events w
worlds_keep table Holds blank step = runs_keep table Holds (blank [] empty empty_blank)
    (λ before event w next runs is held.
    by before event w next (sound table before w runs) held (step_advances table before event w next runs is))
  where
    by : (before : List Event) (event : Event) (w next : World) → ((side : Side) → IsEnd (end_at side w)) → Holds before w
        → Advances event w next ⊎ IsBlank next → Holds (before ++ event ∷ []) next
    by before event w next sound held (inl advances) = step before event w next sound advances held
    by before event w next sound held (inr none) = blank (before ++ event ∷ []) next none
