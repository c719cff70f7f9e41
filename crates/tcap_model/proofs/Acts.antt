-- What a step of a run is for an end that keeps the rules in it.
use Rattle.std.proofs.Common.{◌≡◌, ℤ, false, List, [], ◌∷◌, ◌++◌, length, Some, Ok, refl}
use Rattle.tcap_msg.specs.declared.message.Message.{Message}
use Rattle.tcap_record.specs.declared.entry.End.{End as Side}
use Rattle.tcap_record.specs.declared.entry.End.TheVariants.{A, B}
use Rattle.tcap_end.specs.declared.half.HalfName.{HalfName}
use Rattle.tcap_end.specs.Table.{Table}
use Rattle.tcap_end.specs.End.{End, nothing, quiet}
use Rattle.tcap_end.specs.HiddenSteps.{close, expire}
use Rattle.tcap_end.specs.Message.{receive, send}
use Rattle.tcap_record.specs.Ends.{other}
use Rattle.tcap_model.specs.World.{Item, MessageInTransit, Sent, World, channel_from, end_at}
use Rattle.tcap_model.specs.Run.{Event, Sends, Receives, Replies, Loses, Expires, Closes, Quiet, Tells, after, is_tells_by, reply_to}
use Rattle.tcap_model.proofs.RunLaws.{closing, delivery, expiry, loss, quiet as quiet_step, reply, sending, telling}

-- an end, the messages in transit to it, and the items sent
pub record Seen : Type 0 where
  pub at : End
  pub coming : List MessageInTransit
  pub sent : List Item

-- the view of a world
abbrev pub seen : Side → World → Seen
seen side w = record { at = end_at side w; coming = channel_from (other side) w; sent = w.sent }

-- a message that joins those in transit
abbrev pub newest : List Item → Message → MessageInTransit
newest sent m = record { number = length sent; message = m }

-- An act leads from one view to another.
pub data Acts (table : Table) (side : Side) (s t : Seen) : Type 0 where
  -- the end sends a message
  Says : (m : Message) (made : End) → send table s.at m ≡ Ok made
      → t ≡ record s { at = made; sent = s.sent ++ Sent side m ∷ [] } → Acts table side s t
  -- the end receives a message
  Hears : (head : MessageInTransit) (more : List MessageInTransit) (made : End) → s.coming ≡ head ∷ more → receive table s.at head.message ≡ Ok made
      → t ≡ record s { at = made; coming = more } → Acts table side s t
  -- its provider answers a message
  Refuses : (head : MessageInTransit) (more : List MessageInTransit) (abort : Message) → s.coming ≡ head ∷ more
      → reply_to s.at head.message ≡ Some abort → t ≡ record s { coming = more; sent = s.sent ++ Sent side abort ∷ [] }
      → Acts table side s t
  -- a message to it is lost
  Misses : (head : MessageInTransit) (more : List MessageInTransit) → s.coming ≡ head ∷ more → t ≡ record s { coming = more } → Acts table side s t
  -- an invocation expires
  Drops : (name : HalfName) (id : ℤ) (made : End) → expire table s.at name id ≡ Ok made → t ≡ record s { at = made }
      → Acts table side s t
  -- a half closes
  Shuts : (name : HalfName) (made : End) → close table s.at name ≡ Ok made → t ≡ record s { at = made } → Acts table side s t
  -- the other end sends a message
  Told : (m : Message) → t ≡ record s { coming = s.coming ++ newest s.sent m ∷ []; sent = s.sent ++ Sent (other side) m ∷ [] }
      → Acts table side s t
  -- a quiet mark
  Marked : s.coming ≡ [] → quiet s.at ≡ Ok nothing
      → t ≡ record { at = nothing; coming = []; sent = s.sent ++ Item.Quiet ∷ [] } → Acts table side s t
  -- nothing of this happens
  Stays : t ≡ s → Acts table side s t

-- Each step in which the end keeps the rules is an act for it.
pub step_acts : (table : Table) (side : Side) (event : Event) (w next : World) → after table event w ≡ Some next
    → is_tells_by side event ≡ false → Acts table side (seen side w) (seen side next)
step_acts table A (Sends A m) w next is untold = let s = sending table A m w next is in rw s.next_is (Says m s.made s.step refl)
step_acts table A (Sends B m) w next is untold = rw (sending table B m w next is).next_is (Told m refl)
step_acts table B (Sends A m) w next is untold = rw (sending table A m w next is).next_is (Told m refl)
step_acts table B (Sends B m) w next is untold = let s = sending table B m w next is in rw s.next_is (Says m s.made s.step refl)
step_acts table A (Receives A number) w next is untold =
    let d = delivery table A number w next is in rw d.next_is (Hears d.head d.more d.made d.channel d.step refl)
step_acts table A (Receives B number) w next is untold = rw (delivery table B number w next is).next_is (Stays refl)
step_acts table B (Receives A number) w next is untold = rw (delivery table A number w next is).next_is (Stays refl)
step_acts table B (Receives B number) w next is untold =
    let d = delivery table B number w next is in rw d.next_is (Hears d.head d.more d.made d.channel d.step refl)
step_acts table A (Replies A number) w next is untold =
    let r = reply table A number w next is in rw r.next_is (Refuses r.head r.more r.abort r.channel r.step refl)
step_acts table A (Replies B number) w next is untold = let r = reply table B number w next is in rw r.next_is (Told r.abort refl)
step_acts table B (Replies A number) w next is untold = let r = reply table A number w next is in rw r.next_is (Told r.abort refl)
step_acts table B (Replies B number) w next is untold =
    let r = reply table B number w next is in rw r.next_is (Refuses r.head r.more r.abort r.channel r.step refl)
step_acts table A (Loses A number) w next is untold = rw (loss table A number w next is).next_is (Stays refl)
step_acts table A (Loses B number) w next is untold = let l = loss table B number w next is in rw l.next_is (Misses l.head l.more l.channel refl)
step_acts table B (Loses A number) w next is untold = let l = loss table A number w next is in rw l.next_is (Misses l.head l.more l.channel refl)
step_acts table B (Loses B number) w next is untold = rw (loss table B number w next is).next_is (Stays refl)
step_acts table A (Expires A name id) w next is untold =
    let h = expiry table A name id w next is in rw h.next_is (Drops name id h.made h.step_is refl)
step_acts table A (Expires B name id) w next is untold = rw (expiry table B name id w next is).next_is (Stays refl)
step_acts table B (Expires A name id) w next is untold = rw (expiry table A name id w next is).next_is (Stays refl)
step_acts table B (Expires B name id) w next is untold =
    let h = expiry table B name id w next is in rw h.next_is (Drops name id h.made h.step_is refl)
step_acts table A (Closes A name) w next is untold = let h = closing table A name w next is in rw h.next_is (Shuts name h.made h.step_is refl)
step_acts table A (Closes B name) w next is untold = rw (closing table B name w next is).next_is (Stays refl)
step_acts table B (Closes A name) w next is untold = rw (closing table A name w next is).next_is (Stays refl)
step_acts table B (Closes B name) w next is untold = let h = closing table B name w next is in rw h.next_is (Shuts name h.made h.step_is refl)
step_acts table A Quiet w next is untold = let q = quiet_step table w next is in rw q.next_is (Marked q.from_b q.quiet_a refl)
step_acts table B Quiet w next is untold = let q = quiet_step table w next is in rw q.next_is (Marked q.from_a q.quiet_b refl)
step_acts table A (Tells A m) w next is untold = cc
step_acts table A (Tells B m) w next is untold = rw (telling table B m w next is).next_is (Told m refl)
step_acts table B (Tells A m) w next is untold = rw (telling table A m w next is).next_is (Told m refl)
step_acts table B (Tells B m) w next is untold = cc
