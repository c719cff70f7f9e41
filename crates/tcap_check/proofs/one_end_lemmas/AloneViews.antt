-- The view that one end has of a run of two: its own state, the messages on their way to it, and the sent list. The
-- peer's state, and the messages on their way to the peer, are left out.
use Rattle.std.proofs.Common.{◌≡◌, ℕ, ℤ, ◌==◌, Bool, true, false, List, [], ◌∷◌, ◌++◌, Some, Result, Ok, Err, option_map, refl}
use Rattle.std.specs.Prelude.{◌&&◌}
use Rattle.std.specs.Result.{result_ok}
use Rattle.std.proofs.lemmas.Bool.{eq-eqb}
use Rattle.tcap_msg.specs.declared.message.Message.{Message}
use Rattle.tcap_record.specs.declared.entry.End.{End as Side}
use Rattle.tcap_record.specs.declared.entry.End.TheVariants.{A, B}
use Rattle.tcap_end.specs.declared.fault.EndFault.{EndFault}
use Rattle.tcap_end.specs.declared.fault.EndFault.TheVariants as faults
use Rattle.tcap_end.specs.declared.half.HalfName.{HalfName}
use Rattle.tcap_end.specs.Table.{Table}
use Rattle.tcap_end.specs.End.{End, all_closed, nothing}
use Rattle.tcap_end.specs.HiddenSteps.{close, expire}
use Rattle.tcap_end.specs.Message.{receive}
use Rattle.tcap_end.specs.Step.{needs, ◌>>◌}
use Rattle.tcap_record.specs.Ends.{other}
use Rattle.tcap_model.specs.World.{Item, MessageInTransit, World, channel_from, end_at, with_channel, with_end}
use Rattle.tcap_model.specs.Run.{Receives, Replies, Expires, Closes, Quiet, after, after_quiet, joined, reply_to, option_then}
use Rattle.tcap_model.proofs.RunLaws.{delivery, quiet, reply}

-- the end's view of a world
abbrev pub seen_by : Side → World → World
seen_by A w = record { a = w.a; b = nothing; from_a = []; from_b = w.from_b; sent = w.sent }
seen_by B w = record { a = nothing; b = w.b; from_a = w.from_a; from_b = []; sent = w.sent }

pub seen_end : (side : Side) (w : World) → end_at side (seen_by side w) ≡ end_at side w
seen_end A w = refl
seen_end B w = refl

pub seen_channel : (side : Side) (w : World) → channel_from (other side) (seen_by side w) ≡ channel_from (other side) w
seen_channel A w = refl
seen_channel B w = refl

pub seen_sent : (side : Side) (w : World) → (seen_by side w).sent ≡ w.sent
seen_sent A w = refl
seen_sent B w = refl

-- ---- events of the end

-- The channel of the peer is independent of the other one.
pub seen_with : (side : Side) (more : List MessageInTransit) (w : World)
    → with_channel (other side) more (seen_by side w) ≡ seen_by side (with_channel (other side) more w)
seen_with A more w = refl
seen_with B more w = refl

-- A hidden step of the end occurs in both or in neither.
hidden_seen : (side : Side) (step : End → Result End EndFault) (w : World)
    → option_map (λ e. with_end side e (seen_by side w)) (result_ok (step (end_at side (seen_by side w))))
    ≡ option_map (seen_by side) (option_map (λ e. with_end side e w) (result_ok (step (end_at side w))))
hidden_seen side step w = of side
  where
    by : (side : Side) (r : Result End EndFault)
        → option_map (λ e. with_end side e (seen_by side w)) (result_ok r)
        ≡ option_map (seen_by side) (option_map (λ e. with_end side e w) (result_ok r))
    by A (Ok e) = refl
    by B (Ok e) = refl
    by side (Err reason) = refl

    of : (side : Side) → option_map (λ e. with_end side e (seen_by side w)) (result_ok (step (end_at side (seen_by side w))))
        ≡ option_map (seen_by side) (option_map (λ e. with_end side e w) (result_ok (step (end_at side w))))
    of A = by A (step w.a)
    of B = by B (step w.b)

pub seen_expiry : (table : Table) (side : Side) (name : HalfName) (id : ℤ) (w : World)
    → after table (Expires side name id) (seen_by side w) ≡ option_map (seen_by side) (after table (Expires side name id) w)
seen_expiry table side name id w = hidden_seen side (λ e. expire table e name id) w

pub seen_closing : (table : Table) (side : Side) (name : HalfName) (w : World)
    → after table (Closes side name) (seen_by side w) ≡ option_map (seen_by side) (after table (Closes side name) w)
seen_closing table side name w = hidden_seen side (λ e. close table e name) w

-- A delivery occurs in the view.
receive_seen : (table : Table) (side : Side) (number : ℕ) (w next : World) (head : MessageInTransit)
    (more : List MessageInTransit) (made : End)
    → channel_from (other side) w ≡ head ∷ more → (head.number == number) ≡ true
    → receive table (end_at side w) head.message ≡ Ok made
    → next ≡ with_end side made (with_channel (other side) more w)
    → after table (Receives side number) (seen_by side w) ≡ Some (seen_by side next)
receive_seen table A number w next head more made channel numbered step same = rw (channel, numbered, step, same) refl
receive_seen table B number w next head more made channel numbered step same = rw (channel, numbered, step, same) refl

pub seen_delivery : (table : Table) (side : Side) (number : ℕ) (w next : World)
    → after table (Receives side number) w ≡ Some next
    → after table (Receives side number) (seen_by side w) ≡ Some (seen_by side next)
seen_delivery table side number w next is =
    let d = delivery table side number w next is in
    receive_seen table side number w next d.head d.more d.made d.channel (eq-eqb d.head.number number d.number_is)
    d.step d.next_is

-- A reply of the provider occurs in the view, and its Abort goes nowhere.
abbrev pub IsSeenReply : Table → Side → ℕ → World → World → Type 0
IsSeenReply table side number w next =
    (made : World) × (after table (Replies side number) (seen_by side w) ≡ Some made)
    × (with_channel side [] made ≡ seen_by side next)

reply_seen : (table : Table) (side : Side) (number : ℕ) (w next : World) (head : MessageInTransit) (more : List MessageInTransit)
    (abort : Message)
    → channel_from (other side) w ≡ head ∷ more → (head.number == number) ≡ true
    → reply_to (end_at side w) head.message ≡ Some abort
    → next ≡ joined side abort (with_channel (other side) more w) → IsSeenReply table side number w next
reply_seen table A number w next head more abort channel numbered step same =
    (joined A abort (with_channel B more (seen_by A w)), rw (channel, numbered, step) refl, rw same refl)
reply_seen table B number w next head more abort channel numbered step same =
    (joined B abort (with_channel A more (seen_by B w)), rw (channel, numbered, step) refl, rw same refl)

pub seen_reply : (table : Table) (side : Side) (number : ℕ) (w next : World)
    → after table (Replies side number) w ≡ Some next
    → IsSeenReply table side number w next
seen_reply table side number w next is =
    let r = reply table side number w next is in
    reply_seen table side number w next r.head r.more r.abort r.channel (eq-eqb r.head.number number r.number_is)
    r.step r.next_is

-- What the end sends goes nowhere.
pub seen_sending : (side : Side) (m : Message) (e : End) (w : World)
    → with_channel side [] (joined side m (with_end side e (seen_by side w)))
    ≡ seen_by side (joined side m (with_end side e w))
seen_sending A m e w = refl
seen_sending B m e w = refl

-- What the peer sends is on its way in the view.
pub seen_told : (side : Side) (m : Message) (w : World)
    → joined (other side) m (seen_by side w) ≡ seen_by side (joined (other side) m w)
seen_told A m w = refl
seen_told B m w = refl

-- A change of the peer changes nothing in the view.
pub internal_end : (side : Side) (e : End) (w : World) → seen_by side (with_end (other side) e w) ≡ seen_by side w
internal_end A e w = refl
internal_end B e w = refl

pub internal_channel : (side : Side) (more : List MessageInTransit) (w : World)
    → seen_by side (with_channel side more w) ≡ seen_by side w
internal_channel A more w = refl
internal_channel B more w = refl

-- ---- a quiet mark

-- If both ends are quiet, each is.
ends_quiet : (a b : Bool) (x : World) (sent : List Item)
    → option_then (result_ok (needs a faults.StillOpen >> Ok nothing))
    (λ p.
    option_map (λ q. record { a = p; b = q; from_a = []; from_b = []; sent = sent })
    (result_ok (needs b faults.StillOpen >> Ok nothing)))
    ≡ Some x
    → (a ≡ true) × (b ≡ true)
ends_quiet true true x sent is = (refl, refl)
ends_quiet true false x sent is = cc
ends_quiet false b x sent is = cc

-- All halves of both ends are closed.
pub record AreClosed (w : World) : Type 0 where
  pub a : (all_closed w.a.begun && all_closed w.a.accepted) ≡ true
  pub b : (all_closed w.b.begun && all_closed w.b.accepted) ≡ true

pub quiet_closed : (table : Table) (w next : World) → after table Quiet w ≡ Some next → AreClosed w
quiet_closed table w next is = by w.from_a w.from_b is
  where
    by : (a b : List MessageInTransit) → after_quiet (record w { from_a = a; from_b = b }) ≡ Some next → AreClosed w
    by [] [] is =
        let both = ends_quiet (all_closed w.a.begun && all_closed w.a.accepted)
        (all_closed w.b.begun && all_closed w.b.accepted)
        next (w.sent ++ Item.Quiet ∷ []) is in
        record { a = both.0; b = both.1 }
    by [] (m ∷ b) is = cc
    by (m ∷ a) b is = cc

-- A quiet mark occurs in the view.
mark_seen : (table : Table) (side : Side) (w next : World) → AreClosed w → w.from_a ≡ [] → w.from_b ≡ []
    → next ≡ record { a = nothing; b = nothing; from_a = []; from_b = []; sent = w.sent ++ Item.Quiet ∷ [] }
    → after table Quiet (seen_by side w) ≡ Some (seen_by side next)
mark_seen table A w next closed from_a from_b same = rw (from_b, closed.a, same) refl
mark_seen table B w next closed from_a from_b same = rw (from_a, closed.b, same) refl

pub seen_quiet : (table : Table) (side : Side) (w next : World) → after table Quiet w ≡ Some next
    → after table Quiet (seen_by side w) ≡ Some (seen_by side next)
seen_quiet table side w next is =
    let q = quiet table w next is in mark_seen table side w next (quiet_closed table w next is)
    q.from_a q.from_b q.next_is
