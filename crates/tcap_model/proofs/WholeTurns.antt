-- What an end that keeps the rules does for each item of a run: hidden steps, then the item. The events depend only on
-- the end and on the messages in transit to it, so they are the same in each world.
use Rattle.std.proofs.Common.{◌≡◌, ℤ, Bool, true, false, List, [], ◌∷◌, ◌++◌, length, Some, Ok, refl, ◌∙◌}
use Rattle.std.proofs.lemmas.Bool.{eq-eqb, or_from, or_parts}
use Rattle.tcap_msg.specs.declared.message.Message.{Message}
use Rattle.tcap_record.specs.declared.entry.End.{End as Side}
use Rattle.tcap_record.specs.declared.entry.End.TheVariants as sides
use Rattle.tcap_end.specs.declared.half.HalfName.{HalfName}
use Rattle.tcap_end.specs.Table.{Table}
use Rattle.tcap_end.specs.End.{End, nothing, quiet}
use Rattle.tcap_end.specs.HiddenSteps.{close, expire}
use Rattle.tcap_end.specs.Message.{receive, send}
use Rattle.tcap_record.specs.Ends.{other}
use Rattle.tcap_model.specs.World.{Item, MessageInTransit, Sent, World, is_side, with_channel, with_end}
use Rattle.tcap_model.specs.Run.{Event, Sends, Receives, Replies, Loses, Expires, Closes, BothKeepRules, KeepsRules, after, joined, played, reply_to, has_tells_by}
use Rattle.tcap_model.proofs.RunLaws.{played_on}

-- the world with this end, and with these messages in transit to it
abbrev pub seen_with : Side → End → List MessageInTransit → World → World
seen_with side e coming w = with_end side e (with_channel (other side) coming w)

-- Hidden steps lead from this end and these messages to the others, in any world.
pub record Drifts (table : Table) (side : Side) (e : End) (coming : List MessageInTransit) (made : End) (left : List MessageInTransit) : Type 0 where
  pub events : List Event
  pub plays : (w : World) → played table events (seen_with side e coming w) ≡ Some (seen_with side made left w)
  pub keep : BothKeepRules events

-- One step sends the message from this end, or from its provider, in any world.
pub record Says (table : Table) (side : Side) (m : Message) (e : End) (coming : List MessageInTransit) (made : End) (left : List MessageInTransit) : Type 0 where
  pub event : Event
  pub plays : (w : World)
      → after table event (seen_with side e coming w) ≡ Some (joined side m (seen_with side made left w))
  pub keep : BothKeepRules (event ∷ [])

-- the messages in transit to an end after the other end sends one
abbrev pub with_newest : List Item → Message → List MessageInTransit → List MessageInTransit
with_newest sent m coming = coming ++ newest ∷ []
  where
    newest : MessageInTransit
    newest = record { number = length sent; message = m }

-- What an end does at a message: it sends its own, or gets the other end's in transit.
abbrev pub Meets : Table → Side → Bool → Message → List Item → End → List MessageInTransit → End → List MessageInTransit → Type 0
Meets table side true m sent e coming made left = Says table side m e coming made left
Meets table side false m sent e coming made left = (made ≡ e) × (left ≡ with_newest sent m coming)

-- What an end does at an item.
abbrev pub Takes : Table → Side → Item → List Item → End → List MessageInTransit → End → List MessageInTransit → Type 0
Takes table side (Sent sender m) sent e coming made left =
    Meets table side (is_side side sender) m sent e coming made left
Takes table side Item.Quiet sent e coming made left =
    (coming ≡ []) × (quiet e ≡ Ok nothing) × (made ≡ nothing) × (left ≡ [])

-- Hidden steps before an item, and then the item.
pub record Turn (table : Table) (side : Side) (item : Item) (sent : List Item) (e : End) (coming : List MessageInTransit) : Type 0 where
  pub drifted : End
  pub waiting : List MessageInTransit
  pub drifts : Drifts table side e coming drifted waiting
  pub made : End
  pub left : List MessageInTransit
  pub takes : Takes table side item sent drifted waiting made left

-- A turn for each item, in order.
abbrev pub Goes : Table → Side → List Item → List Item → End → List MessageInTransit → Type 0
Goes table side [] sent e coming = Unit {0}
Goes table side (item ∷ items) sent e coming =
    (t : Turn table side item sent e coming) × Goes table side items (sent ++ item ∷ []) t.made t.left

-- ---- keeping the rules

pub keeps_both : (side : Side) (xs ys : List Event) → KeepsRules side xs → KeepsRules side ys → KeepsRules side (xs ++ ys)
keeps_both side [] ys here there = there
keeps_both side (x ∷ xs) ys here there =
    let (now, later) = or_parts _ (has_tells_by side xs) here in or_from _ _ now (keeps_both side xs ys later there)

pub both_keep : (xs ys : List Event) → BothKeepRules xs → BothKeepRules ys → BothKeepRules (xs ++ ys)
both_keep xs ys here there = (keeps_both sides.A xs ys here.0 there.0, keeps_both sides.B xs ys here.1 there.1)

-- ---- hidden steps

-- There may be none.
pub no_drift : {table : Table} {side : Side} {e : End} {coming : List MessageInTransit} → Drifts table side e coming e coming
no_drift = record { events = []; plays = λ w. refl; keep = (refl, refl) }

-- Two sequences in a row are one.
drifts_then : {table : Table} {side : Side} {e mid made : End} {coming waiting left : List MessageInTransit}
    → Drifts table side e coming mid waiting → Drifts table side mid waiting made left → Drifts table side e coming made left
drifts_then {table} {side} {e} {mid} {made} {coming} {waiting} {left} a b = record {
  events = a.events ++ b.events;
  plays = λ w. played_on table a.events b.events (seen_with side e coming w) (seen_with side mid waiting w) (a.plays w)
      ∙ b.plays w;
  keep = both_keep a.events b.events a.keep b.keep;
}

-- They may come before the first item.
pub drifts_first : {table : Table} {side : Side} {e made : End} {coming left : List MessageInTransit} (items sent : List Item)
    → Drifts table side e coming made left → Goes table side items sent made left → Goes table side items sent e coming
drifts_first [] sent drift goes = tt
drifts_first (item ∷ items) sent drift goes = (
  record {
    drifted = goes.0.drifted;
    waiting = goes.0.waiting;
    drifts = drifts_then drift goes.0.drifts;
    made = goes.0.made;
    left = goes.0.left;
    takes = goes.0.takes;
  },
  goes.1,
)

module _ (table : Table) (e made : End) where
  -- The end receives a message.
  pub hears : (side : Side) (head : MessageInTransit) (left : List MessageInTransit) → receive table e head.message ≡ Ok made
      → Drifts table side e (head ∷ left) made left
  hears side head left step = record { events = Receives side head.number ∷ []; plays = by side; keep = (refl, refl) }
    where
      by : (side : Side) (w : World)
          → played table (Receives side head.number ∷ []) (seen_with side e (head ∷ left) w) ≡ Some (seen_with side made left w)
      by sides.A w = rw (eq-eqb head.number head.number refl, step) refl
      by sides.B w = rw (eq-eqb head.number head.number refl, step) refl

  -- An invocation expires.
  pub expires : (side : Side) (name : HalfName) (id : ℤ) (coming : List MessageInTransit) → expire table e name id ≡ Ok made
      → Drifts table side e coming made coming
  expires side name id coming step = record { events = Expires side name id ∷ []; plays = by side; keep = (refl, refl) }
    where
      by : (side : Side) (w : World)
          → played table (Expires side name id ∷ []) (seen_with side e coming w) ≡ Some (seen_with side made coming w)
      by sides.A w = rw step refl
      by sides.B w = rw step refl

  -- A half closes.
  pub closes : (side : Side) (name : HalfName) (coming : List MessageInTransit) → close table e name ≡ Ok made
      → Drifts table side e coming made coming
  closes side name coming step = record { events = Closes side name ∷ []; plays = by side; keep = (refl, refl) }
    where
      by : (side : Side) (w : World)
          → played table (Closes side name ∷ []) (seen_with side e coming w) ≡ Some (seen_with side made coming w)
      by sides.A w = rw step refl
      by sides.B w = rw step refl

  -- The end sends a message.
  pub sends : (side : Side) (m : Message) (coming : List MessageInTransit) → send table e m ≡ Ok made
      → Says table side m e coming made coming
  sends side m coming step = record { event = Sends side m; plays = by side; keep = (refl, refl) }
    where
      by : (side : Side) (w : World) → after table (Sends side m) (seen_with side e coming w)
          ≡ Some (joined side m (seen_with side made coming w))
      by sides.A w = rw step refl
      by sides.B w = rw step refl

module _ (table : Table) (e : End) where
  -- A message to the end is lost.
  pub misses : (side : Side) (head : MessageInTransit) (left : List MessageInTransit) → Drifts table side e (head ∷ left) e left
  misses side head left = record { events = Loses (other side) head.number ∷ []; plays = by side; keep = (refl, refl) }
    where
      by : (side : Side) (w : World) → played table (Loses (other side) head.number ∷ []) (seen_with side e (head ∷ left) w)
          ≡ Some (seen_with side e left w)
      by sides.A w = rw (eq-eqb head.number head.number refl) refl
      by sides.B w = rw (eq-eqb head.number head.number refl) refl

  -- The provider of the end answers a message.
  pub replies : (side : Side) (head : MessageInTransit) (left : List MessageInTransit) (abort : Message)
      → reply_to e head.message ≡ Some abort → Says table side abort e (head ∷ left) e left
  replies side head left abort step = record { event = Replies side head.number; plays = by side; keep = (refl, refl) }
    where
      by : (side : Side) (w : World) → after table (Replies side head.number) (seen_with side e (head ∷ left) w)
          ≡ Some (joined side abort (seen_with side e left w))
      by sides.A w = rw (eq-eqb head.number head.number refl, step) refl
      by sides.B w = rw (eq-eqb head.number head.number refl, step) refl
