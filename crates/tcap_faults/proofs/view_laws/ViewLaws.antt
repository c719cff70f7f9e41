-- What one end and the list see of a run: the halves of the end, what is on its way to it, and the items since the
-- last quiet mark.
use Rattle.std.proofs.Common.{◌≡◌, ◌⊎◌, inl, inr, ℤ, List, [], ◌∷◌, ◌++◌, map, Some, Ok, refl, subst}
use Rattle.std.specs.Prelude.{Contains}
use Rattle.std.specs.List.{AllByRecursion}
use Rattle.std.proofs.lemmas.List.{map-append}
use Rattle.tcap_msg.specs.declared.message.Message.{Message}
use Rattle.tcap_record.specs.declared.entry.End.{End as Side}
use Rattle.tcap_record.specs.declared.entry.End.TheVariants as sides
use Rattle.tcap_end.specs.declared.half.HalfName.{HalfName}
use Rattle.tcap_end.specs.Table.{Table}
use Rattle.tcap_end.specs.End.{End, nothing}
use Rattle.tcap_end.specs.HiddenSteps.{close, expire}
use Rattle.tcap_end.specs.Message.{receive, send}
use Rattle.tcap_end.specs.ReachableEnd.{IsEnd}
use Rattle.tcap_record.specs.Ends.{other}
use Rattle.tcap_model.specs.World.{Item, MessageInTransit, Sent, World, channel_from, end_at, with_channel, with_end}
use Rattle.tcap_model.specs.Run.{Event, KeepsRules, Runs, joined, reply_to}
use Rattle.tcap_model.specs.SinceMark.{WasSent}
use Rattle.tcap_model.proofs.ChannelLaws.{were_sent}
use Rattle.tcap_model.proofs.RunLaws.{sound}
use Rattle.tcap_model.proofs.SinceLaws.{since_at}
use Rattle.tcap_refute.specs.EarlierMessages.{sent_by, since_quiet}
use Rattle.tcap_refute.proofs.BeforeLaws.{sent_has}
use Rattle.tcap_refute.proofs.ItemLaws.{since_mark, since_more}
use Rattle.tcap_refute.proofs.HalfLawsTurns.{Acts, Internal}

-- ---- views

abbrev pub messages_of : List MessageInTransit → List Message
messages_of = map (λ m. m.message)

-- The messages that are on their way to an end.
abbrev pub coming_to : Side → World → List Message
coming_to side w = messages_of (channel_from (other side) w)

-- This is what the end sees of a world.
pub record IsSeen (side : Side) (w : World) (e : End) (coming : List Message) (items : List Item) : Type 0 where
  pub end_is : end_at side w ≡ e
  pub coming_is : coming_to side w ≡ coming
  pub items_is : since_quiet w.sent ≡ items

-- This is what the end sees after a run in which it keeps the rules.
pub record View (table : Table) (side : Side) (e : End) (coming : List Message) (items : List Item) : Type 0 where
  pub events : List Event
  pub world : World
  pub runs : Runs table events world
  pub keeps : KeepsRules side events
  pub seen : IsSeen side world e coming items

pub view_of : (table : Table) (side : Side) (events : List Event) (w : World) → Runs table events w
    → KeepsRules side events → View table side (end_at side w) (coming_to side w) (since_quiet w.sent)
view_of table side events w runs keeps = record {
  events = events;
  world = w;
  runs = runs;
  keeps = keeps;
  seen = record { end_is = refl; coming_is = refl; items_is = refl };
}

module _ {table : Table} {side : Side} {e : End} {items : List Item} where
  -- The end is sound.
  pub view_sound : {coming : List Message} → View table side e coming items → IsEnd e
  view_sound view = subst IsEnd view.seen.end_is (sound table view.events view.world view.runs side)

  -- A message that is on its way was sent.
  pub view_comes : {coming : List Message} → (m : Message) → View table side e (m ∷ coming) items
      → Contains (sent_by (other side) items) m
  view_comes {coming} m view =
      by (channel_from (other side) view.world) (were_sent table view.events view.world view.runs (other side))
      view.seen.coming_is
    where
      by : (messages : List MessageInTransit) → AllByRecursion (WasSent view.world (other side)) messages
          → messages_of messages ≡ m ∷ coming → Contains (sent_by (other side) items) m
      by [] all is = cc
      by (head ∷ more) all is =
          let since = since_at (other side) head.message view.world.sent head.number all.0.listed all.0.since in
          let same : head.message ≡ m = cc in
          rw (← same, ← view.seen.items_is) (sent_has (other side) head.message view.world.sent since)

-- ---- what the steps keep

-- A hidden step: an own invocation expires, or a half closes.
abbrev pub IsUnseen : Table → End → End → Type 0
IsUnseen table e next =
    ((name : HalfName) × (id : ℤ) × (expire table e name id ≡ Ok next))
    ⊎ ((name : HalfName) × (close table e name ≡ Ok next))

-- A property that holds at the start, and that each step keeps: the end sends, receives or refuses a message, takes a
-- hidden step, loses a message to it, or its peer sends one.
pub record IsKeptBy (table : Table) (side : Side) (Holds : End → List Message → List Item → Type 0) : Type 0 where
  pub blank : Holds nothing [] []
  pub says : (e next : End) (coming : List Message) (items : List Item) (m : Message) → View table side e coming items
      → send table e m ≡ Ok next → Holds e coming items → Holds next coming (items ++ Sent side m ∷ [])
  pub hears : (e next : End) (coming : List Message) (items : List Item) (m : Message)
      → View table side e (m ∷ coming) items → receive table e m ≡ Ok next → Holds e (m ∷ coming) items
      → Holds next coming items
  pub refuses : (e : End) (coming : List Message) (items : List Item) (m abort : Message)
      → View table side e (m ∷ coming) items → reply_to e m ≡ Some abort → Holds e (m ∷ coming) items
      → Holds e coming (items ++ Sent side abort ∷ [])
  pub internal : (e next : End) (coming : List Message) (items : List Item) → View table side e coming items
      → IsEnd next → Acts table Internal e next → IsUnseen table e next → Holds e coming items → Holds next coming items
  pub loses : (e : End) (coming : List Message) (items : List Item) (m : Message) → View table side e (m ∷ coming) items
      → Holds e (m ∷ coming) items → Holds e coming items
  pub asks : (e : End) (coming : List Message) (items : List Item) (m : Message) → View table side e coming items
      → Holds e coming items → Holds e (coming ++ m ∷ []) (items ++ Sent (other side) m ∷ [])

-- ---- what each step looks like

-- An end is this one or the other.
pub which : (side place : Side) → (place ≡ side) ⊎ (place ≡ other side)
which sides.A sides.A = inl refl
which sides.A sides.B = inr refl
which sides.B sides.A = inr refl
which sides.B sides.B = inl refl

-- The end sends a message.
pub said_here : (side : Side) (m : Message) (e : End) (w : World)
    → IsSeen side (joined side m (with_end side e w)) e (coming_to side w) (since_quiet w.sent ++ Sent side m ∷ [])
said_here sides.A m e w = record { end_is = refl; coming_is = refl; items_is = since_more sides.A m w.sent }
said_here sides.B m e w = record { end_is = refl; coming_is = refl; items_is = since_more sides.B m w.sent }

-- The peer sends a message.
pub said_there : (side : Side) (m : Message) (e : End) (w : World)
    → IsSeen side (joined (other side) m (with_end (other side) e w)) (end_at side w) (coming_to side w ++ m ∷ [])
    (since_quiet w.sent ++ Sent (other side) m ∷ [])
said_there sides.A m e w =
    record { end_is = refl; coming_is = map-append _ w.from_b _; items_is = since_more sides.B m w.sent }
said_there sides.B m e w =
    record { end_is = refl; coming_is = map-append _ w.from_a _; items_is = since_more sides.A m w.sent }

pub outgoing_there : (side : Side) (m : Message) (w : World)
    → IsSeen side (joined (other side) m w) (end_at side w) (coming_to side w ++ m ∷ [])
    (since_quiet w.sent ++ Sent (other side) m ∷ [])
outgoing_there sides.A m w =
    record { end_is = refl; coming_is = map-append _ w.from_b _; items_is = since_more sides.B m w.sent }
outgoing_there sides.B m w =
    record { end_is = refl; coming_is = map-append _ w.from_a _; items_is = since_more sides.A m w.sent }

-- The end receives a message.
pub incoming_here : (side : Side) (more : List MessageInTransit) (e : End) (w : World)
    → IsSeen side (with_end side e (with_channel (other side) more w)) e (messages_of more) (since_quiet w.sent)
incoming_here sides.A more e w = record { end_is = refl; coming_is = refl; items_is = refl }
incoming_here sides.B more e w = record { end_is = refl; coming_is = refl; items_is = refl }

pub incoming_there : (side : Side) (more : List MessageInTransit) (e : End) (w : World)
    → IsSeen side (with_end (other side) e (with_channel (other (other side)) more w)) (end_at side w)
    (coming_to side w) (since_quiet w.sent)
incoming_there sides.A more e w = record { end_is = refl; coming_is = refl; items_is = refl }
incoming_there sides.B more e w = record { end_is = refl; coming_is = refl; items_is = refl }

-- The provider refuses a message.
pub refused_here : (side : Side) (m : Message) (more : List MessageInTransit) (w : World)
    → IsSeen side (joined side m (with_channel (other side) more w)) (end_at side w) (messages_of more)
    (since_quiet w.sent ++ Sent side m ∷ [])
refused_here sides.A m more w = record { end_is = refl; coming_is = refl; items_is = since_more sides.A m w.sent }
refused_here sides.B m more w = record { end_is = refl; coming_is = refl; items_is = since_more sides.B m w.sent }

pub refused_there : (side : Side) (m : Message) (more : List MessageInTransit) (w : World)
    → IsSeen side (joined (other side) m (with_channel (other (other side)) more w)) (end_at side w)
    (coming_to side w ++ m ∷ []) (since_quiet w.sent ++ Sent (other side) m ∷ [])
refused_there sides.A m more w =
    record { end_is = refl; coming_is = map-append _ w.from_b _; items_is = since_more sides.B m w.sent }
refused_there sides.B m more w =
    record { end_is = refl; coming_is = map-append _ w.from_a _; items_is = since_more sides.A m w.sent }

-- A message is lost.
pub lost_here : (side : Side) (more : List MessageInTransit) (w : World)
    → IsSeen side (with_channel (other side) more w) (end_at side w) (messages_of more) (since_quiet w.sent)
lost_here sides.A more w = record { end_is = refl; coming_is = refl; items_is = refl }
lost_here sides.B more w = record { end_is = refl; coming_is = refl; items_is = refl }

pub lost_there : (side : Side) (more : List MessageInTransit) (w : World)
    → IsSeen side (with_channel side more w) (end_at side w) (coming_to side w) (since_quiet w.sent)
lost_there sides.A more w = record { end_is = refl; coming_is = refl; items_is = refl }
lost_there sides.B more w = record { end_is = refl; coming_is = refl; items_is = refl }

-- A hidden step.
pub internal_here : (side : Side) (e : End) (w : World)
    → IsSeen side (with_end side e w) e (coming_to side w) (since_quiet w.sent)
internal_here sides.A e w = record { end_is = refl; coming_is = refl; items_is = refl }
internal_here sides.B e w = record { end_is = refl; coming_is = refl; items_is = refl }

pub internal_there : (side : Side) (e : End) (w : World)
    → IsSeen side (with_end (other side) e w) (end_at side w) (coming_to side w) (since_quiet w.sent)
internal_there sides.A e w = record { end_is = refl; coming_is = refl; items_is = refl }
internal_there sides.B e w = record { end_is = refl; coming_is = refl; items_is = refl }

pub mark_seen : (side : Side) (items : List Item)
    → IsSeen side (record { a = nothing; b = nothing; from_a = []; from_b = []; sent = items ++ Item.Quiet ∷ [] })
    nothing [] []
mark_seen sides.A items = record { end_is = refl; coming_is = refl; items_is = since_mark items }
mark_seen sides.B items = record { end_is = refl; coming_is = refl; items_is = since_mark items }
