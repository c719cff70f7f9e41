-- What a world is: two ends, and two channels that keep order and may lose messages (Q.774 3.3).
use Rattle.std.specs.Prelude.{ℕ, Bool, true, false, List, [], ◌∷◌, cond}
use Rattle.tcap_msg.specs.declared.message.Message.{Message}
use Rattle.tcap_record.specs.declared.entry.End.{End as Side}
use Rattle.tcap_record.specs.declared.entry.End.TheVariants as sides
use Rattle.tcap_end.specs.End.{End, nothing}
pub use Rattle.tcap_record.specs.Ends.{is_side}

-- An item of a record: a message with its sender, or a quiet mark.
pub data Item : Type 0 where
  Sent : Side → Message → Item
  Quiet : Item

-- whether an item is a quiet mark
abbrev pub is_quiet : Item → Bool
is_quiet (Sent side message) = false
is_quiet Item.Quiet = true

-- whether one of these items is a quiet mark
abbrev pub has_quiet : List Item → Bool
has_quiet [] = false
has_quiet (item ∷ more) = cond (is_quiet item) true (has_quiet more)

-- A message in transit, with its number in the sent list, counted from 0.
pub record MessageInTransit : Type 0 where
  pub number : ℕ
  pub message : Message

-- Two ends; the messages in transit from each, oldest first; and the items sent so far, quiet marks included.
pub record World : Type 0 where
  pub a : End
  pub b : End
  pub from_a : List MessageInTransit
  pub from_b : List MessageInTransit
  pub sent : List Item

-- the world before the first step
abbrev pub empty : World
empty = record { a = nothing; b = nothing; from_a = []; from_b = []; sent = [] }

-- the state of an end
abbrev pub end_at : Side → World → End
end_at sides.A w = w.a
end_at sides.B w = w.b

-- the messages in transit from an end, oldest first
abbrev pub channel_from : Side → World → List MessageInTransit
channel_from sides.A w = w.from_a
channel_from sides.B w = w.from_b

-- the world with this state of an end
abbrev pub with_end : Side → End → World → World
with_end sides.A e w = record w { a = e }
with_end sides.B e w = record w { b = e }

-- the world with these messages in transit from an end
abbrev pub with_channel : Side → List MessageInTransit → World → World
with_channel sides.A messages w = record w { from_a = messages }
with_channel sides.B messages w = record w { from_b = messages }
