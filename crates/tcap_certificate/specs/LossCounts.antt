-- What a run of one end loses, and how losses are counted.
use Rattle.std.specs.Prelude.{◌≡◌, ℕ, Bool, false, List, [], length, filter, not}
use Rattle.tcap_record.specs.declared.entry.End.{End as Side}
use Rattle.tcap_record.specs.Ends.{other}
use Rattle.tcap_end.specs.Table.{Table}
use Rattle.tcap_model.specs.World.{Item, World, channel_from, is_side}
use Rattle.tcap_model.specs.Run.{Event, KeepsRules, Loses, Runs}

-- whether an event is the loss of a message from this end
abbrev pub is_lost_from : Side → Event → Bool
is_lost_from side (Loses sender number) = is_side side sender
is_lost_from side _ = false

-- the number of steps, not counting losses of the end's own messages
abbrev pub steps_of : Side → List Event → ℕ
steps_of side events = length (filter (λ event. not (is_lost_from side event)) events)

-- the number of unheard messages: those of the peer that are lost in the run
abbrev pub unheard_of : Side → List Event → ℕ
unheard_of side events = length (filter (is_lost_from (other side)) events)

-- Some run, in which this end keeps the rules and the other end may do anything, sends exactly these items. It leaves
-- no message in transit to this end, and loses this many of the peer's messages.
abbrev pub IsLawfulUnheard : Side → List Item → Table → ℕ → Type 0
IsLawfulUnheard side items table unheard =
    (events : List Event) × (w : World) × Runs table events w × (w.sent ≡ items) × KeepsRules side events
    × (channel_from (other side) w ≡ []) × (unheard_of side events ≡ unheard)
