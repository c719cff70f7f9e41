-- How does feeding fail, and how does it end?
use Rattle.std.specs.Prelude.{◌≡◌, ◌≢◌, ℕ, ◌+◌, ◌≤◌, ◌⊎◌, List, [], length, take, Some, None, Result, Ok, Err}
use Rattle.tcap_record.specs.declared.fault.FeedFault.{FeedFault}
use Rattle.tcap_record.specs.declared.fault.FeedReason.TheVariants as feed
use Rattle.tcap_record.specs.FramingResult.{feed_fault}
use Rattle.tcap_record.specs.PartialRecord.{FramerState, IsWhole, grown}

-- There was a fault before, and nothing was taken. Or some octets of the piece were taken, and they have a fault. Or
-- memory ran out, and nothing was taken.
abbrev pub FailsFrom : FeedFault → FramerState → FramerState → List ℕ → Type 0
FailsFrom f old new piece =
    ((old.fault ≡ Some f) × (new ≡ old))
    ⊎ ((old.fault ≡ None) × ((n : ℕ) × (n ≤ length piece) × (new ≡ grown old (take n piece) (Some f))))
    ⊎ ((old.fault ≡ None) × (f ≡ feed_fault feed.Memory 0) × (new ≡ old) × (piece ≢ []) × (IsWhole old.octets → ⊥))

-- The record may end if there is no fault and no part of an entry is held.
abbrev pub FinishesAs : Result (Unit {0}) FeedFault → FramerState → Type 0
FinishesAs (Ok _) h = (h.fault ≡ None) × ((h.octets ≡ []) ⊎ IsWhole h.octets)
FinishesAs (Err f) h =
    (h.fault ≡ Some f)
    ⊎ ((h.fault ≡ None) × (h.octets ≢ []) × (IsWhole h.octets → ⊥)
    × (f ≡ feed_fault feed.CutRecord (h.place + length h.octets)))
