-- What does a feeder keep of a record that comes in pieces?
use Rattle.std.specs.Prelude.{◌≡◌, ◌≢◌, ℕ, ◌⊎◌, List, [], ◌++◌, Some, None}
use Rattle.tcap_record.specs.declared.entry.Entry.{Entry}
use Rattle.tcap_record.specs.declared.fault.FeedFault.{FeedFault}
use Rattle.tcap_record.specs.declared.fault.FeedReason.TheVariants as feed
use Rattle.tcap_record.specs.FramingResult.{feed_fault}
use Rattle.tcap_record.specs.PartialRecord.{FramerState, IsFramedSoFar}

-- the octets held of the entry at the front, and the entries before it that were not taken yet, in their order
pub record FeederState : Type 0 where
  pub held : FramerState
  pub waiting : List Entry

-- All octets fed so far are the entries taken, the entries queued and the octets held.
abbrev pub IsFedSoFar : List ℕ → List Entry → FeederState → Type 0
IsFedSoFar octets taken kept = IsFramedSoFar octets (taken ++ kept.waiting) kept.held

-- There was a fault before, and nothing changes. Or memory ran out at some octets, and nothing changes. Or the octets
-- have this fault.
abbrev pub FailsToFeed : FeedFault → FeederState → FeederState → List ℕ → Type 0
FailsToFeed f old new piece =
    ((old.held.fault ≡ Some f) × (new ≡ old))
    ⊎ ((old.held.fault ≡ None) × (f ≡ feed_fault feed.Memory 0) × (new ≡ old) × (piece ≢ []))
    ⊎ ((old.held.fault ≡ None) × (new.held.fault ≡ Some f))
