use Rattle.std.proofs.Common.{◌≡◌, ℕ, ◌+◌, ◌≤◌, List, ◌++◌, length, take, drop}
use Rattle.tcap_record.specs.declared.entry.Entry.{Entry}
use Rattle.tcap_record.specs.PartialRecord.{IsFramedSoFar, IsFramerState}
use Rattle.tcap_record.proofs.feeder.keep_all.Given as goal

abbrev pub invariant-loop-taken : goal.invariant-loop-taken
invariant-loop-taken l =
    ((more : List Entry) × (l.waiting.items ≡ l.initial.waiting.items ++ more))
    × (IsFramerState l.initial.frames → IsFramerState l.frames)
    × ((n : ℕ) × (n ≤ length l.piece) × (l.rest ≡ drop n l.piece)
    × ((octets : List ℕ) (taken : List Entry) → IsFramedSoFar octets (taken ++ l.initial.waiting.items) l.initial.frames
    → IsFramedSoFar (octets ++ take n l.piece) (taken ++ l.waiting.items) l.frames))

abbrev pub decreases-loop-taken : goal.decreases-loop-taken
decreases-loop-taken l = length l.rest + length l.frames.octets
