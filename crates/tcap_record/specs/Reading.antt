-- What was read of a record, and how did it end?
use Rattle.std.specs.Prelude.{◌≡◌, ℕ, ◌+◌, ◌-◌, ◌≤◌, ◌⊎◌, List, [], length, Option, Result, Ok, Err}
use Rattle.std.specs.Io.KnownBytes.{IsAtEnd}
use Rattle.tcap_ber.specs.Device.{one_more}
use Rattle.tcap_record.specs.declared.entry.Entry.{Entry}
use Rattle.tcap_record.specs.declared.fault.FeedFault.{FeedFault}
use Rattle.tcap_record.specs.declared.fault.FeedReason.{FeedReason}
use Rattle.tcap_record.specs.declared.fault.FeedReason.TheVariants as feed
use Rattle.tcap_record.specs.RecordOctets.{Framed, IsRestFault, entry_limit}

-- The rest after the entries, at a fault. If the reader failed, it is empty or a cut entry. If memory ran out, it is
-- any. Otherwise it has this fault.
abbrev pub EndsAs : ℕ → ℕ → List ℕ → FeedReason → ℕ → Type 0
EndsAs count total rest feed.Read place =
    (place ≡ total) × ((rest ≡ []) ⊎ ((offset : ℕ) × IsRestFault count rest feed.CutRecord offset))
EndsAs count total rest feed.Memory place = place ≡ 0
EndsAs count total rest reason place = (offset : ℕ) × (place ≡ total - length rest + offset)
    × IsRestFault count rest reason offset

-- the rest after the entries: empty if reading succeeded
abbrev pub Ends : ℕ → ℕ → List ℕ → Result (Unit {0}) FeedFault → Type 0
Ends count total rest (Ok _) = rest ≡ []
Ends count total rest (Err f) = EndsAs count total rest f.reason f.place

-- The octets are these entries, at most 100,000, and a rest that agrees with the result.
pub record IsReadAs (entries : List Entry) (end : Result (Unit {0}) FeedFault) (octets : List ℕ) : Type 0 where
  pub rest : List ℕ
  pub framed : Framed entries octets rest
  pub within : length entries ≤ entry_limit
  pub ends : Ends (length entries) (length octets) rest end

-- only at the reader's end does reading succeed or report CutRecord
abbrev pub EndsOnlyAtEnd : Option (List ℕ) → Result (Unit {0}) FeedFault → Type 0
EndsOnlyAtEnd remaining (Ok _) = IsAtEnd remaining
EndsOnlyAtEnd remaining (Err f) = f.reason ≡ feed.CutRecord → IsAtEnd remaining

-- How often the reader failed: once if reading reports Read, never if it succeeds or reports CutRecord, and at most
-- once in any case. So nothing is read after a failure.
abbrev pub FailsOnlyByReader : ℕ → ℕ → Result (Unit {0}) FeedFault → Type 0
FailsOnlyByReader old new (Ok _) = new ≡ old
FailsOnlyByReader old new (Err f) =
    (f.reason ≡ feed.Read → new ≡ one_more old)
    × (f.reason ≡ feed.CutRecord → new ≡ old)
    × ((new ≡ old) ⊎ (new ≡ one_more old))
