-- Which part of a record is held while it comes in pieces? The entry at the front, as far as it came.
use Rattle.std.specs.Prelude.{◌≡◌, ◌≢◌, ℕ, ◌+◌, ◌<◌, ◌≤◌, ◌⊎◌, List, [], ◌∷◌, ◌++◌, length, take, Option, Some, None}
use Rattle.tcap_ber.specs.Element.{IsRaw}
use Rattle.tcap_ber.specs.WalkPlaces.{IsUnfinished}
use Rattle.tcap_record.specs.declared.entry.End.{End}
use Rattle.tcap_record.specs.declared.entry.Entry.{Entry}
use Rattle.tcap_record.specs.declared.fault.FeedFault.{FeedFault}
use Rattle.tcap_record.specs.declared.fault.FeedReason.TheVariants as feed
use Rattle.tcap_record.specs.RecordOctets.{octet_of, quiet_octet, IsEntry, Framed, entry_limit, IsEndOctet, IsRestFault}

-- The octets that were taken and belong to no dropped entry, and the place of the first. Also the number of entries
-- dropped, and the fault of the octets.
pub record FramerState : Type 0 where
  pub octets : List ℕ
  pub place : ℕ
  pub count : ℕ
  pub fault : Option FeedFault

-- nothing, or the beginning of an entry, without a fault
abbrev pub IsPart : List ℕ → Type 0
IsPart [] = Unit {0}
IsPart (first ∷ more) = IsEndOctet first × IsUnfinished more

-- exactly one entry: a quiet mark, or an end's octet and one element
abbrev pub IsWhole : List ℕ → Type 0
IsWhole octets =
    (octets ≡ quiet_octet ∷ [])
    ⊎ ((side : End) × (element : List ℕ) × (octets ≡ octet_of side ∷ element) × IsRaw element)

-- Without a fault, the octets are a part of an entry or a whole one, and the record may have one more entry. With a
-- fault, they have that fault, which is not CutRecord.
abbrev pub IsFramerStateWith : FramerState → Option FeedFault → Type 0
IsFramerStateWith h None = (h.octets ≢ [] → h.count < entry_limit) × (IsPart h.octets ⊎ IsWhole h.octets)
IsFramerStateWith h (Some f) =
    (offset : ℕ) × (f.place ≡ h.place + offset) × IsRestFault h.count h.octets f.reason offset
    × (f.reason ≢ feed.CutRecord)

-- a consistent state
abbrev pub IsFramerState : FramerState → Type 0
IsFramerState h = (h.count ≤ entry_limit) × IsFramerStateWith h h.fault

-- no octet was taken
abbrev pub empty_framer : FramerState
empty_framer = record { octets = []; place = 0; count = 0; fault = None }

-- the state with more octets, and this fault
abbrev pub grown : FramerState → List ℕ → Option FeedFault → FramerState
grown h more fault = record { octets = h.octets ++ more; place = h.place; count = h.count; fault = fault }

-- the state after dropping the entry at the front
abbrev pub dropped : FramerState → FramerState
dropped h = record { octets = []; place = h.place + length h.octets; count = h.count + 1; fault = None }

-- the state with the first `len` octets only, without a fault
abbrev pub cut_to : ℕ → FramerState → FramerState
cut_to len h = record { octets = take len h.octets; place = h.place; count = h.count; fault = None }

-- All octets taken so far are the dropped entries and the octets held.
pub record IsFramedSoFar (octets : List ℕ) (entries : List Entry) (h : FramerState) : Type 0 where
  pub framed : Framed entries octets h.octets
  pub count_is : h.count ≡ length entries
  pub place_is : h.place + length h.octets ≡ length octets

-- the octets held are exactly this entry
abbrev pub IsFront : Entry → FramerState → Type 0
IsFront entry h = IsEntry h.place entry h.octets []
