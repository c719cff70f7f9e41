-- What does framing the front of a record's octets return?
use Rattle.std.specs.Prelude.{◌≡◌, ◌≢◌, ℕ, ◌+◌, ◌-◌, ◌<◌, ◌≤◌, List, [], ◌∷◌, ◌++◌, length, take, Option, Some, None, Result, Ok, Err, ◌==◌, if◌then◌else◌}
use Rattle.tcap_ber.specs.declared.fault.Fault.{Fault}
use Rattle.tcap_ber.specs.declared.element.Outer.{Outer}
use Rattle.tcap_ber.specs.declared.element.Outer.TheVariants.{Whole as WholeElement, Need}
use Rattle.tcap_ber.specs.Element.{content_limit, header_limit, opening_limit}
use Rattle.tcap_ber.specs.Reading.{outer_at}
use Rattle.tcap_record.specs.declared.entry.End.{End}
use Rattle.tcap_record.specs.declared.fault.FeedReason.TheVariants as feed
use Rattle.tcap_record.specs.declared.frames.Front.{Front}
use Rattle.tcap_record.specs.declared.frames.Front.TheVariants.{Whole, Part, Refused}
use Rattle.tcap_record.specs.RecordOctets.{quiet_octet, entry_limit, IsRestFault}
use Rattle.tcap_record.specs.FramingResult.{end_in}
use Rattle.tcap_record.specs.PartialRecord.{IsPart, IsWhole}

-- An upper bound of the octets held: one of an end, the header and content of an incomplete element, and the octets of
-- a header that has begun.
abbrev pub entry_room : ℕ
entry_room = 1 + content_limit + opening_limit + header_limit

-- the count or the place is within `entry_room`
abbrev pub IsAnswerWithin : Result Outer Fault → Type 0
IsAnswerWithin (Ok (WholeElement n)) = n ≤ entry_room
IsAnswerWithin (Ok (Need n)) = Unit {0}
IsAnswerWithin (Err f) = f.place ≤ entry_room

-- the front after an end's octet, given the result of framing its element
abbrev pub front_by : Result Outer Fault → Front
front_by (Ok (WholeElement n)) = Whole (n + 1)
front_by (Ok (Need n)) = Part
front_by (Err f) = Refused (feed.Element f.reason) (f.place + 1)

-- the front after this first octet: BadEnd if it is not an end's
abbrev pub front_of : Option End → List ℕ → Front
front_of None more = Refused feed.BadEnd 0
front_of (Some side) more = front_by (outer_at more)

-- The front of octets after `count` entries: a whole entry of this many octets, a part of one, or a refusal at its
-- place in the octets.
abbrev pub front_at : ℕ → List ℕ → Front
front_at count [] = Part
front_at count (first ∷ more) =
    if count == entry_limit then Refused feed.TooManyEntries 0
    else (if first == quiet_octet then Whole 1 else front_of (end_in first) more)

-- the number of octets of a whole entry at the front
abbrev pub whole_in : Front → Option ℕ
whole_in (Whole n) = Some n
whole_in Part = None
whole_in (Refused reason place) = None

-- a whole entry is no shorter than the octets held
abbrev pub IsLonger : ℕ → Front → Type 0
IsLonger held (Whole n) = held ≤ n
IsLonger held Part = Unit {0}
IsLonger held (Refused reason place) = Unit {0}

-- how many of `count` new octets belong to the entry at the front
abbrev pub taken_of : ℕ → ℕ → Front → ℕ
taken_of held count (Whole n) = n - held
taken_of held count Part = count
taken_of held count (Refused reason place) = count

-- after `count` entries, these octets are a whole entry, a part of one, or refused
abbrev pub BeginsAs : ℕ → List ℕ → Front → Type 0
BeginsAs count octets (Whole n) = IsWhole octets × (count < entry_limit)
BeginsAs count octets Part = IsPart octets × (octets ≢ [] → count < entry_limit)
BeginsAs count octets (Refused reason offset) = IsRestFault count octets reason offset × (reason ≢ feed.CutRecord)
    × (offset ≤ length octets)

-- `taken` octets of the piece were appended to a part. If the entry is still a part, all of the piece was.
pub record IsTaken (count : ℕ) (old piece new : List ℕ) (front : Front) (taken : ℕ) : Type 0 where
  pub most : taken ≤ length piece
  pub grown : new ≡ old ++ take taken piece
  pub few : length new ≤ entry_room
  pub begins : BeginsAs count new front
  pub all : front ≡ Part → taken ≡ length piece
