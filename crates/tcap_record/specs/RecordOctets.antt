-- Which octets are a record? Entries one after the other: each is an end's octet and one element, or a quiet mark.
use Rattle.std.specs.Prelude.{◌≡◌, ◌≢◌, ℕ, ◌+◌, ◌-◌, ◌<◌, ◌⊎◌, List, [], ◌∷◌, ◌++◌, length, Some, None}
use Rattle.tcap_ber.specs.Element.{IsRaw}
use Rattle.tcap_ber.specs.WalkPlaces.{IsWalkFault, IsUnfinished}
use Rattle.tcap_msg.specs.declared.message.Message.{Message}
use Rattle.tcap_msg.specs.Message.{Spells, IsFaulty}
use Rattle.tcap_record.specs.declared.entry.End.{End}
use Rattle.tcap_record.specs.declared.entry.End.TheVariants as ends
use Rattle.tcap_record.specs.declared.entry.Body.{Body}
use Rattle.tcap_record.specs.declared.entry.Body.TheVariants.{Good, Bad, Quiet}
use Rattle.tcap_record.specs.declared.entry.Entry.{Entry}
use Rattle.tcap_record.specs.declared.fault.FeedReason.{FeedReason}
use Rattle.tcap_record.specs.declared.fault.FeedReason.TheVariants as feed

-- the octet of an end: 41 is A, 42 is B
abbrev pub octet_of : End → ℕ
octet_of ends.A = 0x41
octet_of ends.B = 0x42

-- the octet of a quiet mark
abbrev pub quiet_octet : ℕ
quiet_octet = 0x51

-- The content of an element at this place of the record: the message that it spells or, if it spells none, its fault,
-- whose place is counted in the record.
abbrev pub IsBody : Body → ℕ → List ℕ → Type 0
IsBody (Good m) place element = Spells m element
IsBody (Bad f) place element =
    ((m : Message) → Spells m element → ⊥)
    × ((offset : ℕ) × (f.place ≡ place + offset) × IsFaulty element f.reason offset)
IsBody Quiet place element = ⊥

-- The octets at this place of the record begin with a message that an end sent: the end's octet and one element. The
-- entry's place is that of the element's first octet.
pub record IsSent (place : ℕ) (entry : Entry) (octets others : List ℕ) : Type 0 where
  pub side : End
  pub element : List ℕ
  pub side_is : entry.side ≡ Some side
  pub joined : octets ≡ octet_of side ∷ element ++ others
  pub raw : IsRaw element
  pub place_is : entry.place ≡ place + 1
  pub body : IsBody entry.body entry.place element

-- The octets begin with a quiet mark, which is its octet alone.
pub record IsMark (place : ℕ) (entry : Entry) (octets others : List ℕ) : Type 0 where
  pub side_is : entry.side ≡ None
  pub body_is : entry.body ≡ Quiet
  pub joined : octets ≡ quiet_octet ∷ others
  pub place_is : entry.place ≡ place

-- the octets begin with the entry, and `others` come after it
abbrev pub IsEntry : ℕ → Entry → List ℕ → List ℕ → Type 0
IsEntry place entry octets others = IsSent place entry octets others ⊎ IsMark place entry octets others

-- The octets from this place of the record on are these entries and a rest.
abbrev pub FramedFrom : ℕ → List Entry → List ℕ → List ℕ → Type 0
FramedFrom place [] octets rest = octets ≡ rest
FramedFrom place (entry ∷ entries) octets rest =
    (others : List ℕ) × IsEntry place entry octets others
    × FramedFrom (place + (length octets - length others)) entries others rest

-- the octets are these entries and a rest
abbrev pub Framed : List Entry → List ℕ → List ℕ → Type 0
Framed entries octets rest = FramedFrom 0 entries octets rest

-- the greatest number of entries of a record, this profile's limit
abbrev pub entry_limit : ℕ
entry_limit = 100000

-- the octet of an end
abbrev pub IsEndOctet : ℕ → Type 0
IsEndOctet octet = (octet ≡ 0x41) ⊎ (octet ≡ 0x42)

-- The faults of a rest that begins no further entry, after `count` entries. The offset is counted from the rest's first
-- octet. TooManyEntries comes first.
abbrev pub IsRestFault : ℕ → List ℕ → FeedReason → ℕ → Type 0
IsRestFault count [] reason offset = ⊥
IsRestFault count (first ∷ more) feed.TooManyEntries offset = (count ≡ entry_limit) × (offset ≡ 0)
IsRestFault count (first ∷ more) feed.BadEnd offset =
    (count < entry_limit) × (IsEndOctet first → ⊥) × (first ≢ quiet_octet) × (offset ≡ 0)
IsRestFault count (first ∷ more) (feed.Element reason) offset =
    (count < entry_limit) × IsEndOctet first
    × ((place : ℕ) × (offset ≡ 1 + place) × IsWalkFault more reason place)
IsRestFault count (first ∷ more) feed.CutRecord offset =
    (count < entry_limit) × IsEndOctet first × IsUnfinished more × (offset ≡ 1 + length more)
IsRestFault count (first ∷ more) feed.BadHexLine offset = ⊥
IsRestFault count (first ∷ more) feed.Read offset = ⊥
IsRestFault count (first ∷ more) feed.Memory offset = ⊥
