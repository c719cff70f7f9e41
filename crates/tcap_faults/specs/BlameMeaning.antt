-- What does blaming an entry on an end imply for all runs?
use Rattle.std.specs.Prelude.{◌≡◌, ◌⊎◌, ℕ, ◌+◌, true, false, List, ◌∷◌, ◌++◌, length, map, slice_get, Some, Result, Ok}
use Rattle.tcap_ber.specs.declared.fault.Fault.{Fault}
use Rattle.tcap_ber.specs.Element.{IsRaw}
use Rattle.tcap_msg.specs.declared.message.Message.{Message}
use Rattle.tcap_msg.specs.Message.{Spells}
use Rattle.tcap_record.specs.declared.entry.Body.TheVariants.{Bad}
use Rattle.tcap_record.specs.declared.entry.End.{End as Side}
use Rattle.tcap_record.specs.declared.entry.Entry.{Entry}
use Rattle.tcap_record.specs.RecordOctets.{octet_of}
use Rattle.tcap_end.specs.Table.{Table}
use Rattle.tcap_model.specs.declared.reason.Reason.{Reason}
use Rattle.tcap_model.specs.World.{Item, Sent, World}
use Rattle.tcap_model.specs.Run.{Event, KeepsRules, Runs}
use Rattle.tcap_model.specs.Entries.{item_of}
use Rattle.tcap_refute.specs.EarlierMessages.{since_quiet}
use Rattle.tcap_refute.specs.declared.kind.Kind.TheVariants as kinds
use Rattle.tcap_refute.specs.declared.kind.Refutation.{Refutation}
use Rattle.tcap_refute.specs.Kind.{is_limit}
use Rattle.tcap_refute.specs.Unsendable.{IsUnsendable}
use Rattle.tcap_faults.specs.Fault.{is_fault, is_open_at_mark}

-- An entry of this end whose octets are no message, by a fault that is no limit of this profile.
pub record IsBadEntryOf (side : Side) (entries : List Entry) (number : ℕ) : Type 0 where
  pub entry : Entry
  pub fault : Fault
  pub there : slice_get entries number ≡ Some entry
  pub side_is : entry.side ≡ Some side
  pub body_is : entry.body ≡ Bad fault
  pub no_limit : is_limit fault.reason ≡ false

-- A message with this kind. No run in which this end keeps the rules has it there.
pub record IsFaultOf (table : Table) (side : Side) (entries : List (Result Item Reason)) (r : Refutation) : Type 0 where
  pub before : List Item
  pub message : Message
  pub more : List (Result Item Reason)
  pub are : entries ≡ map (λ item. Ok item) before ++ (Ok (Sent side message) ∷ more)
  pub counted : length before ≡ r.entry
  pub has_kind : is_fault table side (since_quiet before) message r.kind ≡ true
  pub unsendable : IsUnsendable table before side message

-- No run in which the end keeps the rules has a quiet mark directly after these items, because the end has an open
-- half then.
abbrev pub HasNoMark : Table → List Item → Side → Type 0
HasNoMark table before side =
    (events : List Event) (w : World) (behind : List Item) → Runs table events w → KeepsRules side events
    → w.sent ≡ before ++ Item.Quiet ∷ behind → ⊥

-- A quiet mark with F15. No run in which the end keeps the rules has it there.
pub record IsFalseMark (table : Table) (side : Side) (entries : List (Result Item Reason)) (r : Refutation) : Type
    0 where
  pub before : List Item
  pub more : List (Result Item Reason)
  pub are : entries ≡ map (λ item. Ok item) before ++ (Ok Item.Quiet ∷ more)
  pub counted : length before ≡ r.entry
  pub has_kind : (r.kind ≡ kinds.OpenAtMark) × (is_open_at_mark table side (since_quiet before) ≡ true)
  pub none : HasNoMark table before side

-- An entry is at fault if one of these holds:
-- - it is of this end, its octets are no message, and the kind is F1;
-- - it is a message with this kind, and no run in which the end keeps the rules has it there;
-- - it is a quiet mark with F15, and no run in which the end keeps the rules has it there.
abbrev pub IsAtFaultOf : Table → Side → List Entry → Refutation → Type 0
IsAtFaultOf table side entries r =
    ((r.kind ≡ kinds.BadMessage) × IsBadEntryOf side entries r.entry)
    ⊎ IsFaultOf table side (map item_of entries) r ⊎ IsFalseMark table side (map item_of entries) r

-- At this place of the octets, counted from 0, is an element that spells no message of this profile. The octet of
-- this end comes before it.
pub record HasNoMessage (side : Side) (place : ℕ) (octets : List ℕ) : Type 0 where
  pub front : List ℕ
  pub element : List ℕ
  pub behind : List ℕ
  pub joined : octets ≡ front ++ (octet_of side ∷ (element ++ behind))
  pub at : place ≡ length front + 1
  pub raw : IsRaw element
  pub none : (m : Message) → Spells m element → ⊥
