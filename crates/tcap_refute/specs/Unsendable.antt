-- What does a refutation imply for all runs?
use Rattle.std.specs.Prelude.{◌≡◌, ◌⊎◌, ℕ, true, false, List, ◌∷◌, ◌++◌, map, length, slice_get, Some, Result, Ok, Err}
use Rattle.tcap_ber.specs.declared.fault.Fault.{Fault}
use Rattle.tcap_msg.specs.declared.message.Message.{Message}
use Rattle.tcap_record.specs.declared.entry.End.{End as Side}
use Rattle.tcap_end.specs.Table.{Table}
use Rattle.tcap_model.specs.declared.reason.Reason.{Reason}
use Rattle.tcap_model.specs.declared.reason.Reason.TheVariants.{BadMessage}
use Rattle.tcap_model.specs.World.{Item, Sent, World}
use Rattle.tcap_model.specs.Run.{Event, KeepsRules, Runs}
use Rattle.tcap_refute.specs.declared.kind.Kind.TheVariants as kinds
use Rattle.tcap_refute.specs.declared.kind.Refutation.{Refutation}
use Rattle.tcap_refute.specs.EarlierMessages.{since_quiet}
use Rattle.tcap_refute.specs.Kind.{is_limit, is_of_kind}

-- No run in which the end keeps the rules sends this message directly after these items, no matter what the other end
-- does and what follows.
abbrev pub IsUnsendable : Table → List Item → Side → Message → Type 0
IsUnsendable table before side message =
    (events : List Event) (w : World) (behind : List Item) → Runs table events w → KeepsRules side events
    → w.sent ≡ before ++ Sent side message ∷ behind → ⊥

-- An entry whose octets are no message, for a reason that is no limit of this profile.
pub record IsBadEntry (entries : List (Result Item Reason)) (entry : ℕ) : Type 0 where
  pub fault : Fault
  pub there : slice_get entries entry ≡ Some (Err (BadMessage fault))
  pub no_limit : is_limit fault.reason ≡ false

-- A message with this kind. No run in which its end keeps the rules has it there.
pub record IsUnsendableEntry (table : Table) (entries : List (Result Item Reason)) (r : Refutation) : Type 0 where
  pub before : List Item
  pub side : Side
  pub message : Message
  pub more : List (Result Item Reason)
  pub are : entries ≡ map (λ item. Ok item) before ++ Ok (Sent side message) ∷ more
  pub counted : length before ≡ r.entry
  pub has_kind : is_of_kind table side (since_quiet before) message r.kind ≡ true
  pub unsendable : IsUnsendable table before side message

-- Either the octets of the entry are no message, and the kind is F1. Or the entry is a message with this kind, and no
-- run in which its end keeps the rules has it there.
abbrev pub IsAtFault : Table → List (Result Item Reason) → Refutation → Type 0
IsAtFault table entries r =
    ((r.kind ≡ kinds.BadMessage) × IsBadEntry entries r.entry) ⊎ IsUnsendableEntry table entries r

-- The kind is F1 exactly if the octets of the entry are no message, for a reason that is no limit of this profile.
abbrev pub IsBadByKind : List (Result Item Reason) → Refutation → Type 0
IsBadByKind entries r =
    (r.kind ≡ kinds.BadMessage → IsBadEntry entries r.entry) × (IsBadEntry entries r.entry → r.kind ≡ kinds.BadMessage)
