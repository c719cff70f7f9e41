-- Why is nothing blamed on an end at an entry? Either the end used an own ID again, so that it is unclear which
-- transaction is meant. Or the end's message goes over tangled IDs, and the first of them is reported.
use Rattle.std.specs.Prelude.{ℕ, ◌+◌, Bool, true, false, List, [], ◌∷◌, ◌++◌, map, slice_get, take, Option, Some, None, Result, Ok, Err, cond}
use Rattle.std.specs.Option.{option_or}
use Rattle.tcap_record.specs.declared.entry.End.{End as Side}
use Rattle.tcap_record.specs.declared.entry.Entry.{Entry}
use Rattle.tcap_end.specs.Table.{Table}
use Rattle.tcap_model.specs.declared.reason.Reason.{Reason}
use Rattle.tcap_model.specs.World.{Item, Sent, is_side}
use Rattle.tcap_model.specs.Entries.{item_of}
use Rattle.tcap_refute.specs.EarlierMessages.{since_quiet}
use Rattle.tcap_faults.specs.declared.verdict.unblamed_reason.TangledId.{TangledId}
use Rattle.tcap_faults.specs.declared.verdict.unblamed_reason.Unblamed.{Unblamed}
use Rattle.tcap_faults.specs.declared.verdict.unblamed_reason.Unblamed.TheVariants.{UsedAgain, Tangled}
use Rattle.tcap_faults.specs.FaultSubject.{items_among}
use Rattle.tcap_faults.specs.TangledIds.{tangled_in}
use Rattle.tcap_faults.specs.UsedAgain.{is_used_again}

-- The number of the first entry since the last quiet mark in which the end used an own ID again. `seen` are the items
-- since the mark before these entries, and `first` is the number that was found in them.
abbrev pub again_after : Table → Side → ℕ → List (Result Item Reason) → List Item → Option ℕ → Option ℕ
again_after table side number [] seen first = first
again_after table side number (Err reason ∷ more) seen first = again_after table side (number + 1) more seen first
again_after table side number (Ok Item.Quiet ∷ more) seen first = again_after table side (number + 1) more [] None
again_after table side number (Ok (Sent sender m) ∷ more) seen first =
    again_after table side (number + 1) more (seen ++ Sent sender m ∷ [])
    (option_or first (cond (is_used_again table side seen (Sent sender m)) (Some number) None))

-- The number of the first such entry among the first `count` entries.
abbrev pub again_among : Table → Side → List Entry → ℕ → Option ℕ
again_among table side entries count = again_after table side 0 (map item_of (take count entries)) [] None

-- Whether an entry is a quiet mark.
abbrev pub is_mark : Option (Result Item Reason) → Bool
is_mark (Some (Ok Item.Quiet)) = true
is_mark entry = false

-- The number of the first such entry that matters for the entry `number`. A message is judged by the entries up to
-- it, itself included; a quiet mark by those before it.
abbrev pub used_again_at : Table → Side → List Entry → ℕ → Option ℕ
used_again_at table side entries number =
    again_among table side entries (cond (is_mark (slice_get (map item_of entries) number)) number (number + 1))

-- The first tangled ID that the entry's message goes over, if this end sent it.
abbrev pub tangled_at : Side → List Entry → ℕ → Option TangledId
tangled_at side entries number = by (slice_get (map item_of entries) number)
  where
    by : Option (Result Item Reason) → Option TangledId
    by (Some (Ok (Sent sender m))) =
        cond (is_side side sender) (tangled_in side (since_quiet (items_among (map item_of (take number entries)))) m)
        None
    by entry = None

-- The reason: an own ID that was used again, or else a tangled ID.
abbrev pub unblamed_by : Option ℕ → Option TangledId → Option Unblamed
unblamed_by (Some again) tangled = Some (UsedAgain again)
unblamed_by None (Some t) = Some (Tangled t)
unblamed_by None None = None

-- Why nothing is blamed on an end at the entry `number`, if there is such a reason.
abbrev pub unblamed_at : Table → Side → List Entry → ℕ → Option Unblamed
unblamed_at table side entries number =
    unblamed_by (used_again_at table side entries number) (tangled_at side entries number)
