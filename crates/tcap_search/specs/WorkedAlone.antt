-- Worked records: the result for each end alone, by the certificate proposed for it. tests/cases/faults.json has more
-- records, which the tests judge with the program.
use Rattle.std.specs.Prelude.{◌≡◌, ℕ, List, [], ◌∷◌, map, Ok, Some, None, refl}
use Rattle.tcap_record.specs.declared.entry.End.{End as Side}
use Rattle.tcap_record.specs.declared.entry.End.TheVariants.{A, B}
use Rattle.tcap_record.specs.declared.entry.Entry.{Entry}
use Rattle.tcap_end.specs.Table.{Table}
use Rattle.tcap_model.specs.declared.reason.Reason.{Reason}
use Rattle.tcap_model.specs.World.{Item, Sent}
use Rattle.tcap_model.specs.Entries.{entry_of}
use Rattle.tcap_certificate.specs.Replay.{map_ok, refused, replayed_by}
use Rattle.tcap_certificate.specs.LossCounts.{unheard_of}
use Rattle.tcap_search.specs.ProposedCertificate.{proposed_for}
use Rattle.tcap_msg.specs.declared.message.AbortReason.TheVariants as aborts
use Rattle.tcap_msg.specs.declared.message.Message.TheVariants.{Begin, Continue, Abort}
use Rattle.tcap_model.specs.declared.reason.Reason.TheVariants.{BadReply}
use Rattle.tcap_refute.specs.WorkedTables.{all_expire}

-- The result for one end: a run with this many unheard messages of its peer, or no run for this reason at this entry.
-- If the end is at fault, no run is searched.
pub data Verdict : Type 0 where
  Heard : ℕ → Verdict
  Unheard : ℕ → Reason → Verdict
  AtFault : Verdict

-- The certificate proposed for this end gives this result.
abbrev HasVerdict : Table → Side → List Entry → Verdict → Type 0
HasVerdict table side entries (Heard count) =
    map_ok (unheard_of side) (replayed_by (Some side) table (proposed_for side entries) entries) ≡ Ok count
HasVerdict table side entries (Unheard entry reason) =
    replayed_by (Some side) table (proposed_for side entries) entries ≡ refused reason entry
HasVerdict table side entries AtFault = Unit {0}

-- the results for A and for B
abbrev pub IsAlone : Table → List Item → Verdict → Verdict → Type 0
IsAlone table items of_a of_b =
    HasVerdict table A (map entry_of items) of_a × HasVerdict table B (map entry_of items) of_b

-- A sends a Continue in a half that it began before the peer's Continue arrived. B did not hear A's last message.
pub first_is_at_fault : IsAlone all_expire
    (Sent A (Begin (1 ∷ []) None None)
    ∷ Sent B (Begin (7 ∷ []) None None)
    ∷ Sent A (Continue (1 ∷ []) (7 ∷ []) None None) ∷ [])
    AtFault
    (Heard 1)
first_is_at_fault = (tt, refl)

-- A may send it after the peer's Continue, and each end hears all messages.
pub all_are_heard : IsAlone all_expire
    (Sent A (Begin (1 ∷ []) None None)
    ∷ Sent B (Continue (7 ∷ []) (1 ∷ []) None None)
    ∷ Sent A (Continue (1 ∷ []) (7 ∷ []) None None) ∷ [])
    (Heard 0)
    (Heard 0)
all_are_heard = (refl, refl)

-- A quiet mark comes while A has an open half.
pub open_at_mark : IsAlone all_expire
    (Sent B (Begin (7 ∷ []) None None)
    ∷ Sent A (Continue (1 ∷ []) (7 ∷ []) None None)
    ∷ Item.Quiet ∷ [])
    AtFault
    (Heard 1)
open_at_mark = (tt, refl)

-- B begins twice with one ID, and A's provider refuses the second Begin: the search finds no run of A.
pub no_run_is_found : IsAlone all_expire
    (Sent B (Begin (7 ∷ []) None None)
    ∷ Sent A (Continue (1 ∷ []) (7 ∷ []) None None)
    ∷ Sent B (Begin (7 ∷ []) None None)
    ∷ Sent A (Abort (7 ∷ []) (Some (aborts.Cause 4))) ∷ [])
    (Unheard 3 BadReply)
    AtFault
no_run_is_found = (refl, tt)
