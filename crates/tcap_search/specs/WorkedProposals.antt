-- Worked proposals: the certificate proposed for a record.
use Rattle.std.specs.Prelude.{◌≡◌, List, [], ◌∷◌, map, Some, None}
use Rattle.tcap_ber.specs.declared.fault.Reason.TheVariants as reading
use Rattle.tcap_msg.specs.declared.message.Message.{Message}
use Rattle.tcap_msg.specs.declared.message.Message.TheVariants.{Begin, Continue}
use Rattle.tcap_record.specs.declared.entry.Body.TheVariants.{Bad}
use Rattle.tcap_record.specs.declared.entry.End.{End as Side}
use Rattle.tcap_record.specs.declared.entry.End.TheVariants.{A, B}
use Rattle.tcap_record.specs.declared.entry.Entry.{Entry}
use Rattle.tcap_model.specs.World.{Item, Sent}
use Rattle.tcap_model.specs.Run.{provider_abort}
use Rattle.tcap_certificate.specs.Certificate.{Certificate}
use Rattle.tcap_certificate.specs.declared.certificate.Fate.TheVariants.{Gap, Lost, By}
use Rattle.tcap_model.specs.Entries.{entry_of}
use Rattle.tcap_model.specs.WorkedItems.{answer, begin, end_to, id}
use Rattle.tcap_certificate.specs.WorkedRuns.{Worked, by_fates, both_again, closed_half, crossing, delayed, empty_record, end_implies, late_reject, over_a_mark, refused_begin, three_entries, two_entries}
use Rattle.tcap_search.specs.ProposedCertificate.{proposed, proposed_for}

-- The certificate proposed for the items of a worked run is the one that describes the run.
abbrev pub IsProposed : Worked → Type 0
IsProposed w = proposed (map entry_of w.items) ≡ w.certificate

-- the certificate proposed for these items
abbrev pub Proposes : List Item → Certificate → Type 0
Proposes items certificate = proposed (map entry_of items) ≡ certificate

-- the certificate proposed for this end alone
abbrev pub ProposesFor : Side → List Item → Certificate → Type 0
ProposesFor side items certificate = proposed_for side (map entry_of items) ≡ certificate

abbrev pub of_worked_runs : Type 0
of_worked_runs =
    IsProposed empty_record × IsProposed two_entries × IsProposed three_entries × IsProposed crossing
    × IsProposed late_reject × IsProposed closed_half × IsProposed refused_begin × IsProposed over_a_mark
    × IsProposed both_again × IsProposed end_implies

-- B's last Continue crosses A's End, and A's provider answers it. So the End would be delivered after this Continue,
-- and after A's second Begin, which is delivered at once: the End is lost.
abbrev pub lost_end : Type 0
lost_end = Proposes
    (Sent A (begin None None) ∷ Sent B (answer None None) ∷ Sent A (end_to 2 None) ∷ Sent A (Begin (id 3) None None)
    ∷ Sent B (answer None None) ∷ Sent A (provider_abort (id 2) 1) ∷ [])
    (by_fates (Gap 1 ∷ Gap 2 ∷ Lost ∷ Gap 4 ∷ By 5 ∷ Gap 6 ∷ []))

-- The certificate proposed for a late result delivers it at once, and so for a Continue after its dialogue's end. These
-- certificates give no run.
abbrev pub not_lawful : Type 0
not_lawful =
    Proposes delayed.items (by_fates (Gap 1 ∷ Gap 2 ∷ Gap 3 ∷ Gap 4 ∷ Gap 5 ∷ []))
    × Proposes
    (Sent A (begin None None) ∷ Sent B (answer None None) ∷ Sent A (end_to 2 None) ∷ Sent B (answer None None) ∷ [])
    (by_fates (Gap 1 ∷ Gap 2 ∷ Gap 4 ∷ Gap 4 ∷ []))

-- an entry of B that is no message
abbrev bad_of_b : Entry
bad_of_b = record {
  side = Some B;
  place = 0;
  body = Bad (record { reason = reading.Missing; place = 0 });
}

abbrev pub bad_entry : Type 0
bad_entry =
    proposed (entry_of (Sent A (begin None None)) ∷ bad_of_b ∷ entry_of (Sent B (end_to 1 None)) ∷ [])
    ≡ by_fates (Gap 1 ∷ Gap 2 ∷ Gap 3 ∷ [])

-- ---- one end alone

-- A's End, and an Abort of B's provider that answers nothing
abbrev aborted_end : List Item
aborted_end =
    Sent A (begin None None) ∷ Sent B (answer None None) ∷ Sent A (end_to 2 None)
    ∷ Sent B (provider_abort (id 1) 1) ∷ []

-- For both ends, the End is delivered after the Abort; for one end alone, at once.
abbrev pub end_before_an_abort : Type 0
end_before_an_abort =
    Proposes aborted_end (by_fates (Gap 1 ∷ Gap 2 ∷ Gap 4 ∷ Gap 4 ∷ []))
    × ProposesFor A aborted_end (by_fates (Gap 1 ∷ Gap 2 ∷ Gap 3 ∷ Gap 4 ∷ []))
    × ProposesFor B aborted_end (by_fates (Gap 1 ∷ Gap 2 ∷ Gap 3 ∷ Gap 4 ∷ []))

-- A's unanswered Begin, before a mark
abbrev unanswered_begin : List Item
unanswered_begin = Sent A (begin None None) ∷ Item.Quiet ∷ []

-- The Begin is lost for B alone. It is delivered for both ends, for A alone, and if no mark follows.
abbrev pub lost_begin : Type 0
lost_begin =
    ProposesFor B unanswered_begin (by_fates (Lost ∷ Gap 2 ∷ []))
    × ProposesFor A unanswered_begin (by_fates (Gap 1 ∷ Gap 2 ∷ []))
    × Proposes unanswered_begin (by_fates (Gap 1 ∷ Gap 2 ∷ []))
    × ProposesFor B (Sent A (begin None None) ∷ []) (by_fates (Gap 1 ∷ []))

-- A's Continue from 03 to 02 is lost for B alone before a mark, unless B sent a Continue from 02 or a message to 03.
abbrev pub lost_continue : Type 0
lost_continue =
    ProposesFor B (Sent A stray ∷ Item.Quiet ∷ []) (by_fates (Lost ∷ Gap 2 ∷ []))
    × ProposesFor B (Sent A (begin None None) ∷ Sent B (answer None None) ∷ Sent A stray ∷ Item.Quiet ∷ [])
    (by_fates (Gap 1 ∷ Gap 2 ∷ Gap 3 ∷ Gap 4 ∷ []))
    × ProposesFor B (Sent A stray ∷ Sent B (end_to 3 None) ∷ Item.Quiet ∷ [])
    (by_fates (Gap 1 ∷ Gap 2 ∷ Gap 3 ∷ []))
  where
    stray : Message
    stray = Continue (id 3) (id 2) None None
