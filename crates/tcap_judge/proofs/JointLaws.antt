-- If a record is refuted, its ends are not both lawful alone.
use Rattle.std.proofs.Common.{◌≡◌, ◌&&◌, Bool, true, false, cond, List, length, map, refl, sym, ap, ◌∙◌}
use Rattle.std.specs.Prelude.{Option, Some, None, Result, Ok, Err}
use Rattle.tcap_record.specs.declared.entry.End.{End as Side}
use Rattle.tcap_record.specs.declared.entry.End.TheVariants as sides
use Rattle.tcap_record.specs.declared.entry.Entry.{Entry}
use Rattle.tcap_end.specs.Table.{Table}
use Rattle.tcap_certificate.specs.declared.fault.CheckFault.{CheckFault}
use Rattle.tcap_certificate.specs.LossCounts.{unheard_of}
use Rattle.tcap_model.specs.Entries.{item_of}
use Rattle.tcap_model.specs.Run.{Event}
use Rattle.tcap_model.proofs.WholeLaws.{lawful_together}
use Rattle.tcap_refute.specs.declared.kind.Refutation.{Refutation}
use Rattle.tcap_refute.specs.Kind.{refuted}
use Rattle.tcap_refute.proofs.RefutedLaws.{never_lawful}
use Rattle.tcap_judge.specs.declared.outcome.Outcome.TheVariants.{Lawful, LawfulFor, Refuted}
use Rattle.tcap_judge.specs.CheckOutcome.{replay_outcome}
use Rattle.tcap_judge.specs.LawfulOutcome.{replayed_by}
use Rattle.tcap_judge.specs.Verdict.{refutation_by, proposed_by, verdict, verdict_by}
use Rattle.tcap_judge.specs.BlameOutcome.{IsFound, finding, finding_by, is_lawful, items_before, joint_verdict}
use Rattle.tcap_judge.proofs.BlamedLaws.{are_found}
use Rattle.tcap_judge.proofs.LawfulLaws.{shown_by_replay}

-- A finding holds.
found_so : (side : Side) (table : Table) (entries : List Entry) → IsFound side table entries (finding table entries side)
found_so side table entries =
    by (refutation_by (Some side) table entries) (replayed_by (Some side) table (proposed_by (Some side) entries) entries) refl
  where
    by : (named : Option Refutation) (replay : Result (List Event) CheckFault)
        → replayed_by (Some side) table (proposed_by (Some side) entries) entries ≡ replay
        → IsFound side table entries
        (finding_by (items_before (map item_of entries)) (verdict_by (Some side) (length entries) named replay))
    by (Some r) replay is = tt
    by None (Err fault) is = tt
    by None (Ok events) is =
        shown_by_replay (Some side) table (proposed_by (Some side) entries) entries
        (LawfulFor (length entries) (unheard_of side events)) (sym (ap (replay_outcome (Some side) (length entries)) is))

pub refuted_joint : (table : Table) (entries : List Entry) (r : Refutation) → refuted table (map item_of entries) ≡ Some r
    → joint_verdict None table entries ≡ Refuted r
refuted_joint table entries r is =
    by (is_lawful (finding table entries sides.A) && is_lawful (finding table entries sides.B)) refl
  where
    by : (both : Bool) → (is_lawful (finding table entries sides.A) && is_lawful (finding table entries sides.B)) ≡ both
        → cond both (Lawful (length entries)) (verdict table entries) ≡ Refuted r
    by true lawful =
        let (items, are, (moves, run)) =
        are_found lawful_together table entries (finding table entries sides.A) (finding table entries sides.B)
        (found_so sides.A table entries) (found_so sides.B table entries) lawful in
        absurd (never_lawful table entries items r moves is are run)
    by false other =
        ap (λ (n : Option Refutation). verdict_by None (length entries) n (replayed_by None table (proposed_by None entries) entries)) is
