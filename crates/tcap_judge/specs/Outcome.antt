-- The line and the status of each outcome.
use Rattle.std.specs.Prelude.{◌≡◌, ◌⊎◌, ℕ, List, [], ◌++◌, Option, Some, None, codes}
use Rattle.std.specs.Fmt.{decimal}
use Rattle.tcap_ber.specs.Fault.{number_of}
use Rattle.tcap_end.specs.Fault.{fault_number}
use Rattle.tcap_record.specs.Lines.{fault_line, line_end}
use Rattle.tcap_certificate.specs.declared.fault.CheckFault.{CheckFault}
use Rattle.tcap_model.specs.declared.reason.Reason.{Reason}
use Rattle.tcap_model.specs.declared.reason.Reason.TheVariants as reasons
use Rattle.tcap_model.specs.Reason.{reason_number}
use Rattle.tcap_refute.specs.declared.kind.Refutation.{Refutation}
use Rattle.tcap_refute.specs.Kind.{kind_number}
use Rattle.tcap_lines.specs.ShowRun.{memory_line}
use Rattle.tcap_judge.specs.declared.outcome.Outcome.{Outcome}
use Rattle.tcap_judge.specs.declared.outcome.Outcome.TheVariants.{Lawful, LawfulFor, NotShown, Refuted, Undecided, Faulty}
use Rattle.tcap_judge.specs.LawfulRecord.{lawful_line}
use Rattle.tcap_lines.specs.declared.status.Status.{Status}
use Rattle.tcap_lines.specs.declared.status.Status.TheVariants as statuses

-- the number of the inner fault of a reason, if it has one
abbrev pub inner_number : Reason → Option ℕ
inner_number reasons.CertificateShape = None
inner_number reasons.FateCount = None
inner_number reasons.FateRange = None
inner_number reasons.OutOfOrder = None
inner_number reasons.BadReply = None
inner_number (reasons.SendRefused fault) = Some (fault_number fault)
inner_number (reasons.HiddenRefused fault) = Some (fault_number fault)
inner_number reasons.NotQuiet = None
inner_number (reasons.BadMessage fault) = Some (number_of fault.reason)
inner_number reasons.NoItem = None
inner_number reasons.Memory = None

-- a slash and the number of the inner fault
abbrev pub inner_text : Option ℕ → List ℕ
inner_text None = []
inner_text (Some number) = codes "/" ++ decimal number

-- the number of a reason, with that of its inner fault
abbrev pub reason_text : Reason → List ℕ
reason_text reason = decimal (reason_number reason) ++ inner_text (inner_number reason)

-- the line if a certificate does not show a record lawful: the entry's number, and the reason
abbrev pub not_shown_line : CheckFault → List ℕ
not_shown_line fault = codes "NOT SHOWN " ++ decimal fault.entry ++ codes " " ++ reason_text fault.reason ++ line_end

-- the line if an entry is at fault: its number, and its kind
abbrev pub refuted_line : Refutation → List ℕ
refuted_line r = codes "REFUTED " ++ decimal r.entry ++ codes " F" ++ decimal (kind_number r.kind) ++ line_end

-- the line if an entry is neither refuted nor shown lawful: the entry at which the proposed certificate fails, and the
-- reason
abbrev pub undecided_line : CheckFault → List ℕ
undecided_line fault = codes "UNDECIDED " ++ decimal fault.entry ++ codes " " ++ reason_text fault.reason ++ line_end

-- the line of an outcome
abbrev pub outcome_line : Outcome → List ℕ
outcome_line (Lawful count) = lawful_line count
outcome_line (LawfulFor count unheard) =
    codes "LAWFUL " ++ decimal count ++ codes " unheard " ++ decimal unheard ++ line_end
outcome_line (NotShown fault) = not_shown_line fault
outcome_line (Refuted r) = refuted_line r
outcome_line (Undecided fault) = undecided_line fault
outcome_line (Faulty number place) = fault_line number place

-- the status of a run with this outcome
abbrev pub outcome_status : Outcome → Status
outcome_status (Lawful count) = statuses.Fine
outcome_status (LawfulFor count unheard) = statuses.Fine
outcome_status (NotShown fault) = statuses.NotShown
outcome_status (Refuted r) = statuses.Refuted
outcome_status (Undecided fault) = statuses.NotShown
outcome_status (Faulty number place) = statuses.Fault

-- The line and the status are those of the outcome. Or the line reports that memory ran out, with the status of a
-- fault.
abbrev pub IsOutcomeLine : Outcome → List ℕ → Status → Type 0
IsOutcomeLine outcome line status =
    ((line ≡ outcome_line outcome) × (status ≡ outcome_status outcome))
    ⊎ ((line ≡ memory_line) × (status ≡ statuses.Fault))

-- The text and the status are those of the outcome, with more text after its line. Or the text reports only that memory
-- ran out.
abbrev pub IsOutcomeText : Outcome → List ℕ → List ℕ → Status → Type 0
IsOutcomeText outcome after text status =
    ((text ≡ outcome_line outcome ++ after) × (status ≡ outcome_status outcome))
    ⊎ ((text ≡ memory_line) × (status ≡ statuses.Fault))
