-- How a certificate is replayed over a record while its octets arrive.
use Rattle.std.specs.Prelude.{◌≡◌, ◌⊎◌, ℕ, List, [], ◌∷◌, ◌++◌, length, map, Option, Result, Ok, Err}
use Rattle.tcap_record.specs.declared.entry.End.{End as Side}
use Rattle.tcap_record.specs.declared.entry.Entry.{Entry}
use Rattle.tcap_record.specs.declared.fault.FeedFault.{FeedFault}
use Rattle.tcap_record.specs.PartialRecord.{FramerState, IsFramedSoFar}
use Rattle.tcap_end.specs.Table.{Table}
use Rattle.tcap_certificate.specs.declared.fault.CheckFault.{CheckFault}
use Rattle.tcap_certificate.specs.Certificate.{Certificate}
use Rattle.tcap_check.specs.CheckerMeaning.{CheckerState, HasTaken}
use Rattle.tcap_model.specs.Entries.{item_of}
use Rattle.tcap_certificate.specs.Replay.{certificate_fits, replayed_by}
use Rattle.tcap_judge.specs.declared.outcome.Outcome.{Outcome}
use Rattle.tcap_judge.specs.CheckOutcome.{ReadsRecord, out_of_memory, replay_outcome}
use Rattle.tcap_judge.specs.Device.{Device}

-- The checker took these entries, or the certificate is out of range and there is no checker.
abbrev pub IsCheckerOf : Option Side → Table → Certificate → Result CheckerState CheckFault → List Entry → Type 0
IsCheckerOf judged table c (Ok checker) entries =
    HasTaken checker (map item_of entries) × (checker.judged ≡ judged) × (checker.table ≡ table)
    × (checker.certificate ≡ c)
IsCheckerOf judged table c (Err fault) entries = certificate_fits c ≡ Err fault

-- The checker takes one more entry.
abbrev pub Takes : Result CheckerState CheckFault → Entry → Result CheckerState CheckFault → Type 0
Takes old entry new =
    (judged : Option Side) (table : Table) (c : Certificate) (entries : List Entry)
    → IsCheckerOf judged table c old entries
    → IsCheckerOf judged table c new (entries ++ entry ∷ [])

-- The octets taken so far are these entries and the octets held, and the checker took the entries.
pub record TakenSoFar (judged : Option Side) (table : Table) (c : Certificate) (returned : List ℕ)
    (entries : List Entry) (held : FramerState)
    (checker : Result CheckerState CheckFault) : Type 0 where
  pub fed : IsFramedSoFar returned entries held
  pub stands : IsCheckerOf judged table c checker entries

-- If `TakenSoFar` holds before these octets are taken, it holds after them, for these entries and possibly more.
abbrev pub Leads : FramerState → Result CheckerState CheckFault → List ℕ → FramerState → Result CheckerState CheckFault
    → Type 0
Leads old_held old octets held new =
    (judged : Option Side) (table : Table) (c : Certificate) (returned : List ℕ) (entries : List Entry)
    → TakenSoFar judged table c returned entries old_held old
    → (all : List Entry) × TakenSoFar judged table c (returned ++ octets) all held new

-- If `TakenSoFar` holds before these octets are taken, they are framed after them, possibly with more entries.
abbrev pub LeadsFed : FramerState → Result CheckerState CheckFault → List ℕ → FramerState → Type 0
LeadsFed old_held old octets held =
    (judged : Option Side) (table : Table) (c : Certificate) (returned : List ℕ) (entries : List Entry)
    → TakenSoFar judged table c returned entries old_held old
    → (all : List Entry) × IsFramedSoFar (returned ++ octets) all held

-- If the record ended without a fault, the checker took these entries, and this many were dropped.
abbrev pub EndsWith : Option Side → Table → Certificate → List Entry → FramerState → Result CheckerState CheckFault
    → Result (Unit {0}) FeedFault → Type 0
EndsWith judged table c entries held checker (Ok end) =
    (held.count ≡ length entries) × IsCheckerOf judged table c checker entries
EndsWith judged table c entries held checker (Err fault) = Unit {0}

-- The reader returned these entries, which the checker took, and this end after them.
pub record ReadsAll (judged : Option Side) (table : Table) (c : Certificate) (d : Device) (held : FramerState)
    (checker : Result CheckerState CheckFault) (end : Result (Unit {0}) FeedFault) : Type 0 where
  pub entries : List Entry
  pub reads : ReadsRecord d entries end
  pub stands : EndsWith judged table c entries held checker end

-- `ReadsAll` holds after the call, if the checker took no entry before it.
abbrev pub LeadsToEnd : Result CheckerState CheckFault → Device → FramerState → Result CheckerState CheckFault
    → Result (Unit {0}) FeedFault → Type 0
LeadsToEnd old d held checker end =
    (judged : Option Side) (table : Table) (c : Certificate) → IsCheckerOf judged table c old []
    → ReadsAll judged table c d held checker end

-- the outcome after the checker took all entries of a record
abbrev pub Finishes : Option Side → Result CheckerState CheckFault → ℕ → Outcome → Type 0
Finishes judged checker count outcome =
    (table : Table) (c : Certificate) (entries : List Entry) → IsCheckerOf judged table c checker entries
    → count ≡ length entries
    → (outcome ≡ out_of_memory) ⊎ (outcome
    ≡ replay_outcome judged (length entries) (replayed_by judged table c entries))
