-- The octets taken of a record while they arrive, and the entries that the checker took.
use Rattle.std.proofs.Common.{◌≡◌, ℕ, ◌+◌, ◌≤◌, List, [], ◌∷◌, ◌++◌, length, take, drop, subst, arith, length-append, length-take-le}
use Rattle.std.specs.Prelude.{None, Option, Result, Ok, Err}
use Rattle.tcap_record.specs.declared.entry.End.{End as Side}
use Rattle.tcap_record.specs.declared.entry.Entry.{Entry}
use Rattle.tcap_record.specs.declared.fault.FeedFault.{FeedFault}
use Rattle.tcap_record.specs.PartialRecord.{FramerState, IsFramedSoFar, dropped, grown}
use Rattle.std.specs.Io.KnownBytes.{IsAtEnd}
use Rattle.tcap_record.specs.FeederResult.{FinishesAs}
use Rattle.tcap_record.specs.Reading.{EndsOnlyAtEnd, FailsOnlyByReader}
use Rattle.tcap_lines.proofs.ShowLaws.{ended_counts}
use Rattle.tcap_record.proofs.FeederLaws.{taken_all, taken_on}
use Rattle.tcap_end.specs.Table.{Table}
use Rattle.tcap_certificate.specs.declared.fault.CheckFault.{CheckFault}
use Rattle.tcap_certificate.specs.Certificate.{Certificate}
use Rattle.tcap_check.specs.CheckerMeaning.{CheckerState}
use Rattle.tcap_judge.specs.PiecewiseReplay.{EndsWith, Leads, LeadsFed, IsCheckerOf, Takes, TakenSoFar}

-- more octets are taken
pub leads_fed : (h : FramerState) (old : Result CheckerState CheckFault) (piece rest : List ℕ) (n m : ℕ) (mid new : FramerState)
    (checker : Result CheckerState CheckFault) → rest ≡ drop n piece
    → ((octets : List ℕ) (entries : List Entry) → IsFramedSoFar octets entries mid → IsFramedSoFar (octets ++ take m rest) entries new)
    → Leads h old (take n piece) mid checker → Leads h old (take (n + m) piece) new checker
leads_fed h old piece rest n m mid new checker is step leads judged table c returned entries so =
    let was = leads judged table c returned entries so in (
      was.0,
      record {
        fed = subst (λ (x : List ℕ). IsFramedSoFar x was.0 new) (taken_on returned piece rest n m is)
            (step (returned ++ take n piece) was.0 was.1.fed);
        stands = was.1.stands;
      },
    )

-- more octets are taken, and then there is a fault
pub fed_short : (h : FramerState) (old : Result CheckerState CheckFault) (piece rest : List ℕ) (n m : ℕ) (mid new : FramerState)
    (checker : Result CheckerState CheckFault) → rest ≡ drop n piece
    → ((octets : List ℕ) (entries : List Entry) → IsFramedSoFar octets entries mid → IsFramedSoFar (octets ++ take m rest) entries new)
    → Leads h old (take n piece) mid checker → LeadsFed h old (take (n + m) piece) new
fed_short h old piece rest n m mid new checker is step leads judged table c returned entries so =
    let was = leads judged table c returned entries so in
    let then = step (returned ++ take n piece) was.0 was.1.fed in
    (was.0, subst (λ (x : List ℕ). IsFramedSoFar x was.0 new) (taken_on returned piece rest n m is) then)

-- all octets of a piece are taken
pub leads_whole : (h : FramerState) (old : Result CheckerState CheckFault) (piece rest : List ℕ) (n m : ℕ) (mid new : FramerState)
    (checker : Result CheckerState CheckFault) → rest ≡ drop n piece → m ≡ length rest → n ≤ length piece
    → ((octets : List ℕ) (entries : List Entry) → IsFramedSoFar octets entries mid → IsFramedSoFar (octets ++ take m rest) entries new)
    → Leads h old (take n piece) mid checker → Leads h old piece new checker
leads_whole h old piece rest n m mid new checker is all most step leads judged table c returned entries so =
    let was = leads_fed h old piece rest n m mid new checker is step leads judged table c returned entries so in
    let whole = taken_all returned piece rest n m is all most in
    (was.0, subst (λ (x : List ℕ). TakenSoFar judged table c x was.0 new checker) whole was.1)

-- the total number of octets taken
pub grown_place : (old new : FramerState) (rest : List ℕ) (m : ℕ) → m ≤ length rest → new ≡ grown old (take m rest) None
    → new.place + length new.octets ≡ old.place + length old.octets + m
grown_place old new rest m most is =
    rw is (omega (arith, length-append old.octets (take m rest), length-take-le m rest most))

pub dropped_place : (old new : FramerState) → new ≡ dropped old → new.place + length new.octets ≡ old.place + length old.octets
dropped_place old new is = rw is (omega arith)

-- an entry is taken and dropped
pub leads_taken : (h : FramerState) (old : Result CheckerState CheckFault) (octets : List ℕ) (mid new : FramerState)
    (checker next : Result CheckerState CheckFault) (entry : Entry)
    → ((fed : List ℕ) (entries : List Entry) → IsFramedSoFar fed entries mid → IsFramedSoFar fed (entries ++ entry ∷ []) new)
    → Takes checker entry next → Leads h old octets mid checker → Leads h old octets new next
leads_taken h old octets mid new checker next entry step takes leads judged table c returned entries so =
    let was = leads judged table c returned entries so in (
      was.0 ++ entry ∷ [],
      record { fed = step (returned ++ octets) was.0 was.1.fed; stands = takes judged table c was.0 was.1.stands },
    )

-- the end of the record
pub ends_with : (judged : Option Side) (table : Table) (c : Certificate) (entries : List Entry) (held : FramerState)
    (checker : Result CheckerState CheckFault) (end : Result (Unit {0}) FeedFault) → held.count ≡ length entries
    → IsCheckerOf judged table c checker entries → EndsWith judged table c entries held checker end
ends_with judged table c entries held checker (Ok end) count stands = (count, stands)
ends_with judged table c entries held checker (Err fault) count stands = tt

pub ended_at_end : (remaining : Option (List ℕ)) (end : Result (Unit {0}) FeedFault) → IsAtEnd remaining
    → EndsOnlyAtEnd remaining end
ended_at_end remaining (Ok end) at = at
ended_at_end remaining (Err fault) at = λ cut. at

pub ended_fails : (end : Result (Unit {0}) FeedFault) (h : FramerState) (old new : ℕ) → FinishesAs end h → h.fault ≡ None
    → new ≡ old
    → FailsOnlyByReader old new end
ended_fails (Ok end) h old new finishes sound same = same
ended_fails (Err fault) h old new finishes sound same = ended_counts fault h old new finishes sound same
