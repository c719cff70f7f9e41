-- The results of a checker are those of the replay that it implements.
use Rattle.std.proofs.Common.{◌≡◌, ℕ, Bool, true, false, List, [], ◌∷◌, ◌++◌, length, Option, Some, None, Result, Ok, Err, refl, sym, ap, subst, ◌∙◌, IfSome, IsTrue, is_ok}
use Rattle.tcap_record.specs.declared.entry.End.{End as Side}
use Rattle.tcap_record.specs.declared.entry.End.TheVariants as sides
use Rattle.tcap_end.specs.declared.fault.EndFault.{EndFault}
use Rattle.tcap_end.specs.Table.{Table}
use Rattle.tcap_end.specs.Step.{◌>>◌, ◌>>=◌}
use Rattle.tcap_certificate.specs.declared.certificate.Fate.{Fate}
use Rattle.tcap_check.specs.declared.checker.Report.{Report}
use Rattle.tcap_certificate.specs.declared.fault.CheckFault.{CheckFault}
use Rattle.tcap_check.specs.declared.progress.Progress.{Progress}
use Rattle.tcap_model.specs.declared.reason.Reason.{Reason}
use Rattle.tcap_model.specs.World.{Item}
use Rattle.tcap_model.specs.Run.{Event}
use Rattle.tcap_certificate.specs.Certificate.{Certificate}
use Rattle.tcap_check.specs.Progress.{nothing_kept}
use Rattle.tcap_certificate.specs.Replay.{Replay, certificate_fits, discards_by, entries_by, lost_last, nothing_replayed, replay_by, run_by}
use Rattle.tcap_check.specs.CheckerMeaning.{CheckerState, ReplayState, HasTakenListing, count_ahead, count_waiting, kept_ended, kept_next, kept_of, map_ok, progress_of, report_of, reported, so_far_of, taken}
use Rattle.tcap_check.specs.declared.step.Step.{Step}
use Rattle.tcap_check.specs.ReportedSteps.{ListedRun, discards_of, events_of, listed_run_if, listed_run_of}
use Rattle.tcap_check.proofs.checker_laws.EntryLaws.{took_end, took_next}
use Rattle.tcap_check.proofs.progress_laws.KeptPending.{pending_is}

-- a checker with what it keeps, or with its fault
abbrev pub checking : Option Side → Table → Certificate → Option CheckFault → ReplayState → CheckerState
checking judged table c fault k = record { judged = judged; table = table; certificate = c; so_far = so_far_of fault k }

-- what is kept before the first entry
abbrev pub first_kept : Bool → ReplayState
first_kept listing = record { progress = nothing_kept (listed_run_if listing [] []); entries = []; since = 0 }

-- the report on the run that the certificate gives
abbrev pub given : Option Side → Table → Certificate → List (Result Item Reason) → Result Report CheckFault
given judged table c entries = map_ok (reported judged) (run_by judged table c entries)

abbrev pub refusing : CheckFault → Result Report CheckFault
refusing fault = Err fault

-- A checker takes one more entry.
pub took_ok : (listing : Bool) (judged : Option Side) (table : Table) (c : Certificate) (k next : ReplayState) (entry : Result Item Reason)
    → kept_next judged table c entry k ≡ Ok next → (entries : List (Result Item Reason)) → HasTakenListing listing (checking judged table c None k) entries
    → HasTakenListing listing (checking judged table c None next) (entries ++ entry ∷ [])
took_ok listing judged table c k next entry is entries took = sym is ∙ took_next listing (checking judged table c None k) entries entry took

-- A checker refuses one more entry.
pub took_err : (listing : Bool) (judged : Option Side) (table : Table) (c : Certificate) (k next : ReplayState) (entry : Result Item Reason) (fault : CheckFault)
    → kept_next judged table c entry k ≡ Err fault → (entries : List (Result Item Reason))
    → HasTakenListing listing (checking judged table c None k) entries → HasTakenListing listing (checking judged table c (Some fault) next) (entries ++ entry ∷ [])
took_err listing judged table c k next entry fault is entries took =
    sym is ∙ took_next listing (checking judged table c None k) entries entry took

-- ---- the end

-- What is made of the replay of all entries is made of its result.
made_so : {A : Type 0} (c : Certificate) (all o : Result Replay CheckFault) (made : Replay → Result A CheckFault)
    → (certificate_fits c >> all) ≡ o → (certificate_fits c >> (all >>= made)) ≡ (o >>= made)
made_so {A} c all o made is = by (certificate_fits c) is
  where
    by : (x : Result (Unit {0}) CheckFault) → (x >> all) ≡ o → (x >> (all >>= made)) ≡ (o >>= made)
    by (Ok fits) e = ap (λ (z : Result Replay CheckFault). z >>= made) e
    by (Err fault) e = ap (λ (z : Result Replay CheckFault). z >>= made) e

-- The events of a run are those of the replay, with the losses at the end, and so are the discards.
pub ends_so : (judged : Option Side) (table : Table) (c : Certificate) (entries : List (Result Item Reason)) (o : Result Replay CheckFault)
    → (certificate_fits c >> entries_by judged table c entries nothing_replayed) ≡ o
    → run_by judged table c entries ≡ (o >>= λ r. Ok (lost_last judged c r).events)
ends_so judged table c entries o is =
    made_so c (entries_by judged table c entries nothing_replayed) o (λ r. Ok (lost_last judged c r).events) is

pub discards_so : (judged : Option Side) (table : Table) (c : Certificate) (entries : List (Result Item Reason)) (o : Result Replay CheckFault)
    → replay_by judged table c entries ≡ o → discards_by judged table c entries ≡ (o >>= λ r. Ok (lost_last judged c r).discards)
discards_so judged table c entries o is =
    made_so c (entries_by judged table c entries nothing_replayed) o (λ r. Ok (lost_last judged c r).discards) is

abbrev report_ok : Progress → Result Report CheckFault
report_ok p = Ok (report_of p)

-- The counts at the end are those of the report.
counted_is : (listing : Bool) (judged : Option Side) (c : Certificate) (r : Replay) → report_of (progress_of listing judged c r) ≡ reported judged r.events
counted_is listing None c r = refl
counted_is listing (Some judged) c r = refl

pub finished_ok : (listing : Bool) (judged : Option Side) (table : Table) (c : Certificate) (k : ReplayState) (left : Progress)
    → kept_ended judged table c k ≡ Ok left → (entries : List (Result Item Reason)) → HasTakenListing listing (checking judged table c None k) entries
    → report_ok left ≡ given judged table c entries
finished_ok listing judged table c k left is entries took =
    by (certificate_fits c >> entries_by judged table c entries nothing_replayed) refl
    (sym is ∙ took_end listing (checking judged table c None k) entries took)
  where
    by : (o : Result Replay CheckFault) → (certificate_fits c >> entries_by judged table c entries nothing_replayed) ≡ o
        → (let a : Result Progress CheckFault = Ok left in a) ≡ map_ok (progress_of listing judged c) (map_ok (lost_last judged c) o)
        → report_ok left ≡ given judged table c entries
    by (Err fault) e same = cc
    by (Ok r) e same =
        let is : left ≡ progress_of listing judged c (lost_last judged c r) = cc in
        ap report_ok is
        ∙ ap (λ (x : Report). let a : Result Report CheckFault = Ok x in a) (counted_is listing judged c (lost_last judged c r))
        ∙ sym (ap (map_ok (reported judged)) (ends_so judged table c entries (Ok r) e))

refused_at_end : (listing : Bool) (judged : Option Side) (table : Table) (c : Certificate) (entries : List (Result Item Reason)) (fault : CheckFault)
    → (let a : Result Progress CheckFault = Err fault in a)
    ≡ map_ok (progress_of listing judged c) (map_ok (lost_last judged c) (certificate_fits c >> entries_by judged table c entries nothing_replayed))
    → refusing fault ≡ given judged table c entries
refused_at_end listing judged table c entries fault same =
    by (certificate_fits c >> entries_by judged table c entries nothing_replayed) refl same
  where
    by : (o : Result Replay CheckFault) → (certificate_fits c >> entries_by judged table c entries nothing_replayed) ≡ o
        → (let a : Result Progress CheckFault = Err fault in a) ≡ map_ok (progress_of listing judged c) (map_ok (lost_last judged c) o)
        → refusing fault ≡ given judged table c entries
    by (Ok r) e same = cc
    by (Err other) e same =
        let is : fault ≡ other = cc in
        ap refusing is ∙ sym (ap (map_ok (reported judged)) (ends_so judged table c entries (Err other) e))

pub finished_err : (listing : Bool) (judged : Option Side) (table : Table) (c : Certificate) (k : ReplayState) (fault : CheckFault)
    → kept_ended judged table c k ≡ Err fault → (entries : List (Result Item Reason)) → HasTakenListing listing (checking judged table c None k) entries
    → refusing fault ≡ given judged table c entries
finished_err listing judged table c k fault is entries took =
    refused_at_end listing judged table c entries fault (sym is ∙ took_end listing (checking judged table c None k) entries took)

-- The listed steps and discards are those of the run.
pub record AreListed (judged : Option Side) (table : Table) (c : Certificate) (entries : List (Result Item Reason)) (steps : List Step) : Type 0 where
  pub events : (let x : Result (List Event) CheckFault = Ok (events_of steps) in x) ≡ run_by judged table c entries
  pub discards : (let x : Result (List (ℕ × EndFault)) CheckFault = Ok (discards_of steps) in x) ≡ discards_by judged table c entries

pub listed_ok : (judged : Option Side) (table : Table) (c : Certificate) (k : ReplayState) (left : Progress) (steps : List Step)
    → kept_ended judged table c k ≡ Ok left → IfSome left.steps (λ told. listed_run_of steps ≡ told) → (entries : List (Result Item Reason))
    → HasTakenListing true (checking judged table c None k) entries → AreListed judged table c entries steps
listed_ok judged table c k left steps is tell entries took =
    by (replay_by judged table c entries) refl (sym is ∙ took_end true (checking judged table c None k) entries took)
  where
    by : (o : Result Replay CheckFault) → replay_by judged table c entries ≡ o
        → (let a : Result Progress CheckFault = Ok left in a) ≡ map_ok (progress_of true judged c) (map_ok (lost_last judged c) o)
        → AreListed judged table c entries steps
    by (Err fault) e same = cc
    by (Ok r) e same =
        let last = lost_last judged c r in
        let is : left ≡ progress_of true judged c last = cc in
        let told : listed_run_of steps ≡ record { events = last.events; discards = last.discards } =
        subst (λ (p : Progress). IfSome p.steps (λ (t : ListedRun). listed_run_of steps ≡ t)) is tell in
        record {
          events = ap (λ (t : ListedRun). let x : Result (List Event) CheckFault = Ok t.events in x) told ∙ sym (ends_so judged table c entries (Ok r) e);
          discards = ap (λ (t : ListedRun). let x : Result (List (ℕ × EndFault)) CheckFault = Ok t.discards in x) told
              ∙ sym (discards_so judged table c entries (Ok r) e);
        }

-- If the end of the record is refused, so is the replay.
pub listed_err : (judged : Option Side) (table : Table) (c : Certificate) (k : ReplayState) (fault : CheckFault)
    → kept_ended judged table c k ≡ Err fault → (entries : List (Result Item Reason)) → HasTakenListing true (checking judged table c None k) entries
    → replay_by judged table c entries ≡ Err fault
listed_err judged table c k fault is entries took =
    by (replay_by judged table c entries) (sym is ∙ took_end true (checking judged table c None k) entries took)
  where
    by : (o : Result Replay CheckFault)
        → (let a : Result Progress CheckFault = Err fault in a) ≡ map_ok (progress_of true judged c) (map_ok (lost_last judged c) o)
        → o ≡ Err fault
    by (Ok r) same = cc
    by (Err other) same = let is : fault ≡ other = cc in ap (λ (f : CheckFault). let x : Result Replay CheckFault = Err f in x) (sym is)

-- ---- a checker as it is kept

-- After a refusal a checker stays as it is.
pub stays : (listing : Bool) (s : CheckerState) (fault : CheckFault) (entry : Result Item Reason) → s.so_far ≡ Err fault
    → (entries : List (Result Item Reason)) → HasTakenListing listing s entries → HasTakenListing listing s (entries ++ entry ∷ [])
stays listing s fault entry is entries took =
    is ∙ sym (ap (λ (o : Result ReplayState CheckFault). o >>= kept_next s.judged s.table s.certificate entry) is)
    ∙ took_next listing s entries entry took

-- A checker is determined by what it keeps.
pub turned : (listing : Bool) (s : CheckerState) (judged : Option Side) (table : Table) (c : Certificate) (o fault : Option CheckFault) (k : ReplayState)
    → s ≡ checking judged table c o k → o ≡ fault → (entries : List (Result Item Reason)) → HasTakenListing listing s entries
    → HasTakenListing listing (checking judged table c fault k) entries
turned listing s judged table c o fault k is same entries took =
    subst (λ (x : Option CheckFault). HasTakenListing listing (checking judged table c x k) entries) same (subst (λ (x : CheckerState). HasTakenListing listing x entries) is took)

-- A new checker has taken no entry.
pub took_nothing : (listing : Bool) (judged : Option Side) (table : Table) (c : Certificate) (k : ReplayState) → certificate_fits c ≡ Ok tt → k ≡ first_kept listing
    → HasTakenListing listing (checking judged table c None k) []
took_nothing listing judged table c k fits is = rw (is, fits) (ap (λ (x : ReplayState). let a : Result ReplayState CheckFault = Ok x in a) (by judged c.fates))
  where
    by : (judged : Option Side) (fates : List Fate) → first_kept listing ≡ kept_of listing judged (record c { fates = fates }) nothing_replayed
    by None [] = refl
    by None (fate ∷ fates) = refl
    by (Some sides.A) [] = refl
    by (Some sides.A) (fate ∷ fates) = refl
    by (Some sides.B) [] = refl
    by (Some sides.B) (fate ∷ fates) = refl

-- After a refusal, the end of the record returns the same refusal.
pub finishes_still : (listing : Bool) (s : CheckerState) (fault : CheckFault) → s.so_far ≡ Err fault → (entries : List (Result Item Reason)) → HasTakenListing listing s entries
    → refusing fault ≡ given s.judged s.table s.certificate entries
finishes_still listing s fault is entries took =
    refused_at_end listing s.judged s.table s.certificate entries fault
    (sym (ap (λ (o : Result ReplayState CheckFault). o >>= kept_ended s.judged s.table s.certificate) is) ∙ took_end listing s entries took)

-- Else the end of the record returns the report on the run.
pub finishes_so : (listing : Bool) (s : CheckerState) (judged : Option Side) (table : Table) (c : Certificate) (o : Option CheckFault) (k : ReplayState)
    (report : Result Report CheckFault) → s ≡ checking judged table c o k → o ≡ None → (entries : List (Result Item Reason))
    → (HasTakenListing listing (checking judged table c None k) entries → report ≡ given judged table c entries) → HasTakenListing listing s entries
    → report ≡ given s.judged s.table s.certificate entries
finishes_so listing s judged table c o k report is none entries so took =
    so (turned listing s judged table c o None k is none entries took)
    ∙ ap (λ (x : CheckerState). given x.judged x.table x.certificate entries) (sym is)

-- The refusal of a checker is the fault that it keeps.
pub kept_fault : (s : CheckerState) (judged : Option Side) (table : Table) (c : Certificate) (o : Option CheckFault) (k : ReplayState) (fault : CheckFault)
    → s ≡ checking judged table c o k → o ≡ Some fault → (f : CheckFault) → s.so_far ≡ Err f → refusing fault ≡ Err f
kept_fault s judged table c o k fault is some f refused =
    let same : so_far_of (Some fault) k ≡ Err f =
    ap (λ (x : Option CheckFault). so_far_of x k) (sym some) ∙ ap (λ (x : CheckerState). x.so_far) (sym is) ∙ refused in
    let one : fault ≡ f = cc in ap refusing one

pub no_fault : (s : CheckerState) (judged : Option Side) (table : Table) (c : Certificate) (o : Option CheckFault) (k : ReplayState) (f : CheckFault)
    → s ≡ checking judged table c o k → o ≡ None → s.so_far ≡ Err f → ⊥
no_fault s judged table c o k f is none refused =
    let same : so_far_of None k ≡ Err f =
    ap (λ (x : Option CheckFault). so_far_of x k) (sym none) ∙ ap (λ (x : CheckerState). x.so_far) (sym is) ∙ refused in cc

-- ---- the count of messages that wait

waits : (listing : Bool) (judged : Option Side) (table : Table) (c : Certificate) (k : ReplayState) (entries : List (Result Item Reason))
    → HasTakenListing listing (checking judged table c None k) entries → count_waiting judged k.progress ≡ count_ahead judged (length entries) c.fates entries
waits listing judged table c k entries took = by (taken judged table c entries) refl took
  where
    by : (o : Result Replay CheckFault) → taken judged table c entries ≡ o → (let a : Result ReplayState CheckFault = Ok k in a) ≡ map_ok (kept_of listing judged c) o
        → count_waiting judged k.progress ≡ count_ahead judged (length entries) c.fates entries
    by (Err fault) e same = cc
    by (Ok r) e same =
        let is : k ≡ kept_of listing judged c r = cc in
        ap (λ (x : ReplayState). count_waiting judged x.progress) is ∙ pending_is listing judged table c entries r e

pub waits_so : (listing : Bool) (s : CheckerState) (judged : Option Side) (table : Table) (c : Certificate) (o : Option CheckFault) (k : ReplayState)
    → s ≡ checking judged table c o k → (entries : List (Result Item Reason)) → HasTakenListing listing s entries → IsTrue (is_ok s.so_far)
    → count_waiting s.judged k.progress ≡ count_ahead s.judged (length entries) s.certificate.fates entries
waits_so listing s judged table c None k is entries took so =
    ap (λ (x : CheckerState). count_waiting x.judged k.progress) is
    ∙ waits listing judged table c k entries (subst (λ (x : CheckerState). HasTakenListing listing x entries) is took)
    ∙ ap (λ (x : CheckerState). count_ahead x.judged (length entries) x.certificate.fates entries) (sym is)
waits_so listing s judged table c (Some fault) k is entries took so =
    let no : is_ok s.so_far ≡ false = ap (λ (x : CheckerState). is_ok x.so_far) is in cc
