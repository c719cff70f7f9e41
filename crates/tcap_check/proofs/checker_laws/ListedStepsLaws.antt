-- The answer for a run whose steps are listed.
use Rattle.std.proofs.Common.{◌≡◌, true, List, map, Option, Some, None, Result, Ok, Err, IfSome, refl, sym, subst}
use Rattle.std.specs.Prelude.{◌≢◌, IfOk, OnOk}
use Rattle.tcap_record.specs.declared.entry.End.{End as Side}
use Rattle.tcap_record.specs.declared.entry.Entry.{Entry}
use Rattle.tcap_end.specs.Table.{Table}
use Rattle.tcap_model.specs.declared.reason.Reason.TheVariants.{Memory}
use Rattle.tcap_model.specs.Entries.{item_of}
use Rattle.tcap_certificate.specs.declared.fault.CheckFault.{CheckFault}
use Rattle.tcap_check.specs.declared.progress.Progress.{Progress}
use Rattle.tcap_check.specs.declared.replaying.Replaying.{Replaying}
use Rattle.tcap_check.specs.declared.runs.Partial.{Partial}
use Rattle.tcap_check.specs.declared.step.Step.{Step}
use Rattle.tcap_certificate.specs.Certificate.{Certificate}
use Rattle.tcap_check.specs.CheckerMeaning.{HasTakenListing, kept_ended, map_ok}
use Rattle.tcap_check.specs.Progress.{YieldsInMemory}
use Rattle.tcap_check.specs.ReplayInvariants.{checking_of, kept_in}
use Rattle.tcap_certificate.specs.Replay.{certificate_fits, discards_by, fault_at, replay_by, replayed_by}
use Rattle.tcap_check.specs.RunSoFar.{EndsListed, UnlessMemory, IsAnswered, IsRefusedThere, ShowsAmong, answered}
use Rattle.tcap_check.specs.ReportedSteps.{discards_of, events_of, listed_run_of}
use Rattle.tcap_check.proofs.checker_laws.CheckerLaws.{discards_so, ends_so, listed_err, listed_ok}
use Rattle.tcap_check.proofs.checker_laws.RefusalLaws.{run_given, run_may}
use Rattle.tcap_check.proofs.refusal_laws.SendShows.{unfit_shows}
use Rattle.tcap_check.proofs.refusal_laws.TakenEntriesLaws.{GoesAlike}

-- An answer with the replay's events and discards is the answer.
answers : (judged : Option Side) (table : Table) (c : Certificate) (entries : List Entry) (answer : Result (List Step) CheckFault)
    → map_ok events_of answer ≡ replayed_by judged table c entries
    → map_ok discards_of answer ≡ discards_by judged table c (map item_of entries) → IsAnswered judged table c entries answer
answers judged table c entries answer events discards = record {
  given = run_given events_of judged table c entries answer (λ other. events);
  exact = events;
  discards = discards;
  may = run_may discards_of judged table c (map item_of entries) answer (λ other. discards);
}

-- If the replay is refused, its refusal is the answer.
pub refused_answers : (judged : Option Side) (table : Table) (c : Certificate) (entries : List Entry) (fault : CheckFault)
    → replay_by judged table c (map item_of entries) ≡ Err fault → IsAnswered judged table c entries (Err fault)
refused_answers judged table c entries fault is =
    answers judged table c entries (Err fault) (sym (ends_so judged table c (map item_of entries) (Err fault) is))
    (sym (discards_so judged table c (map item_of entries) (Err fault) is))

-- If a number of the certificate is out of range, that refusal is the answer.
pub unfit_answers : (judged : Option Side) (table : Table) (c : Certificate) (entries : List Entry) (fault : CheckFault)
    → certificate_fits c ≡ Err fault → IsAnswered judged table c entries (Err fault)
unfit_answers judged table c entries fault is = refused_answers judged table c entries fault (rw is refl)

pub refused_listed : (judged : Option Side) (table : Table) (c : Certificate) (entries : List Entry) (fault : CheckFault) (left : Progress)
    → replay_by judged table c (map item_of entries) ≡ Err fault
    → (let x : Result (Unit {0}) CheckFault = Err fault in EndsListed judged table c entries x left)
refused_listed judged table c entries fault left is steps tell = refused_answers judged table c entries fault is

-- If all entries were taken, the last gap decides the answer.
pub ends_listed : (x y : Replaying) (entries : List Entry) (o : Result (Unit {0}) CheckFault) (left : Progress) → GoesAlike x y
    → HasTakenListing true (checking_of y) (map item_of entries)
    → YieldsInMemory (kept_ended y.judged y.table.now y.certificate.now (kept_in y)) o left
    → UnlessMemory o (EndsListed x.judged x.table.now x.certificate.now entries o left)
ends_listed x y entries (Ok done) left alike took yields = λ steps tell.
    let listed = listed_ok y.judged y.table.now y.certificate.now (kept_in y) left steps yields (rw tell refl) (map item_of entries) took in
    rw (sym alike.judged, sym alike.table, sym alike.certificate)
    (answers y.judged y.table.now y.certificate.now entries (Ok steps) listed.events listed.discards)
ends_listed x y entries (Err fault) left alike took yields = λ other steps tell.
    rw (sym alike.judged, sym alike.table, sym alike.certificate)
    (refused_answers y.judged y.table.now y.certificate.now entries fault
    (listed_err y.judged y.table.now y.certificate.now (kept_in y) fault (yields other) (map item_of entries) took))

-- If nothing is refused, the steps are the answer.
answered_so : (refused : Option CheckFault) (o : Result (Unit {0}) CheckFault) (steps : List Step) → answered refused tt ≡ o
    → map_ok (λ done. steps) o ≡ answered refused steps
answered_so None (Ok done) steps is = refl
answered_so None (Err fault) steps is = cc
answered_so (Some fault) (Ok done) steps is = cc
answered_so (Some fault) (Err other) steps is = cc

-- The answer of a replay from its creation on.
pub run_answered : (x : Replaying) (judged : Option Side) (table : Table) (c : Certificate) (entries : List Entry) (kept left : Progress)
    (o : Result (Unit {0}) CheckFault) (refused : Option CheckFault) (steps : List Step) → x.judged ≡ judged → x.table.now ≡ table → x.certificate.now ≡ c
    → left ≡ kept → answered refused tt ≡ o → EndsListed x.judged x.table.now x.certificate.now entries o kept
    → left.steps ≡ Some (listed_run_of steps) → IsAnswered judged table c entries (answered refused steps)
run_answered x judged table c entries kept left o refused steps who at by same is ends tell =
    rw (sym who, sym at, sym by)
    (subst (IsAnswered x.judged x.table.now x.certificate.now entries) (answered_so refused o steps is)
    (ends steps (subst (λ (p : Progress). p.steps ≡ Some (listed_run_of steps)) same tell)))

-- If a send is refused, the end that is left refuses it too.
pub run_stopped : (x : Replaying) (table : Table) (entries : List Entry) (kept left : Progress) (o : Result (Unit {0}) CheckFault)
    (refused : Option CheckFault) → x.table.now ≡ table → left ≡ kept → answered refused tt ≡ o → ShowsAmong x.table.now entries o kept
    → IfSome refused (λ fault. IsRefusedThere table entries fault left.a.end left.b.end)
run_stopped x table entries kept left o None at same is shows = tt
run_stopped x table entries kept left (Ok done) (Some fault) at same is shows = cc
run_stopped x table entries kept left (Err other) (Some fault) at same is shows =
    let one : fault ≡ other = cc in
    rw (one, same, sym at) shows

-- The answer if a number of the certificate is out of range.
module _ {F : Type 0} (result : Result Partial F) (judged : Option Side) (table : Table) (c : Certificate) (entries : List Entry) (fault : CheckFault) where
  pub nothing_answered : IfOk result (λ run. run.refused ≡ Some fault) → OnOk result (fault ≢ fault_at Memory 0)
      → (fault ≢ fault_at Memory 0 → certificate_fits c ≡ Err fault)
      → IfOk result (λ run. IsAnswered judged table c entries (answered run.refused run.steps.items))
  nothing_answered is memory fits = by result is memory
    where
      by : (r : Result Partial F) → IfOk r (λ run. run.refused ≡ Some fault) → OnOk r (fault ≢ fault_at Memory 0)
          → IfOk r (λ run. IsAnswered judged table c entries (answered run.refused run.steps.items))
      by (Ok run) is memory = rw is (unfit_answers judged table c entries fault (fits memory))
      by (Err f) is memory = tt

  pub nothing_stopped : IfOk result (λ run. run.refused ≡ Some fault) → OnOk result (fault ≢ fault_at Memory 0)
      → (fault ≢ fault_at Memory 0 → certificate_fits c ≡ Err fault)
      → IfOk result (λ run. IfSome run.refused (λ f. IsRefusedThere table entries f run.a run.b))
  nothing_stopped is memory fits = by result is memory
    where
      by : (r : Result Partial F) → IfOk r (λ run. run.refused ≡ Some fault) → OnOk r (fault ≢ fault_at Memory 0)
          → IfOk r (λ run. IfSome run.refused (λ f. IsRefusedThere table entries f run.a run.b))
      by (Ok run) is memory = rw is (unfit_shows c table entries fault run.a run.b (fits memory))
      by (Err f) is memory = tt
