-- The report of steps after one more step.
use Rattle.std.proofs.Common.{◌≡◌, ℕ, List, [], ◌∷◌, ◌++◌, Option, Some, None, refl, ap, ap₂, ◌∙◌, append-nil, append_assoc}
use Rattle.std.specs.Prelude.{option_map, Bool, true, false}
use Rattle.tcap_record.specs.declared.entry.End.{End as Side}
use Rattle.tcap_end.specs.declared.fault.EndFault.{EndFault}
use Rattle.tcap_model.specs.Run.{Event, Loses}
use Rattle.tcap_check.specs.declared.step.Step.{Step}
use Rattle.tcap_check.specs.declared.step.Step.TheVariants as steps
use Rattle.tcap_check.specs.ReportedSteps.{ListedRun, with_one_discard, discard_of, discards_of, event_of, events_of, with_events, listed_run_if, listed_run_of}

events_more : (list : List Step) (step : Step) → events_of (list ++ step ∷ []) ≡ events_of list ++ event_of step ∷ []
events_more [] step = refl
events_more (first ∷ list) step = ap (λ (x : List Event). event_of first ∷ x) (events_more list step)

abbrev with_discard : Option (ℕ × EndFault) → List (ℕ × EndFault)
with_discard None = []
with_discard (Some x) = x ∷ []

discards_more : (list : List Step) (step : Step) → discards_of (list ++ step ∷ []) ≡ discards_of list ++ with_discard (discard_of step)
discards_more [] step = by (discard_of step) refl
  where
    by : (o : Option (ℕ × EndFault)) → discard_of step ≡ o → discards_of (step ∷ []) ≡ with_discard o
    by None is = rw is refl
    by (Some x) is = rw is refl
discards_more (first ∷ list) step = by (discard_of first) refl (discards_more list step)
  where
    by : (o : Option (ℕ × EndFault)) → discard_of first ≡ o
        → discards_of (list ++ step ∷ []) ≡ discards_of list ++ with_discard (discard_of step)
        → discards_of (first ∷ (list ++ step ∷ [])) ≡ discards_of (first ∷ list) ++ with_discard (discard_of step)
    by None is rest = rw is rest
    by (Some x) is rest = rw is (ap (λ (y : List (ℕ × EndFault)). x ∷ y) rest)

abbrev told : (events : List Event) (discards : List (ℕ × EndFault)) → ListedRun
told events discards = record { events = events; discards = discards }

-- One more step that is no discard.
pub one_more : (list : List Step) (step : Step) → discard_of step ≡ None
    → listed_run_of (list ++ step ∷ []) ≡ with_events (event_of step ∷ []) (listed_run_of list)
one_more list step none =
    ap₂ told (events_more list step)
    (discards_more list step ∙ ap (λ (o : Option (ℕ × EndFault)). discards_of list ++ with_discard o) none ∙ append-nil (discards_of list))

-- One more discard.
pub one_discard_more : (list : List Step) (side : Side) (number : ℕ) (reason : EndFault)
    → listed_run_of (list ++ steps.Discards side number reason ∷ [])
    ≡ with_one_discard number reason (with_events (Loses side number ∷ []) (listed_run_of list))
one_discard_more list side number reason =
    ap₂ told (events_more list (steps.Discards side number reason)) (discards_more list (steps.Discards side number reason))

-- ---- the report on a run

-- The report after more events.
pub more_if : (listed : Bool) (more events : List Event) (discards : List (ℕ × EndFault))
    → option_map (with_events more) (listed_run_if listed events discards) ≡ listed_run_if listed (events ++ more) discards
more_if true more events discards = refl
more_if false more events discards = refl

-- The report after one more discard.
pub discard_if : (listing : Bool) (side : Side) (number : ℕ) (reason : EndFault) (events : List Event) (discards : List (ℕ × EndFault))
    → option_map (λ told. with_one_discard number reason (with_events (Loses side number ∷ []) told)) (listed_run_if listing events discards)
    ≡ listed_run_if listing (events ++ Loses side number ∷ []) (discards ++ (number, reason) ∷ [])
discard_if true side number reason events discards = refl
discard_if false side number reason events discards = refl

pub told_still : (o : Option ListedRun) → option_map (with_events []) o ≡ o
told_still None = refl
told_still (Some told) =
    ap (λ (x : List Event). let y : Option ListedRun = Some (record { events = x; discards = told.discards }) in y) (append-nil told.events)

-- More events can be added one by one.
pub told_both : (event : Event) (events : List Event) (o : Option ListedRun)
    → option_map (with_events events) (option_map (with_events (event ∷ [])) o) ≡ option_map (with_events (event ∷ events)) o
told_both event events None = refl
told_both event events (Some told) =
    ap (λ (x : List Event). let y : Option ListedRun = Some (record { events = x; discards = told.discards }) in y)
    (append_assoc told.events (event ∷ []) events)
