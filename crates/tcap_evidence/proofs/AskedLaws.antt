-- The things that show a message's kind never include one that is for quiet marks only.
use Rattle.tcap_evidence.proofs.Common.{◌≡◌, ◌<◌, length, get_or, ℕ, Bool, true, false, cond, List, [], ◌∷◌, Option, Some, None, refl, list_any, Component, Kind, shows, is_of_mark}
use Rattle.std.proofs.Common.{◌==◌}
use Rattle.std.proofs.lemmas.Bool.{false_from_ne_true}
use Rattle.std.proofs.lemmas.List.Folds.{list_any_at}
use Rattle.tcap_parts.specs.declared.component.Component.TheVariants.{Invoke, Reject}
use Rattle.tcap_parts.specs.declared.problem.Problem.TheVariants as problems
use Rattle.tcap_refute.specs.declared.kind.Kind.TheVariants as kinds
use Rattle.tcap_faults.specs.declared.dialogue.half_origin.HalfOrigin.{HalfOrigin}
use Rattle.tcap_faults.specs.declared.dialogue.half_origin.HalfOrigin.TheVariants as origins
use Rattle.tcap_faults.specs.Components.{is_of_link}
use Rattle.tcap_faults.specs.declared.component.component_sort.Class.TheVariants.{Any}
use Rattle.tcap_faults.specs.declared.component.component_sort.Sort.TheVariants as sorts
use Rattle.tcap_evidence.specs.declared.shown_facts.ShownFact.TheVariants as facts
use Rattle.tcap_evidence.specs.Evidence.{allowed_by, answered_by, dialogue_of, problem_of_invoke, rejected_by, facts_without_id, facts_with_id}

-- If no item of a list passes a test, the item at an index does not.
pub fails_at : {A : Type 0} (p : A → Bool) (xs : List A) (i : ℕ) (d : A) → i < length xs → list_any p xs ≡ false
    → p (get_or xs i d) ≡ false
fails_at p xs i d within none =
    false_from_ne_true (p (get_or xs i d)) (λ is. let one = list_any_at p xs i d within is in cc)

answered_open : (c : Option Component) → list_any is_of_mark (answered_by c) ≡ false
answered_open (Some (Reject (Some id) (problems.General n))) = refl
answered_open c = refl

allowed_open : (c : Option Component) → list_any is_of_mark (allowed_by c) ≡ false
allowed_open (Some (Invoke id linked code parameter)) = refl
allowed_open c = refl

dialogue_open : (origin : HalfOrigin) → list_any is_of_mark (dialogue_of origin) ≡ false
dialogue_open origins.Begun = refl
dialogue_open origin = refl

problem_open : (n : ℕ) → list_any is_of_mark (problem_of_invoke n) ≡ false
problem_open n = by (n == 0) (is_of_link n)
  where
    by : (first link : Bool)
        → list_any is_of_mark (cond first (facts.IncomingComponents (sorts.Invokes Any) ∷ facts.Before sorts.DuplicateRejects ∷ [])
        (cond link (facts.IncomingComponents sorts.Linked ∷ facts.Before sorts.LinkRejects ∷ []) [])) ≡ false
    by true link = refl
    by false true = refl
    by false false = refl

rejected_open : (c : Option Component) → list_any is_of_mark (rejected_by c) ≡ false
rejected_open (Some (Reject id (problems.Invoke n))) = problem_open n
rejected_open c = refl

to_open : (origin : HalfOrigin) (c : Option Component) (kind : Kind) → list_any is_of_mark (facts_with_id origin c kind) ≡ false
to_open origin c kinds.AnswersNothing = answered_open c
to_open origin c kinds.WrongOperation = allowed_open c
to_open origin c kinds.WrongDialogue = dialogue_open origin
to_open origin c kinds.RejectNotAllowed = rejected_open c
to_open origin c kind = refl

alone_open : (kind : Kind) → list_any is_of_mark (facts_without_id kind) ≡ false
alone_open kinds.ReusedId = refl
alone_open kind = refl

pub never_open : (to : Option (List ℕ)) (origin : HalfOrigin) (c : Option Component) (kind : Kind)
    → list_any is_of_mark (shows to origin c kind) ≡ false
never_open None origin c kind = alone_open kind
never_open (Some id) origin c kind = to_open origin c kind
