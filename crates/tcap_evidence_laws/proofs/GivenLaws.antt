-- Each list that the laws use is given.
use Rattle.tcap_evidence_laws.proofs.Common.{◌≡◌, ℕ, zero, suc, ◌==◌, Bool, true, false, cond, List, [], ◌∷◌, map, Option, Some, None, Result, Ok, refl, sym, ap, subst, Contains, slice_get, Component, Invoke, ReturnResult, ReturnError, Reject, Message, components_in, dtid_in, Side, Entry, Table, Reason, Item, Sent, item_of, Kind, Refutation, HalfOrigin, Accepted, Begun, Any, Subject, is_of_link, subject, subject_by, subject_of, has_first, has_later, ShownFact, component_at, grounds_in, grounds_of, mark_scene, scene_of, shows, Scene, shown, component_with, items_before, scene_at}
use Rattle.tcap_parts.specs.declared.problem.Problem.TheVariants as problems
use Rattle.tcap_refute.specs.declared.kind.Kind.TheVariants as kinds
use Rattle.tcap_faults.specs.declared.component.component_sort.Sort.TheVariants as sorts
use Rattle.tcap_evidence.specs.declared.shown_facts.ShownFact.TheVariants as facts
use Rattle.tcap_evidence.specs.Evidence.{dialogue_of, rejected_by, facts_with_id}
use Rattle.tcap_evidence_laws.specs.GivenLists.{AreAllGiven, listed_facts, listed_for_dialogue, listed_for_rejected, listed_with_id}
use Rattle.tcap_evidence_laws.proofs.NumberedLists.{map_has}

-- The second list has the items of the first at some indexes.
abbrev pub Includes : List ShownFact → List ShownFact → Type 0
Includes ws spoken = (places : List ℕ) × (map (slice_get ws) places ≡ map Some spoken)

there : (ws : List ShownFact) (k : ℕ) (w : ShownFact) → slice_get ws k ≡ Some w → Contains ws w
there [] k w is = let bad : None ≡ Some w = is in cc
there (v ∷ ws) zero w is =
    let same : v ≡ w = let it : Some v ≡ Some w = is in cc in
    subst (λ (x : ShownFact). Contains (x ∷ ws) w) (sym same) (has_first w ws)
there (v ∷ ws) (suc k) w is = has_later v ws w (there ws k w is)

all_given : (s : Scene) (ws spoken : List ShownFact) → Includes ws spoken → AreAllGiven s (grounds_in s ws) spoken
all_given s ws spoken (places, are) = by spoken places are
  where
    by : (spoken : List ShownFact) (places : List ℕ) → map (slice_get ws) places ≡ map Some spoken
        → AreAllGiven s (grounds_in s ws) spoken
    by [] places are = tt
    by (w ∷ more) [] are = cc
    by (w ∷ more) (k ∷ places) are =
        let first : slice_get ws k ≡ Some w = cc in
        let others : map (slice_get ws) places ≡ map Some more = cc in
        (map_has (λ (v : ShownFact). (v, shown s v)) ws w (there ws k w first), by more places others)

-- ---- for each kind

of_asked : (origin : HalfOrigin) (c : Option Component) → Includes (facts_with_id origin c kinds.AnswersNothing) (listed_with_id origin c kinds.AnswersNothing)
of_asked origin (Some (ReturnResult last id body)) = (0 ∷ [], refl)
of_asked origin (Some (ReturnError id code parameter)) = (0 ∷ [], refl)
of_asked origin (Some (Reject (Some id) (problems.General n))) = ([], refl)
of_asked origin (Some (Reject (Some id) problem)) = (0 ∷ [], refl)
of_asked origin c = ([], refl)

of_operation : (origin : HalfOrigin) (c : Option Component)
    → Includes (facts_with_id origin c kinds.WrongOperation) (listed_with_id origin c kinds.WrongOperation)
of_operation origin (Some (ReturnResult last id body)) = (1 ∷ 3 ∷ [], refl)
of_operation origin (Some (ReturnError id code parameter)) = (1 ∷ 2 ∷ [], refl)
of_operation origin c = ([], refl)

of_dialogue : (origin : HalfOrigin) → Includes (dialogue_of origin) (listed_for_dialogue origin)
of_dialogue Accepted = (0 ∷ 2 ∷ 1 ∷ [], refl)
of_dialogue Begun = (0 ∷ 1 ∷ [], refl)
of_dialogue origin = ([], refl)

of_rejected : (c : Option Component) → Includes (rejected_by c) (listed_for_rejected c)
of_rejected (Some (Reject (Some id) (problems.Invoke n))) = by (n == 0) (is_of_link n)
  where
    by : (first link : Bool)
        → Includes (cond first (facts.IncomingComponents (sorts.Invokes Any) ∷ facts.Before sorts.DuplicateRejects ∷ [])
        (cond link (facts.IncomingComponents sorts.Linked ∷ facts.Before sorts.LinkRejects ∷ []) []))
        (cond first (facts.IncomingComponents (sorts.Invokes Any) ∷ facts.Before sorts.DuplicateRejects ∷ [])
        (cond link (facts.IncomingComponents sorts.Linked ∷ facts.Before sorts.LinkRejects ∷ []) []))
    by true link = (0 ∷ 1 ∷ [], refl)
    by false true = (0 ∷ 1 ∷ [], refl)
    by false false = ([], refl)
of_rejected (Some (Reject (Some id) (problems.ReturnResult n))) = (0 ∷ 1 ∷ 2 ∷ 3 ∷ 4 ∷ 6 ∷ [], refl)
of_rejected (Some (Reject (Some id) (problems.ReturnError n))) = (1 ∷ 0 ∷ 2 ∷ 3 ∷ 4 ∷ 5 ∷ [], refl)
of_rejected c = ([], refl)

includes_to : (origin : HalfOrigin) (c : Option Component) (kind : Kind) → Includes (facts_with_id origin c kind) (listed_with_id origin c kind)
includes_to origin c kinds.BadMessage = ([], refl)
includes_to origin c kinds.UnknownTransaction = (0 ∷ 1 ∷ [], refl)
includes_to origin c kinds.ReusedId = (0 ∷ [], refl)
includes_to origin c kinds.AfterEnd = (0 ∷ [], refl)
includes_to origin c kinds.AnswersNothing = of_asked origin c
includes_to origin c kinds.WrongOperation = of_operation origin c
includes_to origin c kinds.MisplacedDialogue = (1 ∷ [], refl)
includes_to origin c kinds.WrongHalf = (0 ∷ 1 ∷ 3 ∷ 2 ∷ 4 ∷ 5 ∷ [], refl)
includes_to origin c kinds.WrongDialogue = of_dialogue origin
includes_to origin c kinds.InvokeIdBusy = (0 ∷ 4 ∷ 6 ∷ 7 ∷ 8 ∷ 9 ∷ 10 ∷ 2 ∷ 3 ∷ 5 ∷ 1 ∷ [], refl)
includes_to origin c kinds.BadLink = (0 ∷ 1 ∷ 2 ∷ 3 ∷ [], refl)
includes_to origin c kinds.AnsweredAlready = (0 ∷ 1 ∷ 2 ∷ 3 ∷ 4 ∷ 5 ∷ 6 ∷ [], refl)
includes_to origin c kinds.RejectNotAllowed = of_rejected c
includes_to origin c kinds.WrongReply = (1 ∷ 3 ∷ 4 ∷ 0 ∷ 2 ∷ [], refl)
includes_to origin c kinds.OpenAtMark = ([], refl)

includes : (to : Option (List ℕ)) (origin : HalfOrigin) (c : Option Component) (kind : Kind)
    → Includes (shows to origin c kind) (listed_facts to origin c kind)
includes None origin c kinds.ReusedId = (0 ∷ [], refl)
includes None origin c kinds.InvokeIdBusy = (0 ∷ [], refl)
includes None origin c kind = ([], refl)
includes (Some id) origin c kind = includes_to origin c kind

-- ---- for an entry

module _ (of_one : Bool) (table : Table) (side : Side) (entries : List Entry) (r : Refutation) where
  pub given_of_message : (sender : Side) (m : Message) → slice_get (map item_of entries) r.entry ≡ Some (Ok (Sent sender m))
      → AreAllGiven (scene_at of_one table side entries r.entry m r.kind) (grounds_of of_one table side entries r)
      (listed_facts (dtid_in m) (scene_at of_one table side entries r.entry m r.kind).origin
      (component_with of_one table side entries r.entry m r.kind) r.kind)
  given_of_message sender m is =
      subst (λ (a : Subject). AreAllGiven (scene_of table side entries r.entry m r.kind a) (grounds_of of_one table side entries r)
      (listed_facts (dtid_in m) a.origin (component_at a.component (components_in m)) r.kind)) about_is
      (subst (λ (g : List (ShownFact × List ℕ)). AreAllGiven scene g spoken) (sym given)
      (all_given scene shown_by spoken
      (includes (dtid_in m) about.origin (component_at about.component (components_in m)) r.kind)))
    where
      about : Subject
      about = subject_of of_one table side entries r

      scene : Scene
      scene = scene_of table side entries r.entry m r.kind about

      shown_by : List ShownFact
      shown_by = shows (dtid_in m) about.origin (component_at about.component (components_in m)) r.kind

      spoken : List ShownFact
      spoken = listed_facts (dtid_in m) about.origin (component_at about.component (components_in m)) r.kind

      from : (g : List (ShownFact × List ℕ)) → grounds_of of_one table side entries r ≡ g → grounds_in scene shown_by ≡ g
      from g of = rw is at of

      given : grounds_of of_one table side entries r ≡ grounds_in scene shown_by
      given = sym (from (grounds_of of_one table side entries r) refl)

      about_is : about ≡ subject of_one table side (items_before entries r.entry) m r.kind
      about_is =
          ap (λ (o : Option (Result Item Reason)). subject_by of_one table side (items_before entries r.entry) o r.kind) is

  pub given_of_mark : slice_get (map item_of entries) r.entry ≡ Some (Ok Item.Quiet)
      → AreAllGiven (mark_scene table side entries r.entry) (grounds_of of_one table side entries r) (facts.Open ∷ [])
  given_of_mark is =
      subst (λ (g : List (ShownFact × List ℕ)). AreAllGiven (mark_scene table side entries r.entry) g (facts.Open ∷ [])) (sym given)
      (all_given (mark_scene table side entries r.entry) (facts.Open ∷ []) (facts.Open ∷ []) (0 ∷ [], refl))
    where
      from : (g : List (ShownFact × List ℕ)) → grounds_of of_one table side entries r ≡ g
          → grounds_in (mark_scene table side entries r.entry) (facts.Open ∷ []) ≡ g
      from g of = rw is at of

      given : grounds_of of_one table side entries r ≡ grounds_in (mark_scene table side entries r.entry) (facts.Open ∷ [])
      given = sym (from (grounds_of of_one table side entries r) refl)
