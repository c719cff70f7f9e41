-- The lists show F5: an answer or a Reject of something that was never sent.
use Rattle.tcap_evidence_laws.proofs.Common.{◌≡◌, ℕ, ℤ, Bool, true, false, cond, not, ◌||◌, List, [], Option, Some, None, refl, sym, ap, subst, ◌∙◌, list_any, not-true, or_left, Component, Invoke, ReturnResult, ReturnError, Reject, Message, Unidirectional, Begin, Continue, EndMessage, Abort, components_in, dtid_in, Side, Entry, Table, Item, peer_sent_from, components_of, invokes, count, is_error, is_result, is_sort, Any, Sort, any_same, count_invokes, Scene, peer_from_dtid, with_sort, shown, ListsNone, component_with, items_before, count_shown, scene_at, other, invoke_id_of}
use Rattle.tcap_refute.specs.EarlierMessages.{answers, is_answer, is_reject}
use Rattle.tcap_refute.specs.FirstComponent.{answers_nothing_in}
use Rattle.tcap_refute.specs.FirstKinds.{answers_none, answers_nothing_for_end}
use Rattle.tcap_refute.specs.Kind.{answers_none_of, answers_nothing}
use Rattle.tcap_evidence_laws.specs.ComponentEvidence.{ShowsUnasked}
use Rattle.tcap_evidence_laws.specs.ListedEntries.{has_kind_by}
use Rattle.tcap_evidence_laws.proofs.CountedLaws.{components_counted}
use Rattle.tcap_evidence_laws.proofs.HasKindLaws.{first_where as blamed_so}
use Rattle.tcap_evidence_laws.proofs.ListsLaws.{nothing_there}
use Rattle.tcap_evidence_laws.proofs.SoLaws.{first_is, first_wins, none_so, scene_of_it}
use Rattle.tcap_parts.specs.declared.problem.Problem.TheVariants as problems
use Rattle.tcap_refute.specs.declared.kind.Kind.TheVariants as kinds
use Rattle.tcap_faults.specs.declared.component.component_sort.Sort.TheVariants as sorts
use Rattle.tcap_evidence.specs.declared.shown_facts.ShownFact.TheVariants as facts

-- ---- lists of the peer's messages from the destination ID

-- They are empty for a message without a destination ID.
alone_lists : (s : Scene) → s.to ≡ None → (sort : Sort) → ListsNone s (facts.PeerComponents sort)
alone_lists s to sort = ap (with_sort s sort) (nothing_there s to) ∙ by s.id refl
  where
    by : (o : Option ℤ) → s.id ≡ o → with_sort s sort [] ≡ []
    by None is = rw is refl
    by (Some id) is = rw is refl

-- ---- F5

-- whether a message has F5, of one end or of both, is whether one of its components has it
asked_of : (of_one : Bool) (side : Side) (items : List Item) (m : Message)
    → cond of_one (answers_nothing_for_end side items m) (answers_nothing side items m)
    ≡ list_any (answers_nothing_in of_one side items m) (components_in m)
asked_of true side items (Abort dtid reason) = refl
asked_of true side items m = refl
asked_of false side items (Abort dtid reason) = refl
asked_of false side items m = refl

-- A message without a destination ID.
unasked_alone : (s : Scene) → s.to ≡ None → (c : Component) → (is_answer c || is_reject c) ≡ true → ShowsUnasked s (Some c)
unasked_alone s to (Invoke id linked code parameter) is = cc
unasked_alone s to (Reject None problem) is = tt
unasked_alone s to (Reject (Some id) (problems.General n)) is = tt
unasked_alone s to (Reject (Some id) (problems.ReturnResult n)) is = alone_lists s to sorts.Results
unasked_alone s to (Reject (Some id) (problems.ReturnError n)) is = alone_lists s to sorts.Errors
unasked_alone s to c is = alone_lists s to (sorts.Invokes Any)

-- The tests for Return Results and Return Errors of an ID are those of the sorts.
results_are : (id : ℤ) (c : Component) → answers true id c ≡ is_result id c
results_are id (ReturnResult last other body) = refl
results_are id c = refl

errors_are : (id : ℤ) (c : Component) → answers false id c ≡ is_error id c
errors_are id (ReturnError other code parameter) = refl
errors_are id c = refl

-- The lists of an invoke ID have as many entries as these components are counted.
abbrev pub AreThere : Scene → ℤ → List Component → Type 0
AreThere s id peer_from_dtid = (sort : Sort) → count_shown s (facts.PeerComponents sort) ≡ count (is_sort s.table id sort) peer_from_dtid

-- A message with a destination ID, for both ends.
module _ (s : Scene) (peer_from_dtid : List Component) where
  none_invoked : (id : ℤ) → AreThere s id peer_from_dtid → not (list_any (invokes id) peer_from_dtid) ≡ true
      → ListsNone s (facts.PeerComponents (sorts.Invokes Any))
  none_invoked id counts none =
      none_so (shown s (facts.PeerComponents (sorts.Invokes Any))) (invokes id) peer_from_dtid
      (counts (sorts.Invokes Any) ∙ count_invokes s.table id peer_from_dtid) (not-true (list_any (invokes id) peer_from_dtid) none)

  unasked_to : (c : Component) → ((id : ℤ) → invoke_id_of kinds.AnswersNothing c ≡ Some id → AreThere s id peer_from_dtid)
      → answers_none_of peer_from_dtid c ≡ true → ShowsUnasked s (Some c)
  unasked_to (Invoke id linked code parameter) counts is = cc
  unasked_to (ReturnResult last id body) counts is = none_invoked id (counts id refl) is
  unasked_to (ReturnError id code parameter) counts is = none_invoked id (counts id refl) is
  unasked_to (Reject None problem) counts is = tt
  unasked_to (Reject (Some id) (problems.General n)) counts is = tt
  unasked_to (Reject (Some id) (problems.Invoke n)) counts is = none_invoked id (counts id refl) is
  unasked_to (Reject (Some id) (problems.ReturnResult n)) counts is =
      none_so (shown s (facts.PeerComponents sorts.Results)) (is_result id) peer_from_dtid (counts id refl sorts.Results)
      (sym (any_same (answers true id) (is_result id) peer_from_dtid (results_are id))
      ∙ not-true (list_any (answers true id) peer_from_dtid) is)
  unasked_to (Reject (Some id) (problems.ReturnError n)) counts is =
      none_so (shown s (facts.PeerComponents sorts.Errors)) (is_error id) peer_from_dtid (counts id refl sorts.Errors)
      (sym (any_same (answers false id) (is_error id) peer_from_dtid (errors_are id))
      ∙ not-true (list_any (answers false id) peer_from_dtid) is)

  -- A message with a destination ID, for one end.
  unasked_one : (c : Component) → ((id : ℤ) → invoke_id_of kinds.AnswersNothing c ≡ Some id → AreThere s id peer_from_dtid)
      → answers_none peer_from_dtid c ≡ true → ShowsUnasked s (Some c)
  unasked_one (Reject (Some id) (problems.General n)) counts is = tt
  unasked_one c counts is = unasked_to c counts is

  unasked_by : (of_one : Bool) (c : Component)
      → ((id : ℤ) → invoke_id_of kinds.AnswersNothing c ≡ Some id → AreThere s id peer_from_dtid)
      → cond of_one (answers_none peer_from_dtid c) (answers_none_of peer_from_dtid c) ≡ true → ShowsUnasked s (Some c)
  unasked_by true c counts is = unasked_one c counts is
  unasked_by false c counts is = unasked_to c counts is

-- A message with the kind has F5.
named_so : (of_one : Bool) (table : Table) (side : Side) (items : List Item) (m : Message)
    → has_kind_by of_one table side items m kinds.AnswersNothing ≡ true
    → cond of_one (answers_nothing_for_end side items m) (answers_nothing side items m) ≡ true
named_so true table side items m is = blamed_so table side items m kinds.AnswersNothing refl is
named_so false table side items m is = is

module _ (of_one : Bool) (table : Table) (side : Side) (entries : List Entry) (number : ℕ) (m : Message) where
  abbrev items : List Item
  items = items_before entries number

  abbrev s : Scene
  s = scene_at of_one table side entries number m kinds.AnswersNothing

  to_there : (dtid : List ℕ) → dtid_in m ≡ Some dtid → (c : Component) → s.id ≡ invoke_id_of kinds.AnswersNothing c
      → cond of_one (answers_none (components_of (peer_sent_from side dtid items)) c)
      (answers_none_of (components_of (peer_sent_from side dtid items)) c) ≡ true
      → ShowsUnasked s (Some c)
  to_there dtid to c id is = unasked_by s (components_of (peer_sent_from side dtid items)) of_one c counts is
    where
      counts : (i : ℤ) → invoke_id_of kinds.AnswersNothing c ≡ Some i
          → AreThere s i (components_of (peer_sent_from side dtid items))
      counts i of_it sort =
          (components_counted of_one table side entries number m kinds.AnswersNothing dtid i sort to (id ∙ of_it)).there

  unasked_in : (x : Message) → x ≡ m → (c : Component) → s.id ≡ invoke_id_of kinds.AnswersNothing c
      → answers_nothing_in of_one side items x c ≡ true → ShowsUnasked s (Some c)
  unasked_in (Unidirectional dialogue components) same c id is =
      unasked_alone s (ap dtid_in (sym same)) c (or_left (is_answer c) (is_reject c) is)
  unasked_in (Begin otid dialogue components) same c id is = unasked_alone s (ap dtid_in (sym same)) c is
  unasked_in (Continue otid dtid dialogue components) same c id is = to_there dtid (ap dtid_in (sym same)) c id is
  unasked_in (EndMessage dtid dialogue components) same c id is = to_there dtid (ap dtid_in (sym same)) c id is
  unasked_in (Abort dtid reason) same c id is = to_there dtid (ap dtid_in (sym same)) c id is

  pub unasked_shows : has_kind_by of_one table side items m kinds.AnswersNothing ≡ true
      → ShowsUnasked s (component_with of_one table side entries number m kinds.AnswersNothing)
  unasked_shows has =
      let some = sym (asked_of of_one side items m) ∙ named_so of_one table side items m has in
      let (k, c, first, here, is) = first_is (answers_nothing_in of_one side items m) 0 (components_in m) some in
      let of_it = scene_of_it of_one table side entries number m kinds.AnswersNothing k c (first_wins _ _ k first) here in
      subst (ShowsUnasked s) (sym of_it.it) (unasked_in m refl c of_it.id is)
