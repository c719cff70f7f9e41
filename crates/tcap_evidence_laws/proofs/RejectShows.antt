-- The lists show F13: a Reject that is not allowed.
use Rattle.tcap_evidence_laws.proofs.Common.{◌≡◌, ◌≢◌, ◌⊎◌, inl, inr, ℕ, ℤ, ◌+◌, ◌≤◌, ◌<◌, arith, Bool, true, false, cond, not, ◌&&◌, ◌||◌, List, [], ◌∷◌, ◌++◌, Some, None, refl, sym, ap, ◌∙◌, ◌==◌, nat_le, nat_lt, list_any, and_from, and_parts, eqb-true, leb-true, ltb-true, not-true, Code, Component, Invoke, ReturnResult, ReturnError, Reject, Message, components_in, Side, Entry, is_code, Table, Item, invokes, is_invoke_id, is_of_link, any_problem, count, has_class, count_class, invokes_where, is_error, is_result, rejects_invoke, rejects_result, HalfMessages, half_of, is_sort, Class, Any, One, Two, Three, Sort, any_same, count_invokes, id_itself, incoming_passing, invoked_components, invoke_id_of, Scene, HasKind, component_with, items_before, count_shown, scene_at, other}
use Rattle.tcap_parts.specs.declared.problem.Problem.{Problem}
use Rattle.tcap_faults.specs.ComponentKinds.{is_answer_reject_wrong, is_expected, is_invoke_reject_wrong, is_of_no_operation, rejects_wrongly}
use Rattle.tcap_faults.specs.Components.{is_linked_to, is_problem, lists_nothing}
use Rattle.tcap_faults.specs.Counts.{count_suited, invokes_linked, rejects_error}
use Rattle.tcap_faults.specs.InvokeCounts.{results_where}
use Rattle.tcap_faults.proofs.component_laws.FewSums.{count_same}
use Rattle.tcap_evidence_laws.specs.ComponentEvidence.{NoneLinked, NoneUnexpected, ShowsAnswerRejected, ShowsInvokeRejected, ShowsRejected, lists_others, count_suitable}
use Rattle.tcap_evidence_laws.proofs.AnswerShows.{one_more}
use Rattle.tcap_evidence_laws.proofs.HasKindLaws.{either, goes_so, half_so}
use Rattle.tcap_evidence_laws.proofs.SoLaws.{IsCounted, none_so, shows_half}
use Rattle.tcap_parts.specs.declared.problem.Problem.TheVariants as problems
use Rattle.tcap_refute.specs.declared.kind.Kind.TheVariants as kinds
use Rattle.tcap_faults.specs.declared.component.component_sort.Sort.TheVariants as sorts
use Rattle.tcap_evidence.specs.declared.shown_facts.ShownFact.TheVariants as facts

module _ (s : Scene) (h : HalfMessages) (cs : List Component) (id : ℤ) (counts : IsCounted s h cs id) where
  abbrev before : List Component
  before = h.outgoing ++ s.earlier

  -- ---- a Reject of an Invoke

  abbrev invoke_rejected : ℕ → Component
  invoke_rejected n = Reject (Some id) (problems.Invoke n)

  none_linked : (passes : Code → Code → Bool) → not (list_any (is_linked_to passes h.invoked id) h.incoming) ≡ true
      → NoneLinked s passes
  none_linked passes none =
      none_so (incoming_passing s (λ x. is_linked_to passes (invoked_components s) x)) (is_linked_to passes (invoked_components s) id) h.incoming
      (counts.incoming_passing (λ x. is_linked_to passes (invoked_components s) x))
      (ap (λ (is : List Component). list_any (is_linked_to passes is id) h.incoming) counts.invoked_are
      ∙ not-true (list_any (is_linked_to passes h.invoked id) h.incoming) none)

  invoke_wrong : (n : ℕ) → is_invoke_reject_wrong s.table h (before ++ invoke_rejected n ∷ []) id n ≡ true
      → ShowsInvokeRejected s n
  invoke_wrong n is =
      either _ _ is
      (λ three. either _ _ three (λ two. either _ _ two duplicate of_a_link)
      (λ fine. either _ _ fine
      (λ six.
      let (is_six, none) = and_parts (n == 6) _ six in
      inr (inr (inl (eqb-true n 6 is_six, none_linked (λ to code. lists_nothing s.table to) none))))
      (λ seven.
      let (is_seven, none) = and_parts (n == 7) _ seven in
      inr (inr (inr (inl (eqb-true n 7 is_seven, none_linked (lists_others s) none)))))))
      (λ over. inr (inr (inr (inr (ltb-true 7 n over)))))
    where
      c : Component
      c = invoke_rejected n

      duplicate : (((n == 0) && nat_le (count (invokes id) h.incoming) (count (rejects_invoke id (is_problem 0)) (before ++ c ∷ []))) ≡ true)
          → ShowsInvokeRejected s n
      duplicate so =
          let (zero, most) = and_parts (n == 0) _ so in
          let none : n ≡ 0 = eqb-true n 0 zero in
          let least : count (invokes id) h.incoming ≤ count (rejects_invoke id (is_problem 0)) (before ++ c ∷ []) =
          leb-true _ _ most in
          let last = one_more (rejects_invoke id (is_problem 0)) before c
          (and_from (is_invoke_id id id) (is_problem 0 n) (id_itself id) zero) in
          let incoming : count_shown s (facts.IncomingComponents (sorts.Invokes Any)) ≡ count (invokes id) h.incoming =
          counts.incoming (sorts.Invokes Any) ∙ count_invokes s.table id h.incoming in
          let outgoing : count_shown s (facts.Before sorts.DuplicateRejects) ≡ count (rejects_invoke id (is_problem 0)) before =
          counts.before sorts.DuplicateRejects in inl (none, omega (arith, least, last, incoming, outgoing))

      of_a_link : ((is_of_link n && nat_lt (count (invokes_linked id) h.incoming) (count (rejects_invoke id is_of_link) (before ++ c ∷ []))) ≡ true)
          → ShowsInvokeRejected s n
      of_a_link so =
          let (link, more) = and_parts (is_of_link n) _ so in
          let less : count (invokes_linked id) h.incoming < count (rejects_invoke id is_of_link) (before ++ c ∷ []) =
          ltb-true _ _ more in
          let last = one_more (rejects_invoke id is_of_link) before c
          (and_from (is_invoke_id id id) (is_of_link n) (id_itself id) link) in
          let incoming : count_shown s (facts.IncomingComponents sorts.Linked) ≡ count (invokes_linked id) h.incoming = counts.incoming sorts.Linked in
          let outgoing : count_shown s (facts.Before sorts.LinkRejects) ≡ count (rejects_invoke id is_of_link) before =
          counts.before sorts.LinkRejects in inr (inl (link, omega (arith, less, last, incoming, outgoing)))

  -- ---- a Reject of an answer

  -- the number of own invocations whose class allows the answer
  suited_are : (of_result : Bool) (class : Class) → ((c : Component) → is_sort s.table id (sorts.Invokes class) c
      ≡ invokes_where id (has_class s.table (cond of_result 3 2)) c) → count_suitable s class ≡ count_suited s.table of_result id h.invoked
  suited_are of_result class same =
      let first : count_shown s (facts.Invoked (sorts.Invokes One)) ≡ count_class s.table id 1 h.invoked =
      counts.invoked (sorts.Invokes One) in
      let second : count_shown s (facts.Invoked (sorts.Invokes class)) ≡ count_class s.table id (cond of_result 3 2) h.invoked =
      counts.invoked (sorts.Invokes class)
      ∙ count_same (is_sort s.table id (sorts.Invokes class)) (invokes_where id (has_class s.table (cond of_result 3 2))) h.invoked same in
      omega (arith, first, second)

  -- whether a component is a Return Result of an operation that no own invocation has
  no_operation : (c : Component) → is_of_no_operation h id c
      ≡ results_where id (λ code. not (list_any (invokes_where id (is_code code)) h.invoked)) c
  no_operation (Invoke other linked code parameter) = refl
  no_operation (ReturnResult last other None) = refl
  no_operation (ReturnResult last other (Some body)) = refl
  no_operation (ReturnError other code parameter) = refl
  no_operation (Reject other problem) = refl

  expected : (of_result : Bool) (class : Class) → count_suitable s class ≡ count_suited s.table of_result id h.invoked
      → is_expected s.table h of_result id ≡ true → NoneUnexpected s class
  expected of_result class suit is =
      let (two, none) =
      and_parts ((count_suited s.table of_result id h.invoked == count (invokes id) h.invoked)
      && nat_lt (count (is_result id) h.incoming + count (is_error id) h.incoming) 2) _ is in
      let (all, few) = and_parts (count_suited s.table of_result id h.invoked == count (invokes id) h.invoked) _ two in
      let invoked : count_shown s (facts.Invoked (sorts.Invokes Any)) ≡ count (invokes id) h.invoked =
      counts.invoked (sorts.Invokes Any) ∙ count_invokes s.table id h.invoked in
      let less : count (is_result id) h.incoming + count (is_error id) h.incoming < 2 = ltb-true _ _ few in
      let results : count_shown s (facts.IncomingComponents sorts.Results) ≡ count (is_result id) h.incoming = counts.incoming sorts.Results in
      let errors : count_shown s (facts.IncomingComponents sorts.Errors) ≡ count (is_error id) h.incoming = counts.incoming sorts.Errors in (
        suit ∙ eqb-true _ _ all ∙ sym invoked,
        omega (arith, less, results, errors),
        none_so (incoming_passing s (λ x. results_where x (λ code. not (list_any (invokes_where x (is_code code)) (invoked_components s)))))
            (results_where id (λ code. not (list_any (invokes_where id (is_code code)) (invoked_components s)))) h.incoming
            (counts.incoming_passing (λ x. results_where x (λ code. not (list_any (invokes_where x (is_code code)) (invoked_components s)))))
            (ap (λ (is : List Component). list_any (results_where id (λ (code : Code). not (list_any (invokes_where id (is_code code)) is))) h.incoming)
            counts.invoked_are
            ∙ sym (any_same (is_of_no_operation h id) (results_where id (λ code. not (list_any (invokes_where id (is_code code)) h.invoked))) h.incoming
            no_operation)
            ∙ not-true (list_any (is_of_no_operation h id) h.incoming) none),
      )

  answer_wrong : (of_result : Bool) (answers rejects_of : Sort) (class : Class) (n : ℕ) (rejects : Component → Bool) (c : Component)
      (incoming : ℕ) → count_suitable s class ≡ count_suited s.table of_result id h.invoked
      → count_shown s (facts.IncomingComponents answers) ≡ incoming → count_shown s (facts.Before rejects_of) ≡ count rejects before → rejects c ≡ true
      → is_answer_reject_wrong s.table h of_result id n (count rejects (before ++ c ∷ [])) incoming ≡ true
      → ShowsAnswerRejected s answers rejects_of class (cond of_result 2 4) n
  answer_wrong of_result answers rejects_of class n rejects c incoming suit answers_are outgoing own is =
      either _ _ is
      (λ three. either _ _ three
      (λ two. either _ _ two
      (λ more.
      let less : incoming < count rejects (before ++ c ∷ []) = ltb-true _ _ more in
      inl (omega (arith, less, answers_are, outgoing, one_more rejects before c own)))
      (λ over. inr (inl (ltb-true (cond of_result 2 4) n over))))
      (λ so.
      let (unexpected, is_so) = and_parts (n == 1) (is_expected s.table h of_result id) so in
      inr (inr (inl (eqb-true n 1 unexpected, expected of_result class suit is_so)))))
      (λ so.
      let (from, none) = and_parts (nat_le 2 n) (count_suited s.table of_result id h.invoked == 0) so in
      inr (inr (inr (leb-true 2 n from, suit ∙ eqb-true _ 0 none))))

  -- ---- any Reject

  rejected : (problem : Problem) → rejects_wrongly s.table h s.earlier before (Reject (Some id) problem) ≡ true
      → ShowsRejected s (Some (Reject (Some id) problem))
  rejected (problems.General n) is = cc
  rejected (problems.Invoke n) is = invoke_wrong n is
  rejected (problems.ReturnResult n) is =
      answer_wrong true sorts.Results sorts.ResultRejects Three n (rejects_result id any_problem)
      (Reject (Some id) (problems.ReturnResult n)) (count (is_result id) h.incoming) (suited_are true Three (λ x. refl))
      (counts.incoming sorts.Results) (counts.before sorts.ResultRejects) (and_from (is_invoke_id id id) true (id_itself id) refl) is
  rejected (problems.ReturnError n) is =
      answer_wrong false sorts.Errors sorts.ErrorRejects Two n (rejects_error id any_problem)
      (Reject (Some id) (problems.ReturnError n)) (count (is_error id) h.incoming) (suited_are false Two (λ x. refl))
      (counts.incoming sorts.Errors) (counts.before sorts.ErrorRejects) (and_from (is_invoke_id id id) true (id_itself id) refl) is

module _ (of_one : Bool) (table : Table) (side : Side) (entries : List Entry) (number : ℕ) (m : Message) where
  abbrev items : List Item
  items = items_before entries number

  abbrev s : Scene
  s = scene_at of_one table side entries number m kinds.RejectNotAllowed

  rejected_it : (h : HalfMessages) (c : Component)
      → ((id : ℤ) → invoke_id_of kinds.RejectNotAllowed c ≡ Some id → IsCounted s h (components_in m) id)
      → rejects_wrongly table h s.earlier (h.outgoing ++ s.earlier) c ≡ true → ShowsRejected s (Some c)
  rejected_it h (Reject (Some id) problem) counts is = rejected s h (components_in m) id (counts id refl) problem is
  rejected_it h c counts is = cc

  pub reject_shows : HasKind table side items m kinds.RejectNotAllowed
      → ShowsRejected s (component_with of_one table side entries number m kinds.RejectNotAllowed)
  reject_shows has =
      let (to, goes) = goes_so table side items m kinds.RejectNotAllowed refl has in
      shows_half of_one table side entries number m kinds.RejectNotAllowed to goes (rejects_wrongly table (half_of side items to))
      (rw goes refl) (half_so table side items m to goes kinds.RejectNotAllowed refl has) (ShowsRejected s)
      (λ k c it counts is. rejected_it (half_of side items to) c counts is)
