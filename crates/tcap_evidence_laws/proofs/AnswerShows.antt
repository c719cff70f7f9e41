-- The lists show F12 (an invocation answered already) and F13 (a Reject that is not allowed).
use Rattle.tcap_evidence_laws.proofs.Common.{◌≡◌, ◌⊎◌, inl, inr, ℕ, ℤ, ◌+◌, ◌≤◌, ◌<◌, arith, Bool, true, false, ◌||◌, List, [], ◌∷◌, ◌++◌, length, Option, Some, None, refl, ap, ◌∙◌, and_from, leb-true, ltb-true, ResultBody, Component, Invoke, ReturnResult, ReturnError, Reject, Message, components_in, Side, Entry, is_code, Table, Item, invokes, is_invoke_id, any_problem, count, count_class, invokes_where, is_error, is_last_result, rejects_invoke, HalfMessages, half_of, Any, One, Two, Three, count_invokes, one, id_itself, earlier_passing, incoming_passing, invokes_passing, invoke_id_of, Scene, HasKind, component_with, items_before, count_shown, scene_at}
use Rattle.tcap_faults.specs.ComponentKinds.{answers_again, is_operation_overspent, is_overspent, more_answered}
use Rattle.tcap_faults.specs.Counts.{is_result_of}
use Rattle.tcap_faults.proofs.list_laws.CountLaws.{count_last}
use Rattle.tcap_evidence_laws.specs.ComponentEvidence.{MoreAnswered, MoreOfOperation, ShowsAnswered, incoming_of_class}
use Rattle.tcap_evidence_laws.proofs.HasKindLaws.{either, goes_so, half_so}
use Rattle.tcap_evidence_laws.proofs.SoLaws.{IsCounted, shows_half}
use Rattle.tcap_parts.specs.declared.problem.Problem.TheVariants as problems
use Rattle.tcap_refute.specs.declared.kind.Kind.TheVariants as kinds
use Rattle.tcap_faults.specs.declared.component.component_sort.Sort.TheVariants as sorts
use Rattle.tcap_evidence.specs.declared.shown_facts.ShownFact.TheVariants as facts

-- An appended item that passes counts one.
pub one_more : {A : Type 0} (p : A → Bool) (xs : List A) (x : A) → p x ≡ true → count p (xs ++ x ∷ []) ≡ count p xs + 1
one_more p xs x so = let here : one (p x) ≡ 1 = ap one so in omega (arith, here, count_last p xs x)

-- An appended item that does not pass counts none.
none_more : {A : Type 0} (p : A → Bool) (xs : List A) (x : A) → p x ≡ false → count p (xs ++ x ∷ []) ≡ count p xs + 0
none_more p xs x so = let here : one (p x) ≡ 0 = ap one so in omega (arith, here, count_last p xs x)

module _ (s : Scene) (h : HalfMessages) (cs : List Component) (id : ℤ) (counts : IsCounted s h cs id) where
  abbrev before : List Component
  before = h.outgoing ++ s.earlier

  invokes_incoming : count_shown s (facts.IncomingComponents (sorts.Invokes Any)) ≡ count (invokes id) h.incoming
  invokes_incoming = counts.incoming (sorts.Invokes Any) ∙ count_invokes s.table id h.incoming

  -- ---- F12

  more_spent : (results errors rejects r e j : ℕ) → results ≡ count (is_last_result id) before + r
      → errors ≡ count (is_error id) before + e → rejects ≡ count (rejects_invoke id any_problem) before + j
      → more_answered s.table h id results errors rejects ≡ true → MoreAnswered s r e j
  more_spent results errors rejects r e j results_are errors_are rejects_are is =
      either _ _ is
      (λ three. either _ _ three
      (λ two. either _ _ two
      (λ more.
      let less : of_class 1 + of_class 3 < results = ltb-true _ _ more in
      inl (omega (arith, less, results_are, class_one, class_three, outgoing_results)))
      (λ more.
      let less : of_class 1 + of_class 2 < errors = ltb-true _ _ more in
      inr (inl (omega (arith, less, errors_are, class_one, class_two, outgoing_errors)))))
      (λ more.
      let less : of_class 1 + of_class 2 + of_class 3 < results + errors = ltb-true _ _ more in
      inr (inr (inl
      (omega (arith, less, results_are, errors_are, class_one, class_two, class_three, outgoing_results, outgoing_errors))))))
      (λ more.
      let less : count (invokes id) h.incoming < results + errors + rejects = ltb-true _ _ more in
      inr (inr (inr
      (omega (arith, less, results_are, errors_are, rejects_are, invokes_incoming, outgoing_results, outgoing_errors, outgoing_rejects)))))
    where
      of_class : ℕ → ℕ
      of_class class = count_class s.table id class h.incoming

      class_one : incoming_of_class s One ≡ of_class 1
      class_one = counts.incoming (sorts.Invokes One)

      class_two : incoming_of_class s Two ≡ of_class 2
      class_two = counts.incoming (sorts.Invokes Two)

      class_three : incoming_of_class s Three ≡ of_class 3
      class_three = counts.incoming (sorts.Invokes Three)

      outgoing_results : count_shown s (facts.Before sorts.LastResults) ≡ count (is_last_result id) before
      outgoing_results = counts.before sorts.LastResults

      outgoing_errors : count_shown s (facts.Before sorts.Errors) ≡ count (is_error id) before
      outgoing_errors = counts.before sorts.Errors

      outgoing_rejects : count_shown s (facts.Before sorts.InvokeRejects) ≡ count (rejects_invoke id any_problem) before
      outgoing_rejects = counts.before sorts.InvokeRejects

  -- With this component, which adds so many.
  with_one : (c : Component) (r e j : ℕ) → count (is_last_result id) (before ++ c ∷ []) ≡ count (is_last_result id) before + r
      → count (is_error id) (before ++ c ∷ []) ≡ count (is_error id) before + e
      → count (rejects_invoke id any_problem) (before ++ c ∷ []) ≡ count (rejects_invoke id any_problem) before + j
      → is_overspent s.table h id (before ++ c ∷ []) 0 ≡ true → MoreAnswered s r e j
  with_one c r e j results errors rejects more =
      more_spent (count (is_last_result id) (before ++ c ∷ []) + 0) (count (is_error id) (before ++ c ∷ []))
      (count (rejects_invoke id any_problem) (before ++ c ∷ [])) r e j (omega (arith, results)) errors rejects more

  more_of_operation : (body : Option ResultBody) → is_operation_overspent h before id body ≡ true → MoreOfOperation s body
  more_of_operation None is = cc
  more_of_operation (Some body) is =
      let least : count (invokes_where id (is_code body.code)) h.incoming ≤ count (is_result_of id body.code) before =
      leb-true _ _ is in
      let incoming_are : length (incoming_passing s (invokes_passing (is_code body.code))) ≡ count (invokes_where id (is_code body.code)) h.incoming =
      counts.incoming_passing (invokes_passing (is_code body.code)) in
      let outgoing_are : length (earlier_passing s (λ x. is_result_of x body.code)) ≡ count (is_result_of id body.code) before =
      counts.earlier_passing (λ x. is_result_of x body.code) in omega (arith, least, incoming_are, outgoing_are)

  result_again : (last : Bool) (body : Option ResultBody)
      → answers_again s.table h s.earlier before (ReturnResult last id body) ≡ true
      → ShowsAnswered s (Some (ReturnResult last id body))
  result_again true body is =
      let c : Component = ReturnResult true id body in
      either _ _ is
      (λ more. inl (with_one c 1 0 0 (one_more (is_last_result id) before c (id_itself id))
      (none_more (is_error id) before c refl) (none_more (rejects_invoke id any_problem) before c refl) more))
      (λ operation. inr (more_of_operation body operation))
  result_again false body is =
      either _ _ is
      (λ more. inl (more_spent (count (is_last_result id) before + 1) (count (is_error id) before)
      (count (rejects_invoke id any_problem) before) 1 0 0 refl (omega arith) (omega arith) more))
      (λ operation. inr (more_of_operation body operation))

-- ---- messages that answer again

module _ (of_one : Bool) (table : Table) (side : Side) (entries : List Entry) (number : ℕ) (m : Message) where
  abbrev items : List Item
  items = items_before entries number

  abbrev s : Scene
  s = scene_at of_one table side entries number m kinds.AnsweredAlready

  again : (h : HalfMessages) (c : Component)
      → ((id : ℤ) → invoke_id_of kinds.AnsweredAlready c ≡ Some id → IsCounted s h (components_in m) id)
      → answers_again table h s.earlier (h.outgoing ++ s.earlier) c ≡ true → ShowsAnswered s (Some c)
  again h (ReturnResult last id body) counts is = result_again s h (components_in m) id (counts id refl) last body is
  again h (ReturnError id code parameter) counts is =
      let c : Component = ReturnError id code parameter in
      let outgoing : List Component = h.outgoing ++ s.earlier in
      with_one s h (components_in m) id (counts id refl) c 0 1 0 (none_more (is_last_result id) outgoing c refl)
      (one_more (is_error id) outgoing c (id_itself id)) (none_more (rejects_invoke id any_problem) outgoing c refl) is
  again h (Reject (Some id) (problems.Invoke n)) counts is =
      let c : Component = Reject (Some id) (problems.Invoke n) in
      let outgoing : List Component = h.outgoing ++ s.earlier in
      with_one s h (components_in m) id (counts id refl) c 0 0 1 (none_more (is_last_result id) outgoing c refl)
      (none_more (is_error id) outgoing c refl)
      (one_more (rejects_invoke id any_problem) outgoing c (and_from (is_invoke_id id id) true (id_itself id) refl)) is
  again h c counts is = cc

  pub again_shows : HasKind table side items m kinds.AnsweredAlready
      → ShowsAnswered s (component_with of_one table side entries number m kinds.AnsweredAlready)
  again_shows has =
      let (to, goes) = goes_so table side items m kinds.AnsweredAlready refl has in
      shows_half of_one table side entries number m kinds.AnsweredAlready to goes (answers_again table (half_of side items to))
      (rw goes refl) (half_so table side items m to goes kinds.AnsweredAlready refl has) (ShowsAnswered s)
      (λ k c it counts is. again (half_of side items to) c counts is)
