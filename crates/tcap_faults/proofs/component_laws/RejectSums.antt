-- F13 from counts is F13, if few components are counted (Q.774 3.2, Q.773 4.2.2).
use Rattle.std.proofs.Common.{◌≡◌, ℕ, ℤ, ◌+◌, ◌≤◌, arith, Bool, true, false, List, [], ◌∷◌, ◌++◌, length, Some, None, not, refl, sym, ap, ◌∙◌, ap₂}
use Rattle.std.specs.Prelude.{◌||◌, ◌&&◌, ◌==◌, nat_le, nat_lt}
use Rattle.std.specs.List.{list_any}
use Rattle.std.proofs.lemmas.Bool.Decides.{nat_tests}
use Rattle.tcap_parts.specs.declared.code.Code.{Code}
use Rattle.tcap_parts.specs.declared.problem.Problem.TheVariants as problems
use Rattle.tcap_parts.specs.declared.component.Component.{Component}
use Rattle.tcap_parts.specs.declared.component.Component.TheVariants.{Invoke, ReturnResult, ReturnError, Reject}
use Rattle.tcap_end.specs.Component.{is_code, links}
use Rattle.tcap_end.specs.Table.{Table}
use Rattle.tcap_refute.specs.EarlierMessages.{invokes, is_invoke_id}
use Rattle.tcap_faults.specs.Counts.{any_problem, count, count_class, count_suited, has_class, invokes_linked, invokes_where, is_error, is_result, rejects_error, rejects_invoke, rejects_result}
use Rattle.tcap_faults.specs.Components.{is_linked_to, is_of_link, is_problem, lists_nothing}
use Rattle.tcap_faults.specs.ComponentKinds.{is_expected, is_invoke_reject_wrong, is_link_fine, is_of_no_operation, is_reject_wrong, rejects_wrongly}
use Rattle.tcap_faults.specs.HalfByPeerId.{HalfMessages}
use Rattle.tcap_faults.specs.declared.component.component_sort.Class.TheVariants as classes
use Rattle.tcap_faults.specs.declared.component.component_sort.Sort.TheVariants as sorts
use Rattle.tcap_faults.specs.InvokeCounts.{AreFew, invokes_link, is_sort, results_where, sum, tallied}
use Rattle.tcap_faults.specs.KindsByCounts.{is_answer_reject_wrong_by, is_expected_by, is_invoke_reject_wrong_by, is_link_fine_by, rejects_wrongly_by, suited_by}
use Rattle.tcap_faults.proofs.list_laws.CountLaws.{count_last, one}
use Rattle.tcap_faults.proofs.story_laws.InvokeListLaws.{id_itself}
use Rattle.tcap_faults.proofs.component_laws.FewSums.{any_counted, count_invokes, count_within}
use Rattle.tcap_faults.proofs.component_laws.InvokeSums.{counted_of}
use Rattle.tcap_faults.proofs.component_laws.SumLaws.{sum_few}
use Rattle.tcap_faults.proofs.list_laws.TwoTests.{any_agree}

-- ---- tests

-- Two conjunctions agree if their second parts agree whenever the first part holds.
and_same : (a x y : Bool) → (a ≡ true → x ≡ y) → (a && x) ≡ (a && y)
and_same true x y same = same refl
and_same false x y same = refl

-- ---- one more Reject

-- A Reject that passes is counted once more.
one_more : (passes : Component → Bool) (before : List Component) (c : Component) → AreFew before → passes c ≡ true
    → sum (count passes before) 1 ≡ count passes (before ++ c ∷ [])
one_more passes before c few is =
    sum_few (count passes before) 1 (omega (arith, few, count_within passes before))
    ∙ sym (count_last passes before c ∙ ap (λ b. count passes before + one b) is)

-- ---- Rejects of Invokes

module _ (table : Table) (h : HalfMessages) (all before own : List Component) (few : AreFew before) (id : ℤ) where
  -- A linked Invoke that names an own invocation.
  linked_same : (passes : Code → Code → Bool) (c : Component)
      → invokes_link id (λ linked code. list_any (invokes_where linked (λ to. passes to code)) h.invoked) c
      ≡ is_linked_to passes h.invoked id c
  linked_same passes c = grind arith

  any_linked : (passes : Code → Code → Bool)
      → list_any (invokes_link id (λ linked code. list_any (invokes_where linked (λ to. passes to code)) h.invoked)) h.incoming
      ≡ list_any (is_linked_to passes h.invoked id) h.incoming
  any_linked passes = any_agree _ _ h.incoming (linked_same passes)

  fine_same : (problem : ℕ)
      → is_link_fine_by table (counted_of table h all before own) id problem ≡ is_link_fine table h id problem
  fine_same problem =
      ap₂ (λ a b. (problem == 6 && not a) || (problem == 7 && not b)) (any_linked (λ to code. lists_nothing table to))
      (any_linked (λ to code. not (lists_nothing table to) && not (links table to code)))

  invoke_wrong_same : (n : ℕ) → is_invoke_reject_wrong_by table (counted_of table h all before own) id n
      ≡ is_invoke_reject_wrong table h (before ++ Reject (Some id) (problems.Invoke n) ∷ []) id n
  invoke_wrong_same n =
      ap₂ (λ a b. a || b || nat_lt 7 n)
      (ap₂ (λ a b. a || b) (and_same (n == 0) _ _ again) (and_same (is_of_link n) _ _ linked)) (fine_same n)
    where
      c : Component
      c = Reject (Some id) (problems.Invoke n)

      passed : (passes : ℕ → Bool) → passes n ≡ true → rejects_invoke id passes c ≡ true
      passed passes is = rw (id_itself id, is) refl

      again : (n == 0) ≡ true
          → nat_le (count (is_sort table id (sorts.Invokes classes.Any)) h.incoming)
          (sum (count (rejects_invoke id (is_problem 0)) before) 1)
          ≡ nat_le (count (invokes id) h.incoming) (count (rejects_invoke id (is_problem 0)) (before ++ c ∷ []))
      again is = ap₂ nat_le (count_invokes table id h.incoming)
          (one_more (rejects_invoke id (is_problem 0)) before c few (passed (is_problem 0) is))

      linked : is_of_link n ≡ true
          → nat_lt (count (invokes_linked id) h.incoming) (sum (count (rejects_invoke id is_of_link) before) 1)
          ≡ nat_lt (count (invokes_linked id) h.incoming) (count (rejects_invoke id is_of_link) (before ++ c ∷ []))
      linked is = ap (nat_lt (count (invokes_linked id) h.incoming))
          (one_more (rejects_invoke id is_of_link) before c few (passed is_of_link is))

-- ---- Rejects of answers

-- Both sides compare the same numbers.
answer_same : (most problem answers : ℕ) (rejects suited : ℕ) (expected : Bool) (rejects' suited' : ℕ) (expected' : Bool)
    → rejects' ≡ rejects → suited' ≡ suited → expected' ≡ expected
    → (nat_lt answers rejects' || nat_lt most problem || ((problem == 1 && expected')
    || (nat_le 2 problem && (suited' == 0))))
    ≡ (nat_lt answers rejects || nat_lt most problem || (problem == 1 && expected) || (nat_le 2 problem && (suited == 0)))
answer_same most problem answers rejects suited expected rejects' suited' expected' same_rejects same_suited
    same_expected =
    rw (same_rejects, same_suited, same_expected)
    (either (nat_lt answers rejects || nat_lt most problem) (problem == 1 && expected) (nat_le 2 problem && (suited == 0)))
  where
    either : (a b c : Bool) → (a || (b || c)) ≡ (a || b || c)
    either a b c = grind arith

module _ (table : Table) (h : HalfMessages) (all before own : List Component) (few_incoming : AreFew h.incoming)
    (few_invoked : AreFew h.invoked) (few : AreFew before) (id : ℤ) where
  -- The number of own invocations whose class allows the answer.
  suited_same : (of_result : Bool) → suited_by of_result (tallied table h.invoked) id
      ≡ count_suited table of_result id h.invoked
  suited_same true = sum_few _ _ (omega (arith, few_invoked, of_class 1, of_class 3))
    where
      of_class : (class : ℕ) → count_class table id class h.invoked ≤ length h.invoked
      of_class class = count_within (invokes_where id (has_class table class)) h.invoked
  suited_same false = sum_few _ _ (omega (arith, few_invoked, of_class 1, of_class 2))
    where
      of_class : (class : ℕ) → count_class table id class h.invoked ≤ length h.invoked
      of_class class = count_within (invokes_where id (has_class table class)) h.invoked

  -- A Return Result of an operation that no own invocation has.
  none_same : (code : Code) → (count (invokes_where id (is_code code)) h.invoked == 0)
      ≡ not (list_any (invokes_where id (is_code code)) h.invoked)
  none_same code =
      none_counted (count (invokes_where id (is_code code)) h.invoked)
      ∙ ap not (any_counted (invokes_where id (is_code code)) h.invoked)
    where
      none_counted : (n : ℕ) → (n == 0) ≡ not (nat_lt 0 n)
      none_counted n = grind (arith, nat_tests)

  unknown_same : (c : Component)
      → results_where id (λ code. count (invokes_where id (is_code code)) h.invoked == 0) c ≡ is_of_no_operation h id c
  unknown_same (ReturnResult last other (Some body)) = ap (λ b. is_invoke_id id other && b) (none_same body.code)
  unknown_same c = refl

  -- Whether no answer can be unexpected.
  expected_same : (of_result : Bool)
      → is_expected_by (counted_of table h all before own) of_result id ≡ is_expected table h of_result id
  expected_same of_result =
      rw (suited_same of_result, count_invokes table id h.invoked, incoming, unknown) refl
    where
      incoming : sum (count (is_result id) h.incoming) (count (is_error id) h.incoming)
          ≡ count (is_result id) h.incoming + count (is_error id) h.incoming
      incoming = sum_few _ _
          (omega (arith, few_incoming, count_within (is_result id) h.incoming, count_within (is_error id) h.incoming))

      unknown : list_any (results_where id (λ code. count (invokes_where id (is_code code)) h.invoked == 0)) h.incoming
          ≡ list_any (is_of_no_operation h id) h.incoming
      unknown = any_agree _ _ h.incoming unknown_same

  result_wrong_same : (n : ℕ) → is_answer_reject_wrong_by (counted_of table h all before own) true id n
      ≡ is_reject_wrong table h (before ++ Reject (Some id) (problems.ReturnResult n) ∷ []) id (problems.ReturnResult n)
  result_wrong_same n =
      answer_same 2 n (count (is_result id) h.incoming) (count (rejects_result id any_problem) (before ++ c ∷ []))
      (count_suited table true id h.invoked) (is_expected table h true id) _ _ _
      (one_more (rejects_result id any_problem) before c few (ap (λ b. b && true) (id_itself id))) (suited_same true)
      (expected_same true)
    where
      c : Component
      c = Reject (Some id) (problems.ReturnResult n)

  error_wrong_same : (n : ℕ) → is_answer_reject_wrong_by (counted_of table h all before own) false id n
      ≡ is_reject_wrong table h (before ++ Reject (Some id) (problems.ReturnError n) ∷ []) id (problems.ReturnError n)
  error_wrong_same n =
      answer_same 4 n (count (is_error id) h.incoming) (count (rejects_error id any_problem) (before ++ c ∷ []))
      (count_suited table false id h.invoked) (is_expected table h false id) _ _ _
      (one_more (rejects_error id any_problem) before c few (ap (λ b. b && true) (id_itself id))) (suited_same false)
      (expected_same false)
    where
      c : Component
      c = Reject (Some id) (problems.ReturnError n)

-- Whether a component has F13.
pub rejects_wrongly_same : (table : Table) (h : HalfMessages) (all before own : List Component) → AreFew h.incoming
    → AreFew h.invoked → AreFew before → (c : Component)
    → rejects_wrongly_by table (counted_of table h all before own) c ≡ rejects_wrongly table h own before c
rejects_wrongly_same table h all before own few_incoming few_invoked few (Reject (Some id) (problems.Invoke n)) =
    invoke_wrong_same table h all before own few id n
rejects_wrongly_same table h all before own few_incoming few_invoked few (Reject (Some id) (problems.ReturnResult n)) =
    result_wrong_same table h all before own few_incoming few_invoked few id n
rejects_wrongly_same table h all before own few_incoming few_invoked few (Reject (Some id) (problems.ReturnError n)) =
    error_wrong_same table h all before own few_incoming few_invoked few id n
rejects_wrongly_same table h all before own few_incoming few_invoked few c = refl
