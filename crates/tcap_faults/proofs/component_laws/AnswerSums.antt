-- F12 from counts is F12, if few components are counted (Q.774 3.2, Q.771 3.1).
use Rattle.std.proofs.Common.{◌≡◌, ℕ, ℤ, ◌+◌, ◌^◌, ◌≤◌, ◌<◌, arith, Bool, true, false, ltb, List, [], ◌∷◌, ◌++◌, Option, Some, None, refl, ap, ◌∙◌, ap₂}
use Rattle.std.specs.Prelude.{◌||◌, ◌&&◌}
use Rattle.tcap_parts.specs.declared.problem.Problem.TheVariants as problems
use Rattle.tcap_parts.specs.declared.component.ResultBody.{ResultBody}
use Rattle.tcap_parts.specs.declared.component.Component.{Component}
use Rattle.tcap_parts.specs.declared.component.Component.TheVariants.{ReturnResult, ReturnError, Reject}
use Rattle.tcap_end.specs.Table.{Table}
use Rattle.tcap_faults.specs.Counts.{any_problem, count, is_error, is_last_result, rejects_invoke}
use Rattle.tcap_faults.specs.ComponentKinds.{answers_again, is_operation_overspent, is_overspent, more_answered}
use Rattle.tcap_faults.specs.HalfByPeerId.{HalfMessages}
use Rattle.tcap_faults.specs.declared.component.component_sort.Class.{Class}
use Rattle.tcap_faults.specs.declared.component.component_sort.Class.TheVariants as classes
use Rattle.tcap_faults.specs.declared.component.component_sort.Sort.TheVariants as sorts
use Rattle.tcap_faults.specs.InvokeCounts.{AreFew, is_sort, sum, tallied}
use Rattle.tcap_faults.specs.KindsByCounts.{answers_again_by, is_operation_overspent_by, is_overspent_by, more_answered_by}
use Rattle.tcap_faults.proofs.list_laws.CountLaws.{count_last, one}
use Rattle.tcap_faults.proofs.story_laws.InvokeListLaws.{id_itself}
use Rattle.tcap_faults.proofs.component_laws.FewSums.{count_invokes, count_within}
use Rattle.tcap_faults.proofs.component_laws.InvokeSums.{counted_of}
use Rattle.tcap_faults.proofs.component_laws.SumLaws.{sum_few}

-- Sums of few counts are exact.
answered_same : (of_1 of_2 of_3 all results errors rejects : ℕ) → of_1 ≤ 2 ^ 126 → of_2 ≤ 2 ^ 126 → of_3 ≤ 2 ^ 126
    → results + errors + rejects < 2 ^ 128
    → (ltb (sum of_1 of_3) results || ltb (sum of_1 of_2) errors || ltb (sum (sum of_1 of_2) of_3) (sum results errors)
    || ltb all (sum (sum results errors) rejects))
    ≡ (ltb (of_1 + of_3) results || ltb (of_1 + of_2) errors || ltb (of_1 + of_2 + of_3) (results + errors)
    || ltb all (results + errors + rejects))
answered_same of_1 of_2 of_3 all results errors rejects few_1 few_2 few_3 few =
    rw (
      sum_few of_1 of_3 (omega arith),
      sum_few of_1 of_2 (omega arith),
      sum_few (of_1 + of_2) of_3 (omega arith),
      sum_few results errors (omega arith),
      sum_few (results + errors) rejects (omega arith),
    ) refl

module _ (table : Table) (h : HalfMessages) (few_incoming : AreFew h.incoming) (id : ℤ) where
  -- Whether more is answered than was heard.
  more_same : (results errors rejects : ℕ) → results + errors + rejects < 2 ^ 128
      → more_answered_by (tallied table h.incoming) id results errors rejects
      ≡ more_answered table h id results errors rejects
  more_same results errors rejects few =
      answered_same (of_class classes.One) (of_class classes.Two) (of_class classes.Three) (of_class classes.Any) results
      errors rejects (few_of classes.One) (few_of classes.Two) (few_of classes.Three) few
      ∙ ap (λ all. ltb (of_class classes.One + of_class classes.Three) results
      || ltb (of_class classes.One + of_class classes.Two) errors
      || ltb (of_class classes.One + of_class classes.Two + of_class classes.Three) (results + errors)
      || ltb all (results + errors + rejects)) (count_invokes table id h.incoming)
    where
      of_class : Class → ℕ
      of_class class = count (is_sort table id (sorts.Invokes class)) h.incoming

      few_of : (class : Class) → of_class class ≤ 2 ^ 126
      few_of class = omega (arith, few_incoming, count_within (is_sort table id (sorts.Invokes class)) h.incoming)

  module _ (all before own : List Component) (few : AreFew before) where
    -- Whether what was sent answers more, with so many components besides.
    overspent_same : (results errors rejects : ℕ) → results + errors + rejects ≤ 1
        → is_overspent_by (counted_of table h all before own) id results errors rejects
        ≡ more_answered table h id (count (is_last_result id) before + results) (count (is_error id) before + errors)
        (count (rejects_invoke id any_problem) before + rejects)
    overspent_same results errors rejects one_more =
        rw (
          sum_few (count (is_last_result id) before) results (omega (arith, few_so (is_last_result id))),
          sum_few (count (is_error id) before) errors (omega (arith, few_so (is_error id))),
          sum_few (count (rejects_invoke id any_problem) before) rejects
              (omega (arith, few_so (rejects_invoke id any_problem))),
        ) (more_same _ _ _ (omega (
          arith,
          few_so (is_last_result id),
          few_so (is_error id),
          few_so (rejects_invoke id any_problem),
        )))
      where
        few_so : (passes : Component → Bool) → count passes before ≤ 2 ^ 126
        few_so passes = omega (arith, few, count_within passes before)

    -- Whether what was sent answers more, with this component.
    behind : (c : Component) (results errors rejects : ℕ) → one (is_last_result id c) ≡ results
        → one (is_error id c) ≡ errors → one (rejects_invoke id any_problem c) ≡ rejects
        → results + errors + rejects ≤ 1
        → is_overspent_by (counted_of table h all before own) id results errors rejects
        ≡ is_overspent table h id (before ++ c ∷ []) 0
    behind c results errors rejects is_results is_errors is_rejects one_more =
        overspent_same results errors rejects one_more
        ∙ rw (same_results, same_errors, same_rejects) refl
      where
        same_results : count (is_last_result id) before + results ≡ count (is_last_result id) (before ++ c ∷ []) + 0
        same_results = omega (arith, count_last (is_last_result id) before c, is_results)

        same_errors : count (is_error id) before + errors ≡ count (is_error id) (before ++ c ∷ [])
        same_errors = omega (arith, count_last (is_error id) before c, is_errors)

        same_rejects : count (rejects_invoke id any_problem) before + rejects
            ≡ count (rejects_invoke id any_problem) (before ++ c ∷ [])
        same_rejects = omega (arith, count_last (rejects_invoke id any_problem) before c, is_rejects)

    -- A Return Result Not Last counts as one Return Result besides.
    besides : is_overspent_by (counted_of table h all before own) id 1 0 0 ≡ is_overspent table h id before 1
    besides =
        overspent_same 1 0 0 (omega arith)
        ∙ ap₂ (more_answered table h id (count (is_last_result id) before + 1)) (omega arith) (omega arith)

    operation_same : (body : Option ResultBody)
        → is_operation_overspent_by (counted_of table h all before own) id body ≡ is_operation_overspent h before id body
    operation_same body = grind arith

-- Whether a component has F12.
pub answers_again_same : (table : Table) (h : HalfMessages) (all before own : List Component) → AreFew h.incoming → AreFew before
    → (c : Component) → answers_again_by (counted_of table h all before own) c ≡ answers_again table h own before c
answers_again_same table h all before own few_incoming few (ReturnResult true id body) =
    ap₂ (λ a b. a || b)
    (behind table h few_incoming id all before own few (ReturnResult true id body) 1 0 0 (ap one (id_itself id)) refl refl
    (omega arith)) (operation_same table h few_incoming id all before own few body)
answers_again_same table h all before own few_incoming few (ReturnResult false id body) =
    ap₂ (λ a b. a || b) (besides table h few_incoming id all before own few)
    (operation_same table h few_incoming id all before own few body)
answers_again_same table h all before own few_incoming few (ReturnError id code parameter) =
    behind table h few_incoming id all before own few (ReturnError id code parameter) 0 1 0 refl (ap one (id_itself id)) refl
    (omega arith)
answers_again_same table h all before own few_incoming few (Reject (Some id) (problems.Invoke n)) =
    behind table h few_incoming id all before own few (Reject (Some id) (problems.Invoke n)) 0 0 1 refl refl
    (ap (λ b. one (b && true)) (id_itself id)) (omega arith)
answers_again_same table h all before own few_incoming few c = refl
