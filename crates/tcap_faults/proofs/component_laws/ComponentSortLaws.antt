-- A component with an invoke ID is of a sort exactly if it has the ID, and is of the sort apart from the ID.
use Rattle.std.proofs.Common.{◌≡◌, ℕ, ℤ, Bool, true, false, ◌&&◌, List, Option, Some, None, not, refl, sym, arith}
use Rattle.tcap_parts.specs.declared.code.Code.{Code}
use Rattle.tcap_parts.specs.declared.problem.Problem.{Problem}
use Rattle.tcap_parts.specs.declared.problem.Problem.TheVariants as problems
use Rattle.tcap_parts.specs.declared.component.ResultBody.{ResultBody}
use Rattle.tcap_parts.specs.declared.component.Component.{Component}
use Rattle.tcap_parts.specs.declared.component.Component.TheVariants.{Invoke, ReturnResult, ReturnError, Reject}
use Rattle.tcap_end.specs.Table.{Table}
use Rattle.tcap_refute.specs.EarlierMessages.{is_invoke_id}
use Rattle.tcap_refute.proofs.TestLaws.{and_false, and_true}
use Rattle.tcap_faults.specs.Counts.{invokes_where, is_result_of}
use Rattle.tcap_faults.specs.declared.component.component_sort.Sort.{Sort}
use Rattle.tcap_faults.specs.declared.component.component_sort.Sort.TheVariants as sorts
use Rattle.tcap_faults.specs.InvokeCounts.{invokes_link, is_sort, results_where}
use Rattle.tcap_faults.specs.CountUpdate.{answers_by, error_has, has_sort, invoke_has, invoke_id, invokes_by, is_its_id, links_where, names_code, reject_has, result_has}
use Rattle.tcap_faults.proofs.list_laws.TwoTests.{and_turned}

module _ (table : Table) (id : ℤ) where
  invoke_sort : (n : ℤ) (linked : Option ℤ) (code : Code) (parameter : Option (List ℕ)) (sort : Sort)
      → is_sort table id sort (Invoke n linked code parameter)
      ≡ (is_invoke_id id n && invoke_has table linked code sort)
  invoke_sort n linked code parameter sort = grind arith

  result_sort : (last : Bool) (n : ℤ) (body : Option ResultBody) (sort : Sort)
      → is_sort table id sort (ReturnResult last n body) ≡ (is_invoke_id id n && result_has last sort)
  result_sort last n body sort = grind arith

  error_sort : (n : ℤ) (code : Code) (parameter : Option (List ℕ)) (sort : Sort)
      → is_sort table id sort (ReturnError n code parameter) ≡ (is_invoke_id id n && error_has sort)
  error_sort n code parameter sort = grind arith

  no_sort : (problem : Problem) (sort : Sort) → is_sort table id sort (Reject None problem) ≡ false
  no_sort problem sort = grind arith

  reject_sort : (n : ℤ) (problem : Problem) (sort : Sort)
      → is_sort table id sort (Reject (Some n) problem) ≡ (is_invoke_id id n && reject_has problem sort)
  reject_sort n problem sort = grind arith

  pub its_sort : (sort : Sort) (c : Component)
      → is_sort table id sort c ≡ (is_its_id id (invoke_id c) && has_sort table sort c)
  its_sort sort (Invoke n linked code parameter) = invoke_sort n linked code parameter sort
  its_sort sort (ReturnResult last n body) = result_sort last n body sort
  its_sort sort (ReturnError n code parameter) = error_sort n code parameter sort
  its_sort sort (Reject None problem) = no_sort problem sort
  its_sort sort (Reject (Some n) problem) = reject_sort n problem sort

module _ (id : ℤ) where
  pub its_operation : (passes : Code → Bool) (c : Component)
      → invokes_where id passes c ≡ (is_its_id id (invoke_id c) && invokes_by passes c)
  its_operation passes c = grind arith

  pub its_name : (code : Code) (c : Component)
      → is_result_of id code c ≡ (is_its_id id (invoke_id c) && names_code code c)
  its_name code c = grind arith

  pub its_link : (passes : ℤ → Code → Bool) (c : Component)
      → invokes_link id passes c ≡ (is_its_id id (invoke_id c) && links_where passes c)
  its_link passes c = grind arith

  pub its_answer : (passes : Code → Bool) (c : Component)
      → results_where id passes c ≡ (is_its_id id (invoke_id c) && answers_by passes c)
  its_answer passes c = grind arith
