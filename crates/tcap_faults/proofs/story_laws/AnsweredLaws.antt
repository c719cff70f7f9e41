-- Which received invocations each sort of sent component takes, and which Invokes brought them (Q.774 3.2, Q.771
-- 3.1).
use Rattle.std.proofs.Common.{◌≡◌, ◌⊎◌, inl, inr, ℤ, ◌+◌, ◌≤◌, arith, Bool, true, false, cond, List, Some, None, refl}
use Rattle.std.specs.Prelude.{◌&&◌, ◌||◌, option_map}
use Rattle.std.proofs.lemmas.Bool.{and_parts, or_cases, or_left, or_right}
use Rattle.tcap_parts.specs.declared.code.Code.{Code}
use Rattle.tcap_parts.specs.declared.problem.Problem.TheVariants as problems
use Rattle.tcap_parts.specs.declared.component.Component.{Component}
use Rattle.tcap_parts.specs.declared.component.Component.TheVariants.{Invoke, ReturnResult, ReturnError, Reject}
use Rattle.tcap_end.specs.Table.{Table}
use Rattle.tcap_end.specs.Half.{Invocation}
use Rattle.tcap_end.specs.Component.{class_reports, is_code, may_answer}
use Rattle.tcap_refute.specs.EarlierMessages.{invokes, is_invoke_id}
use Rattle.tcap_faults.specs.Counts.{any_problem, count, invokes_where, is_error, is_last_result, is_result_of, rejects_invoke, takes}
use Rattle.tcap_faults.proofs.list_laws.CountLaws.{count_apart, count_covered}
use Rattle.tcap_faults.proofs.story_laws.ReceivedComponentLaws.{item_of}
use Rattle.tcap_faults.proofs.story_laws.InvokeListLaws.{TakesWhat, gain}
use Rattle.tcap_faults.proofs.story_laws.ComponentStepLaws.{takes_inn}
use Rattle.tcap_faults.proofs.story_laws.ReceivedInvocationLaws.{IsBrought, IsTaking}
use Rattle.tcap_faults.proofs.component_laws.CodeListLaws.{code_same}

-- ---- codes

-- ---- which Invoke brings an invocation

-- An invocation whose operation passes was brought by an Invoke of such an operation.
pub code_brought : (table : Table) (x : ℤ) (test : Code → Bool)
    → IsBrought table x (λ item. test item.code) (invokes_where x test)
code_brought table x test h (Invoke id linked code parameter) = λ h1. grind (arith, h1)
code_brought table x test h c = λ is. cc

-- Each invocation was brought by an Invoke.
pub any_brought : (table : Table) (x : ℤ) → IsBrought table x (λ item. true) (invokes x)
any_brought table x h (Invoke id linked code parameter) = λ h1. grind (arith, h1)
any_brought table x h c = λ is. cc

-- ---- which component takes an invocation

-- A Return Result Last takes an invocation whose class reports success.
pub result_takes : (table : Table) (x : ℤ)
    → IsTaking table x (is_last_result x) (λ item. class_reports table true item.code)
result_takes table x (ReturnResult last id body) is =
    let (is_last, here) = and_parts last (is_invoke_id x id) is in
    rw (is_last, here) (λ item fits. (and_parts (class_reports table true item.code) _ fits).0)
result_takes table x c is = cc

-- A Return Error takes an invocation whose class reports failure.
pub error_takes : (table : Table) (x : ℤ) → IsTaking table x (is_error x) (λ item. class_reports table false item.code)
error_takes table x (ReturnError id code parameter) is =
    rw is (λ item fits. (and_parts (class_reports table false item.code) _ fits).0)
error_takes table x c is = cc

-- A Return Result Last that names an operation takes an invocation of that operation.
pub named_takes : (table : Table) (x : ℤ) (code : Code)
    → IsTaking table x (is_result_of x code) (λ item. is_code code item.code)
named_takes table x code (ReturnResult last id (Some body)) is =
    let (before, same) = and_parts (last && is_invoke_id x id) (is_code code body.code) is in
    let (is_last, here) = and_parts last (is_invoke_id x id) before in
    let one : code ≡ body.code = code_same code body.code same in
    rw (is_last, here, one)
    (λ item fits. (and_parts (class_reports table true item.code) (is_code body.code item.code) fits).1)
named_takes table x code c is = cc

-- A Return Result Last or a Return Error takes an invocation whose class reports success or failure.
pub answer_takes : (table : Table) (x : ℤ) → IsTaking table x (λ c. is_last_result x c || is_error x c)
    (λ item. class_reports table true item.code || class_reports table false item.code)
answer_takes table x (ReturnResult last id body) is = by (or_cases _ _ is)
  where
    by : ((last && is_invoke_id x id) ≡ true) ⊎ (false ≡ true)
        → TakesWhat (takes_inn table x (ReturnResult last id body))
        (λ item. class_reports table true item.code || class_reports table false item.code)
    by (inl so) =
        let (is_last, here) = and_parts last (is_invoke_id x id) so in
        rw (is_last, here)
        (λ item fits. or_left _ _ ((and_parts (class_reports table true item.code) _ fits).0))
    by (inr so) = cc
answer_takes table x (ReturnError id code parameter) is =
    rw is (λ item fits. or_right _ _ ((and_parts (class_reports table false item.code) _ fits).0))
answer_takes table x c is = cc

-- These, and a Reject with an invoke problem, take an invocation of any class.
pub any_takes : (table : Table) (x : ℤ) → IsTaking table x (takes x) (λ item. true)
any_takes table x (ReturnResult last id body) is = by last (is_invoke_id x id) is
  where
    by : (l b : Bool) → (l && b || false || false) ≡ true
        → TakesWhat (cond l (cond b (Some (may_answer table true (option_map (λ r. r.code) body))) None) None)
        (λ (item : Invocation). true)
    by true true is = λ item fits. refl
    by true false is = cc
    by false b is = cc
any_takes table x (ReturnError id code parameter) is = by (is_invoke_id x id) is
  where
    by : (b : Bool) → (false || b || false) ≡ true
        → TakesWhat (cond b (Some (may_answer table false None)) None) (λ (item : Invocation). true)
    by true is = λ item fits. refl
    by false is = cc
any_takes table x (Reject (Some id) (problems.Invoke n)) is =
    rw ((and_parts (is_invoke_id x id) true is).0) (λ item fits. refl)
any_takes table x c is = cc

-- A test that never holds takes none.
pub none_takes : (table : Table) (x : ℤ) (passes : Invocation → Bool) → IsTaking table x (λ c. false) passes
none_takes table x passes c is = cc

-- ---- sorts of components

-- No component is a Return Result Last and a Return Error.
not_both : (x : ℤ) (c : Component) → is_last_result x c ≡ true → is_error x c ≡ true → ⊥
not_both x c first second = grind (arith, first, second)

not_third : (x : ℤ) (c : Component) → (is_last_result x c || is_error x c) ≡ true
    → rejects_invoke x any_problem c ≡ true → ⊥
not_third x c first second = grind (arith, first, second)

-- Results and errors are counted together.
pub count_answers : (x : ℤ) (cs : List Component)
    → count (is_last_result x) cs + count (is_error x) cs ≤ count (λ c. is_last_result x c || is_error x c) cs
count_answers x cs =
    count_apart (is_last_result x) (is_error x) (λ c. is_last_result x c || is_error x c) cs (λ c is. or_left _ _ is)
    (λ c is. or_right _ _ is) (not_both x)

-- Results, errors and Rejects are counted together.
pub count_takes : (x : ℤ) (cs : List Component)
    → count (is_last_result x) cs + count (is_error x) cs + count (rejects_invoke x any_problem) cs ≤ count (takes x) cs
count_takes x cs =
    omega (
      arith,
      count_answers x cs,
      count_apart (λ c. is_last_result x c || is_error x c) (rejects_invoke x any_problem) (takes x) cs
          (λ c is. or_left (is_last_result x c || is_error x c) (rejects_invoke x any_problem c) is)
          (λ c is. or_right (is_last_result x c || is_error x c) (rejects_invoke x any_problem c) is) (not_third x),
    )

-- The count of all is at most the sum of the three counts.
pub count_takes_all : (x : ℤ) (cs : List Component)
    → count (takes x) cs ≤ count (is_last_result x) cs + count (is_error x) cs + count (rejects_invoke x any_problem) cs
count_takes_all x cs =
    omega (
      arith,
      count_covered (λ c. is_last_result x c || is_error x c) (rejects_invoke x any_problem) (takes x) cs
          (λ c is. is),
      count_covered (is_last_result x) (is_error x) (λ c. is_last_result x c || is_error x c) cs (λ c is. is),
    )
