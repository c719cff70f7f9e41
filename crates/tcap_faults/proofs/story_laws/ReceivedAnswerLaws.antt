-- The answers that a half received: its Rejects took some of them, and the others allow certain problems (Q.773
-- 4.2.2, Q.774 3.2).
use Rattle.std.proofs.Common.{◌≡◌, ℕ, ℤ, ◌+◌, ◌≤◌, arith, Bool, true, false, cond, List, [], ◌∷◌, Option, Some, None, not, refl, ap}
use Rattle.std.specs.Prelude.{◌&&◌, option_map}
use Rattle.std.specs.List.{list_any}
use Rattle.std.proofs.lemmas.Bool.{and_from, and_parts}
use Rattle.tcap_parts.specs.declared.code.Code.{Code}
use Rattle.tcap_parts.specs.declared.problem.Problem.TheVariants as problems
use Rattle.tcap_parts.specs.declared.component.Component.{Component}
use Rattle.tcap_parts.specs.declared.component.Component.TheVariants.{ReturnResult, ReturnError, Reject}
use Rattle.tcap_end.specs.Class.{of_class, reports}
use Rattle.tcap_end.specs.Table.{Table, class_of}
use Rattle.tcap_end.specs.Half.{Answer, Half, listed}
use Rattle.tcap_end.specs.Component.{allows_for, answer_problems, class_reports, operation_sent}
use Rattle.tcap_refute.specs.EarlierMessages.{is_invoke_id}
use Rattle.tcap_faults.specs.Components.{is_problem}
use Rattle.tcap_faults.specs.Counts.{count, invokes_where, is_error, is_result, rejects_error, rejects_result}
use Rattle.tcap_faults.proofs.story_laws.Stories.{Happening, IsLed, got_in, sent_in}
use Rattle.tcap_faults.proofs.list_laws.CountLaws.{count_more, one}
use Rattle.tcap_faults.proofs.story_laws.ReceivedComponentLaws.{answered_by, gains_grants, grant_of, problems_of}
use Rattle.tcap_faults.proofs.story_laws.InvokeListLaws.{TakesWhat, gain, id_same}
use Rattle.tcap_faults.proofs.story_laws.OwnInvocationLaws.{is_sent_so, sent_invoked, sent_so}
use Rattle.tcap_faults.proofs.story_laws.InvokeRejectLaws.{one_found}
use Rattle.tcap_faults.proofs.story_laws.ComponentStepLaws.{takes_grants}
use Rattle.tcap_faults.proofs.story_laws.ReceivedInvocationLaws.{grants_of, spent, spent_shown}

-- ---- two sorts of answers: Return Results (`true`) and Return Errors

-- A Reject of an answer with this ID, whose problem passes.
abbrev pub rejects_of : Bool → ℤ → (ℕ → Bool) → Component → Bool
rejects_of true x passes c = rejects_result x passes c
rejects_of false x passes c = rejects_error x passes c

-- An answer with this ID.
abbrev pub answers_of : Bool → ℤ → Component → Bool
answers_of true x c = is_result x c
answers_of false x c = is_error x c

-- A received answer that allows a problem that passes.
abbrev pub grant_so : Bool → (ℕ → Bool) → Answer → Bool
grant_so sort passes answer = cond sort answer.is_result (not answer.is_result) && list_any passes answer.problems

-- ---- which component takes an answer

-- A Reject whose problem passes takes an answer that allows such a problem.
pub grant_found : (sort : Bool) (n : ℕ) (passes : ℕ → Bool) → passes n ≡ true → (answer : Answer)
    → allows_for sort n answer ≡ true → grant_so sort passes answer ≡ true
grant_found sort n passes pass answer is =
    let (of_sort, has) = and_parts (cond sort answer.is_result (not answer.is_result)) _ is in
    and_from (cond sort answer.is_result (not answer.is_result)) (list_any passes answer.problems) of_sort
    (one_found n passes answer.problems has pass)

pub grant_takes : (sort : Bool) (x : ℤ) (passes : ℕ → Bool) (c : Component) → rejects_of sort x passes c ≡ true
    → TakesWhat (takes_grants x c) (grant_so sort passes)
grant_takes true x passes (Reject (Some id) (problems.ReturnResult n)) is =
    let (here, pass) = and_parts (is_invoke_id x id) (passes n) is in rw here (grant_found true n passes pass)
grant_takes false x passes (Reject (Some id) (problems.ReturnError n)) is =
    let (here, pass) = and_parts (is_invoke_id x id) (passes n) is in rw here (grant_found false n passes pass)
grant_takes true x passes c is = cc
grant_takes false x passes c is = cc

-- ---- which component brings an answer

-- An answer that allows a problem that passes was brought by a component of its sort, and its operation allows the
-- problem.
pub granted : (table : Table) (h : Half) (x : ℤ) (c : Component) (sort : Bool) (passes : ℕ → Bool)
    → gain (grant_so sort passes) (gains_grants table h x c) ≡ true → (answers_of sort x c ≡ true)
    × (list_any passes (problems_of sort (answered_by table (operation_sent h x))) ≡ true)
granted table h x (ReturnResult last id body) sort passes = by (is_invoke_id x id) refl sort
  where
    by : (b : Bool) → is_invoke_id x id ≡ b → (sort : Bool)
        → gain (grant_so sort passes) (cond b (Some (grant_of table true (operation_sent h id))) None) ≡ true
        → (answers_of sort x (ReturnResult last id body) ≡ true)
        × (list_any passes (problems_of sort (answered_by table (operation_sent h x))) ≡ true)
    by true here true is = (here, rw (id_same x id here) is)
    by true here false is = cc
    by false other sort is = cc
granted table h x (ReturnError id code parameter) sort passes = by (is_invoke_id x id) refl sort
  where
    by : (b : Bool) → is_invoke_id x id ≡ b → (sort : Bool)
        → gain (grant_so sort passes) (cond b (Some (grant_of table false (operation_sent h id))) None) ≡ true
        → (answers_of sort x (ReturnError id code parameter) ≡ true)
        × (list_any passes (problems_of sort (answered_by table (operation_sent h x))) ≡ true)
    by true here true is = cc
    by true here false is = (here, rw (id_same x id here) is)
    by false other sort is = cc
granted table h x c sort passes = λ is. cc

-- ---- what a problem shows

-- A problem other than 0 and 1 shows that the class reports such an answer.
pub shows_reported : (table : Table) (sort : Bool) (passes : ℕ → Bool) (o : Option Code) → passes 0 ≡ false
    → passes 1 ≡ false → list_any passes (problems_of sort (answered_by table o)) ≡ true
    → (sent_so (class_reports table sort) o ≡ true) × (list_any passes (answer_problems sort) ≡ true)
shows_reported table sort passes None not_0 not_1 found = let bad = rw not_0 at found in cc
shows_reported table sort passes (Some code) not_0 not_1 found = by (class_of table code) found
  where
    by_reports : (class : ℕ) (b : Bool) → reports sort class ≡ b
        → list_any passes (cond b (answer_problems sort) (1 ∷ [])) ≡ true
        → (reports sort class ≡ true) × (list_any passes (answer_problems sort) ≡ true)
    by_reports class true is found = (is, found)
    by_reports class false is found = let bad = rw not_1 at found in cc

    by : (o : Option ℕ) → list_any passes (problems_of sort (option_map (λ class. (code, class)) o)) ≡ true
        → (of_class (reports sort) o ≡ true) × (list_any passes (answer_problems sort) ≡ true)
    by None found = let bad = rw not_0 at found in cc
    by (Some class) found = by_reports class (reports sort class) refl found

-- Problem 1 shows that the class does not report such an answer.
pub shows_other : (table : Table) (sort : Bool) (o : Option Code)
    → list_any (is_problem 1) (problems_of sort (answered_by table o)) ≡ true
    → sent_so (λ code. not (class_reports table sort code)) o ≡ true
shows_other table sort None found = cc
shows_other table sort (Some code) found = by (class_of table code) found
  where
    never : (s : Bool) → list_any (is_problem 1) (answer_problems s) ≡ false
    never s = grind arith

    by_reports : (class : ℕ) (b : Bool) → reports sort class ≡ b
        → list_any (is_problem 1) (cond b (answer_problems sort) (1 ∷ [])) ≡ true
        → not (reports sort class) ≡ true
    by_reports class true is found = let bad = never sort in cc
    by_reports class false is found = ap not is

    by : (o : Option ℕ) → list_any (is_problem 1) (problems_of sort (option_map (λ class. (code, class)) o)) ≡ true
        → not (of_class (reports sort) o) ≡ true
    by None found = refl
    by (Some class) found = by_reports class (reports sort class) refl found

-- ---- along what happened to a half

module _ (table : Table) (x : ℤ) (sort : Bool) (passes : ℕ → Bool) where
  -- Rejects and the answers that are left are at most the answers that were received.
  pub rejected : (past : List Happening) (h : Half) → IsLed table past h
      → count (rejects_of sort x passes) (sent_in past) + count (grant_so sort passes) (listed x h.grants)
      ≤ count (answers_of sort x) (got_in past)
  rejected =
      spent table (grants_of table x) (rejects_of sort x passes) (grant_so sort passes) (grant_takes sort x passes)
      (answers_of sort x) (λ h c gained. (granted table h x c sort passes gained).0)

  -- If the problem of a left answer shows an operation that passes, an own invocation has such an operation.
  pub shown : (test : Code → Bool) → ((o : Option Code)
      → list_any passes (problems_of sort (answered_by table o)) ≡ true → sent_so test o ≡ true)
      → (past : List Happening) (h : Half) → IsLed table past h
      → 1 ≤ count (grant_so sort passes) (listed x h.grants) → 1 ≤ count (invokes_where x test) (sent_in past)
  shown test shows =
      spent_shown table (grants_of table x) (rejects_of sort x passes) (grant_so sort passes) (grant_takes sort x passes)
      (λ past. count (invokes_where x test) (sent_in past))
      (λ past c. omega (arith, count_more (invokes_where x test) c (sent_in past))) (λ past c. omega arith)
      (λ past id. omega arith)
      (λ past g c led gained.
      let sent : is_sent_so test g x ≡ true = shows (operation_sent g x) (granted table g x c sort passes gained).1 in
      omega (arith, ap one sent, sent_invoked table test x past g led))
