-- What a sent or received component changes in what a half keeps of one invoke ID (Q.774 3.2).
use Rattle.std.proofs.Common.{◌≡◌, ℕ, ℤ, Bool, true, false, cond, Option, Some, None, Result, Ok, is_none, is_some, refl}
use Rattle.std.specs.Prelude.{option_map}
use Rattle.std.specs.BTreeMap.{insert_entry}
use Rattle.std.specs.Ordering.{int_cmp}
use Rattle.tcap_parts.specs.declared.code.Code.{Code}
use Rattle.tcap_parts.specs.declared.problem.Problem.{Problem}
use Rattle.tcap_parts.specs.declared.problem.Problem.TheVariants as problems
use Rattle.tcap_parts.specs.declared.component.Component.{Component}
use Rattle.tcap_parts.specs.declared.component.Component.TheVariants.{Invoke, ReturnResult, ReturnError, Reject}
use Rattle.tcap_end.specs.declared.fault.EndFault.{EndFault}
use Rattle.tcap_end.specs.declared.fault.EndFault.TheVariants as faults
use Rattle.tcap_end.specs.declared.half.InvocationState.TheVariants as states
use Rattle.tcap_end.specs.declared.own_invocations.OwnInvocation.{OwnInvocation}
use Rattle.tcap_end.specs.Table.{Table, operation_of}
use Rattle.tcap_end.specs.Half.{Answer, Half, Invocation, listed, one_fits, without_oldest_of}
use Rattle.tcap_end.specs.Component.{allows, allows_for, may_answer, may_link, own_invocation, send_answer, send_component, send_invoke, send_reject}
use Rattle.tcap_end.specs.ReachableEnd.{Rises}
use Rattle.tcap_end.proofs.AnsweringLaws.{needs_ok, ok_same}
use Rattle.tcap_end.proofs.StepLaws.{none_is}
use Rattle.tcap_refute.specs.EarlierMessages.{is_invoke_id}
use Rattle.tcap_faults.proofs.story_laws.InvokeListLaws.{Took, id_same, kept_inserted, took_of}

-- ---- the steps of sending

-- The step was Ok with this half.
this : (x k : Half) → (let r : Result Half EndFault = Ok x in r) ≡ Ok k → x ≡ k
this x k is = ok_same {F = EndFault} x k is

-- An Invoke is sent: its ID is free, and its linked ID names an invocation.
pub record Invokes (table : Table) (h k : Half) (id : ℤ) (linked : Option ℤ) (code : Code) : Type 0 where
  pub free : own_invocation h id ≡ None
  pub may : may_link table h linked code ≡ true
  pub is : record h { out = insert_entry int_cmp h.out id (record { code = code; state = states.OperationSent }) } ≡ k

pub invokes_step : (table : Table) (h k : Half) (id : ℤ) (linked : Option ℤ) (code : Code)
    → send_invoke table h id linked code ≡ Ok k → Invokes table h k id linked code
invokes_step table h k id linked code is =
    let known = needs_ok (is_some (operation_of table code)) faults.UnknownOperation _ k is in
    let free = needs_ok (is_none (own_invocation h id)) faults.InvokeIdBusy _ k known.1 in
    let may = needs_ok (may_link table h linked code) faults.BadLink _ k free.1 in
    record { free = none_is (own_invocation h id) free.0; may = may.0; is = this _ k may.1 }

-- An answer is sent: an invocation allows it, and the last answer takes the invocation.
pub record Answers (table : Table) (h k : Half) (is_result last : Bool) (id : ℤ) (named : Option Code) : Type 0 where
  pub class : one_fits id (may_answer table is_result None) h.inn ≡ true
  pub fits : one_fits id (may_answer table is_result named) h.inn ≡ true
  pub is : cond last (record h { inn = without_oldest_of id (may_answer table is_result named) h.inn }) h ≡ k

pub answers_step : (table : Table) (h k : Half) (is_result last : Bool) (id : ℤ) (named : Option Code)
    → send_answer table h is_result last id named ≡ Ok k → Answers table h k is_result last id named
answers_step table h k is_result last id named is =
    let some = needs_ok (one_fits id (λ item. true) h.inn) faults.NothingToAnswer _ k is in
    let class = needs_ok (one_fits id (may_answer table is_result None) h.inn) faults.ClassForbids _ k some.1 in
    let fits = needs_ok (one_fits id (may_answer table is_result named) h.inn) faults.WrongOperation _ k class.1 in
    record { class = class.0; fits = fits.0; is = this _ k fits.1 }

-- A Reject is sent: something allows its problem, and is taken.
pub rejects_invoke_step : (h k : Half) (id : ℤ) (n : ℕ) → send_reject h (Some id) (problems.Invoke n) ≡ Ok k
    → (one_fits id (allows n) h.inn ≡ true) × (record h { inn = without_oldest_of id (allows n) h.inn } ≡ k)
rejects_invoke_step h k id n is =
    let one = needs_ok (one_fits id (allows n) h.inn) faults.RejectNotAllowed _ k is in (one.0, this _ k one.1)

abbrev pub answer_problem : Bool → ℕ → Problem
answer_problem true n = problems.ReturnResult n
answer_problem false n = problems.ReturnError n

pub rejects_answer_step : (h k : Half) (id : ℤ) (is_result : Bool) (n : ℕ)
    → send_reject h (Some id) (answer_problem is_result n) ≡ Ok k
    → (one_fits id (allows_for is_result n) h.grants ≡ true)
    × (record h { grants = without_oldest_of id (allows_for is_result n) h.grants } ≡ k)
rejects_answer_step h k id true n is =
    let one = needs_ok (one_fits id (allows_for true n) h.grants) faults.RejectNotAllowed _ k is in
    (one.0, this _ k one.1)
rejects_answer_step h k id false n is =
    let one = needs_ok (one_fits id (allows_for false n) h.grants) faults.RejectNotAllowed _ k is in
    (one.0, this _ k one.1)

-- ---- sending: received invocations

-- What a component takes from the invocations of an ID: the oldest that passes.
abbrev pub takes_inn : Table → ℤ → Component → Option (Invocation → Bool)
takes_inn table x (ReturnResult last id body) =
    cond last (cond (is_invoke_id x id) (Some (may_answer table true (option_map (λ b. b.code) body))) None) None
takes_inn table x (ReturnError id code parameter) = cond (is_invoke_id x id) (Some (may_answer table false None)) None
takes_inn table x (Reject (Some id) (problems.Invoke n)) = cond (is_invoke_id x id) (Some (allows n)) None
takes_inn table x c = None

answer_takes : (table : Table) (h k : Half) (x : ℤ) (is_result last : Bool) (id : ℤ) (named : Option Code)
    → Rises int_cmp h.inn → Answers table h k is_result last id named
    → Took (cond last (cond (is_invoke_id x id) (Some (may_answer table is_result named)) None) None) (listed x h.inn)
    (listed x k.inn)
answer_takes table h k x is_result last id named rises step = by last (step.is)
  where
    left : Half
    left = record h { inn = without_oldest_of id (may_answer table is_result named) h.inn }

    by : (b : Bool) → cond b left h ≡ k
        → Took (cond b (cond (is_invoke_id x id) (Some (may_answer table is_result named)) None) None) (listed x h.inn)
        (listed x k.inn)
    by true is = rw (← is) (took_of x id (may_answer table is_result named) h.inn rises step.fits)
    by false is = rw (← is) refl

pub sent_inn : (table : Table) (h k : Half) (c : Component) (x : ℤ) → Rises int_cmp h.inn
    → send_component table h c ≡ Ok k → Took (takes_inn table x c) (listed x h.inn) (listed x k.inn)
sent_inn table h k (Invoke id linked code parameter) x rises is =
    let step = invokes_step table h k id linked code is in rw (← step.is) refl
sent_inn table h k (ReturnResult last id body) x rises is =
    answer_takes table h k x true last id _ rises (answers_step table h k true last id _ is)
sent_inn table h k (ReturnError id code parameter) x rises is =
    answer_takes table h k x false true id None rises (answers_step table h k false true id None is)
sent_inn table h k (Reject (Some id) (problems.Invoke n)) x rises is =
    let (one, same) = rejects_invoke_step h k id n is in rw (← same) (took_of x id (allows n) h.inn rises one)
sent_inn table h k (Reject (Some id) (problems.ReturnResult n)) x rises is =
    let (one, same) = rejects_answer_step h k id true n is in rw (← same) refl
sent_inn table h k (Reject (Some id) (problems.ReturnError n)) x rises is =
    let (one, same) = rejects_answer_step h k id false n is in rw (← same) refl
sent_inn table h k c x rises is = cc

-- ---- sending: received answers

-- What a component takes from the answers of an ID.
abbrev pub takes_grants : ℤ → Component → Option (Answer → Bool)
takes_grants x (Reject (Some id) (problems.ReturnResult n)) = cond (is_invoke_id x id) (Some (allows_for true n)) None
takes_grants x (Reject (Some id) (problems.ReturnError n)) = cond (is_invoke_id x id) (Some (allows_for false n)) None
takes_grants x _ = None

answer_leaves : (table : Table) (h k : Half) (x : ℤ) (is_result last : Bool) (id : ℤ) (named : Option Code)
    → Answers table h k is_result last id named → (k.grants ≡ h.grants) × (k.out ≡ h.out)
answer_leaves table h k x is_result last id named step = by last (step.is)
  where
    left : Half
    left = record h { inn = without_oldest_of id (may_answer table is_result named) h.inn }

    by : (b : Bool) → cond b left h ≡ k → (k.grants ≡ h.grants) × (k.out ≡ h.out)
    by true is = (rw (← is) refl, rw (← is) refl)
    by false is = (rw (← is) refl, rw (← is) refl)

pub sent_grants : (table : Table) (h k : Half) (c : Component) (x : ℤ) → Rises int_cmp h.grants
    → send_component table h c ≡ Ok k → Took (takes_grants x c) (listed x h.grants) (listed x k.grants)
sent_grants table h k (Invoke id linked code parameter) x rises is =
    let step = invokes_step table h k id linked code is in rw (← step.is) refl
sent_grants table h k (ReturnResult last id body) x rises is =
    let left = answer_leaves table h k x true last id _ (answers_step table h k true last id _ is) in rw (left.0) refl
sent_grants table h k (ReturnError id code parameter) x rises is =
    let left = answer_leaves table h k x false true id None (answers_step table h k false true id None is) in
    rw (left.0) refl
sent_grants table h k (Reject (Some id) (problems.Invoke n)) x rises is =
    let (one, same) = rejects_invoke_step h k id n is in rw (← same) refl
sent_grants table h k (Reject (Some id) (problems.ReturnResult n)) x rises is =
    let (one, same) = rejects_answer_step h k id true n is in
    rw (← same) (took_of x id (allows_for true n) h.grants rises one)
sent_grants table h k (Reject (Some id) (problems.ReturnError n)) x rises is =
    let (one, same) = rejects_answer_step h k id false n is in
    rw (← same) (took_of x id (allows_for false n) h.grants rises one)
sent_grants table h k c x rises is = cc

-- ---- sending: own invocations

-- The operation that a component invokes with this ID.
abbrev pub invoked_by : ℤ → Component → Option Code
invoked_by x (Invoke id linked code parameter) = cond (is_invoke_id x id) (Some code) None
invoked_by x _ = None

-- An ID was free and is now in Operation Sent, or it did not change.
abbrev pub Began : Option Code → Option OwnInvocation → Option OwnInvocation → Type 0
Began None was now = now ≡ was
Began (Some code) was now = (was ≡ None) × (now ≡ Some (record { code = code; state = states.OperationSent }))

pub sent_out : (table : Table) (h k : Half) (c : Component) (x : ℤ) → send_component table h c ≡ Ok k
    → Began (invoked_by x c) (own_invocation h x) (own_invocation k x)
sent_out table h k (Invoke id linked code parameter) x is =
    let step = invokes_step table h k id linked code is in
    rw (← step.is) (by step.free (is_invoke_id x id) refl (kept_inserted x id made h.out))
  where
    made : OwnInvocation
    made = record { code = code; state = states.OperationSent }

    now : Half
    now = record h { out = insert_entry int_cmp h.out id made }

    by : own_invocation h id ≡ None → (b : Bool) → is_invoke_id x id ≡ b
        → own_invocation now x ≡ cond b (Some made) (own_invocation h x)
        → Began (cond b (Some code) None) (own_invocation h x) (own_invocation now x)
    by free true here kept = let same = id_same x id here in (rw same free, kept)
    by free false other kept = kept
sent_out table h k (ReturnResult last id body) x is =
    let left = answer_leaves table h k x true last id _ (answers_step table h k true last id _ is) in rw (left.1) refl
sent_out table h k (ReturnError id code parameter) x is =
    let left = answer_leaves table h k x false true id None (answers_step table h k false true id None is) in
    rw (left.1) refl
sent_out table h k (Reject (Some id) (problems.Invoke n)) x is =
    let (one, same) = rejects_invoke_step h k id n is in rw (← same) refl
sent_out table h k (Reject (Some id) (problems.ReturnResult n)) x is =
    let (one, same) = rejects_answer_step h k id true n is in rw (← same) refl
sent_out table h k (Reject (Some id) (problems.ReturnError n)) x is =
    let (one, same) = rejects_answer_step h k id false n is in rw (← same) refl
sent_out table h k c x is = cc
