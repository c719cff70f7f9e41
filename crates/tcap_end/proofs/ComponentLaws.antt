-- The parts of a half that sending or receiving a component does not change.
use Rattle.std.proofs.Common.{◌≡◌, ◌≢◌, ℕ, ℤ, Bool, true, false, cond, List, [], ◌∷◌, Option, Some, None, Result, Ok, is_none, is_some, refl}
use Rattle.std.specs.BTreeMap.{insert_entry, is_at}
use Rattle.std.specs.Ordering.{int_cmp}
use Rattle.std.proofs.lemmas.Cmp.{int_cmp_total}
use Rattle.tcap_parts.specs.declared.code.Code.{Code}
use Rattle.tcap_parts.specs.declared.problem.Problem.{Problem}
use Rattle.tcap_parts.specs.declared.problem.Problem.TheVariants as problems
use Rattle.tcap_parts.specs.declared.component.Component.{Component}
use Rattle.tcap_parts.specs.declared.component.Component.TheVariants.{Invoke, ReturnResult, ReturnError, Reject}
use Rattle.tcap_end.specs.declared.fault.EndFault.{EndFault}
use Rattle.tcap_end.specs.declared.fault.EndFault.TheVariants as faults
use Rattle.tcap_end.specs.declared.half.InvocationState.TheVariants as states
use Rattle.tcap_end.specs.declared.own_invocations.OwnInvocation.{OwnInvocation}
use Rattle.tcap_end.specs.Table.{Table, operation_of}
use Rattle.tcap_end.specs.Half.{Answer, Half, Invocation, listed, one_fits, with_listed, without_oldest, without_oldest_of}
use Rattle.tcap_end.specs.Component.{allows, allows_for, answer_problems, answered_operation, may_answer, may_link, own_invocation, receive_answer, receive_component, send_answer, send_component, send_invoke, send_reject, with_grant, wait_for_reject}
use Rattle.tcap_end.specs.Message.{receive_components, send_components}
use Rattle.tcap_end.proofs.AnsweringLaws.{needs_ok, then_ok}
use Rattle.tcap_end.proofs.HalfLaws.{Follows, IsListed, follows_grants, follows_inn, follows_out, follows_self, follows_then}
use Rattle.tcap_lists.proofs.MapLaws.{all_inserted, all_removed, rises_inserted, rises_removed}

-- ---- lists by invoke ID

-- Lists by invoke ID stay sorted when the list of one ID changes.
list_kept : {A : Type 0} (id : ℤ) (list : List A) (items : List (ℤ × List A))
    → IsListed items → IsListed (with_listed id list items)
list_kept id [] items is =
    (rises_removed int_cmp (is_at (int_cmp id)) items is.0, all_removed (λ e. e.1 ≢ []) (is_at (int_cmp id)) items is.1)
list_kept id (first ∷ more) items is = (
  rises_inserted int_cmp_total items id (first ∷ more) is.0,
  all_inserted (λ v. v ≢ []) int_cmp items id (first ∷ more) (λ none. cc) is.1,
)

-- Lists by invoke ID stay sorted when an item is removed.
taken_kept : {A : Type 0} (id : ℤ) (fits : A → Bool) (items : List (ℤ × List A)) → IsListed items → IsListed (without_oldest_of id fits items)
taken_kept id fits items is = list_kept id (without_oldest fits (listed id items)) items is

-- No item fits in an empty list.
none_fits : {A : Type 0} {P : Type 0} (id : ℤ) (fits : A → Bool) (items : List (ℤ × List A)) → one_fits id fits items ≡ true → items ≡ [] → P
none_fits id fits items one none = let bad = rw none at one in cc

-- ---- sending

-- A half without received invocations or answers stays one.
pub record Sends (h g : Half) : Type 0 where
  pub follows : Follows h g
  pub inn : h.inn ≡ [] → g.inn ≡ []
  pub grants : h.grants ≡ [] → g.grants ≡ []

sends_self : (h : Half) → Sends h h
sends_self h = record { follows = follows_self h; inn = λ none. none; grants = λ none. none }

takes_inn : (h : Half) (id : ℤ) (fits : Invocation → Bool) → one_fits id fits h.inn ≡ true
    → Sends h (record h { inn = without_oldest_of id fits h.inn })
takes_inn h id fits one = record {
  follows = follows_inn h _ (taken_kept id fits h.inn);
  inn = none_fits id fits h.inn one;
  grants = λ none. none;
}

takes_grants : (h : Half) (id : ℤ) (fits : Answer → Bool) → one_fits id fits h.grants ≡ true
    → Sends h (record h { grants = without_oldest_of id fits h.grants })
takes_grants h id fits one = record {
  follows = follows_grants h _ (taken_kept id fits h.grants);
  inn = λ none. none;
  grants = none_fits id fits h.grants one;
}

-- the half after a step that was Ok
sends_this : (h x g : Half) → Sends h x → (let r : Result Half EndFault = Ok x in r) ≡ Ok g → Sends h g
sends_this h x g sends is = let same : x ≡ g = cc in rw (← same) sends

reject_sends : (h g : Half) (id : Option ℤ) (problem : Problem) → send_reject h id problem ≡ Ok g → Sends h g
reject_sends h g None problem is = cc
reject_sends h g (Some id) (problems.General n) is = cc
reject_sends h g (Some id) (problems.Invoke n) is =
    let step = needs_ok _ _ _ g is in sends_this h _ g (takes_inn h id (allows n) step.0) step.1
reject_sends h g (Some id) (problems.ReturnResult n) is =
    let step = needs_ok _ _ _ g is in sends_this h _ g (takes_grants h id (allows_for true n) step.0) step.1
reject_sends h g (Some id) (problems.ReturnError n) is =
    let step = needs_ok _ _ _ g is in sends_this h _ g (takes_grants h id (allows_for false n) step.0) step.1

invoke_sends : (table : Table) (h g : Half) (id : ℤ) (linked : Option ℤ) (code : Code) → send_invoke table h id linked code ≡ Ok g → Sends h g
invoke_sends table h g id linked code is =
    let known = needs_ok (is_some (operation_of table code)) faults.UnknownOperation _ g is in
    let free = needs_ok (is_none (own_invocation h id)) faults.InvokeIdBusy _ g known.1 in
    let may = needs_ok (may_link table h linked code) faults.BadLink _ g free.1 in
    sends_this h (record h { out = insert_entry int_cmp h.out id made }) g (record {
      follows = follows_out h _ (rises_inserted int_cmp_total h.out id made);
      inn = λ none. none;
      grants = λ none. none;
    }) may.1
  where
    made : OwnInvocation
    made = record { code = code; state = states.OperationSent }

answer_sends : (table : Table) (h g : Half) (is_result last : Bool) (id : ℤ) (named : Option Code)
    → send_answer table h is_result last id named ≡ Ok g → Sends h g
answer_sends table h g is_result last id named is =
    let some = needs_ok (one_fits id (λ item. true) h.inn) faults.NothingToAnswer _ g is in
    let class = needs_ok (one_fits id (may_answer table is_result None) h.inn) faults.ClassForbids _ g some.1 in
    let fits = needs_ok (one_fits id (may_answer table is_result named) h.inn) faults.WrongOperation _ g class.1 in
    by last (takes_inn h id (may_answer table is_result named) fits.0) fits.1
  where
    left : Half
    left = record h { inn = without_oldest_of id (may_answer table is_result named) h.inn }

    by : (b : Bool) → Sends h left → (let r : Result Half EndFault = Ok (cond b left h) in r) ≡ Ok g → Sends h g
    by true sends is = sends_this h left g sends is
    by false sends is = sends_this h h g (sends_self h) is

component_sends : (table : Table) (h g : Half) (c : Component) → send_component table h c ≡ Ok g → Sends h g
component_sends table h g (Invoke id linked code parameter) is = invoke_sends table h g id linked code is
component_sends table h g (ReturnResult last id body) is = answer_sends table h g true last id _ is
component_sends table h g (ReturnError id code parameter) is = answer_sends table h g false true id None is
component_sends table h g (Reject id problem) is = reject_sends h g id problem is

pub all_sends : (table : Table) (components : List Component) (h g : Half) → send_components table h components ≡ Ok g → Sends h g
all_sends table [] h g is = sends_this h h g (sends_self h) is
all_sends table (component ∷ more) h g is =
    let (next, one, rest) = then_ok (send_component table h component) (λ next. send_components table next more) g is in
    let first = component_sends table h next component one in
    let second = all_sends table more next g rest in
    record {
      follows = follows_then h next g first.follows second.follows;
      inn = λ none. second.inn (first.inn none);
      grants = λ none. second.grants (first.grants none);
    }

-- ---- receiving

-- A half without own invocations stays one.
pub record Receives (h g : Half) : Type 0 where
  pub follows : Follows h g
  pub out : h.out ≡ [] → g.out ≡ []

receives_self : (h : Half) → Receives h h
receives_self h = record { follows = follows_self h; out = λ none. none }

granted : (h : Half) (id : ℤ) (is_result : Bool) (problems : List ℕ) → Follows h (with_grant h id is_result problems)
granted h id is_result problems = follows_grants h _ (list_kept id _ h.grants)

waits : (h : Half) (id : ℤ) (code : Code) → Follows h (wait_for_reject h id code)
waits h id code = follows_out h _ (rises_inserted int_cmp_total h.out id _)

either_follows : (b : Bool) (h x y : Half) → Follows h x → Follows h y → Follows h (cond b x y)
either_follows true h x y first second = first
either_follows false h x y first second = second

answer_follows : (h : Half) (is_result last : Bool) (id : ℤ) (o : Option (Code × ℕ)) → Follows h (receive_answer h is_result last id o)
answer_follows h is_result last id None = granted h id is_result (0 ∷ [])
answer_follows h is_result last id (Some (code, class)) =
    let reported = either_follows last h (wait_for_reject h id code) h (waits h id code) (follows_self h) in
    either_follows _ h _ _ (follows_then h _ _ reported (granted _ id is_result (answer_problems is_result))) (granted h id is_result (1 ∷ []))

-- An answer is for no invocation if the half has none.
unanswered : (table : Table) (h : Half) (id : ℤ) → h.out ≡ [] → answered_operation table h id ≡ None
unanswered table h id none = rw none refl

component_receives : (table : Table) (h : Half) (c : Component) → Receives h (receive_component table h c)
component_receives table h (Invoke id linked code parameter) =
    record { follows = follows_inn h _ (list_kept id _ h.inn); out = λ none. none }
component_receives table h (ReturnResult last id body) = record {
  follows = answer_follows h true last id (answered_operation table h id);
  out = λ none. rw (unanswered table h id none) none;
}
component_receives table h (ReturnError id code parameter) = record {
  follows = answer_follows h false true id (answered_operation table h id);
  out = λ none. rw (unanswered table h id none) none;
}
component_receives table h (Reject None problem) = receives_self h
component_receives table h (Reject (Some id) (problems.General n)) = receives_self h
component_receives table h (Reject (Some id) (problems.Invoke n)) =
    record { follows = follows_out h _ (rises_removed int_cmp (is_at (int_cmp id)) h.out); out = λ none. rw none refl }
component_receives table h (Reject (Some id) (problems.ReturnResult n)) = receives_self h
component_receives table h (Reject (Some id) (problems.ReturnError n)) = receives_self h

pub all_receives : (table : Table) (components : List Component) (h : Half) → Receives h (receive_components table h components)
all_receives table [] h = receives_self h
all_receives table (component ∷ more) h =
    let first = component_receives table h component in
    let second = all_receives table more (receive_component table h component) in
    record { follows = follows_then h _ _ first.follows second.follows; out = λ none. second.out (first.out none) }
