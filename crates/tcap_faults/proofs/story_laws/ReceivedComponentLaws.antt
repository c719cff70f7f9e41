-- What a received component changes in what a half keeps of one invoke ID (Q.774 3.2).
use Rattle.std.proofs.Common.{◌≡◌, ℕ, ℤ, Bool, true, false, cond, List, [], ◌∷◌, ◌++◌, Option, Some, None, refl, sym, ap, ◌∙◌, arith}
use Rattle.std.specs.Prelude.{◌&&◌, option_map}
use Rattle.std.specs.BTreeMap.{insert_entry, is_at}
use Rattle.std.specs.Map.{remove_entry}
use Rattle.std.specs.Ordering.{int_cmp}
use Rattle.tcap_parts.specs.declared.code.Code.{Code}
use Rattle.tcap_parts.specs.declared.problem.Problem.TheVariants as problems
use Rattle.tcap_parts.specs.declared.component.Component.{Component}
use Rattle.tcap_parts.specs.declared.component.Component.TheVariants.{Invoke, ReturnResult, ReturnError, Reject}
use Rattle.tcap_end.specs.declared.half.InvocationState.TheVariants as states
use Rattle.tcap_end.specs.declared.own_invocations.OwnInvocation.{OwnInvocation}
use Rattle.tcap_end.specs.Class.{of_class, reports}
use Rattle.tcap_end.specs.Table.{Table, class_of}
use Rattle.tcap_end.specs.Half.{Answer, Half, Invocation, listed, with_newest}
use Rattle.tcap_end.specs.Component.{answer_problems, answered_operation, class_reports, id_problems, link_problems, operation_sent, operation_sent_by, own_invocation, receive_answer, receive_component}
use Rattle.tcap_end.specs.HiddenSteps.{without_invocation}
use Rattle.tcap_end.specs.ReachableEnd.{Rises}
use Rattle.tcap_refute.specs.EarlierMessages.{is_invoke_id}
use Rattle.tcap_faults.proofs.story_laws.InvokeListLaws.{Gained, gained_of, id_same, kept_inserted, kept_removed}

-- ---- received answers of one sort

-- The operation that an answer is for, with its class.
abbrev pub answered_by : Table → Option Code → Option (Code × ℕ)
answered_by table None = None
answered_by table (Some code) = option_map (λ class. (code, class)) (class_of table code)

answered_is : (table : Table) (h : Half) (id : ℤ)
    → answered_operation table h id ≡ answered_by table (operation_sent h id)
answered_is table h id = grind arith

-- The problems with which the answer may be rejected.
abbrev pub problems_of : Bool → Option (Code × ℕ) → List ℕ
problems_of is_result None = 0 ∷ []
problems_of is_result (Some (code, class)) = cond (reports is_result class) (answer_problems is_result) (1 ∷ [])

abbrev pub grant_of : Table → Bool → Option Code → Answer
grant_of table is_result o = record { is_result = is_result; problems = problems_of is_result (answered_by table o) }

-- Whether the answer ends its invocation.
abbrev ends_it : Bool → Bool → Option (Code × ℕ) → Bool
ends_it is_result last None = false
ends_it is_result last (Some (code, class)) = last && reports is_result class

-- What the answer changes; if it ends nothing, the code means nothing.
record AnswerDoes (h g : Half) (is_result last : Bool) (id : ℤ) (o : Option (Code × ℕ)) : Type 0 where
  inn : g.inn ≡ h.inn
  grants : g.grants ≡ with_newest id (record { is_result = is_result; problems = problems_of is_result o }) h.grants
  out : (x : ℤ) → operation_sent g x ≡ cond (ends_it is_result last o && is_invoke_id x id) None (operation_sent h x)

waits_out : (h : Half) (id : ℤ) (code : Code) (x : ℤ)
    → operation_sent_by (own_invocation (record h {
      out = insert_entry int_cmp h.out id (record { code = code; state = states.WaitForReject });
    }) x)
    ≡ cond (is_invoke_id x id) None (operation_sent h x)
waits_out h id code x = ap operation_sent_by (kept_inserted x id made h.out) ∙ by (is_invoke_id x id)
  where
    made : OwnInvocation
    made = record { code = code; state = states.WaitForReject }

    by : (b : Bool) → operation_sent_by (cond b (Some made) (own_invocation h x)) ≡ cond b None (operation_sent h x)
    by b = grind arith

answer_does : (h : Half) (is_result last : Bool) (id : ℤ) (o : Option (Code × ℕ))
    → AnswerDoes h (receive_answer h is_result last id o) is_result last id o
answer_does h is_result last id None = record { inn = refl; grants = refl; out = λ x. refl }
answer_does h is_result true id (Some (code, class)) = by (reports is_result class) refl
  where
    by : (b : Bool) → reports is_result class ≡ b
        → AnswerDoes h (receive_answer h is_result true id (Some (code, class))) is_result true id (Some (code, class))
    by true is = record { inn = rw is refl; grants = rw is refl; out = λ x. rw is (waits_out h id code x) }
    by false is = record { inn = rw is refl; grants = rw is refl; out = λ x. rw is refl }
answer_does h is_result false id (Some (code, class)) = by (reports is_result class) refl
  where
    by : (b : Bool) → reports is_result class ≡ b
        → AnswerDoes h (receive_answer h is_result false id (Some (code, class))) is_result false id
        (Some (code, class))
    by true is = record { inn = rw is refl; grants = rw is refl; out = λ x. rw is refl }
    by false is = record { inn = rw is refl; grants = rw is refl; out = λ x. rw is refl }

-- ---- what remains in Operation Sent

-- The operation that remains, if those that pass end.
abbrev pub stays : (Code → Bool) → Option Code → Option Code
stays ends None = None
stays ends (Some code) = cond (ends code) None (Some code)

-- Whether a component ends an own invocation of an ID with this operation: a Return Result Last or a Return Error
-- that the class reports, or a Reject with an invoke problem.
abbrev pub ends_by : Table → ℤ → Component → Code → Bool
ends_by table x (ReturnResult last id body) code = last && is_invoke_id x id && class_reports table true code
ends_by table x (ReturnError id error parameter) code = is_invoke_id x id && class_reports table false code
ends_by table x (Reject (Some id) (problems.Invoke n)) code = is_invoke_id x id
ends_by table x _ code = false

stays_all : (o : Option Code) → stays (λ code. false) o ≡ o
stays_all o = grind arith

-- An answer ends an invocation if the class of its operation says so.
ends_class : (table : Table) (is_result last : Bool) (o : Option Code)
    → cond (ends_it is_result last (answered_by table o)) None o
    ≡ stays (λ code. last && class_reports table is_result code) o
ends_class table is_result true None = refl
ends_class table is_result false None = refl
ends_class table is_result true (Some code) = grind arith
ends_class table is_result false (Some code) = grind arith

answer_out : (table : Table) (h : Half) (is_result last : Bool) (id x : ℤ)
    → operation_sent (receive_answer h is_result last id (answered_operation table h id)) x
    ≡ stays (λ code. last && is_invoke_id x id && class_reports table is_result code) (operation_sent h x)
answer_out table h is_result last id x =
    (answer_does h is_result last id (answered_operation table h id)).out x
    ∙ ap (λ o. cond (ends_it is_result last o && is_invoke_id x id) None (operation_sent h x)) (answered_is table h id)
    ∙ by (is_invoke_id x id) refl last
  where
    ended : Bool → Bool
    ended b = ends_it is_result b (answered_by table (operation_sent h id))

    some : (e : Bool) → cond (e && true) None (operation_sent h id) ≡ cond e None (operation_sent h id)
    some e = grind arith

    none : (e : Bool) → cond (e && false) None (operation_sent h x) ≡ operation_sent h x
    none e = grind arith

    by : (b : Bool) → is_invoke_id x id ≡ b → (l : Bool) → cond (ended l && b) None (operation_sent h x)
        ≡ stays (λ code. l && b && class_reports table is_result code) (operation_sent h x)
    by true here true =
        let same = id_same x id here in
        rw same (some (ended true) ∙ ends_class table is_result true (operation_sent h id))
    by true here false =
        let same = id_same x id here in
        rw same (some (ended false) ∙ ends_class table is_result false (operation_sent h id))
    by false other true = none (ended true) ∙ sym (stays_all (operation_sent h x))
    by false other false = none (ended false) ∙ sym (stays_all (operation_sent h x))

removed_out : (h : Half) (id x : ℤ) → Rises int_cmp h.out
    → operation_sent (record h { out = remove_entry (is_at (int_cmp id)) h.out }) x
    ≡ stays (λ code. is_invoke_id x id) (operation_sent h x)
removed_out h id x rises = ap operation_sent_by (kept_removed x id h.out rises) ∙ by (is_invoke_id x id)
  where
    ended : (o : Option Code) → None ≡ stays (λ code. true) o
    ended o = grind arith

    by : (b : Bool) → operation_sent_by (cond b None (own_invocation h x)) ≡ stays (λ code. b) (operation_sent h x)
    by true = ended (operation_sent h x)
    by false = sym (stays_all (operation_sent h x))

-- What a received component does not end remains in Operation Sent.
pub got_out : (table : Table) (h : Half) (c : Component) (x : ℤ) → Rises int_cmp h.out
    → operation_sent (receive_component table h c) x ≡ stays (ends_by table x c) (operation_sent h x)
got_out table h (ReturnResult last id body) x rises = answer_out table h true last id x
got_out table h (ReturnError id code parameter) x rises = answer_out table h false true id x
got_out table h (Reject (Some id) (problems.Invoke n)) x rises = removed_out h id x rises
got_out table h c x rises = sym (stays_all (operation_sent h x))

-- After an own invocation ends, those of other IDs remain in Operation Sent.
pub without_out : (h : Half) (id x : ℤ) → Rises int_cmp h.out
    → operation_sent (without_invocation id h) x ≡ stays (λ code. is_invoke_id x id) (operation_sent h x)
without_out h id x rises = removed_out h id x rises

-- ---- received invocations and answers

-- What is kept of an Invoke.
abbrev pub item_of : Table → Half → ℤ → Option ℤ → Code → Invocation
item_of table h id linked code = record {
  code = code;
  problems = id_problems (listed id h.inn) ++ 1 ∷ 2 ∷ 3 ∷ 4 ∷ [] ++ link_problems table h linked code;
}

-- What a component adds to the invocations of an ID.
abbrev pub gains_inn : Table → Half → ℤ → Component → Option Invocation
gains_inn table h x (Invoke id linked code parameter) =
    cond (is_invoke_id x id) (Some (item_of table h id linked code)) None
gains_inn table h x _ = None

pub got_inn : (table : Table) (h : Half) (c : Component) (x : ℤ) → Rises int_cmp h.inn
    → Gained (gains_inn table h x c) (listed x h.inn) (listed x (receive_component table h c).inn)
got_inn table h (Invoke id linked code parameter) x rises = gained_of x id (item_of table h id linked code) h.inn rises
got_inn table h (ReturnResult last id body) x rises =
    ap (listed x) ((answer_does h true last id (answered_operation table h id)).inn)
got_inn table h (ReturnError id code parameter) x rises =
    ap (listed x) ((answer_does h false true id (answered_operation table h id)).inn)
got_inn table h (Reject None problem) x rises = refl
got_inn table h (Reject (Some id) (problems.General n)) x rises = refl
got_inn table h (Reject (Some id) (problems.Invoke n)) x rises = refl
got_inn table h (Reject (Some id) (problems.ReturnResult n)) x rises = refl
got_inn table h (Reject (Some id) (problems.ReturnError n)) x rises = refl

-- What a component adds to the answers of an ID.
abbrev pub gains_grants : Table → Half → ℤ → Component → Option Answer
gains_grants table h x (ReturnResult last id body) =
    cond (is_invoke_id x id) (Some (grant_of table true (operation_sent h id))) None
gains_grants table h x (ReturnError id code parameter) =
    cond (is_invoke_id x id) (Some (grant_of table false (operation_sent h id))) None
gains_grants table h x _ = None

answer_gains : (table : Table) (h : Half) (is_result last : Bool) (id x : ℤ) → Rises int_cmp h.grants
    → Gained (cond (is_invoke_id x id) (Some (grant_of table is_result (operation_sent h id))) None) (listed x h.grants)
    (listed x (receive_answer h is_result last id (answered_operation table h id)).grants)
answer_gains table h is_result last id x rises =
    rw ((answer_does h is_result last id (answered_operation table h id)).grants, answered_is table h id)
    (gained_of x id (grant_of table is_result (operation_sent h id)) h.grants rises)

pub got_grants : (table : Table) (h : Half) (c : Component) (x : ℤ) → Rises int_cmp h.grants
    → Gained (gains_grants table h x c) (listed x h.grants) (listed x (receive_component table h c).grants)
got_grants table h (Invoke id linked code parameter) x rises = refl
got_grants table h (ReturnResult last id body) x rises = answer_gains table h true last id x rises
got_grants table h (ReturnError id code parameter) x rises = answer_gains table h false true id x rises
got_grants table h (Reject None problem) x rises = refl
got_grants table h (Reject (Some id) (problems.General n)) x rises = refl
got_grants table h (Reject (Some id) (problems.Invoke n)) x rises = refl
got_grants table h (Reject (Some id) (problems.ReturnResult n)) x rises = refl
got_grants table h (Reject (Some id) (problems.ReturnError n)) x rises = refl
