-- No message that an end sends has F5 (Q.774 3.2) or F6 (Q.771 3.1).
use Rattle.std.proofs.Common.{◌≡◌, ◌⊎◌, inl, inr, Bool, true, false, ℤ, List, [], ◌∷◌, Option, Some, None, Result, Ok, Err, is_none, is_some, not, refl, sym, ◌∙◌, arith}
use Rattle.std.specs.Prelude.{◌||◌, ok_or}
use Rattle.std.specs.List.{AllByRecursion, list_any}
use Rattle.std.proofs.lemmas.Bool.{and_from, and_parts, both_ways, not-true, or_cases}
use Rattle.std.proofs.lemmas.Cmp.{int_cmp_total, tied_itself}
use Rattle.tcap_parts.specs.declared.code.Code.{Code}
use Rattle.tcap_parts.specs.declared.problem.Problem.TheVariants as problems
use Rattle.tcap_parts.specs.declared.component.Component.{Component}
use Rattle.tcap_parts.specs.declared.component.Component.TheVariants.{Invoke, ReturnResult, ReturnError, Reject}
use Rattle.tcap_parts.specs.declared.dialogue.Dialogue.{Dialogue}
use Rattle.tcap_msg.specs.declared.message.Message.{Message}
use Rattle.tcap_msg.specs.declared.message.Message.TheVariants.{Unidirectional, Begin, Continue, End as EndMessage, Abort}
use Rattle.tcap_msg.specs.Parts.{items_of}
use Rattle.tcap_record.specs.declared.entry.End.{End as Side}
use Rattle.tcap_end.specs.declared.fault.EndFault.{EndFault}
use Rattle.tcap_end.specs.declared.fault.EndFault.TheVariants as faults
use Rattle.tcap_end.specs.Class.{of_class, reports_neither}
use Rattle.tcap_end.specs.Component.{class_reports, names}
use Rattle.tcap_end.specs.Dialogue.{may_be_uni}
use Rattle.tcap_end.specs.End.{End}
use Rattle.tcap_end.specs.Half.{Answer, Invocation}
use Rattle.tcap_end.specs.Message.{has_id, send_uni, send_uni_components}
use Rattle.tcap_end.specs.Step.{◌>>◌}
use Rattle.tcap_end.specs.Table.{Table, class_of, operation_of}
use Rattle.tcap_end.proofs.AnsweringLaws.{needs_ok, some_ok, then_ok}
use Rattle.tcap_model.specs.World.{World, end_at}
use Rattle.tcap_model.specs.Run.{Event}
use Rattle.tcap_model.specs.SinceMark.{IsAnswer}
use Rattle.tcap_refute.specs.EarlierMessages.{answers, peer_sent_from, components_of, invokes, is_answer, is_invoke_id, is_reject, since_quiet}
use Rattle.tcap_refute.specs.Kind.{answers_none_of, answers_nothing, is_not_of_class_4, is_unknown_operation, is_wrong_operation, may_be_answered, no_class_allows}
use Rattle.tcap_refute.proofs.Members.{any_has, has_not}
use Rattle.tcap_refute.proofs.SentLaws.{IsSent}
use Rattle.tcap_refute.proofs.FoundedLaws.{IsFounded, IsInvoked, MayAnswer, MayReject, begin_founded, one_of_all, over_founded}

-- If no element with `P` passes, and all elements have `P`, none passes.
none_passes : {A : Type 0} (P : A → Type 0) (test : A → Bool) (xs : List A) → ((x : A) → P x → test x ≡ true → ⊥)
    → AllByRecursion P xs → list_any test xs ≡ true → ⊥
none_passes P test xs none all found = let (x, holds, passes) = one_of_all P test xs all found in none x holds passes

-- ---- tests of one component

same_id : (id : ℤ) → is_invoke_id id id ≡ true
same_id id = rw (tied_itself int_cmp_total id) refl

-- The Invoke is there.
has_invoke : (cs : List Component) (id : ℤ) (item : Invocation) → IsInvoked cs id item
    → not (list_any (invokes id) cs) ≡ true → ⊥
has_invoke cs id item (linked, parameter, has) is =
    both_ways _ (not-true _ is) (any_has (invokes id) cs (Invoke id linked item.code parameter) has (same_id id))

-- The answer is there.
is_answered : (is_result : Bool) (id : ℤ) (answer : Answer) (c : Component) → answer.is_result ≡ is_result
    → IsAnswer answer id c → answers is_result id c ≡ true
is_answered true id answer (ReturnResult last other body) sort is = rw (is.1) (same_id id)
is_answered true id answer (ReturnError other code parameter) sort is = let bad = sym (is.0) ∙ sort in cc
is_answered false id answer (ReturnResult last other body) sort is = let bad = sym (is.0) ∙ sort in cc
is_answered false id answer (ReturnError other code parameter) sort is = rw (is.1) (same_id id)
is_answered true id answer c sort is = absurd is
is_answered false id answer c sort is = absurd is

has_answer : (cs : List Component) (is_result : Bool) (id : ℤ) → MayReject cs is_result id
    → not (list_any (answers is_result id) cs) ≡ true → ⊥
has_answer cs is_result id (answer, (c, sort, has), same) is =
    both_ways _ (not-true _ is) (any_has (answers is_result id) cs c has (is_answered is_result id answer c same sort))

-- A founded component answers or rejects one of these components.
answers_one : (table : Table) (cs : List Component) (c : Component) → IsFounded table cs c
    → answers_none_of cs c ≡ true → ⊥
answers_one table cs (Invoke id linked code parameter) founded is = cc
answers_one table cs (ReturnResult last id body) founded is = has_invoke cs id founded.0 founded.1 is
answers_one table cs (ReturnError id code parameter) founded is = has_invoke cs id founded.0 founded.1 is
answers_one table cs (Reject (Some id) (problems.Invoke n)) founded is = has_invoke cs id founded.0 founded.1 is
answers_one table cs (Reject (Some id) (problems.ReturnResult n)) founded is = has_answer cs true id founded is
answers_one table cs (Reject (Some id) (problems.ReturnError n)) founded is = has_answer cs false id founded is
answers_one table cs c founded is = absurd founded

-- If there are no components, a founded component is an Invoke.
of_nothing : (table : Table) (c : Component) → IsFounded table [] c → (is_answer c || is_reject c) ≡ true → ⊥
of_nothing table (Invoke id linked code parameter) founded is = cc
of_nothing table (Reject None problem) founded is = absurd founded
of_nothing table (Reject (Some id) (problems.General n)) founded is = absurd founded
of_nothing table c founded is = has_not _ founded.1.2

-- The table has the operation of a founded Invoke.
known_operation : (table : Table) (cs : List Component) (c : Component) → IsFounded table cs c
    → is_unknown_operation table c ≡ true → ⊥
known_operation table cs (Invoke id linked code parameter) founded is = grind (arith, founded, is)
known_operation table cs c founded is = cc

-- The class of an invocation allows the answer.
class_allows : (table : Table) (cs : List Component) (is_result : Bool) (id : ℤ) (named : Option Code)
    → MayAnswer table cs is_result id named → not (list_any (may_be_answered table is_result id named) cs) ≡ true → ⊥
class_allows table cs is_result id named (item, (linked, parameter, has), may) is =
    let (class, names_it) = and_parts (class_reports table is_result item.code) (names named item.code) may in
    both_ways _ (not-true _ is)
    (any_has (may_be_answered table is_result id named) cs (Invoke id linked item.code parameter) has
    (and_from _ _ (and_from (is_invoke_id id id) _ (same_id id) class) names_it))

of_its_class : (table : Table) (cs : List Component) (c : Component) → IsFounded table cs c
    → no_class_allows table cs c ≡ true → ⊥
of_its_class table cs (ReturnResult last id body) founded is = class_allows table cs true id _ founded is
of_its_class table cs (ReturnError id code parameter) founded is = class_allows table cs false id None founded is
of_its_class table cs c founded is = cc

-- ---- a Unidirectional

-- A component of a Unidirectional is an Invoke of class 4.
abbrev IsUni : Table → Component → Type 0
IsUni table (Invoke id linked code parameter) = of_class reports_neither (class_of table code) ≡ true
IsUni table _ = ⊥

all_uni : (table : Table) (ids : List ℤ) (components : List Component)
    → send_uni_components table ids components ≡ Ok tt → AllByRecursion (IsUni table) components
all_uni table ids [] is = tt
all_uni table ids (Invoke id linked code parameter ∷ more) is =
    let (class, ok, step) = then_ok (ok_or (class_of table code) faults.UnknownOperation) _ tt is in
    let four = needs_ok (reports_neither class) faults.UniNotClass4 _ tt step in
    let free = needs_ok (not (has_id id ids)) faults.InvokeIdBusy _ tt four.1 in
    let alone = needs_ok (is_none linked) faults.BadLink _ tt free.1 in
    let found = some_ok (class_of table code) faults.UnknownOperation class ok in
    (rw found (four.0), all_uni table (id ∷ ids) more alone.1)
all_uni table ids (c ∷ more) is = cc

uni_sent : (table : Table) (e made : End) (dialogue : Option Dialogue) (components : List Component)
    → send_uni table e dialogue components ≡ Ok made → AllByRecursion (IsUni table) components
uni_sent table e made dialogue components is =
    by (send_uni_components table [] components) refl (needs_ok (may_be_uni dialogue) faults.WrongDialogue _ made is).1
  where
    by : (r : Result (Unit {0}) EndFault) → send_uni_components table [] components ≡ r → (r >> Ok e) ≡ Ok made
        → AllByRecursion (IsUni table) components
    by (Ok done) at is = all_uni table [] components at
    by (Err reason) at is = cc

no_answer : (table : Table) (c : Component) → IsUni table c → is_answer c ≡ true → ⊥
no_answer table c uni is = grind (arith, uni, is)

of_class_4 : (table : Table) (c : Component) → IsUni table c → is_not_of_class_4 table c ≡ true → ⊥
of_class_4 table (Invoke id linked code parameter) uni is = both_ways _ (not-true _ is) uni
of_class_4 table c uni is = absurd uni

-- ---- F5 and F6

-- All founded components that answer or reject do so to one of these components.
all_answer : (table : Table) (cs components : List Component) → AllByRecursion (IsFounded table cs) components
    → list_any (answers_none_of cs) components ≡ true → ⊥
all_answer table cs components = none_passes (IsFounded table cs) (answers_none_of cs) components (answers_one table cs)

pub answers_nothing_sent : (table : Table) (events : List Event) (w : World) (side : Side) (message : Message)
    → IsSent table events w side message → answers_nothing side (since_quiet w.sent) message ≡ true → ⊥
answers_nothing_sent table events w side (Unidirectional dialogue components) it is =
    none_passes (IsUni table) is_answer components (no_answer table)
    (uni_sent table (end_at side w) it.made dialogue components it.step) is
answers_nothing_sent table events w side (Begin otid dialogue components) it is =
    none_passes (IsFounded table []) (λ c. is_answer c || is_reject c) (items_of components) (of_nothing table)
    (begin_founded table (end_at side w) it.made otid dialogue (items_of components) it.step) is
answers_nothing_sent table events w side (Continue otid dtid dialogue components) it is =
    all_answer table (components_of (peer_sent_from side dtid (since_quiet w.sent))) (items_of components)
    (over_founded dtid it refl) is
answers_nothing_sent table events w side (EndMessage dtid dialogue components) it is =
    all_answer table (components_of (peer_sent_from side dtid (since_quiet w.sent))) (items_of components)
    (over_founded dtid it refl) is
answers_nothing_sent table events w side (Abort dtid reason) it is = cc

-- No founded component has an unknown operation, or is an answer that no class allows.
neither : (table : Table) (cs components : List Component) → AllByRecursion (IsFounded table cs) components
    → (list_any (is_unknown_operation table) components || list_any (no_class_allows table cs) components) ≡ true → ⊥
neither table cs components all is =
    by (or_cases (list_any (is_unknown_operation table) components) (list_any (no_class_allows table cs) components) is)
  where
    by : (list_any (is_unknown_operation table) components ≡ true)
        ⊎ (list_any (no_class_allows table cs) components ≡ true) → ⊥
    by (inl unknown) =
        none_passes (IsFounded table cs) (is_unknown_operation table) components (known_operation table cs) all unknown
    by (inr forbidden) =
        none_passes (IsFounded table cs) (no_class_allows table cs) components (of_its_class table cs) all forbidden

pub wrong_operation_sent : (table : Table) (events : List Event) (w : World) (side : Side) (message : Message)
    → IsSent table events w side message → is_wrong_operation table side (since_quiet w.sent) message ≡ true → ⊥
wrong_operation_sent table events w side (Unidirectional dialogue components) it is =
    none_passes (IsUni table) (is_not_of_class_4 table) components (of_class_4 table)
    (uni_sent table (end_at side w) it.made dialogue components it.step) is
wrong_operation_sent table events w side (Begin otid dialogue components) it is = by (or_cases _ _ is)
  where
    by : (list_any (is_unknown_operation table) (items_of components) ≡ true) ⊎ (false ≡ true) → ⊥
    by (inl unknown) =
        none_passes (IsFounded table []) (is_unknown_operation table) (items_of components) (known_operation table [])
        (begin_founded table (end_at side w) it.made otid dialogue (items_of components) it.step) unknown
    by (inr never) = cc
wrong_operation_sent table events w side (Continue otid dtid dialogue components) it is =
    neither table (components_of (peer_sent_from side dtid (since_quiet w.sent))) (items_of components)
    (over_founded dtid it refl) is
wrong_operation_sent table events w side (EndMessage dtid dialogue components) it is =
    neither table (components_of (peer_sent_from side dtid (since_quiet w.sent))) (items_of components)
    (over_founded dtid it refl) is
wrong_operation_sent table events w side (Abort dtid reason) it is = cc
