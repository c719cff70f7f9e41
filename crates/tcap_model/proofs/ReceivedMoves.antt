-- What receiving a message does to the halves of an end.
use Rattle.std.proofs.Common.{◌≡◌, Bool, true, false, cond, ℤ, ℕ, List, [], ◌∷◌, ◌++◌, ◌⊎◌, inl, inr, Option, Some, None, Result, Ok, is_none, refl, sym, subst, ◌∙◌}
use Rattle.std.specs.Prelude.{Contains, ok_or}
use Rattle.std.specs.List.{AllByRecursion}
use Rattle.std.specs.BTreeMap.{insert_entry}
use Rattle.std.specs.Ordering.{int_cmp}
use Rattle.std.proofs.lemmas.Cmp.{int_cmp_total}
use Rattle.std.proofs.lemmas.List.Elements.{All-contains_itself, recursion_from_All}
use Rattle.std.proofs.lemmas.Map.Lookups.{exact_signed}
use Rattle.tcap_parts.specs.declared.code.Code.{Code}
use Rattle.tcap_parts.specs.declared.problem.Problem.TheVariants as problems
use Rattle.tcap_parts.specs.declared.component.Component.{Component}
use Rattle.tcap_parts.specs.declared.component.Component.TheVariants.{Invoke, ReturnResult, ReturnError, Reject}
use Rattle.tcap_parts.specs.declared.dialogue.Dialogue.{Dialogue}
use Rattle.tcap_msg.specs.declared.message.Message.{Message}
use Rattle.tcap_msg.specs.declared.message.Message.TheVariants.{Unidirectional, Begin, Continue, End as EndMessage, Abort}
use Rattle.tcap_msg.specs.Parts.{components_in, items_of}
use Rattle.tcap_end.specs.declared.fault.EndFault.{EndFault}
use Rattle.tcap_end.specs.declared.fault.EndFault.TheVariants as faults
use Rattle.tcap_end.specs.declared.half.Phase.{Phase}
use Rattle.tcap_end.specs.declared.half.Phase.TheVariants as phases
use Rattle.tcap_end.specs.declared.half.Slot.TheVariants.{Begun, Accepted}
use Rattle.tcap_end.specs.declared.half.DialogueState.TheVariants as dialogue_states
use Rattle.tcap_end.specs.Table.{Table}
use Rattle.tcap_end.specs.Half.{Answer, Half, Invocation, with_newest, closed_half, fresh, is_closed, listed, listed_by, with_listed}
use Rattle.tcap_end.specs.Component.{answer_problems, answered_operation, receive_answer, receive_component, with_grant, wait_for_reject}
use Rattle.tcap_end.specs.End.{End, KeyedHalf, is_id, put, with_own, with_peer}
use Rattle.tcap_end.specs.Dialogue.{answers_request, first_dialogue_state, is_request}
use Rattle.tcap_end.specs.Message.{active_half, receive_over, receive_components, receive_continue, receive_end, receive}
use Rattle.tcap_end.specs.ReachableEnd.{FitsPhase, HasHalf, IsEnd, IsHalf}
use Rattle.tcap_end.proofs.AnsweringLaws.{needs_ok, ok_same, some_ok, then_ok}
use Rattle.tcap_end.proofs.ComponentLaws.{Receives, all_receives}
use Rattle.tcap_end.proofs.FoundLaws.{none_peer, own_has}
use Rattle.tcap_end.proofs.MapLaws.{found_inserted, kept_at}
use Rattle.tcap_end.proofs.StepLaws.{none_is}
use Rattle.tcap_model.specs.SinceMark.{IsAnswer}
use Rattle.tcap_model.proofs.Moves.{HasCome, Moves, Turns, blank}
use Rattle.tcap_model.proofs.ListLaws.{all_more}
use Rattle.tcap_model.proofs.TurnLaws.{id_is, moves_nowhere, new_moves, put_moves, turns_closed}

-- ---- lists by invoke ID

-- A property of all items of an ID still holds after an item is added, if the item has it or another ID.
all_added : {A : Type 0} (P : A → Type 0) (q id : ℤ) (item : A) (items : List (ℤ × List A))
    → AllByRecursion P (listed q items) → (q ≡ id → P item) → AllByRecursion P (listed q (with_newest id item items))
all_added {A = A} P q id item items all new = of_list (listed id items) refl
  where
    is_all : (v : List A) → v ≡ listed id items ++ item ∷ [] → (o : Option (List A))
        → kept_at int_cmp (insert_entry int_cmp items id v) q ≡ o → AllByRecursion P (listed_by o)
    is_all v is None none = tt
    is_all v is (Some w) some = by (found_inserted int_cmp_total exact_signed q id v w items some)
      where
        by : ((q ≡ id) × (w ≡ v)) ⊎ (kept_at int_cmp items q ≡ Some w) → AllByRecursion P w
        by (inl here) = rw (here.1, is) (all_more P (listed id items) item (rw (← here.0) all) (new here.0))
        by (inr old) = rw old at all

    of_list : (list : List A) → listed id items ≡ list → AllByRecursion P (listed q (with_listed id (list ++ item ∷ []) items))
    of_list [] is = is_all (item ∷ []) (rw is refl) _ refl
    of_list (first ∷ more) is = is_all (first ∷ more ++ item ∷ []) (rw is refl) _ refl

-- ---- components

-- Items received in g come from h or from the components of the message.
pub record Gains (came : Option Message) (h g : Half) : Type 1 where
  pub inn : (id : ℤ) (P : Invocation → Type 0) → AllByRecursion P (listed id h.inn)
      → ((item : Invocation) (linked : Option ℤ) (parameter : Option (List ℕ)) → HasCome came (Invoke id linked item.code parameter)
      → P item)
      → AllByRecursion P (listed id g.inn)
  pub grants : (id : ℤ) (P : Answer → Type 0) → AllByRecursion P (listed id h.grants)
      → ((answer : Answer) (component : Component) → IsAnswer answer id component → HasCome came component → P answer)
      → AllByRecursion P (listed id g.grants)

-- Only own invocations changed.
gains_none : (came : Option Message) (h g : Half) → g.inn ≡ h.inn → g.grants ≡ h.grants → Gains came h g
gains_none came h g inn grants = record { inn = λ id P all new. rw inn all; grants = λ id P all new. rw grants all }

-- Two such steps in a row are one.
gains_then : (came : Option Message) (h g k : Half) → Gains came h g → Gains came g k → Gains came h k
gains_then came h g k first second = record {
  inn = λ id P all new. second.inn id P (first.inn id P all new) new;
  grants = λ id P all new. second.grants id P (first.grants id P all new) new;
}

-- An Invoke is received.
gains_invoke : (came : Option Message) (h : Half) (id : ℤ) (linked : Option ℤ) (code : Code) (parameter : Option (List ℕ))
    (problems : List ℕ) → HasCome came (Invoke id linked code parameter)
    → Gains came h (record h { inn = with_newest id (record { code = code; problems = problems }) h.inn })
gains_invoke came h id linked code parameter problems has = record {
  inn = λ q P all new. all_added P q id item h.inn all (λ same. new item linked parameter (rw same has));
  grants = λ q P all new. all;
}
  where
    item : Invocation
    item = record { code = code; problems = problems }

-- An answer is received.
gains_grant : (came : Option Message) (h : Half) (id : ℤ) (is_result : Bool) (problems : List ℕ) (component : Component)
    → ((problems : List ℕ) → IsAnswer (record { is_result = is_result; problems = problems }) id component) → HasCome came component
    → Gains came h (with_grant h id is_result problems)
gains_grant came h id is_result problems component is has = record {
  inn = λ q P all new. all;
  grants = λ q P all new. all_added P q id answer h.grants all (λ same. new answer component (rw same (is problems)) has);
}
  where
    answer : Answer
    answer = record { is_result = is_result; problems = problems }

-- Either of two halves is the result.
either_gains : (came : Option Message) (b : Bool) (h x y : Half) → Gains came h x → Gains came h y → Gains came h (cond b x y)
either_gains came true h x y first second = first
either_gains came false h x y first second = second

-- An answer is received, and own invocations may change.
gains_answer : (came : Option Message) (h : Half) (is_result last : Bool) (id : ℤ) (o : Option (Code × ℕ)) (component : Component)
    → ((problems : List ℕ) → IsAnswer (record { is_result = is_result; problems = problems }) id component) → HasCome came component
    → Gains came h (receive_answer h is_result last id o)
gains_answer came h is_result last id None component is has = gains_grant came h id is_result (0 ∷ []) component is has
gains_answer came h is_result last id (Some (code, class)) component is has =
    either_gains came _ h _ _
    (gains_then came h reported _ waits (gains_grant came reported id is_result (answer_problems is_result) component is has))
    (gains_grant came h id is_result (1 ∷ []) component is has)
  where
    reported : Half
    reported = cond last (wait_for_reject h id code) h

    waits : Gains came h reported
    waits = either_gains came last h (wait_for_reject h id code) h (gains_none came h _ refl refl) (gains_none came h _ refl refl)

-- A component is received.
component_gains : (table : Table) (came : Option Message) (h : Half) (c : Component) → HasCome came c
    → Gains came h (receive_component table h c)
component_gains table came h (Invoke id linked code parameter) has = gains_invoke came h id linked code parameter _ has
component_gains table came h (ReturnResult last id body) has =
    gains_answer came h true last id (answered_operation table h id) (ReturnResult last id body) (λ problems. (refl, refl)) has
component_gains table came h (ReturnError id code parameter) has =
    gains_answer came h false true id (answered_operation table h id) (ReturnError id code parameter) (λ problems. (refl, refl)) has
component_gains table came h (Reject None problem) has = gains_none came h _ refl refl
component_gains table came h (Reject (Some id) (problems.General n)) has = gains_none came h _ refl refl
component_gains table came h (Reject (Some id) (problems.Invoke n)) has = gains_none came h _ refl refl
component_gains table came h (Reject (Some id) (problems.ReturnResult n)) has = gains_none came h _ refl refl
component_gains table came h (Reject (Some id) (problems.ReturnError n)) has = gains_none came h _ refl refl

-- A list of components is received.
all_gains : (table : Table) (came : Option Message) (components : List Component) (h : Half) → AllByRecursion (HasCome came) components
    → Gains came h (receive_components table h components)
all_gains table came [] h all = gains_none came h _ refl refl
all_gains table came (component ∷ more) h all =
    let first = component_gains table came h component all.0 in
    gains_then came h _ _ first (all_gains table came more (receive_component table h component) all.1)

-- Each component of a message came with the message.
all_come : (m : Message) → AllByRecursion (HasCome (Some m)) (components_in m)
all_come m = recursion_from_All (Contains (components_in m)) (components_in m) (All-contains_itself (components_in m))

-- The components of a message are received.
message_gains : (table : Table) (m : Message) (h : Half) → Gains (Some m) h (receive_components table h (components_in m))
message_gains table m h = all_gains table (Some m) (components_in m) h (all_come m)

-- ---- halves

-- A dialogue is in Asked only if there is a request.
is_asked : (b : Bool) → cond b dialogue_states.Requested dialogue_states.Without ≡ dialogue_states.Requested → b ≡ true
is_asked true is = refl
is_asked false is = cc

-- A Begin makes a new half.
begins : (table : Table) (otid : List ℕ) (dialogue : Option Dialogue) (components : Option (List Component))
    → Turns (Some (Begin otid dialogue components)) blank
    (receive_components table (fresh phases.Received None (Some otid) (first_dialogue_state dialogue)) (items_of components))
begins table otid dialogue components = record {
  own = λ id is. cc;
  peer = λ id is. cc;
  learned = λ id is. inr (sym comes.follows.peer);
  asked = λ received asked. inr (is_asked (is_request dialogue) (sym comes.follows.dialogue_state ∙ asked), sym comes.follows.peer);
  closed = λ is. cc;
  inn = λ id P all new. gains.inn id P tt (λ item linked parameter has. new item linked parameter has (sym comes.follows.peer));
  grants = λ id P all new. gains.grants id P tt (λ answer component is has. new answer component is has (sym comes.follows.peer));
}
  where
    start : Half
    start = fresh phases.Received None (Some otid) (first_dialogue_state dialogue)

    comes : Receives start (receive_components table start (items_of components))
    comes = all_receives table (items_of components) start

    gains : Gains (Some (Begin otid dialogue components)) start (receive_components table start (items_of components))
    gains = message_gains table (Begin otid dialogue components) start

-- A Continue answers a Begin.
answers : (table : Table) (otid dtid : List ℕ) (dialogue : Option Dialogue) (components : Option (List Component)) (h : Half)
    → h.phase ≡ phases.Sent → IsHalf h
    → Turns (Some (Continue otid dtid dialogue components)) h (receive_components table (active_half Begun otid h) (items_of components))
answers table otid dtid dialogue components h at half = record {
  own = λ id is. comes.follows.own ∙ is;
  peer = λ id is. let none = fits.1 in cc;
  learned = λ id is. inr (sym comes.follows.peer);
  asked = λ received asked. let active = comes.follows.phase in cc;
  closed = λ is. cc;
  inn = λ id P all new. gains.inn id P all (λ item linked parameter has. new item linked parameter has (sym comes.follows.peer));
  grants = λ id P all new. gains.grants id P all (λ answer component is has. new answer component is has (sym comes.follows.peer));
}
  where
    fits : FitsPhase phases.Sent h
    fits = subst (λ (p : Phase). FitsPhase p h) at half.phase

    start : Half
    start = active_half Begun otid h

    comes : Receives start (receive_components table start (items_of components))
    comes = all_receives table (items_of components) start

    gains : Gains (Some (Continue otid dtid dialogue components)) start (receive_components table start (items_of components))
    gains = message_gains table (Continue otid dtid dialogue components) start

-- A Continue reaches an active half.
goes_on : (table : Table) (otid dtid : List ℕ) (dialogue : Option Dialogue) (components : Option (List Component)) (h : Half)
    → h.phase ≡ phases.Active → h.peer ≡ Some otid
    → Turns (Some (Continue otid dtid dialogue components)) h (receive_components table h (items_of components))
goes_on table otid dtid dialogue components h at peer = record {
  own = λ id is. comes.follows.own ∙ is;
  peer = λ id is. comes.follows.peer ∙ is;
  learned = λ id is. inr from;
  asked = λ received asked. inl (sym comes.follows.phase ∙ received, sym comes.follows.dialogue_state ∙ asked);
  closed = λ is. comes.follows.phase ∙ is;
  inn = λ id P all new. gains.inn id P all (λ item linked parameter has. new item linked parameter has from);
  grants = λ id P all new. gains.grants id P all (λ answer component is has. new answer component is has from);
}
  where
    comes : Receives h (receive_components table h (items_of components))
    comes = all_receives table (items_of components) h

    from : Some otid ≡ (receive_components table h (items_of components)).peer
    from = sym (comes.follows.peer ∙ peer)

    gains : Gains (Some (Continue otid dtid dialogue components)) h (receive_components table h (items_of components))
    gains = message_gains table (Continue otid dtid dialogue components) h

-- ---- messages

-- The step's result is the next end.
moves_this : (came : Option Message) (e x next : End) → Moves came e x → (let r : Result End EndFault = Ok x in r) ≡ Ok next
    → Moves came e next
moves_this came e x next moves is = let same = ok_same {F = EndFault} x next is in rw (← same) moves

-- A Begin makes a half if no half has its peer ID.
begin_moves : (table : Table) (e next : End) (otid : List ℕ) (dialogue : Option Dialogue) (components : Option (List Component)) → IsEnd e
    → receive table e (Begin otid dialogue components) ≡ Ok next → Moves (Some (Begin otid dialogue components)) e next
begin_moves table e next otid dialogue components sound is =
    let step = needs_ok (is_none (with_peer e otid)) faults.IdUsed _ next is in
    moves_this (Some (Begin otid dialogue components)) e _ next
    (new_moves (Some (Begin otid dialogue components)) e Accepted otid _ (apart (none_is (with_peer e otid) step.0))
    (begins table otid dialogue components)) step.1
  where
    apart : with_peer e otid ≡ None → (g : KeyedHalf) → HasHalf e g → g.slot ≡ Accepted → g.key ≡ otid → ⊥
    apart none g in_g slots keys = none_peer e otid g none in_g (rw (slots, keys) at (sound.kept g in_g))

-- A Continue changes this half.
half_moves : (table : Table) (e next : End) (otid dtid : List ℕ) (dialogue : Option Dialogue) (components : Option (List Component))
    (f : KeyedHalf) → IsEnd e → HasHalf e f → receive_over table e otid dialogue (items_of components) f f.half.phase ≡ Ok next
    → Moves (Some (Continue otid dtid dialogue components)) e next
half_moves table e next otid dtid dialogue components f sound had is = by f.half.phase refl is
  where
    by : (p : Phase) → f.half.phase ≡ p → receive_over table e otid dialogue (items_of components) f p ≡ Ok next
        → Moves (Some (Continue otid dtid dialogue components)) e next
    by phases.Sent at is =
        let free = needs_ok (is_none (with_peer e otid)) faults.IdUsed _ next is in
        let asked = needs_ok (answers_request f.half.dialogue_state dialogue) faults.WrongDialogue _ next free.1 in
        moves_this (Some (Continue otid dtid dialogue components)) e _ next
        (put_moves (Some (Continue otid dtid dialogue components)) e f _ had
        (answers table otid dtid dialogue components f.half at (sound.halves f had))) asked.1
    by phases.Active at is =
        let peer = needs_ok (is_id otid f.half.peer) faults.NoTransaction _ next is in
        moves_this (Some (Continue otid dtid dialogue components)) e _ next
        (put_moves (Some (Continue otid dtid dialogue components)) e f _ had
        (goes_on table otid dtid dialogue components f.half at (id_is otid f.half.peer peer.0))) peer.1
    by phases.Received at is = cc
    by phases.Closed at is = cc

-- A Continue changes the half that it reaches.
continue_moves : (table : Table) (e next : End) (otid dtid : List ℕ) (dialogue : Option Dialogue) (components : Option (List Component))
    → IsEnd e → receive_continue table e otid dtid dialogue (items_of components) ≡ Ok next
    → Moves (Some (Continue otid dtid dialogue components)) e next
continue_moves table e next otid dtid dialogue components sound is =
    let (f, ok, step) = then_ok (ok_or (with_own e dtid) faults.NoTransaction) _ next is in
    half_moves table e next otid dtid dialogue components f sound (own_has e dtid sound f (some_ok _ _ f ok)) step

-- An End or an Abort closes a half, or changes nothing.
end_moves : (came : Option Message) (e : End) (o : Option KeyedHalf) → ((f : KeyedHalf) → o ≡ Some f → HasHalf e f)
    → Moves came e (receive_end e o)
end_moves came e None had = moves_nowhere came e
end_moves came e (Some f) had = by (is_closed f.half.phase)
  where
    by : (b : Bool) → Moves came e (cond b e (put e f.slot f.key (closed_half f.half)))
    by true = moves_nowhere came e
    by false = put_moves came e f (closed_half f.half) (had f refl) (turns_closed came f.half f.half refl refl)

-- Receiving a message moves an end.
pub received_moves : (table : Table) (e next : End) (m : Message) → IsEnd e → receive table e m ≡ Ok next → Moves (Some m) e next
received_moves table e next m sound is = by m is
  where
    ended : (came : Option Message) (id : List ℕ) → (let r : Result End EndFault = Ok (receive_end e (with_own e id)) in r) ≡ Ok next
        → Moves came e next
    ended came id is = moves_this came e _ next (end_moves came e (with_own e id) (own_has e id sound)) is

    by : (m : Message) → receive table e m ≡ Ok next → Moves (Some m) e next
    by (Unidirectional dialogue components) is =
        moves_this (Some (Unidirectional dialogue components)) e e next (moves_nowhere (Some (Unidirectional dialogue components)) e) is
    by (Begin otid dialogue components) is = begin_moves table e next otid dialogue components sound is
    by (Continue otid dtid dialogue components) is = continue_moves table e next otid dtid dialogue components sound is
    by (EndMessage dtid dialogue components) is = ended (Some (EndMessage dtid dialogue components)) dtid is
    by (Abort dtid reason) is = ended (Some (Abort dtid reason)) dtid is
