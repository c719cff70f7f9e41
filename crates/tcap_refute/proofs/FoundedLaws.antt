-- What a sent component answers or rejects came to its half before (Q.774 3.2). What came to the half is among what
-- its peer sent from that ID.
use Rattle.std.proofs.Common.{◌≡◌, Bool, true, false, cond, ℕ, ℤ, List, [], ◌∷◌, Option, Some, None, Result, Ok, is_none, is_some, refl, ◌∙◌, arith}
use Rattle.std.specs.Prelude.{Contains, ◌||◌, option_map}
use Rattle.std.specs.List.{AllByRecursion, list_any}
use Rattle.std.specs.Ordering.{int_cmp}
use Rattle.tcap_parts.specs.declared.code.Code.{Code}
use Rattle.tcap_parts.specs.declared.problem.Problem.{Problem}
use Rattle.tcap_parts.specs.declared.problem.Problem.TheVariants as problems
use Rattle.tcap_parts.specs.declared.component.Component.{Component}
use Rattle.tcap_parts.specs.declared.component.Component.TheVariants.{Invoke, ReturnResult, ReturnError, Reject}
use Rattle.tcap_parts.specs.declared.dialogue.Dialogue.{Dialogue}
use Rattle.tcap_msg.specs.declared.message.Message.{Message}
use Rattle.tcap_msg.specs.Parts.{components_in, dtid_in}
use Rattle.tcap_record.specs.declared.entry.End.{End as Side}
use Rattle.tcap_end.specs.declared.fault.EndFault.{EndFault}
use Rattle.tcap_end.specs.declared.fault.EndFault.TheVariants as faults
use Rattle.tcap_end.specs.declared.half.Phase.TheVariants as phases
use Rattle.tcap_end.specs.declared.half.Slot.TheVariants.{Begun}
use Rattle.tcap_end.specs.Component.{allows, allows_for, may_answer, may_link, own_invocation, send_answer, send_component, send_invoke, send_reject}
use Rattle.tcap_end.specs.Dialogue.{first_dialogue_state, may_begin}
use Rattle.tcap_end.specs.End.{End, KeyedHalf, put, with_own}
use Rattle.tcap_end.specs.Half.{Answer, Half, Invocation, fresh, listed, one_fits, without_oldest_of}
use Rattle.tcap_end.specs.Message.{send_begin, send_components}
use Rattle.tcap_end.specs.ReachableEnd.{Rises}
use Rattle.tcap_end.specs.Table.{Table, operation_of}
use Rattle.tcap_end.proofs.AnsweringLaws.{needs_ok, ok_same, then_ok}
use Rattle.tcap_end.proofs.HalfLaws.{IsListed, half_sent}
use Rattle.tcap_model.specs.World.{World, end_at}
use Rattle.tcap_model.specs.Run.{Event, Runs}
use Rattle.tcap_model.specs.SinceMark.{PeerSentComponent, IsAnswer}
use Rattle.tcap_model.proofs.ListLaws.{all_weaker}
use Rattle.tcap_model.proofs.PeerLaws.{Knows, knows}
use Rattle.tcap_model.proofs.RunLaws.{sound}
use Rattle.tcap_model.proofs.SentMoves.{one_follows}
use Rattle.tcap_model.proofs.TurnLaws.{taken_loses}
use Rattle.tcap_refute.specs.EarlierMessages.{peer_sent_from, components_of, since_quiet}
use Rattle.tcap_refute.proofs.BeforeLaws.{component_has}
use Rattle.tcap_refute.proofs.OverLaws.{IsOver}
use Rattle.tcap_refute.proofs.SentLaws.{IsSent, half_over}

-- If all elements have `P` and a test finds one, some element has `P` and passes.
pub one_of_all : {A : Type 0} (P : A → Type 0) (fits : A → Bool) (xs : List A) → AllByRecursion P xs
    → list_any fits xs ≡ true → (x : A) × P x × (fits x ≡ true)
one_of_all P fits [] all found = cc
one_of_all {A} P fits (x ∷ xs) all found = by (fits x) refl found (one_of_all P fits xs all.1)
  where
    by : (b : Bool) → fits x ≡ b → (b || list_any fits xs) ≡ true
        → (list_any fits xs ≡ true → (y : A) × P y × (fits y ≡ true))
        → (y : A) × P y × (fits y ≡ true)
    by true passes found rest = (x, all.0, passes)
    by false fails found rest = rest found

-- ---- what came to a half

-- These components have the Invoke of an invocation that a half received.
abbrev pub IsInvoked : List Component → ℤ → Invocation → Type 0
IsInvoked cs id item =
    (linked : Option ℤ) × (parameter : Option (List ℕ)) × Contains cs (Invoke id linked item.code parameter)

-- These components have an answer that a half received.
abbrev pub IsAnswered : List Component → ℤ → Answer → Type 0
IsAnswered cs id answer = (component : Component) × IsAnswer answer id component × Contains cs component

-- These components have all that a half received.
pub record Came (cs : List Component) (h : Half) : Type 0 where
  pub inn : (id : ℤ) → AllByRecursion (IsInvoked cs id) (listed id h.inn)
  pub grants : (id : ℤ) → AllByRecursion (IsAnswered cs id) (listed id h.grants)

-- They have all that remains after the oldest fitting invocation is taken.
took_inn : (cs : List Component) (h : Half) (id : ℤ) (fits : Invocation → Bool) → Rises int_cmp h.inn → Came cs h
    → Came cs (record h { inn = without_oldest_of id fits h.inn })
took_inn cs h id fits rises came =
    record { inn = λ q. taken_loses id fits h.inn rises q (IsInvoked cs q) (came.inn q); grants = came.grants }

took_grants : (cs : List Component) (h : Half) (id : ℤ) (fits : Answer → Bool) → Rises int_cmp h.grants → Came cs h
    → Came cs (record h { grants = without_oldest_of id fits h.grants })
took_grants cs h id fits rises came =
    record { inn = came.inn; grants = λ q. taken_loses id fits h.grants rises q (IsAnswered cs q) (came.grants q) }

-- Both halves are the same if the step was Ok.
came_this : (cs : List Component) (x g : Half) → Came cs x → (let r : Result Half EndFault = Ok x in r) ≡ Ok g
    → Came cs g
came_this cs x g came is = let same = ok_same {F = EndFault} x g is in rw (← same) came

-- ---- components that are sent

-- These components have an invocation that the answer may answer.
abbrev pub MayAnswer : Table → List Component → Bool → ℤ → Option Code → Type 0
MayAnswer table cs is_result id named =
    (item : Invocation) × IsInvoked cs id item × (may_answer table is_result named item ≡ true)

-- These components have an answer of this sort, to reject.
abbrev pub MayReject : List Component → Bool → ℤ → Type 0
MayReject cs is_result id = (answer : Answer) × IsAnswered cs id answer × (answer.is_result ≡ is_result)

-- These components have what this component answers or rejects; the table has what it invokes.
abbrev pub IsFounded : Table → List Component → Component → Type 0
IsFounded table cs (Invoke id linked code parameter) = is_some (operation_of table code) ≡ true
IsFounded table cs (ReturnResult last id body) = MayAnswer table cs true id (option_map (λ b. b.code) body)
IsFounded table cs (ReturnError id code parameter) = MayAnswer table cs false id None
IsFounded table cs (Reject None problem) = ⊥
IsFounded table cs (Reject (Some id) (problems.General n)) = ⊥
IsFounded table cs (Reject (Some id) (problems.Invoke n)) = (item : Invocation) × IsInvoked cs id item
IsFounded table cs (Reject (Some id) (problems.ReturnResult n)) = MayReject cs true id
IsFounded table cs (Reject (Some id) (problems.ReturnError n)) = MayReject cs false id

-- An answer that allows the problem is of this sort.
allows_sort : (is_result : Bool) (n : ℕ) (answer : Answer) → allows_for is_result n answer ≡ true
    → answer.is_result ≡ is_result
allows_sort is_result n answer is = grind (arith, is)

rejects_answer : (cs : List Component) (h : Half) (is_result : Bool) (n : ℕ) (id : ℤ) → Came cs h
    → one_fits id (allows_for is_result n) h.grants ≡ true → MayReject cs is_result id
rejects_answer cs h is_result n id came one =
    let (answer, is, fits) =
    one_of_all (IsAnswered cs id) (allows_for is_result n) (listed id h.grants) (came.grants id) one in
    (answer, is, allows_sort is_result n answer fits)

-- A Reject that is sent is founded.
reject_founded : (table : Table) (cs : List Component) (h g : Half) (id : Option ℤ) (problem : Problem)
    → Rises int_cmp h.inn → Rises int_cmp h.grants → Came cs h → send_reject h id problem ≡ Ok g
    → IsFounded table cs (Reject id problem) × Came cs g
reject_founded table cs h g None problem inn grants came is = cc
reject_founded table cs h g (Some id) (problems.General n) inn grants came is = cc
reject_founded table cs h g (Some id) (problems.Invoke n) inn grants came is =
    let (one, done) = needs_ok (one_fits id (allows n) h.inn) faults.RejectNotAllowed _ g is in
    let (item, has, fits) = one_of_all (IsInvoked cs id) (allows n) (listed id h.inn) (came.inn id) one in
    ((item, has), came_this cs _ g (took_inn cs h id (allows n) inn came) done)
reject_founded table cs h g (Some id) (problems.ReturnResult n) inn grants came is =
    let (one, done) = needs_ok (one_fits id (allows_for true n) h.grants) faults.RejectNotAllowed _ g is in
    let left = took_grants cs h id (allows_for true n) grants came in
    (rejects_answer cs h true n id came one, came_this cs _ g left done)
reject_founded table cs h g (Some id) (problems.ReturnError n) inn grants came is =
    let (one, done) = needs_ok (one_fits id (allows_for false n) h.grants) faults.RejectNotAllowed _ g is in
    let left = took_grants cs h id (allows_for false n) grants came in
    (rejects_answer cs h false n id came one, came_this cs _ g left done)

-- The table has the operation of an Invoke that is sent.
invoke_founded : (table : Table) (cs : List Component) (h g : Half) (id : ℤ) (linked : Option ℤ) (code : Code)
    → Came cs h → send_invoke table h id linked code ≡ Ok g → (is_some (operation_of table code) ≡ true) × Came cs g
invoke_founded table cs h g id linked code came is =
    let known = needs_ok (is_some (operation_of table code)) faults.UnknownOperation _ g is in
    let free = needs_ok (is_none (own_invocation h id)) faults.InvokeIdBusy _ g known.1 in
    let may = needs_ok (may_link table h linked code) faults.BadLink _ g free.1 in
    (known.0, came_this cs _ g (record { inn = came.inn; grants = came.grants }) may.1)

-- An answer that is sent is founded.
answer_founded : (table : Table) (cs : List Component) (h g : Half) (is_result last : Bool) (id : ℤ)
    (named : Option Code) → Rises int_cmp h.inn → Came cs h → send_answer table h is_result last id named ≡ Ok g
    → MayAnswer table cs is_result id named × Came cs g
answer_founded table cs h g is_result last id named inn came is =
    let some = needs_ok (one_fits id (λ item. true) h.inn) faults.NothingToAnswer _ g is in
    let class = needs_ok (one_fits id (may_answer table is_result None) h.inn) faults.ClassForbids _ g some.1 in
    let fits = needs_ok (one_fits id (may_answer table is_result named) h.inn) faults.WrongOperation _ g class.1 in
    let one = one_of_all (IsInvoked cs id) (may_answer table is_result named) (listed id h.inn) (came.inn id) fits.0 in
    (one, by last fits.1)
  where
    left : Half
    left = record h { inn = without_oldest_of id (may_answer table is_result named) h.inn }

    by : (b : Bool) → (let r : Result Half EndFault = Ok (cond b left h) in r) ≡ Ok g → Came cs g
    by true is = came_this cs left g (took_inn cs h id (may_answer table is_result named) inn came) is
    by false is = came_this cs h g came is

component_founded : (table : Table) (cs : List Component) (h g : Half) (c : Component) → Rises int_cmp h.inn
    → Rises int_cmp h.grants → Came cs h → send_component table h c ≡ Ok g → IsFounded table cs c × Came cs g
component_founded table cs h g (Invoke id linked code parameter) inn grants came is =
    invoke_founded table cs h g id linked code came is
component_founded table cs h g (ReturnResult last id body) inn grants came is =
    answer_founded table cs h g true last id _ inn came is
component_founded table cs h g (ReturnError id code parameter) inn grants came is =
    answer_founded table cs h g false true id None inn came is
component_founded table cs h g (Reject id problem) inn grants came is =
    reject_founded table cs h g id problem inn grants came is

-- All components of a sent message are founded; nothing is received in between.
all_founded : (table : Table) (cs components : List Component) (h g : Half) → IsListed h.inn → IsListed h.grants
    → Came cs h → send_components table h components ≡ Ok g → AllByRecursion (IsFounded table cs) components
all_founded table cs [] h g inn grants came is = tt
all_founded table cs (c ∷ more) h g inn grants came is =
    let (next, one, rest) = then_ok (send_component table h c) (λ next. send_components table next more) g is in
    let (founded, left) = component_founded table cs h next c inn.0 grants.0 came one in
    let follows = one_follows table h next c one in
    (founded, all_founded table cs more next g (follows.inn inn) (follows.grants grants) left rest)

-- ---- a Begin

-- The components of a Begin are founded on none.
pub begin_founded : (table : Table) (e made : End) (otid : List ℕ) (dialogue : Option Dialogue)
    (components : List Component) → send_begin table e otid dialogue components ≡ Ok made
    → AllByRecursion (IsFounded table []) components
begin_founded table e made otid dialogue components is =
    let free = needs_ok (is_none (with_own e otid)) faults.IdUsed _ made is in
    let may = needs_ok (may_begin dialogue) faults.WrongDialogue _ made free.1 in
    let (g, sent, done) =
    then_ok (send_components table start components) (λ half. Ok (put e Begun otid half)) made may.1 in
    let half = half_sent otid dialogue in
    all_founded table [] components start g half.inn half.grants (record { inn = λ id. tt; grants = λ id. tt }) sent
  where
    start : Half
    start = fresh phases.Sent (Some otid) None (first_dialogue_state dialogue)

-- ---- a message with a destination ID

-- The invocation came from the half's peer.
abbrev IsPeersInvoke : World → Side → KeyedHalf → ℤ → Invocation → Type 0
IsPeersInvoke w side f id item =
    (linked : Option ℤ) × (parameter : Option (List ℕ)) × PeerSentComponent w side f (Invoke id linked item.code parameter)

-- The answer came from the half's peer.
abbrev IsPeersAnswer : World → Side → KeyedHalf → ℤ → Answer → Type 0
IsPeersAnswer w side f id answer =
    (component : Component) × IsAnswer answer id component × PeerSentComponent w side f component

-- What came from a half's peer is among what the peer sent from its ID.
from_peer : (w : World) (side : Side) (f : KeyedHalf) (id : List ℕ) (c : Component) → f.half.peer ≡ Some id
    → PeerSentComponent w side f c → Contains (components_of (peer_sent_from side id (since_quiet w.sent))) c
from_peer w side f id c peer (m, since, from, has) =
    component_has side id m c w.sent since (from ∙ peer) has

-- All that the message's half received is among what the peer sent from the destination ID.
came_from : (table : Table) (events : List Event) (w : World) (side : Side) (message : Message) (id : List ℕ)
    → Runs table events w → (half : IsOver table (end_at side w) message id)
    → Came (components_of (peer_sent_from side id (since_quiet w.sent))) half.start
came_from table events w side message id runs half = record {
  inn = λ q. rw (half.inn)
      (all_weaker (IsPeersInvoke w side half.kept q) (IsInvoked cs q) (listed q half.kept.half.inn)
      (λ item (linked, parameter, came). (linked, parameter, from_peer w side half.kept id _ half.peer came))
      (known.invokes q));
  grants = λ q. rw (half.grants)
      (all_weaker (IsPeersAnswer w side half.kept q) (IsAnswered cs q) (listed q half.kept.half.grants)
      (λ answer (c, is, came). (c, is, from_peer w side half.kept id c half.peer came))
      (known.answers q));
}
  where
    known : Knows w side half.kept
    known = knows table events w side half.kept runs half.had

    cs : List Component
    cs = components_of (peer_sent_from side id (since_quiet w.sent))

-- The components of a message are founded on what the peer sent from its destination ID.
pub over_founded : {table : Table} {events : List Event} {w : World} {side : Side} {message : Message} (id : List ℕ)
    → IsSent table events w side message → dtid_in message ≡ Some id
    → AllByRecursion (IsFounded table (components_of (peer_sent_from side id (since_quiet w.sent)))) (components_in message)
over_founded {table} {events} {w} {side} {message} id it to =
    let half = half_over id it to in
    let kept = (sound table events w it.runs side).halves half.kept half.had in
    all_founded table _ (components_in message) half.start half.behind (rw (half.inn) kept.inn)
    (rw (half.grants) kept.grants)
    (came_from table events w side message id it.runs half) half.sends
