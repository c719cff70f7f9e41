-- Expiries that a message implies: a run makes exactly those that the send needs, and the replay makes the same.
use Rattle.std.proofs.Common.{arith, ◌≡◌, ◌⊎◌, inl, inr, ℤ, ℕ, suc, Bool, true, false, cond, List, [], ◌∷◌, ◌++◌, length, map, filter_map, Option, Some, None, Result, Ok, Err, is_none, is_some, not, refl, sym, ap, subst, ◌∙◌, append_assoc}
use Rattle.std.specs.Prelude.{ok_or}
use Rattle.std.specs.List.{AllByRecursion, Contains, cons_option}
use Rattle.std.specs.BTreeMap.{insert_entry}
use Rattle.std.specs.Ordering.{int_cmp}
use Rattle.std.proofs.lemmas.Cmp.{int_cmp_total}
use Rattle.std.proofs.lemmas.List.{append-nil, length-map}
use Rattle.std.proofs.lemmas.List.Elements.{Contains-append_right}
use Rattle.std.proofs.lemmas.Map.Lookups.{exact_signed}
use Rattle.tcap_parts.specs.declared.code.Code.{Code}
use Rattle.tcap_parts.specs.declared.dialogue.Dialogue.{Dialogue}
use Rattle.tcap_parts.specs.declared.problem.Problem.{Problem}
use Rattle.tcap_parts.specs.declared.problem.Problem.TheVariants as problems
use Rattle.tcap_parts.specs.declared.component.Component.{Component}
use Rattle.tcap_parts.specs.declared.component.Component.TheVariants.{Invoke, ReturnResult, ReturnError, Reject}
use Rattle.tcap_msg.specs.declared.message.Message.{Message}
use Rattle.tcap_msg.specs.declared.message.Message.TheVariants.{Unidirectional, Begin, Continue, End as EndMessage, Abort}
use Rattle.tcap_msg.specs.Parts.{components_in, items_of}
use Rattle.tcap_record.specs.declared.entry.End.{End as Side}
use Rattle.tcap_record.specs.declared.entry.End.TheVariants as sides
use Rattle.tcap_end.specs.declared.fault.EndFault.{EndFault}
use Rattle.tcap_end.specs.declared.fault.EndFault.TheVariants as faults
use Rattle.tcap_end.specs.declared.half.HalfName.{HalfName}
use Rattle.tcap_end.specs.declared.half.HalfName.TheVariants as names
use Rattle.tcap_end.specs.declared.half.InvocationState.TheVariants as states
use Rattle.tcap_end.specs.declared.own_invocations.OwnInvocation.{OwnInvocation}
use Rattle.tcap_end.specs.Component.{may_answer, may_link, own_invocation, send_answer, send_component, send_invoke, send_reject}
use Rattle.tcap_end.specs.Dialogue.{may_go_on}
use Rattle.tcap_end.specs.Half.{Half, closed_half, is_closed, one_fits, without_oldest_of}
use Rattle.tcap_end.specs.HiddenSteps.{expire}
use Rattle.tcap_end.specs.Table.{Table, operation_of}
use Rattle.tcap_end.specs.End.{End, KeyedHalf, is_id, named, put as put_half, with_own, with_peer}
use Rattle.tcap_end.specs.Message.{is_active, send, send_components, send_continue, send_end, send_next_continue}
use Rattle.tcap_end.specs.ReachableEnd.{IsEnd}
use Rattle.tcap_end.proofs.AnsweringLaws.{needs_ok, ok_same, some_ok, then_ok}
use Rattle.tcap_end.proofs.MapLaws.{found_other}
use Rattle.tcap_end.proofs.StepLaws.{expires, none_is}
use Rattle.tcap_model.specs.World.{Sent, World, end_at, with_end}
use Rattle.tcap_model.specs.Run.{Event, Sends, Receives, Replies, Loses, Expires, Closes, Quiet, Tells, after, played, option_then}
use Rattle.tcap_certificate.specs.DescribedRun.{IsImplied, invoke_id, invoking_half}
use Rattle.tcap_check.specs.GivenRun.{IsInUse}
use Rattle.tcap_certificate.specs.Replay.{Replay, implied, or_same, stepped, with_step}
use Rattle.tcap_model.proofs.RunLaws.{expiry}
use Rattle.tcap_model.proofs.ListLaws.{contains_first}
use Rattle.tcap_check.proofs.described_run_laws.ExpiryLaws.{Expire, all_in_use, ends_in_use, expires_first, in_use, not_in_use, one_of_them}
use Rattle.tcap_model.proofs.WorldLaws.{end_with}

-- ---- what a send needs

-- An own invocation with this ID is in use on the half.
abbrev Stands : Half → ℤ → Type 0
Stands h id = (own : OwnInvocation) × (own_invocation h id ≡ Some own)

-- A component that is sent invokes no ID in use, and leaves each ID in use.
record Leaves (h g : Half) (c : Component) (id : ℤ) : Type 0 where
  is_no_other : invoke_id c ≡ Some id → ⊥
  stands : Stands g id

-- This holds for the half that a successful step returns.
leaves_this : (h x g : Half) (c : Component) (id : ℤ) → Leaves h x c id → (let r : Result Half EndFault = Ok x in r) ≡ Ok g
    → Leaves h g c id
leaves_this h x g c id leaves is = let same = ok_same {F = EndFault} x g is in rw (← same) leaves

invoke_leaves : (table : Table) (h g : Half) (i id : ℤ) (linked : Option ℤ) (code : Code) (c : Component) → invoke_id c ≡ Some i
    → send_invoke table h i linked code ≡ Ok g → Stands h id → Leaves h g c id
invoke_leaves table h g i id linked code c invokes is stands =
    let known = needs_ok (is_some (operation_of table code)) faults.UnknownOperation _ g is in
    let free = needs_ok (is_none (own_invocation h i)) faults.InvokeIdBusy _ g known.1 in
    let may = needs_ok (may_link table h linked code) faults.BadLink _ g free.1 in
    let none = none_is (own_invocation h i) free.0 in
    let apart = λ (same : id ≡ i). busy none same in
    leaves_this h (record h { out = insert_entry int_cmp h.out i made }) g c id (record {
      is_no_other = λ other. apart (let j : Some i ≡ Some id = sym invokes ∙ other in cc);
      stands = (stands.0, found_other int_cmp_total exact_signed id i made stands.0 h.out apart stands.1);
    }) may.1
  where
    made : OwnInvocation
    made = record { code = code; state = states.OperationSent }

    busy : own_invocation h i ≡ None → id ≡ i → ⊥
    busy none same = let some = stands.1 in let there = ap (own_invocation h) same in cc

no_invoke : (h g : Half) (c : Component) (id : ℤ) → invoke_id c ≡ None → Stands g id → Leaves h g c id
no_invoke h g c id none stands = record { is_no_other = λ other. cc (none, other); stands = stands }

answer_leaves : (table : Table) (h g : Half) (is_result last : Bool) (i id : ℤ) (named : Option Code) (c : Component)
    → invoke_id c ≡ None → send_answer table h is_result last i named ≡ Ok g → Stands h id → Leaves h g c id
answer_leaves table h g is_result last i id named c none is stands =
    let some = needs_ok (one_fits i (λ item. true) h.inn) faults.NothingToAnswer _ g is in
    let class = needs_ok (one_fits i (may_answer table is_result None) h.inn) faults.ClassForbids _ g some.1 in
    let fits = needs_ok (one_fits i (may_answer table is_result named) h.inn) faults.WrongOperation _ g class.1 in
    by last fits.1
  where
    left : Half
    left = record h { inn = without_oldest_of i (may_answer table is_result named) h.inn }

    by : (b : Bool) → (let r : Result Half EndFault = Ok (cond b left h) in r) ≡ Ok g → Leaves h g c id
    by true is = leaves_this h left g c id (no_invoke h left c id none stands) is
    by false is = leaves_this h h g c id (no_invoke h h c id none stands) is

reject_leaves : (h g : Half) (i : Option ℤ) (problem : Problem) (id : ℤ) (c : Component) → invoke_id c ≡ None
    → send_reject h i problem ≡ Ok g → Stands h id → Leaves h g c id
reject_leaves h g None problem id c none is stands = cc
reject_leaves h g (Some i) (problems.General n) id c none is stands = cc
reject_leaves h g (Some i) (problems.Invoke n) id c none is stands =
    let step = needs_ok _ _ _ g is in leaves_this h _ g c id (no_invoke h _ c id none stands) step.1
reject_leaves h g (Some i) (problems.ReturnResult n) id c none is stands =
    let step = needs_ok _ _ _ g is in leaves_this h _ g c id (no_invoke h _ c id none stands) step.1
reject_leaves h g (Some i) (problems.ReturnError n) id c none is stands =
    let step = needs_ok _ _ _ g is in leaves_this h _ g c id (no_invoke h _ c id none stands) step.1

component_leaves : (table : Table) (h g : Half) (c : Component) (id : ℤ) → send_component table h c ≡ Ok g → Stands h id
    → Leaves h g c id
component_leaves table h g (Invoke i linked code parameter) id is stands =
    invoke_leaves table h g i id linked code _ refl is stands
component_leaves table h g (ReturnResult last i body) id is stands =
    answer_leaves table h g true last i id _ _ refl is stands
component_leaves table h g (ReturnError i code parameter) id is stands =
    answer_leaves table h g false true i id None _ refl is stands
component_leaves table h g (Reject i problem) id is stands = reject_leaves h g i problem id _ refl is stands

-- Components that are sent invoke no ID in use.
none_stands : (table : Table) (components : List Component) (h g : Half) (id : ℤ) → send_components table h components ≡ Ok g
    → Contains (filter_map invoke_id components) id → Stands h id → ⊥
none_stands table [] h g id is there stands = let lt = there.1 in absurd (omega arith)
none_stands table (c ∷ more) h g id is there stands =
    let (next, one, rest) = then_ok (send_component table h c) (λ next. send_components table next more) g is in
    let leaves = component_leaves table h next c id one stands in
    by (invoke_id c) refl there leaves.is_no_other (λ later. none_stands table more next g id rest later leaves.stands)
  where
    first : (x : ℤ) → (Some x ≡ Some id → ⊥) → (Contains (filter_map invoke_id more) id → ⊥)
        → (x ≡ id) ⊎ Contains (filter_map invoke_id more) id → ⊥
    first x other rest (inl same) = other (ap Some same)
    first x other rest (inr later) = rest later

    by : (o : Option ℤ) → invoke_id c ≡ o → Contains (cons_option o (filter_map invoke_id more)) id → (o ≡ Some id → ⊥)
        → (Contains (filter_map invoke_id more) id → ⊥) → ⊥
    by None is there other rest = rest there
    by (Some x) is there other rest = first x other rest (contains_first x (filter_map invoke_id more) id there)

-- A later Continue sends its components over the half.
next_sends : (table : Table) (e next : End) (dtid : List ℕ) (dialogue : Option Dialogue) (components : List Component)
    (f : KeyedHalf) → send_next_continue table e dtid dialogue components f ≡ Ok next
    → (g : Half) × (send_components table f.half components ≡ Ok g)
next_sends table e next dtid dialogue components f sends =
    let active = needs_ok (is_active f.half.phase) faults.WrongPhase _ next sends in
    let peer = needs_ok (is_id dtid f.half.peer) faults.NoTransaction _ next active.1 in
    let may = needs_ok (may_go_on f.half.phase f.half.dialogue_state dialogue) faults.WrongDialogue _ next peer.1 in
    let (g, made, put) =
    then_ok (send_components table f.half components) (λ half. Ok (put_half e f.slot f.key half)) next may.1 in (g, made)

-- An End sends its components over the half.
end_sends : (table : Table) (e next : End) (dtid : List ℕ) (dialogue : Option Dialogue) (components : List Component)
    → send_end table e dtid dialogue components ≡ Ok next
    → (f : KeyedHalf) × (g : Half) × (with_peer e dtid ≡ Some f) × (send_components table f.half components ≡ Ok g)
end_sends table e next dtid dialogue components sends =
    let (f, ok, step) = then_ok (ok_or (with_peer e dtid) faults.NoTransaction) _ next sends in
    let is_open = needs_ok (not (is_closed f.half.phase)) faults.WrongPhase _ next step in
    let may = needs_ok (may_go_on f.half.phase f.half.dialogue_state dialogue) faults.WrongDialogue _ next is_open.1 in
    let (g, made, put) =
    then_ok (send_components table f.half components) (λ half. Ok (put_half e f.slot f.key (closed_half half))) next may.1 in
    (f, g, some_ok _ _ f ok, made)

-- A message that is sent over a half invokes no ID in use there.
pub sent_frees : (table : Table) (e next : End) (message : Message) (name : HalfName) (id : ℤ) → send table e message ≡ Ok next
    → invoking_half message ≡ Some name → Contains (filter_map invoke_id (components_in message)) id → IsInUse e name id → ⊥
sent_frees table e next message name id sends over there (kept, own, named_is, found) = by message sends over there
  where
    over_kept : (components : List Component) (f : KeyedHalf) (g : Half) → f ≡ kept → send_components table f.half components ≡ Ok g
        → Contains (filter_map invoke_id components) id → ⊥
    over_kept components f g same made there =
        none_stands table components f.half g id made there (own, ap (λ (k : KeyedHalf). own_invocation k.half id) same ∙ found)

    goes_on : (otid dtid : List ℕ) (dialogue : Option Dialogue) (components : List Component) (o : Option KeyedHalf) → o ≡ Some kept
        → send_continue table e otid dtid dialogue components o ≡ Ok next → Contains (filter_map invoke_id components) id → ⊥
    goes_on otid dtid dialogue components None is sends there = cc
    goes_on otid dtid dialogue components (Some f) is sends there =
        let sending = next_sends table e next dtid dialogue components f sends in
        let same : f ≡ kept = cc in over_kept components f sending.0 same sending.1 there

    by : (m : Message) → send table e m ≡ Ok next → invoking_half m ≡ Some name
        → Contains (filter_map invoke_id (components_in m)) id → ⊥
    by (Unidirectional dialogue components) sends over there = cc
    by (Begin otid dialogue components) sends over there =
        let at : names.Own otid ≡ name = cc in
        let is : with_own e otid ≡ Some kept = ap (named e) at ∙ named_is in
        let free = needs_ok _ _ _ next sends in
        let none = none_is (with_own e otid) free.0 in cc
    by (Continue otid dtid dialogue components) sends over there =
        let at : names.Own otid ≡ name = cc in
        goes_on otid dtid dialogue (items_of components) (with_own e otid) (ap (named e) at ∙ named_is) sends there
    by (EndMessage dtid dialogue components) sends over there =
        let at : names.Peer dtid ≡ name = cc in
        let is : with_peer e dtid ≡ Some kept = ap (named e) at ∙ named_is in
        let (f, g, f_is, made) = end_sends table e next dtid dialogue (items_of components) sends in
        let same : f ≡ kept = cc (f_is, is) in over_kept (items_of components) f g same made there
    by (Abort dtid reason) sends over there = cc

-- ---- the expiries, as IDs

-- The IDs that expire in these events.
record AreIds (table : Table) (side : Side) (name : HalfName) (made : List Event) (ids : List ℤ) (w before : World) : Type 0 where
  those : List ℤ
  are : made ≡ map (Expires side name) those
  invoked : (id : ℤ) → Contains those id → Contains ids id
  ran : Expire table name those (end_at side w) (end_at side before)

-- An implied event is an expiry on this half, of an ID that the message invokes.
is_expiry : (side : Side) (message : Message) (name : HalfName) (event : Event) → IsImplied (Sent side message) event
    → invoking_half message ≡ Some name
    → (id : ℤ) × (event ≡ Expires side name id) × Contains (filter_map invoke_id (components_in message)) id
is_expiry side message name (Sends sender m) is over = absurd is
is_expiry side message name (Receives receiver number) is over = absurd is
is_expiry side message name (Replies replier number) is over = absurd is
is_expiry side message name (Loses sender number) is over = absurd is
is_expiry side message name (Expires other half id) is over =
    let same : half ≡ name = cc (is.1, over) in
    (id, ap (λ (s : Side). Expires s half id) is.0 ∙ ap (λ (n : HalfName). Expires side n id) same, is.2)
is_expiry side message name (Closes other half) is over = absurd is
is_expiry side message name Quiet is over = absurd is
is_expiry side message name (Tells sender m) is over = absurd is

pub with_same : (side : Side) (w : World) → with_end side (end_at side w) w ≡ w
with_same sides.A w = refl
with_same sides.B w = refl

pub with_twice : (side : Side) (e f : End) (w : World) → with_end side f (with_end side e w) ≡ with_end side f w
with_twice sides.A e f w = refl
with_twice sides.B e f w = refl

-- The implied events of a run are expiries of these IDs.
ids_of : (table : Table) (side : Side) (message : Message) (name : HalfName) (made : List Event) (w before : World)
    → AllByRecursion (IsImplied (Sent side message)) made → invoking_half message ≡ Some name → played table made w ≡ Some before
    → AreIds table side name made (filter_map invoke_id (components_in message)) w before
ids_of table side message name [] w before all over plays = record {
  those = [];
  are = refl;
  invoked = λ id there. let lt = there.1 in absurd (omega arith);
  ran = let same : w ≡ before = cc in ap (end_at side) same;
}
ids_of table side message name (event ∷ events) w before all over plays =
    let (id, same, there) = is_expiry side message name event all.0 over in
    let on = subst (λ (x : Event). option_then (after table x w) (played table events) ≡ Some before) same plays in
    by id same there (after table (Expires side name id) w) refl on
    (λ next. ids_of table side message name events next before all.1 over)
  where
    ids : List ℤ
    ids = filter_map invoke_id (components_in message)

    by : (id : ℤ) → event ≡ Expires side name id → Contains ids id → (o : Option World) → after table (Expires side name id) w ≡ o
        → option_then o (played table events) ≡ Some before
        → ((next : World) → played table events next ≡ Some before → AreIds table side name events ids next before)
        → AreIds table side name (event ∷ events) ids w before
    by id same there None at on rest = cc
    by id same there (Some next) at on rest =
        let x = expiry table side name id w next at in
        let later = rest next on in
        let behind : end_at side next ≡ x.made = ap (end_at side) x.next_is ∙ end_with side x.made w in record {
          those = id ∷ later.those;
          are = ap (λ (first : Event). first ∷ events) same ∙ ap (λ (more : List Event). Expires side name id ∷ more) later.are;
          invoked = λ i among. first id there later.those later.invoked i (contains_first id later.those i among);
          ran = (x.made, x.step_is, subst (λ (e : End). Expire table name later.those e (end_at side before)) behind later.ran);
        }
      where
        first : (id : ℤ) → Contains ids id → (those : List ℤ) → ((i : ℤ) → Contains those i → Contains ids i) → (i : ℤ)
            → (id ≡ i) ⊎ Contains those i → Contains ids i
        first id there those invoked i (inl same) = subst (λ (j : ℤ). Contains ids j) same there
        first id there those invoked i (inr later) = invoked i later

-- ---- the replay

-- The steps that the replay makes for these IDs, and the end that they lead to.
record Makes (side : Side) (count : ℕ) (last : End) (r next : Replay) : Type 0 where
  steps : List Event
  events : next.events ≡ r.events ++ steps
  as_many : length steps ≡ count
  world : next.world ≡ with_end side last r.world

not_stepped : (table : Table) (side : Side) (name : HalfName) (id : ℤ) (r : Replay) → (IsInUse (end_at side r.world) name id → ⊥)
    → stepped table (Expires side name id) r ≡ None
not_stepped table side name id r free = by (expire table (end_at side r.world) name id) refl
  where
    by : (o : Result End EndFault) → expire table (end_at side r.world) name id ≡ o → stepped table (Expires side name id) r ≡ None
    by (Ok e) is = absurd (free (ends_in_use table (end_at side r.world) name id e is))
    by (Err reason) is = rw is refl

is_stepped : (table : Table) (side : Side) (name : HalfName) (id : ℤ) (r : Replay) (e : End)
    → expire table (end_at side r.world) name id ≡ Ok e
    → stepped table (Expires side name id) r ≡ Some (with_step (Expires side name id) r (with_end side e r.world))
is_stepped table side name id r e is = rw is refl

-- One step, and then the others.
made_first : (side : Side) (event : Event) (few count : ℕ) (e last : End) (r next : Replay) → suc few ≡ count
    → Makes side few last (with_step event r (with_end side e r.world)) next → Makes side count last r next
made_first side event few count e last r next counted later = record {
  steps = event ∷ later.steps;
  events = later.events ∙ append_assoc r.events (event ∷ []) later.steps;
  as_many = ap suc later.as_many ∙ counted;
  world = later.world ∙ with_twice side e last r.world;
}

-- The replay tries each ID in turn, and makes a step for each that is in use.
makes : (table : Table) (side : Side) (name : HalfName) (ids those : List ℤ) (last : End) (r : Replay) → IsEnd (end_at side r.world)
    → Expire table name those (end_at side r.world) last → ((id : ℤ) → Contains those id → Contains ids id)
    → ((id : ℤ) → Contains ids id → IsInUse last name id → ⊥)
    → Makes side (length those) last r (implied table side name ids r)
makes table side name [] [] last r sound ran invoked free = record {
  steps = [];
  events = sym (append-nil r.events);
  as_many = refl;
  world = sym (with_same side r.world) ∙ ap (λ (e : End). with_end side e r.world) ran;
}
makes table side name [] (id ∷ those) last r sound ran invoked free =
    let there = invoked id (0, omega arith, refl) in let lt = there.1 in absurd (omega arith)
makes table side name (x ∷ ids) those last r sound ran invoked free =
    by (in_use e name x) (λ those r. makes table side name ids those last r)
  where
    e : End
    e = end_at side r.world

    event : Event
    event = Expires side name x

    behind : (i : ℤ) → Contains ids i → IsInUse last name i → ⊥
    behind i there = free i (Contains-append_right (x ∷ []) ids i there)

    among : (other : List ℤ) → ((i : ℤ) → Contains other i → Contains those i) → (Contains other x → ⊥)
        → (i : ℤ) → Contains other i → Contains ids i
    among other are none i there = at (contains_first x ids i (invoked i (are i there)))
      where
        at : (x ≡ i) ⊎ Contains ids i → Contains ids i
        at (inl same) = absurd (none (subst (λ (j : ℤ). Contains other j) (sym same) there))
        at (inr later) = later

    by : IsInUse e name x ⊎ (IsInUse e name x → ⊥)
        → ((those : List ℤ) (r : Replay) → IsEnd (end_at side r.world) → Expire table name those (end_at side r.world) last
        → ((id : ℤ) → Contains those id → Contains ids id) → ((id : ℤ) → Contains ids id → IsInUse last name id → ⊥)
        → Makes side (length those) last r (implied table side name ids r))
        → Makes side (length those) last r (implied table side name (x ∷ ids) r)
    by (inr none) rest =
        let there = among those (λ i h. h) (λ h. none (all_in_use table name those e last x ran h)) in
        subst (λ (o : Option Replay). Makes side (length those) last r (implied table side name ids (or_same r o)))
        (sym (not_stepped table side name x r none)) (rest those r sound ran there behind)
    by (inl had) rest =
        let f = expires_first table name those e last x ran had (free x (0, omega arith, refl)) in
        let next = with_step event r (with_end side f.next r.world) in
        let at = end_with side f.next r.world in
        let there = among f.others f.are
        (λ h. not_in_use table e name x f.next sound f.expires (all_in_use table name f.others f.next last x f.ran h)) in
        let later = rest f.others next (rw at (expires table e f.next name x sound f.expires).sound) (rw at f.ran) there behind in
        subst (λ (o : Option Replay). Makes side (length those) last r (implied table side name ids (or_same r o)))
        (sym (is_stepped table side name x r f.next f.expires))
        (made_first side event (length f.others) (length those) f.next last r _ (sym f.counted) later)

-- The replay makes as many steps as the run, and leads to the same end.
pub record AreMade (side : Side) (before : World) (made : List Event) (r next : Replay) : Type 0 where
  pub steps : List Event
  pub events : next.events ≡ r.events ++ steps
  pub as_many : length steps ≡ length made
  pub world : next.world ≡ with_end side (end_at side before) r.world

-- The replay makes as many expiries as the run, and leads to the same end.
pub implied_same : (table : Table) (side : Side) (message : Message) (name : HalfName) (made : List Event) (w before : World) (sent : End) (r : Replay)
    → IsEnd (end_at side w) → AllByRecursion (IsImplied (Sent side message)) made → invoking_half message ≡ Some name
    → played table made w ≡ Some before → send table (end_at side before) message ≡ Ok sent
    → end_at side r.world ≡ end_at side w
    → AreMade side before made r (implied table side name (filter_map invoke_id (components_in message)) r)
implied_same table side message name made w before sent r sound all over plays sends same =
    let given = ids_of table side message name made w before all over plays in
    let replayed =
    makes table side name ids given.those (end_at side before) r (rw same sound) (rw same given.ran) given.invoked free in record {
      steps = replayed.steps;
      events = replayed.events;
      as_many = replayed.as_many ∙ sym (ap length given.are ∙ length-map {A = ℤ} given.those (Expires side name));
      world = replayed.world;
    }
  where
    ids : List ℤ
    ids = filter_map invoke_id (components_in message)

    free : (id : ℤ) → Contains ids id → IsInUse (end_at side before) name id → ⊥
    free id there had = sent_frees table (end_at side before) sent message name id sends over there had

-- ---- the law

-- If an expiry on this half is among those of these IDs, its ID is one of them.
one_of_ids : (side : Side) (name : HalfName) (ids : List ℤ) (id : ℤ) → Contains (map (Expires side name) ids) (Expires side name id)
    → Contains ids id
one_of_ids side name [] id there = let lt = there.1 in absurd (omega arith)
one_of_ids side name (x ∷ ids) id there =
    by (one_of_ids side name ids id) (contains_first (Expires side name x) (map (Expires side name) ids) (Expires side name id) there)
  where
    by : (Contains (map (Expires side name) ids) (Expires side name id) → Contains ids id)
        → (Expires side name x ≡ Expires side name id) ⊎ Contains (map (Expires side name) ids) (Expires side name id)
        → Contains (x ∷ ids) id
    by rest (inl same) = (0, omega arith, cc)
    by rest (inr later) = Contains-append_right (x ∷ []) ids id (rest later)

-- If an ID is one of these, its expiry is among theirs.
ids_one : (side : Side) (name : HalfName) (ids : List ℤ) (id : ℤ) → Contains ids id
    → Contains (map (Expires side name) ids) (Expires side name id)
ids_one side name [] id there = let lt = there.1 in absurd (omega arith)
ids_one side name (x ∷ ids) id there = by (ids_one side name ids id) (contains_first x ids id there)
  where
    by : (Contains ids id → Contains (map (Expires side name) ids) (Expires side name id)) → (x ≡ id) ⊎ Contains ids id
        → Contains (Expires side name x ∷ map (Expires side name) ids) (Expires side name id)
    by rest (inl same) = (0, omega arith, ap (Expires side name) same)
    by rest (inr later) =
        Contains-append_right (Expires side name x ∷ []) (map (Expires side name) ids) (Expires side name id) (rest later)

-- A run makes exactly the expiries that its send needs.
pub made_are_needed : (table : Table) (side : Side) (message : Message) (name : HalfName) (made : List Event)
    (w before : World) (sent : End) (id : ℤ)
    → AllByRecursion (IsImplied (Sent side message)) made → invoking_half message ≡ Some name
    → played table made w ≡ Some before → send table (end_at side before) message ≡ Ok sent
    → Contains (filter_map invoke_id (components_in message)) id
    → (Contains made (Expires side name id) → IsInUse (end_at side w) name id)
    × (IsInUse (end_at side w) name id → Contains made (Expires side name id))
made_are_needed table side message name made w before sent id all over plays sends there =
    let given = ids_of table side message name made w before all over plays in
    let free = sent_frees table (end_at side before) sent message name id sends over there in (
      λ among.
          all_in_use table name given.those (end_at side w) (end_at side before) id given.ran
          (one_of_ids side name given.those id
          (subst (λ (events : List Event). Contains events (Expires side name id)) given.are among)),
      λ had.
          subst (λ (events : List Event). Contains events (Expires side name id)) (sym given.are)
          (ids_one side name given.those id
          (one_of_them table name given.those (end_at side w) (end_at side before) id given.ran had free)),
    )
