-- What a received answer is for, and what it does.
use Rattle.std.proofs.Common.{◌≡◌, ℕ, ℤ, Bool, true, false, cond, List, [], ◌∷◌, ◌++◌, Option, Some, None, is_some, refl, sym, ap, ◌∙◌}
use Rattle.std.specs.Prelude.{IsSome, option_map}
use Rattle.std.specs.Borrow.{Bor}
use Rattle.std.specs.Option.{option_copied}
use Rattle.std.specs.Ordering.{int_cmp}
use Rattle.std.specs.List.{list_any}
use Rattle.std.specs.Map.{lookup, remove_entry}
use Rattle.std.specs.BTreeMap.{is_at}
use Rattle.tcap_parts.specs.declared.code.Code.{Code}
use Rattle.tcap_end.specs.declared.half.InvocationState.{InvocationState}
use Rattle.tcap_end.specs.declared.half.InvocationState.TheVariants as states
use Rattle.tcap_end.specs.declared.own_invocations.OwnInvocation.{OwnInvocation}
use Rattle.tcap_end.specs.declared.own_invocations.Outs.{Outs}
use Rattle.tcap_end.specs.declared.received.Target.TheVariants as targets
use Rattle.tcap_end.specs.declared.received.Target.{Target}
use Rattle.tcap_end.specs.declared.received.Link.{Link}
use Rattle.tcap_end.specs.Table.{Table, class_of, linked_of}
use Rattle.tcap_end.specs.TableReading.{is_linked}
use Rattle.tcap_end.specs.Half.{Half, Invocation}
use Rattle.tcap_end.specs.Class.{reports}
use Rattle.tcap_end.specs.Component.{answer_problems, answered_operation, id_problems, link_problems, link_problems_of, links, operation_sent, operation_sent_by, receive_answer, wait_for_reject, with_grant}
use Rattle.tcap_end.specs.RejectProblems.{invoke_problems, link_numbers, target_of, target_problems}
use Rattle.tcap_end.specs.OwnInvocations.{HasPlace, kept_outs, with_state}
use Rattle.tcap_end.proofs.BackLaws.{has_place, state_again}
use Rattle.tcap_lists.proofs.KeepLaws.{remove_absent}

-- ---- own invocations in Operation Sent

pub sent : (o : Option OwnInvocation) (code : Code) → operation_sent_by o ≡ Some code
    → o ≡ Some (record { code = code; state = states.OperationSent })
sent None code is = cc
sent (Some i) code is = by i.state refl is
  where
    by : (state : InvocationState) → i.state ≡ state → operation_sent_by (Some (record { code = i.code; state = state })) ≡ Some code
        → Some i ≡ Some (record { code = code; state = states.OperationSent })
    by states.OperationSent e is = let same : i.code ≡ code = cc in rw (← e, ← same) refl
    by states.WaitForReject e is = cc

pub is_sent : (i : OwnInvocation) → i.state ≡ states.OperationSent → Some i.code ≡ operation_sent_by (Some i)
is_sent i is = rw is refl

pub is_waiting : (i : OwnInvocation) → i.state ≡ states.WaitForReject → None ≡ operation_sent_by (Some i)
is_waiting i is = rw is refl

-- An own invocation in Operation Sent has a place.
pub sent_place : (id : ℤ) (o : Outs) → IsSome (operation_sent_by (lookup (is_at (int_cmp id)) (kept_outs o))) → HasPlace id o
sent_place id o there = by (lookup (is_at (int_cmp id)) (kept_outs o)) refl there
  where
    by : (i : Option OwnInvocation) → lookup (is_at (int_cmp id)) (kept_outs o) ≡ i → IsSome (operation_sent_by i) → HasPlace id o
    by None is there = cc
    by (Some i) is there = has_place id o i is

-- Moving it to Wait for Reject and back changes nothing.
pub waits_back : (id : ℤ) (o : Outs) → IsSome (operation_sent_by (lookup (is_at (int_cmp id)) (kept_outs o)))
    → with_state id states.OperationSent (with_state id states.WaitForReject (kept_outs o)) ≡ kept_outs o
waits_back id o there = by (operation_sent_by (lookup (is_at (int_cmp id)) (kept_outs o))) refl there
  where
    by : (c : Option Code) → operation_sent_by (lookup (is_at (int_cmp id)) (kept_outs o)) ≡ c → IsSome c
        → with_state id states.OperationSent (with_state id states.WaitForReject (kept_outs o)) ≡ kept_outs o
    by None is there = cc
    by (Some code) is there = state_again id code o (sent (lookup (is_at (int_cmp id)) (kept_outs o)) code is)

-- ---- lookups of own invocations

-- An own invocation that a lookup returns has a place.
pub got_place : (id : ℤ) (o : Outs) (got : Option (Bor OwnInvocation)) → option_copied got ≡ lookup (is_at (int_cmp id)) (kept_outs o)
    → is_some got ≡ true → HasPlace id o
got_place id o None is some = cc
got_place id o (Some i) is some = has_place id o i.now (sym is)

-- If the lookup returns None, removing the ID changes nothing.
pub got_none : (id : ℤ) (o : Outs) (got : Option (Bor OwnInvocation)) → option_copied got ≡ lookup (is_at (int_cmp id)) (kept_outs o)
    → is_some got ≡ false → remove_entry (is_at (int_cmp id)) (kept_outs o) ≡ kept_outs o
got_none id o None is none = remove_absent id (kept_outs o) (sym is)
got_none id o (Some i) is none = cc

-- ---- invocations of an ID

abbrev pub the_item : Code → List ℕ → Invocation
the_item code problems = record { code = code; problems = problems }

pub are_some : (items : List Invocation) → cond (list_any (λ item. true) items) (0 ∷ []) [] ≡ id_problems items
are_some [] = refl
are_some (item ∷ items) = refl

-- the stored form of a received invocation
pub kept_item : (code meant : Code) (duplicate : Bool) (link : Link) (ids links : List ℕ) → code ≡ meant → cond duplicate (0 ∷ []) [] ≡ ids
    → link_numbers link ≡ links
    → the_item code (invoke_problems duplicate link) ≡ the_item meant (ids ++ 1 ∷ 2 ∷ 3 ∷ 4 ∷ [] ++ links)
kept_item code meant duplicate link ids links is_code are_ids are_links = rw (is_code, are_ids, are_links) refl

-- ---- links

module _ (table : Table) (h : Half) (id : ℤ) (code : Code) where
  pub link_unknown : operation_sent h id ≡ None → 5 ∷ [] ≡ link_problems table h (Some id) code
  link_unknown is = rw is refl

  pub link_alone : (to : Code) → operation_sent h id ≡ Some to → false ≡ is_linked (linked_of table to)
      → 6 ∷ [] ≡ link_problems table h (Some id) code
  link_alone to is none = rw is (by (linked_of table to) refl none)
    where
      by : (l : List (Code × Unit {0})) → linked_of table to ≡ l → false ≡ is_linked l → 6 ∷ [] ≡ link_problems_of table code (Some to)
      by [] e none = rw e refl
      by (first ∷ more) e none = cc

  pub link_many : (to : Code) (fits : Bool) → operation_sent h id ≡ Some to → true ≡ is_linked (linked_of table to)
      → fits ≡ links table to code
      → cond fits [] (7 ∷ []) ≡ link_problems table h (Some id) code
  link_many to fits is some e_fits = rw is (by (linked_of table to) refl some)
    where
      by : (l : List (Code × Unit {0})) → linked_of table to ≡ l → true ≡ is_linked l
          → cond fits [] (7 ∷ []) ≡ link_problems_of table code (Some to)
      by [] e some = cc
      by (first ∷ more) e some = rw (e, ← e_fits) refl

-- ---- what an answer is for

module _ (table : Table) (h : Half) (is_result : Bool) (id : ℤ) where
  pub target_none : operation_sent h id ≡ None → targets.Nothing ≡ target_of is_result (answered_operation table h id)
  target_none is = rw is refl

  pub target_unknown : (code : Code) → operation_sent h id ≡ Some code → class_of table code ≡ None
      → targets.Nothing ≡ target_of is_result (answered_operation table h id)
  target_unknown code is none = rw (is, none) refl

  pub target_class : (code : Code) (class : ℕ) → operation_sent h id ≡ Some code → class_of table code ≡ Some class
      → cond (reports is_result class) targets.Invocation targets.OtherClass
      ≡ target_of is_result (answered_operation table h id)
  target_class code class is some = rw (is, some) refl

-- ---- what an answer does

chosen_first : {A : Type 0} (b : Bool) (x y : A) → cond b targets.Invocation targets.OtherClass ≡ targets.Invocation → cond b x y ≡ x
chosen_first true x y is = refl
chosen_first false x y is = cc

-- The last answer that its invocation allows.
answered_last : (table : Table) (h : Half) (is_result : Bool) (id : ℤ)
    → target_of is_result (answered_operation table h id) ≡ targets.Invocation
    → (code : Code) × (operation_sent h id ≡ Some code)
    × (receive_answer h is_result true id (answered_operation table h id)
    ≡ with_grant (wait_for_reject h id code) id is_result (answer_problems is_result))
answered_last table h is_result id is = by (operation_sent h id) refl is
  where
    by_class : (code : Code) (class : Option ℕ) → class_of table code ≡ class → operation_sent h id ≡ Some code
        → target_of is_result (option_map (λ class. (code, class)) class) ≡ targets.Invocation
        → (receive_answer h is_result true id (answered_operation table h id)
        ≡ with_grant (wait_for_reject h id code) id is_result (answer_problems is_result))
    by_class code None e there is = cc
    by_class code (Some class) e there is = rw (there, e) (chosen_first (reports is_result class) _ _ is)

    by : (o : Option Code) → operation_sent h id ≡ o → target_of is_result (answered_operation table h id) ≡ targets.Invocation
        → (code : Code) × (operation_sent h id ≡ Some code)
        × (receive_answer h is_result true id (answered_operation table h id)
        ≡ with_grant (wait_for_reject h id code) id is_result (answer_problems is_result))
    by None e is = let bad = rw e at is in cc
    by (Some code) e is = (code, e, by_class code (class_of table code) refl e (rw e at is))

-- Not the last answer, or an answer that its invocation does not allow.
not_last : {A : Type 0} (b : Bool) (x : A) (y : Target → A) → x ≡ y targets.Invocation
    → cond b x (y targets.OtherClass) ≡ y (cond b targets.Invocation targets.OtherClass)
not_last true x y same = same
not_last false x y same = refl

not_found : {A : Type 0} (b : Bool) (x : A) (y : Target → A) → (cond b targets.Invocation targets.OtherClass ≡ targets.Invocation → ⊥)
    → cond b x (y targets.OtherClass) ≡ y (cond b targets.Invocation targets.OtherClass)
not_found true x y other = absurd (other refl)
not_found false x y other = refl

answered_not_last : (h : Half) (is_result : Bool) (id : ℤ) (o : Option (Code × ℕ))
    → receive_answer h is_result false id o ≡ with_grant h id is_result (target_problems is_result (target_of is_result o))
answered_not_last h is_result id None = refl
answered_not_last h is_result id (Some (code, class)) =
    not_last (reports is_result class) _ (λ target. with_grant h id is_result (target_problems is_result target)) refl

answered_none : (h : Half) (is_result last : Bool) (id : ℤ) (o : Option (Code × ℕ)) → (target_of is_result o ≡ targets.Invocation → ⊥)
    → receive_answer h is_result last id o ≡ with_grant h id is_result (target_problems is_result (target_of is_result o))
answered_none h is_result last id None other = refl
answered_none h is_result last id (Some (code, class)) other =
    not_found (reports is_result class) _ (λ target. with_grant h id is_result (target_problems is_result target)) other

-- ---- the answer was added

module _ (table : Table) (h now : Half) (is_result last : Bool) (id : ℤ) (target : Target)
    (is_target : target ≡ target_of is_result (answered_operation table h id))
    (joined : now ≡ with_grant h id is_result (target_problems is_result target)) where
  -- It is the last one, and its invocation moves to Wait for Reject.
  pub then_waits : (next : Half) → last ≡ true → target ≡ targets.Invocation
      → ((code : Code) → operation_sent now id ≡ Some code → next ≡ wait_for_reject now id code)
      → next ≡ receive_answer h is_result last id (answered_operation table h id)
  then_waits next is_last is waits =
      let (code, there, received) = answered_last table h is_result id (sym is_target ∙ is) in
      waits code (ap (λ h. operation_sent h id) joined ∙ there)
      ∙ ap (λ h. wait_for_reject h id code) joined
      ∙ ap (λ target. with_grant (wait_for_reject h id code) id is_result (target_problems is_result target)) is
      ∙ rw is_last (sym received)

  -- It is not the last one.
  pub then_more : last ≡ false → now ≡ receive_answer h is_result last id (answered_operation table h id)
  then_more more =
      joined ∙ ap (λ target. with_grant h id is_result (target_problems is_result target)) is_target
      ∙ rw more (sym (answered_not_last h is_result id (answered_operation table h id)))

  -- No invocation allows it.
  pub then_none : (target ≡ targets.Invocation → ⊥) → now ≡ receive_answer h is_result last id (answered_operation table h id)
  then_none other =
      joined ∙ ap (λ target. with_grant h id is_result (target_problems is_result target)) is_target
      ∙ sym (answered_none h is_result last id (answered_operation table h id) (λ is. other (is_target ∙ is)))
