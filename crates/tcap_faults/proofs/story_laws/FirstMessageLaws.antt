-- A message without destination ID: nothing came before its Invokes (Q.774 3.2).
use Rattle.std.proofs.Common.{◌≡◌, ℕ, ℤ, arith, Bool, true, false, List, [], ◌∷◌, ◌++◌, Option, Some, None, Result, Ok, Err, is_none, is_some, not, refl, sym, ap, ◌∙◌}
use Rattle.std.specs.Prelude.{◌||◌, ok_or}
use Rattle.std.specs.List.{list_any}
use Rattle.std.proofs.lemmas.Bool.{both_ways, not-true, or_cases}
use Rattle.std.proofs.lemmas.List.Folds.{list_any-append}
use Rattle.tcap_parts.specs.declared.code.Code.{Code}
use Rattle.tcap_parts.specs.declared.component.Component.{Component}
use Rattle.tcap_parts.specs.declared.component.Component.TheVariants.{Invoke}
use Rattle.tcap_parts.specs.declared.dialogue.Dialogue.{Dialogue}
use Rattle.tcap_end.specs.declared.fault.EndFault.{EndFault}
use Rattle.tcap_end.specs.declared.fault.EndFault.TheVariants as faults
use Rattle.tcap_end.specs.declared.half.Phase.TheVariants as phases
use Rattle.tcap_end.specs.declared.half.Slot.TheVariants.{Begun}
use Rattle.tcap_end.specs.Class.{reports_neither}
use Rattle.tcap_end.specs.Table.{Table, class_of}
use Rattle.tcap_end.specs.Half.{Half, fresh, one_fits}
use Rattle.tcap_end.specs.Component.{links, send_component}
use Rattle.tcap_end.specs.Dialogue.{first_dialogue_state, may_be_uni, may_begin}
use Rattle.tcap_end.specs.End.{End, put, with_own}
use Rattle.tcap_end.specs.Message.{has_id, send_begin, send_components, send_uni, send_uni_components}
use Rattle.tcap_end.specs.Step.{◌>>◌}
use Rattle.tcap_end.proofs.AnsweringLaws.{needs_ok, then_ok}
use Rattle.tcap_end.proofs.ComponentLaws.{all_sends}
use Rattle.tcap_end.proofs.StepLaws.{none_is}
use Rattle.tcap_refute.specs.EarlierMessages.{invokes}
use Rattle.tcap_faults.specs.Components.{has_component, invokes_again, is_linked}
use Rattle.tcap_faults.proofs.list_laws.CountLaws.{any_counts, one}
use Rattle.tcap_faults.proofs.story_laws.MessageComponentLaws.{neither, none_has}
use Rattle.tcap_faults.proofs.story_laws.OwnInvocationLaws.{invoked_along}
use Rattle.tcap_faults.proofs.story_laws.ComponentStepLaws.{invokes_step}

-- ---- kinds

-- ---- a Begin

-- Sending leaves a half without received invocations as it is.
stays_none : (table : Table) (h g : Half) (c : Component) → send_component table h c ≡ Ok g → h.inn ≡ [] → g.inn ≡ []
stays_none table h g c is none = (all_sends table (c ∷ []) h g (rw is refl)).inn none

-- Over a half that received nothing, no Invoke is linked.
none_linked : (table : Table) (components : List Component) (h k : Half) → h.inn ≡ []
    → send_components table h components ≡ Ok k → list_any is_linked components ≡ true → ⊥
none_linked table [] h k none is found = cc
none_linked table (c ∷ more) h k none is found =
    let (next, first, rest) = then_ok (send_component table h c) (λ n. send_components table n more) k is in
    let left = stays_none table h next c first none in
    neither (or_cases (is_linked c) (list_any is_linked more) found) (by c next first)
    (none_linked table more next k left rest)
  where
    by : (c : Component) (next : Half) → send_component table h c ≡ Ok next → is_linked c ≡ true → ⊥
    by (Invoke id (Some to) code parameter) next first linked =
        let may : one_fits to (λ item. links table item.code code) h.inn ≡ true =
        (invokes_step table h next id (Some to) code first).may in
        let bad = rw none at may in cc
    by c next first linked = cc

-- Over any half, no message has two Invokes with one ID.
none_twice : (table : Table) (g : Half) (own : List Component) (h k : Half) (c : Component)
    → send_components table g own ≡ Ok h → send_component table h c ≡ Ok k → invokes_again own ([] ++ own) c ≡ true → ⊥
none_twice table g own h k (Invoke id linked code parameter) was is again =
    let free = ap (λ o. one (is_some o)) ((invokes_step table h k id linked code is).free) in
    absurd (omega (arith, free, invoked_along table id own g h was, any_counts (invokes id) own again))
none_twice table g own h k c was is again = cc

-- The components of a Begin are sent over a new half.
begin_sends : (table : Table) (e made : End) (otid : List ℕ) (dialogue : Option Dialogue) (components : List Component)
    → send_begin table e otid dialogue components ≡ Ok made → (k : Half)
    × (send_components table (fresh phases.Sent (Some otid) None (first_dialogue_state dialogue)) components ≡ Ok k)
begin_sends table e made otid dialogue components is =
    let free = needs_ok (is_none (with_own e otid)) faults.IdUsed _ made is in
    let may = needs_ok (may_begin dialogue) faults.WrongDialogue _ made free.1 in
    let (k, sent, done) =
    then_ok (send_components table (fresh phases.Sent (Some otid) None (first_dialogue_state dialogue)) components)
    (λ half. Ok (put e Begun otid half)) made may.1 in
    (k, sent)

pub begin_none_again : (table : Table) (e made : End) (otid : List ℕ) (dialogue : Option Dialogue)
    (components : List Component) → send_begin table e otid dialogue components ≡ Ok made
    → has_component invokes_again [] [] components ≡ true → ⊥
begin_none_again table e made otid dialogue components is =
    let (k, sent) = begin_sends table e made otid dialogue components is in
    let g = fresh phases.Sent (Some otid) None (first_dialogue_state dialogue) in
    none_has table g [] invokes_again (none_twice table g) components k sent

pub begin_none_linked : (table : Table) (e made : End) (otid : List ℕ) (dialogue : Option Dialogue)
    (components : List Component) → send_begin table e otid dialogue components ≡ Ok made
    → list_any is_linked components ≡ true → ⊥
begin_none_linked table e made otid dialogue components is =
    let (k, sent) = begin_sends table e made otid dialogue components is in
    none_linked table components (fresh phases.Sent (Some otid) None (first_dialogue_state dialogue)) k refl sent

-- ---- a Unidirectional

-- An Invoke of a Unidirectional has no linked ID, and no Invoke before it has its ID; so have the others.
record IsFirstUni (table : Table) (ids : List ℤ) (id : ℤ) (linked : Option ℤ) (more : List Component) : Type 0 where
  free : has_id id ids ≡ false
  alone : linked ≡ None
  rest : send_uni_components table (id ∷ ids) more ≡ Ok tt

first_uni : (table : Table) (ids : List ℤ) (id : ℤ) (linked : Option ℤ) (code : Code) (parameter : Option (List ℕ))
    (more : List Component) → send_uni_components table ids (Invoke id linked code parameter ∷ more) ≡ Ok tt
    → IsFirstUni table ids id linked more
first_uni table ids id linked code parameter more is =
    let (class, ok, step) = then_ok (ok_or (class_of table code) faults.UnknownOperation) _ tt is in
    let four = needs_ok (reports_neither class) faults.UniNotClass4 _ tt step in
    let free = needs_ok (not (has_id id ids)) faults.InvokeIdBusy _ tt four.1 in
    let alone = needs_ok (is_none linked) faults.BadLink _ tt free.1 in
    record { free = not-true (has_id id ids) free.0; alone = none_is linked alone.0; rest = alone.1 }

uni_linked : (table : Table) (ids : List ℤ) (components : List Component)
    → send_uni_components table ids components ≡ Ok tt
    → list_any is_linked components ≡ true → ⊥
uni_linked table ids [] is found = cc
uni_linked table ids (Invoke id linked code parameter ∷ more) is found =
    let first = first_uni table ids id linked code parameter more is in
    uni_linked table (id ∷ ids) more first.rest (rw (first.alone) at found)
uni_linked table ids (c ∷ more) is found = cc

uni_again : (table : Table) (ids : List ℤ) (own before components : List Component)
    → ((q : ℤ) → list_any (invokes q) own ≡ true → has_id q ids ≡ true)
    → send_uni_components table ids components ≡ Ok tt → has_component invokes_again own before components ≡ true → ⊥
uni_again table ids own before [] known is has = cc
uni_again table ids own before (Invoke id linked code parameter ∷ more) known is has =
    let first = first_uni table ids id linked code parameter more is in
    neither (or_cases (list_any (invokes id) own) _ has)
    (λ again. both_ways (has_id id ids) first.free (known id again))
    (uni_again table (id ∷ ids) (own ++ Invoke id linked code parameter ∷ [])
    (before ++ Invoke id linked code parameter ∷ [])
    more next first.rest)
  where
    turned : (a b c : Bool) → (a ≡ true → c ≡ true) → (a || (b || false)) ≡ true → (b || c) ≡ true
    turned a true c from is = refl
    turned true false c from is = from refl
    turned false false c from is = cc

    next : (q : ℤ) → list_any (invokes q) (own ++ Invoke id linked code parameter ∷ []) ≡ true
        → has_id q (id ∷ ids) ≡ true
    next q found =
        turned (list_any (invokes q) own) (invokes q (Invoke id linked code parameter)) (has_id q ids) (known q)
        (sym (list_any-append (invokes q) own (Invoke id linked code parameter ∷ [])) ∙ found)
uni_again table ids own before (c ∷ more) known is has = cc

uni_sends : (table : Table) (e made : End) (dialogue : Option Dialogue) (components : List Component)
    → send_uni table e dialogue components ≡ Ok made → send_uni_components table [] components ≡ Ok tt
uni_sends table e made dialogue components is =
    grind (arith, (needs_ok (may_be_uni dialogue) faults.WrongDialogue _ made is).1)

pub uni_none_again : (table : Table) (e made : End) (dialogue : Option Dialogue) (components : List Component)
    → send_uni table e dialogue components ≡ Ok made → has_component invokes_again [] [] components ≡ true → ⊥
uni_none_again table e made dialogue components is =
    uni_again table [] [] [] components (λ q none. none) (uni_sends table e made dialogue components is)

pub uni_none_linked : (table : Table) (e made : End) (dialogue : Option Dialogue) (components : List Component)
    → send_uni table e dialogue components ≡ Ok made → list_any is_linked components ≡ true → ⊥
uni_none_linked table e made dialogue components is =
    uni_linked table [] components (uni_sends table e made dialogue components is)
