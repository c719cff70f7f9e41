-- The components of a message, one after the other.
use Rattle.std.proofs.Common.{◌≡◌, ◌⊎◌, inl, inr, Bool, true, false, List, [], ◌∷◌, ◌++◌, Ok, refl, sym, ap, ◌∙◌}
use Rattle.std.specs.Prelude.{◌||◌}
use Rattle.std.proofs.lemmas.Bool.{or_cases}
use Rattle.std.proofs.lemmas.List.{append-nil, append_assoc}
use Rattle.tcap_parts.specs.declared.component.Component.{Component}
use Rattle.tcap_end.specs.declared.fault.EndFault.{EndFault}
use Rattle.tcap_end.specs.Table.{Table}
use Rattle.tcap_end.specs.Half.{Half}
use Rattle.tcap_end.specs.Component.{send_component}
use Rattle.tcap_end.specs.Message.{send_components}
use Rattle.tcap_end.proofs.AnsweringLaws.{ok_same, then_ok}
use Rattle.tcap_faults.specs.Components.{has_component}

-- ---- tests

-- If none of four conditions holds, their disjunction does not.
pub none_of_four : (a b c d : Bool) → (a ≡ true → ⊥) → (b ≡ true → ⊥) → (c ≡ true → ⊥) → (d ≡ true → ⊥)
    → (a || b || c || d) ≡ true → ⊥
none_of_four true b c d first second third fourth is = first refl
none_of_four false true c d first second third fourth is = second refl
none_of_four false false true d first second third fourth is = third refl
none_of_four false false false d first second third fourth is = fourth is

-- ---- one component after the other

-- After the components that were sent, one more is sent.
pub sent_more : (table : Table) (own : List Component) (c : Component) (g h k : Half)
    → send_components table g own ≡ Ok h → send_component table h c ≡ Ok k
    → send_components table g (own ++ c ∷ []) ≡ Ok k
sent_more table [] c g h k is next = let same = ok_same {F = EndFault} g h is in rw (same, next) refl
sent_more table (d ∷ own) c g h k is next =
    let (g', first, rest) = then_ok (send_component table g d) (λ n. send_components table n own) h is in
    rw first (sent_more table own c g' h k rest next)

-- If neither of two propositions holds, their sum does not.
pub neither : {A B : Type 0} → A ⊎ B → (A → ⊥) → (B → ⊥) → ⊥
neither (inl a) left right = left a
neither (inr b) left right = right b

-- If no component passes a test with those before it, no component of a message passes.
module _ (table : Table) (g : Half) (sent : List Component) (is_so : List Component → List Component → Component → Bool)
    (none : (own : List Component) (h k : Half) (c : Component) → send_components table g own ≡ Ok h
    → send_component table h c ≡ Ok k → is_so own (sent ++ own) c ≡ true → ⊥) where
  none_behind : (own before components : List Component) (h k : Half) → before ≡ sent ++ own
      → send_components table g own ≡ Ok h → send_components table h components ≡ Ok k
      → has_component is_so own before components ≡ true → ⊥
  none_behind own before [] h k same was is has = cc
  none_behind own before (c ∷ more) h k same was is has =
      let (next, first, rest) = then_ok (send_component table h c) (λ n. send_components table n more) k is in
      neither (or_cases (is_so own before c) _ has) (λ so. none own h next c was first (rw same at so))
      (none_behind (own ++ c ∷ []) (before ++ c ∷ []) more next k
      (ap (λ list. list ++ c ∷ []) same ∙ append_assoc sent own (c ∷ []))
      (sent_more table own c g h next was first) rest)

  pub none_has : (components : List Component) (k : Half) → send_components table g components ≡ Ok k
      → has_component is_so [] sent components ≡ true → ⊥
  none_has components k = none_behind [] sent components g k (sym (append-nil sent)) refl
