-- Reading components one after the other: the laws of `EachLoopLaws` for components, and the portion's reader.
use Rattle.std.proofs.Common.{◌≡◌, ◌≢◌, ℕ, ◌<◌, true, List, [], ◌∷◌, length, Ok, Err, refl, sym, ap, subst, inl, inr, arith}
use Rattle.std.specs.Prelude.{◌==◌}
use Rattle.std.proofs.lemmas.Bool.{ne_eqb, eq-eqb, eqb-true, eqb-false}
use Rattle.std.proofs.lemmas.List.{length-append, nil_from_length}
use Rattle.tcap_ber.specs.declared.fault.Fault.{Fault}
use Rattle.tcap_ber.specs.declared.fault.Reason.TheVariants.{EmptyComponents}
use Rattle.tcap_ber.specs.Span.{Span}
use Rattle.tcap_ber.specs.Reading.{fault, Element, is_read, read_or_none}
use Rattle.tcap_ber.proofs.Steps.{chosen, err_is}
use Rattle.tcap_ber.specs.ExactReader.{ReadsBody, ReadsContent}
use Rattle.tcap_ber.proofs.FaultLaws.{refused_by}
use Rattle.tcap_ber.proofs.EachLaws.{wrong_after_some, each_of-empty, reads_each}
use Rattle.tcap_ber.proofs.EachLoopLaws as items
use Rattle.tcap_ber.proofs.EachLoopLaws.{with_front, filled}
use Rattle.tcap_parts.specs.declared.component.Component.{Component}
use Rattle.tcap_parts.specs.Component.{component, portion}
use Rattle.tcap_ber.specs.Grammar.{each}
use Rattle.tcap_parts.specs.Reading.{component_at, components_at, portion_at}
use Rattle.tcap_parts.proofs.ComponentLaws.{reads_component, component_has_octets}

-- ---- a loop

pub components_end : (s : Span) → length s.octets ≡ 0 → components_at s ≡ Ok []
unfolding components_at
components_end s e = each_of-empty component_at s e

pub components_step : (s : Span) (c : Component) (rest : Span) → 0 < length s.octets → component_at s ≡ Ok (c, rest) → components_at s ≡ with_front (c ∷ []) (components_at rest)
unfolding components_at
components_step s c rest some e = items.each_step component component_at reads_component component_has_octets s c rest some e

pub components_fault : (s : Span) (f : Fault) → 0 < length s.octets → component_at s ≡ Err f → components_at s ≡ Err f
unfolding components_at
components_fault s f some e = items.each_fault component component_at reads_component component_has_octets s f some e

pub rest_is_shorter : (s : Span) (c : Component) (rest : Span) → component_at s ≡ Ok (c, rest) → length rest.octets < length s.octets
rest_is_shorter s c rest e = items.rest_is_shorter component component_at reads_component component_has_octets s c rest e

pub rest_is_read : (s : Span) (c : Component) (rest : Span) → 0 < length s.octets → component_at s ≡ Ok (c, rest) → is_read (components_at rest) ≡ is_read (components_at s)
unfolding components_at
rest_is_read s c rest some e = items.rest_is_read component component_at reads_component component_has_octets s c rest some e

-- ---- an iterator

pub left_step : (s : Span) (c : Component) (rest : Span) → 0 < length s.octets → component_at s ≡ Ok (c, rest) → is_read (components_at s) ≡ true
    → read_or_none (components_at s) ≡ c ∷ read_or_none (components_at rest)
unfolding components_at
left_step s c rest some e whole = items.left_step component component_at reads_component component_has_octets s c rest some e whole

pub left_end : (s : Span) → length s.octets ≡ 0 → read_or_none (components_at s) ≡ []
unfolding components_at
left_end s e = items.left_end component_at s e

pub some_left : (s : Span) → 0 < length s.octets → is_read (components_at s) ≡ true → read_or_none (components_at s) ≢ []
unfolding components_at
some_left s some whole = items.some_left component component_at reads_component component_has_octets s some whole

-- ---- the portion's reader

reads_components : ReadsContent (each component) (λ cs. cs) components_at
unfolding components_at
reads_components = reads_each component component_at reads_component component_has_octets

pub reads_portion : ReadsBody portion portion_at
unfolding portion_at
reads_portion = record {
  sound = λ e cs read. sound e cs read;
  complete = λ e cs spelled. complete e cs spelled;
  refuses = λ e f refused. refuses e f refused;
  stops = λ e f wrong. stops e f wrong;
}
  where
    none_spelled : (cs : List Component) (octets : List ℕ) → portion.spells cs octets → length octets ≡ 0 → ⊥
    none_spelled [] octets spelled e = spelled.0 refl
    none_spelled (c ∷ cs) octets spelled e =
        let here = spelled.1 in
        let some = component_has_octets c here.0 here.1 here.3 in
        omega (arith, ap length here.2, length-append here.0 here.1, some)

    sound : (e : Element) (cs : List Component) → portion_at e ≡ Ok cs → portion.spells cs e.content.octets
    sound e cs read =
        elim (chosen (length e.content.octets == 0) _ _ (Ok cs) read) [
          | inl h ↦ absurd cc
          | inr h ↦ let a = reads_components.sound e.content cs h.1 in
              let k = eqb-false (length e.content.octets) 0 h.0 in
              let some : 0 < length e.content.octets = omega (arith, k) in
              let spelled : (each component).spells cs e.content.octets = subst (λ (x : List Component). (each component).spells x e.content.octets) (sym a.1) a.2 in
              (filled component cs e.content.octets some spelled, spelled)
        ]

    complete : (e : Element) (cs : List Component) → portion.spells cs e.content.octets → portion_at e ≡ Ok cs
    complete e cs spelled = rw (ne_eqb (length e.content.octets) 0 (none_spelled cs e.content.octets spelled)) (reads_components.complete e.content cs spelled.1)

    refuses : (e : Element) (f : Fault) → portion_at e ≡ Err f → portion.faulty e.place e.content f.reason f.place
    refuses e f refused =
        elim (chosen (length e.content.octets == 0) _ _ (Err f) refused) [
          | inl h ↦ let k = err_is {A = List Component} (fault EmptyComponents e.place) f h.1 in
              inl (nil_from_length e.content.octets (eqb-true (length e.content.octets) 0 h.0), sym (ap (λ (x : Fault). x.reason) k), sym (ap (λ (x : Fault). x.place) k))
          | inr h ↦ inr (reads_components.refuses e.content f h.1)
        ]

    stops : (e : Element) (f : Fault) → portion.faulty e.place e.content f.reason f.place → portion_at e ≡ Err f
    stops e f (inl h) = rw (eq-eqb (length e.content.octets) 0 (ap length h.0)) (refused_by f EmptyComponents e.place h.1 h.2)
    stops e f (inr h) =
        let some = wrong_after_some component component_has_octets h.0 e.content f.reason f.place h.1 in
        rw (ne_eqb (length e.content.octets) 0 (λ z. omega (arith, some, z))) (reads_components.stops e.content f h)
