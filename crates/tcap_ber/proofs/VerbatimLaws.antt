-- The reader of a required element, verbatim, is exact.
use Rattle.std.proofs.Common.{◌≡◌, ℕ, ◌-◌, true, List, [], ◌∷◌, ◌++◌, length, take, Ok, refl, sym, ap, subst, ◌∙◌, inl, inr, arith}
use Rattle.std.proofs.lemmas.List.{take_at, length-append}
use Rattle.tcap_ber.specs.Element.{IsElement}
use Rattle.tcap_ber.specs.Grammar.{verbatim}
use Rattle.tcap_ber.specs.FrontElement.{FindsElement, Taken}
use Rattle.tcap_ber.specs.ExactReader.{ReadsField}
use Rattle.tcap_ber.specs.Span.{Span}
use Rattle.tcap_ber.specs.Reading.{Element, required_at, raw_of, verbatim_at, is_raw}
use Rattle.tcap_ber.proofs.Steps.{bind_ok, bind_err, ok_is}
use Rattle.tcap_ber.proofs.ElementLaws.{element_len_at_least}
use Rattle.tcap_ber.proofs.FaultLaws.{required_refused}
use Rattle.tcap_ber.proofs.GrammarLaws.{required_sound, required_complete, required_fault}
use Rattle.tcap_ber.proofs.OuterLaws.{is_raw_complete}
use Rattle.tcap_ber.proofs.EachLaws.{HasOctets}

-- the octets up to the window after an element are that element
cut_at : (s : Span) (e : Element) (r : Span) (f : FindsElement s e r) → f.octets ≡ take (length s.octets - length r.octets) s.octets
cut_at s e r f =
    sym (ap (take (length s.octets - length r.octets)) f.joined
    ∙ take_at f.octets r.octets (length s.octets - length r.octets) (omega (arith, ap length f.joined, length-append f.octets r.octets)))

pub reads_verbatim : (tag : ℕ) → ReadsField (verbatim tag) (verbatim_at tag)
unfolding verbatim_at
reads_verbatim tag = record {
  sound = λ s v rest e.
      let a = bind_ok (required_at tag s) (raw_of s) (v, rest) e in
      let found = required_sound tag s a.0 a.1 in
      let cut : List ℕ = take (length s.octets - length a.0.1.octets) s.octets in
      subst (λ (y : List ℕ × Span). Taken (verbatim tag) s y.0 y.1) (ok_is (cut, a.0.1) (v, rest) a.2)
      (taken s a.0.0 a.0.1 found.0 found.1);
  complete = λ place v front rest h.
      let total : length (front ++ rest) - length rest ≡ length front = omega (arith, length-append front rest) in
      rw (required_complete place tag h.0.content front rest h.0.is_element, total, take_at front rest (length front) refl, h.1) refl;
  refuses = λ s f e.
      elim (bind_err (required_at tag s) (raw_of s) f e) [
        | inl h ↦ required_fault tag s f h
        | inr a ↦ absurd cc
      ];
  stops = λ s f w. rw (required_refused tag s f w) refl;
}
  where
    taken : (s : Span) (e : Element) (r : Span) (found : FindsElement s e r) → e.tag ≡ tag ∷ [] → Taken (verbatim tag) s (take (length s.octets - length r.octets) s.octets) r
    taken s e r found own = record {
      front = found.octets;
      joined = found.joined;
      place = found.behind_place;
      is_part = (
        record { content = e.content.octets; is_element = subst (λ (t : List ℕ). IsElement t e.content.octets found.octets) own found.is_element; inside = tt },
        sym (cut_at s e r found),
      );
    }

pub verbatim_has_octets : (tag : ℕ) → HasOctets (verbatim tag)
verbatim_has_octets tag v front rest spelled = omega (arith, element_len_at_least (tag ∷ []) spelled.0.content front spelled.0.is_element)

-- the octets up to the window after a required element are one element
pub verbatim_there : (tag : ℕ) (s : Span) (x : Element × Span) → required_at tag s ≡ Ok x → is_raw (take (length s.octets - length x.1.octets) s.octets) ≡ true
verbatim_there tag s x e =
    let found = required_sound tag s x e in
    is_raw_complete (take (length s.octets - length x.1.octets) s.octets) (x.0.tag, x.0.content.octets, subst (IsElement x.0.tag x.0.content.octets) (cut_at s x.0 x.1 found.0) found.0.is_element)
