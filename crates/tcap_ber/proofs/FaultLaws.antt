-- A fault of the grammar is the fault that reading returns.
use Rattle.std.proofs.Common.{◌≡◌, ◌≢◌, ℕ, ◌<◌, ◌⊎◌, false, List, [], ◌∷◌, length, Result, Err, refl, sym, ap, ◌∙◌, inl, inr, arith}
use Rattle.std.proofs.lemmas.Bool.{eq-eqb, ne_eqb}
use Rattle.std.proofs.lemmas.List.{length-append}
use Rattle.tcap_ber.specs.declared.fault.Fault.{Fault}
use Rattle.tcap_ber.specs.declared.fault.Reason.{Reason}
use Rattle.tcap_ber.specs.declared.fault.Reason.TheVariants.{Missing, UnexpectedTag}
use Rattle.tcap_ber.specs.Grammar.{IsElementFault, IsMissing, IsUnexpected}
use Rattle.tcap_ber.specs.Span.{Span}
use Rattle.tcap_ber.specs.Reading.{fault, next_at, is_tag, required_at, raw_at}
use Rattle.tcap_ber.proofs.OuterLaws.{walk_fault_within}
use Rattle.tcap_ber.proofs.ElementLaws.{element_len_at_least, next_complete, next_refused}

pub fault_is : (f : Fault) (reason : Reason) (place : ℕ) → f.reason ≡ reason → f.place ≡ place → fault reason place ≡ f
fault_is f reason place r p = ap (λ (x : Reason). fault x place) (sym r) ∙ ap (λ (x : ℕ). fault f.reason x) (sym p)

pub refused_by : {A : Type 0} (f : Fault) (reason : Reason) (place : ℕ) → f.reason ≡ reason → f.place ≡ place → (let a : Result A Fault = Err (fault reason place) in a) ≡ Err f
refused_by f reason place r p = ap (λ (x : Fault). Err x) (fault_is f reason place r p)

-- a faulty element has octets
pub element_fault_some : (s : Span) (reason : Reason) (place : ℕ) → IsElementFault s reason place → 0 < length s.octets
element_fault_some s reason place (offset, place_is, inl wrong) = omega (arith, walk_fault_within s.octets reason offset wrong)
element_fault_some s reason place (offset, place_is, inr overrun) = overrun.1

-- reading an element verbatim fails as reading it does
pub raw_refused : (s : Span) (f : Fault) → IsElementFault s f.reason f.place → raw_at s ≡ Err f
unfolding raw_at
raw_refused s f wrong = rw (next_refused s f wrong) refl

-- `is_tag` is false for another tag
is_tag-other : (tag : ℕ) (octets : List ℕ) → octets ≢ tag ∷ [] → is_tag tag octets ≡ false
is_tag-other tag [] other = refl
is_tag-other tag (first ∷ []) other = ne_eqb first tag (λ e. other (ap (λ (x : ℕ). x ∷ []) e))
is_tag-other tag (first ∷ second ∷ more) other = refl

-- reading a required element fails if it is missing, faulty or has another tag
pub required_refused : (tag : ℕ) (s : Span) (f : Fault) → IsMissing s f.reason f.place ⊎ IsElementFault s f.reason f.place ⊎ IsUnexpected tag s f.reason f.place
    → required_at tag s ≡ Err f
unfolding required_at
required_refused tag s f (inl m) = rw (eq-eqb (length s.octets) 0 (ap length m.ends)) (refused_by f Missing s.place m.reason_is m.place_is)
required_refused tag s f (inr (inl w)) =
    let some = element_fault_some s f.reason f.place w in
    rw (ne_eqb (length s.octets) 0 (λ z. omega (arith, some, z)), next_refused s f w) refl
required_refused tag s f (inr (inr u)) =
    let some = element_len_at_least u.other u.content u.octets u.is_element in
    let there = ap (λ (x : List ℕ). next_at (record { octets = x; place = s.place })) u.joined ∙ next_complete s.place u.other u.content u.octets u.rest u.is_element in
    rw (ne_eqb (length s.octets) 0 (λ z. omega (arith, z, ap length u.joined, length-append u.octets u.rest, some)), there, is_tag-other tag u.other u.is_other)
    (refused_by f UnexpectedTag s.place u.reason_is u.place_is)
