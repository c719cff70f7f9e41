-- The element at the front of a window, verbatim.
use Rattle.std.proofs.Common.{◌≡◌, ℕ, ◌+◌, ◌-◌, ◌≤◌, true, List, ◌++◌, length, take, Ok, refl, sym, ap, subst, ◌∙◌, arith}
use Rattle.std.proofs.lemmas.List.{take_at, length-append}
use Rattle.tcap_ber.specs.Element.{IsElement, IsRaw}
use Rattle.tcap_ber.specs.Span.{Span}
use Rattle.tcap_ber.specs.Reading.{Element, next_at, is_raw, raw_of, raw_at}
use Rattle.tcap_ber.proofs.Steps.{bind_ok, ok_is}
use Rattle.tcap_ber.proofs.ElementLaws.{next_sound, next_complete}
use Rattle.tcap_ber.proofs.OuterLaws.{is_raw_complete}

pub raw_sound : (s : Span) (x : List ℕ × Span) → raw_at s ≡ Ok x → IsRaw x.0 × (s.octets ≡ x.0 ++ x.1.octets) × (x.1.place ≡ s.place + length x.0)
unfolding raw_at
raw_sound s x e =
    let a = bind_ok (next_at s) (raw_of s) x e in
    let f = next_sound s a.0 a.1 in
    let taken : take (length s.octets - length a.0.1.octets) s.octets ≡ f.octets =
    ap (take (length s.octets - length a.0.1.octets)) f.joined ∙ take_at f.octets a.0.1.octets (length s.octets - length a.0.1.octets) (omega (arith, ap length f.joined, length-append f.octets a.0.1.octets)) in
    subst (λ (y : List ℕ × Span). IsRaw y.0 × (s.octets ≡ y.0 ++ y.1.octets) × (y.1.place ≡ s.place + length y.0)) (ok_is (take (length s.octets - length a.0.1.octets) s.octets, a.0.1) x a.2)
    ((a.0.0.tag, a.0.0.content.octets, subst (IsElement a.0.0.tag a.0.0.content.octets) (sym taken) f.is_element), f.joined ∙ ap (λ (y : List ℕ). y ++ a.0.1.octets) (sym taken), f.behind_place ∙ ap (λ (y : List ℕ). s.place + length y) (sym taken))

pub raw_complete : (place : ℕ) (octets rest : List ℕ) → IsRaw octets → raw_at (record { octets = octets ++ rest; place = place }) ≡ Ok (octets, record { octets = rest; place = place + length octets })
unfolding raw_at
raw_complete place octets rest r =
    let total : length (octets ++ rest) - length rest ≡ length octets = omega (arith, length-append octets rest) in
    rw (next_complete place r.0 r.1 octets rest r.2, total, take_at octets rest (length octets) refl) refl

-- the octets up to the window after the first element are that element
pub raw_there : (s : Span) (x : Element × Span) → next_at s ≡ Ok x → is_raw (take (length s.octets - length x.1.octets) s.octets) ≡ true
unfolding raw_at
raw_there s x e =
    let r = raw_sound s (take (length s.octets - length x.1.octets) s.octets, x.1) (rw e refl) in
    is_raw_complete (take (length s.octets - length x.1.octets) s.octets) r.0

pub rest_is_shorter : (s : Span) (x : Element × Span) → next_at s ≡ Ok x → length x.1.octets ≤ length s.octets
rest_is_shorter s x e =
    let f = next_sound s x e in
    omega (arith, ap length f.joined, length-append f.octets x.1.octets)
