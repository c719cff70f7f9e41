-- The components before the first octets that are none.
use Rattle.std.proofs.Common.{◌≡◌, ◌≤◌, ◌<◌, ℕ, zero, suc, List, [], ◌∷◌, ◌++◌, length, Result, Ok, Err, refl, sym, ap, ◌∙◌, arith, append_assoc}
use Rattle.tcap_ber.specs.declared.fault.Fault.{Fault}
use Rattle.tcap_ber.specs.Span.{Span}
use Rattle.tcap_ber.specs.Reading.{◌>>=◌, Element, some_at, with_body}
use Rattle.tcap_ber.proofs.Steps.{bind_ok, ok_is}
use Rattle.tcap_parts.specs.declared.component.Component.{Component}
use Rattle.tcap_parts.specs.Reading.{component_at, component_of_element}
use Rattle.tcap_dialogues.specs.SoundPart.{components_at_most, components_before, read_first}
use Rattle.tcap_dialogues.proofs.HeadingLaws.{shorter}

-- The window after a component is shorter.
pub component_shorter : (s : Span) (x : Component × Span) → component_at s ≡ Ok x → length x.1.octets < length s.octets
unfolding component_at
component_shorter s x is =
    let (e, first, body) = bind_ok (some_at s) (with_body component_of_element) x is in
    let (v, value, made) = bind_ok (component_of_element e.0) (λ v. Ok (v, e.1)) x body in
    let same : (v, e.1) ≡ x = ok_is {A = Component × Span} (v, e.1) x made in
    let at : e.1 ≡ x.1 = ap (λ (z : Component × Span). z.1) same in
    rw (sym at) (shorter s e first)

-- An empty window has no component.
no_component : (s : Span) → length s.octets ≡ 0 → (r : Result (Component × Span) Fault) → component_at s ≡ r
    → (more : Span → List Component × Span) → read_first s r more ≡ ([], s)
no_component s none (Err f) is more = refl
no_component s none (Ok x) is more = absurd (let less = component_shorter s x is in omega (arith, less, none))

-- As many steps as there are octets are enough.
enough : (n m : ℕ) (s : Span) → length s.octets ≤ n → length s.octets ≤ m → components_at_most n s ≡ components_at_most m s
enough zero zero s a b = refl
enough zero (suc m) s a b = sym (no_component s (omega (arith, a)) (component_at s) refl (components_at_most m))
enough (suc n) zero s a b = no_component s (omega (arith, b)) (component_at s) refl (components_at_most n)
enough (suc n) (suc m) s a b =
    by (λ x is. let less = component_shorter s x is in enough n m x.1 (omega (arith, a, less)) (omega (arith, b, less))) (component_at s) refl
  where
    by : ((x : Component × Span) → component_at s ≡ Ok x → components_at_most n x.1 ≡ components_at_most m x.1)
        → (r : Result (Component × Span) Fault) → component_at s ≡ r → components_at_most (suc n) s ≡ components_at_most (suc m) s
    by more (Err f) is = rw is refl
    by more (Ok x) is = rw is (ap (λ (p : List Component × Span). (x.0 ∷ p.0, p.1)) (more x is))

-- A component, and then those of the window after it.
pub components_step : (s : Span) (x : Component × Span) → component_at s ≡ Ok x
    → components_before s ≡ (x.0 ∷ (components_before x.1).0, (components_before x.1).1)
components_step s x is = by (length s.octets) refl
  where
    less : length x.1.octets < length s.octets
    less = component_shorter s x is

    by : (n : ℕ) → length s.octets ≡ n → components_at_most n s ≡ (x.0 ∷ (components_before x.1).0, (components_before x.1).1)
    by zero none = absurd (omega (arith, none, less))
    by (suc n) some = rw is (ap (λ (p : List Component × Span). (x.0 ∷ p.0, p.1)) (enough n (length x.1.octets) x.1 (omega (arith, some, less)) (omega arith)))

-- No component is at the front.
pub components_end : (s : Span) (f : Fault) → component_at s ≡ Err f → components_before s ≡ ([], s)
components_end s f is = by (length s.octets)
  where
    by : (n : ℕ) → components_at_most n s ≡ ([], s)
    by zero = refl
    by (suc n) = rw is refl

-- the components that were read, and then those of the rest
abbrev pub with_read : List Component → Span → List Component × Span
with_read read rest = (read ++ (components_before rest).0, (components_before rest).1)

pub read_step : (read : List Component) (rest : Span) (x : Component × Span) → component_at rest ≡ Ok x
    → with_read read rest ≡ with_read (read ++ x.0 ∷ []) x.1
read_step read rest x is =
    ap (λ (p : List Component × Span). (read ++ p.0, p.1)) (components_step rest x is)
    ∙ ap (λ (l : List Component). (l, (components_before x.1).1)) (sym (append_assoc read (x.0 ∷ []) (components_before x.1).0))
