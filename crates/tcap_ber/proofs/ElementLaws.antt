-- Reading an element returns the element at the front of the window.
use Rattle.std.proofs.Common.{◌≡◌, ℕ, zero, suc, ◌+◌, ◌-◌, ◌*◌, ◌<◌, ◌≤◌, ◌⊎◌, Bool, true, false, List, [], ◌∷◌, ◌++◌, length, take, drop, Option, Some, None, Result, Ok, Err, refl, sym, ap, subst, ◌∙◌, inl, inr, arith, append_assoc}
use Rattle.std.specs.Prelude.{nat_lt, if◌then◌else◌}
use Rattle.std.proofs.lemmas.List.{take_at, drop_at, length-append}
use Rattle.std.proofs.lemmas.Bool.{ltb-true, le-ltb, lt-ltb, ne_eqb}
use Rattle.tcap_ber.specs.declared.fault.Fault.{Fault}
use Rattle.tcap_ber.specs.declared.fault.Reason.{Reason}
use Rattle.tcap_ber.specs.declared.fault.Reason.TheVariants.{Overrun}
use Rattle.tcap_ber.specs.declared.header.Header.{Header}
use Rattle.tcap_ber.specs.declared.header.Opening.{Opening}
use Rattle.tcap_ber.specs.declared.header.Opening.TheVariants.{Definite, Indefinite}
use Rattle.tcap_ber.specs.declared.progress.Progress.{Progress}
use Rattle.tcap_ber.specs.declared.element.Outer.{Outer}
use Rattle.tcap_ber.specs.declared.element.Outer.TheVariants.{Whole, Need}
use Rattle.tcap_ber.specs.Element.{IsTag, IsLength, IsDefinite, IsIndefinite, IsNested, IsElement, depth_limit, ending, is_next, content_start}
use Rattle.tcap_ber.specs.WalkPlaces.{BeginsElement}
use Rattle.tcap_ber.specs.Grammar.{IsElementFault}
use Rattle.tcap_ber.specs.FrontElement.{FindsElement}
use Rattle.tcap_ber.specs.Span.{Span}
use Rattle.tcap_ber.specs.WalkResult.{at_first, goes, gone_on, outer_at, innermost_at}
use Rattle.tcap_ber.specs.Reading.{fault, ◌>>=◌, opening_at, Element, definite_at, indefinite_at, element_of, next_at}
use Rattle.tcap_ber.proofs.Steps.{ok_is, err_is, ok_not_err}
use Rattle.tcap_ber.proofs.OpeningLaws.{from, definite_complete, indefinite_complete, opening_fault, opening_refused}
use Rattle.tcap_ber.proofs.OpeningPlaceLaws.{opening_moves}
use Rattle.tcap_ber.proofs.WalkLaws.{walk_stops}
use Rattle.tcap_ber.proofs.WalkedStepLaws.{nothing_walked}
use Rattle.tcap_ber.proofs.OuterLaws.{outer_whole, outer_of_element, outer_fault, outer_refused, is_unfinished, place_there, innermost_sound, innermost_unique}

-- an element inside one of indefinite length
abbrev pub IsInner : ℕ → List ℕ → Type 0
IsInner depth item = (inner_tag inner : List ℕ) × IsNested depth inner_tag inner item

nested_form : (depth : ℕ) (tag content octets : List ℕ) → IsNested depth tag content octets → IsDefinite tag content octets ⊎ ((d : ℕ) × IsIndefinite (IsInner d) tag content octets)
nested_form zero tag content octets e = inl e
nested_form (suc d) tag content octets (inl e) = inl e
nested_form (suc d) tag content octets (inr e) = inr (d, e)

-- an element has a definite length or an indefinite one
pub element_form : (tag content octets : List ℕ) → IsElement tag content octets → IsDefinite tag content octets ⊎ ((d : ℕ) × IsIndefinite (IsInner d) tag content octets)
unfolding IsElement
element_form tag content octets e = nested_form depth_limit tag content octets e

definite_nested : (depth : ℕ) (tag content octets : List ℕ) → IsDefinite tag content octets → IsNested depth tag content octets
definite_nested zero tag content octets e = e
definite_nested (suc d) tag content octets e = inl e

pub definite_element : (tag content octets : List ℕ) → IsDefinite tag content octets → IsElement tag content octets
unfolding IsElement
definite_element tag content octets e = definite_nested depth_limit tag content octets e

-- ---- counts of octets

pub definite_len : (tag content octets : List ℕ) (e : IsDefinite tag content octets) → length octets ≡ length tag + length e.length_octets + length content
definite_len tag content octets e =
    ap length e.joined ∙ length-append (tag ++ e.length_octets) content ∙ ap (λ (n : ℕ). n + length content) (length-append tag e.length_octets)

pub indefinite_len : (IsItem : List ℕ → Type 0) (tag content octets : List ℕ) → IsIndefinite IsItem tag content octets → length octets ≡ length tag + 1 + length content + 2
indefinite_len IsItem tag content octets e =
    omega (arith, ap length e.joined, length-append (tag ++ 0x80 ∷ content) ending, length-append tag (0x80 ∷ content))

-- an element has at least two octets, of its tag and its length
pub element_len_at_least : (tag content octets : List ℕ) → IsElement tag content octets → 2 ≤ length octets
element_len_at_least tag content octets e =
    elim (element_form tag content octets e) [
      | inl d ↦ omega (arith, definite_len tag content octets d, tag_len tag d.is_tag, length_len (length content) d.length_octets d.is_length)
      | inr i ↦ omega (arith, indefinite_len (IsInner i.0) tag content octets i.1)
    ]
  where
    tag_len : (tag : List ℕ) → IsTag tag → 1 ≤ length tag
    tag_len [] t = absurd t
    tag_len (first ∷ more) t = omega arith

    length_len : (n : ℕ) (octets : List ℕ) → IsLength n octets → 1 ≤ length octets
    length_len n [] l = absurd l
    length_len n (first ∷ more) l = omega arith

-- a definite length does not begin with the octet 80
no_80 : (n : ℕ) (length_octets rest : List ℕ) → IsLength n length_octets → is_next 0x80 (length_octets ++ rest) ≡ false
no_80 n [] rest l = absurd l
no_80 n (first ∷ more) rest (inl l) = ne_eqb first 0x80 (λ e. omega (arith, e, l.0))
no_80 n (first ∷ more) rest (inr l) = ne_eqb first 0x80 (λ e. omega (arith, e, l.0, l.1))

pub definite_start : (tag content octets : List ℕ) (e : IsDefinite tag content octets) → content_start tag content octets ≡ length tag + length e.length_octets
definite_start tag content octets e =
    let behind_tag : drop (length tag) octets ≡ e.length_octets ++ content =
    ap (drop (length tag)) (e.joined ∙ append_assoc tag e.length_octets content) ∙ drop_at tag (e.length_octets ++ content) (length tag) refl in
    let other : is_next 0x80 (drop (length tag) octets) ≡ false = ap (is_next 0x80) behind_tag ∙ no_80 (length content) e.length_octets content e.is_length in
    ap (λ (b : Bool). if b then length tag + 1 else length octets - length content) other ∙ omega (arith, definite_len tag content octets e)

pub indefinite_start : (IsItem : List ℕ → Type 0) (tag content octets : List ℕ) → IsIndefinite IsItem tag content octets → content_start tag content octets ≡ length tag + 1
indefinite_start IsItem tag content octets e =
    let behind_tag : drop (length tag) octets ≡ 0x80 ∷ content ++ ending =
    ap (drop (length tag)) (e.joined ∙ append_assoc tag (0x80 ∷ content) ending) ∙ drop_at tag (0x80 ∷ content ++ ending) (length tag) refl in
    ap (λ (b : Bool). if b then length tag + 1 else length octets - length content) (ap (is_next 0x80) behind_tag)

-- the content is among the octets
pub content_within : (tag content octets : List ℕ) → IsElement tag content octets → content_start tag content octets + length content ≤ length octets
content_within tag content octets e =
    elim (element_form tag content octets e) [
      | inl d ↦ omega (arith, definite_start tag content octets d, definite_len tag content octets d)
      | inr i ↦ omega (arith, indefinite_start (IsInner i.0) tag content octets i.1, indefinite_len (IsInner i.0) tag content octets i.1)
    ]

-- ---- an element at the front is read

-- the result of reading the element
abbrev pub read_element : ℕ → List ℕ → List ℕ → List ℕ → List ℕ → Element × Span
read_element place tag content octets rest = (
  record { tag = tag; content = record { octets = content; place = place + content_start tag content octets }; place = place },
  record { octets = rest; place = place + length octets },
)

-- the result of reading the element, by its parts
abbrev parts : ℕ → List ℕ → List ℕ → ℕ → List ℕ → ℕ → Element × Span
parts place tag content start rest len = (
  record { tag = tag; content = record { octets = content; place = place + start }; place = place },
  record { octets = rest; place = place + len },
)

pub opening_definite : (place : ℕ) (tag content octets rest : List ℕ) (e : IsDefinite tag content octets)
    → opening_at (from place (octets ++ rest)) ≡ Ok (Some (Definite (record { tag_len = length tag; len = length tag + length e.length_octets; content_len = length content })))
opening_definite place tag content octets rest e =
    let grouped : octets ++ rest ≡ tag ++ (e.length_octets ++ (content ++ rest)) =
    ap (λ (x : List ℕ). x ++ rest) e.joined ∙ append_assoc (tag ++ e.length_octets) content rest ∙ append_assoc tag e.length_octets (content ++ rest) in
    ap (λ (x : List ℕ). opening_at (from place x)) grouped ∙ definite_complete place (length content) tag e.length_octets (content ++ rest) e.is_tag e.is_length e.is_within

pub opening_indefinite : (place : ℕ) (IsItem : List ℕ → Type 0) (tag content octets rest : List ℕ) → IsIndefinite IsItem tag content octets
    → opening_at (from place (octets ++ rest)) ≡ Ok (Some (Indefinite (length tag)))
opening_indefinite place IsItem tag content octets rest e =
    let grouped : octets ++ rest ≡ tag ++ 0x80 ∷ (content ++ (ending ++ rest)) =
    ap (λ (x : List ℕ). x ++ rest) e.joined ∙ append_assoc (tag ++ 0x80 ∷ content) ending rest ∙ append_assoc tag (0x80 ∷ content) (ending ++ rest) in
    ap (λ (x : List ℕ). opening_at (from place x)) grouped ∙ indefinite_complete place tag (content ++ (ending ++ rest)) e.is_tag e.is_constructed

definite_read : (place : ℕ) (tag content octets rest : List ℕ) (e : IsDefinite tag content octets)
    → definite_at (from place (octets ++ rest)) (record { tag_len = length tag; len = length tag + length e.length_octets; content_len = length content }) ≡ Ok (read_element place tag content octets rest)
definite_read place tag content octets rest e =
    let lens : List ℕ = e.length_octets in
    let n : ℕ = length content in
    let len : length octets ≡ length tag + length lens + n = definite_len tag content octets e in
    let grouped : octets ++ rest ≡ tag ++ (lens ++ (content ++ rest)) =
    ap (λ (x : List ℕ). x ++ rest) e.joined ∙ append_assoc (tag ++ lens) content rest ∙ append_assoc tag lens (content ++ rest) in
    let room : length tag + length lens + n ≤ length (octets ++ rest) = omega (arith, len, length-append octets rest) in
    let tag_is : take (length tag) (octets ++ rest) ≡ tag = ap (take (length tag)) grouped ∙ take_at tag (lens ++ (content ++ rest)) (length tag) refl in
    let front : octets ++ rest ≡ (tag ++ lens) ++ (content ++ rest) = ap (λ (x : List ℕ). x ++ rest) e.joined ∙ append_assoc (tag ++ lens) content rest in
    let behind_header : drop (length tag + length lens) (octets ++ rest) ≡ content ++ rest = ap (drop (length tag + length lens)) front ∙ drop_at (tag ++ lens) (content ++ rest) (length tag + length lens) (length-append tag lens) in
    let content_is : take n (drop (length tag + length lens) (octets ++ rest)) ≡ content = ap (take n) behind_header ∙ take_at content rest n refl in
    let rest_is : drop (length tag + length lens + n) (octets ++ rest) ≡ rest = drop_at octets rest (length tag + length lens + n) len in
    rw (le-ltb (length (octets ++ rest)) (length tag + length lens + n) room)
    (rw (tag_is, content_is, rest_is) (ap (λ (p : ℕ × ℕ). Ok (parts place tag content p.0 rest p.1)) (ap (λ (k : ℕ). (k, length tag + length lens + n)) (sym (definite_start tag content octets e)) ∙ ap (λ (k : ℕ). (content_start tag content octets, k)) (sym len))))

indefinite_read : (place : ℕ) (IsItem : List ℕ → Type 0) (tag content octets rest : List ℕ) → IsIndefinite IsItem tag content octets
    → indefinite_at (from place (octets ++ rest)) (length tag) (Ok (Whole (length octets))) ≡ Ok (read_element place tag content octets rest)
indefinite_read place IsItem tag content octets rest e =
    let len : length octets ≡ length tag + 1 + length content + 2 = indefinite_len IsItem tag content octets e in
    let front : octets ++ rest ≡ tag ++ (0x80 ∷ content ++ (ending ++ rest)) =
    ap (λ (x : List ℕ). x ++ rest) e.joined ∙ append_assoc (tag ++ 0x80 ∷ content) ending rest ∙ append_assoc tag (0x80 ∷ content) (ending ++ rest) in
    let header : List ℕ = tag ++ 0x80 ∷ [] in
    let header_len : length header ≡ length tag + 1 = length-append tag (0x80 ∷ []) in
    let behind_it : octets ++ rest ≡ header ++ (content ++ (ending ++ rest)) = front ∙ sym (append_assoc tag (0x80 ∷ []) (content ++ (ending ++ rest))) in
    let tag_is : take (length tag) (octets ++ rest) ≡ tag = ap (take (length tag)) front ∙ take_at tag (0x80 ∷ content ++ (ending ++ rest)) (length tag) refl in
    let behind_header : drop (length tag + 1) (octets ++ rest) ≡ content ++ (ending ++ rest) = ap (drop (length tag + 1)) behind_it ∙ drop_at header (content ++ (ending ++ rest)) (length tag + 1) header_len in
    let content_is : take (length octets - (length tag + 3)) (drop (length tag + 1) (octets ++ rest)) ≡ content =
    ap (take (length octets - (length tag + 3))) behind_header ∙ take_at content (ending ++ rest) (length octets - (length tag + 3)) (omega (arith, len)) in
    let rest_is : drop (length octets) (octets ++ rest) ≡ rest = drop_at octets rest (length octets) refl in
    rw (tag_is, content_is, rest_is) (ap (λ (k : ℕ). Ok (parts place tag content k rest (length octets))) (sym (indefinite_start IsItem tag content octets e)))

pub next_complete : (place : ℕ) (tag content octets rest : List ℕ) → IsElement tag content octets
    → next_at (record { octets = octets ++ rest; place = place }) ≡ Ok (read_element place tag content octets rest)
unfolding next_at
next_complete place tag content octets rest e =
    elim (element_form tag content octets e) [
      | inl d ↦ rw (opening_definite place tag content octets rest d) (definite_read place tag content octets rest d)
      | inr i ↦ rw (opening_indefinite place (IsInner i.0) tag content octets rest i.1, outer_of_element tag content octets rest e)
          (indefinite_read place (IsInner i.0) tag content octets rest i.1)
    ]

definite_not : (h : Header) (tag : ℕ) → (let a : Result (Option Opening) Fault = Ok (Some (Definite h)) in a) ≡ Ok (Some (Indefinite tag)) → ⊥
definite_not h tag e = cc

tag_is : (n tag : ℕ) → (let a : Result (Option Opening) Fault = Ok (Some (Indefinite n)) in a) ≡ Ok (Some (Indefinite tag)) → n ≡ tag
tag_is n tag e = cc

-- the length of an element with this header of indefinite length
pub indefinite_bounds : (s : Span) (tag n : ℕ) → opening_at s ≡ Ok (Some (Indefinite tag)) → BeginsElement s.octets n → (tag + 3 ≤ n) × (n ≤ length s.octets)
indefinite_bounds s tag n e b =
    let there : opening_at (from s.place (b.element ++ b.rest)) ≡ Ok (Some (Indefinite tag)) = ap (λ (x : List ℕ). opening_at (from s.place x)) (sym b.joined) ∙ e in
    (least there, omega (arith, b.len, ap length b.joined, length-append b.element b.rest))
  where
    least : opening_at (from s.place (b.element ++ b.rest)) ≡ Ok (Some (Indefinite tag)) → tag + 3 ≤ n
    least there = elim (element_form b.tag b.content b.element b.is_element) [
      | inl d ↦ absurd (definite_not _ tag (sym (opening_definite s.place b.tag b.content b.element b.rest d) ∙ there))
      | inr i ↦ omega (
        arith,
        b.len,
        indefinite_len (IsInner i.0) b.tag b.content b.element i.1,
        tag_is (length b.tag) tag (sym (opening_indefinite s.place (IsInner i.0) b.tag b.content b.element b.rest i.1) ∙ there),
      )
    ]

-- ---- a fault of the element is returned

-- a walk that stops before the first element
at_start : (octets : List ℕ) → goes at_first octets ≡ None → innermost_at octets ≡ 0
at_start octets stop = place_there octets octets [] (nothing_walked octets) stop

none_stops : (octets : List ℕ) → opening_at (from 0 octets) ≡ Ok None → goes at_first octets ≡ None
unfolding goes
none_stops octets e = rw e refl

fault_stops : (octets : List ℕ) (f : Fault) → opening_at (from 0 octets) ≡ Err f → goes at_first octets ≡ None
unfolding goes
fault_stops octets f e = rw e refl

either_way : {A : Type 0} (b : Bool) (x : A) → (if b then x else x) ≡ x
either_way true x = refl
either_way false x = refl

definite_stops : (octets : List ℕ) (h : Header) → opening_at (from 0 octets) ≡ Ok (Some (Definite h)) → goes at_first octets ≡ None
unfolding goes
definite_stops octets h e = rw e (either_way (nat_lt (length octets) (0 + (h.len + h.content_len) - 0)) None)

-- a continuation for a walk that does not go on
abbrev other : Progress → List ℕ → Result Outer Fault
other p octets = Ok (Need 0)

-- a walk that stops before the first element returns the opening's result
stopped_outer : (octets : List ℕ) (found : Result (Option Opening) Fault) → opening_at (from 0 octets) ≡ found → goes at_first octets ≡ None → outer_at octets ≡ (found >>= gone_on other at_first octets)
unfolding outer_at
stopped_outer octets found e stop = walk_stops at_first octets other stop ∙ ap (λ (r : Result (Option Opening) Fault). r >>= gone_on other at_first octets) e

outer_none : (octets : List ℕ) → opening_at (from 0 octets) ≡ Ok None → outer_at octets ≡ Ok (Need (0 + length octets + 1))
outer_none octets e = stopped_outer octets (Ok None) e (none_stops octets e)

-- the result for a header of definite length, if octets are missing or not
abbrev by_count : List ℕ → Header → Bool → Result Outer Fault
by_count octets h short = if short then Ok (Need (0 + (h.len + h.content_len) + 2 * 0)) else Ok (Whole (0 + (h.len + h.content_len)))

outer_definite : (octets : List ℕ) (h : Header) → opening_at (from 0 octets) ≡ Ok (Some (Definite h)) → outer_at octets ≡ by_count octets h (nat_lt (length octets) (0 + (h.len + h.content_len) - 0))
outer_definite octets h e = stopped_outer octets (Ok (Some (Definite h))) e (definite_stops octets h e)

counted_ok : (octets : List ℕ) (h : Header) (short : Bool) (g : Fault) → by_count octets h short ≡ Err g → ⊥
counted_ok octets h true g e = ok_not_err _ g e
counted_ok octets h false g e = ok_not_err _ g e

whole_not_need : (n m : ℕ) → (let a : Result Outer Fault = Ok (Whole n) in a) ≡ Ok (Need m) → ⊥
whole_not_need n m e = cc

-- reading returns the walk's fault, at its place in the window
pub next_of_fault : (s : Span) (g : Fault) → outer_at s.octets ≡ Err g → next_at s ≡ Err (fault g.reason (s.place + g.place))
unfolding next_at
next_of_fault s g e = of (opening_at s) refl
  where
    of : (found : Result (Option Opening) Fault) → opening_at s ≡ found → (found >>= element_of s) ≡ Err (fault g.reason (s.place + g.place))
    of (Err f) a =
        let w = opening_fault s.place s.octets f a in
        let first = opening_refused 0 w.0 s.octets f.reason w.2 in
        let same = err_is {A = Outer} (fault f.reason (0 + w.0)) g (sym (stopped_outer s.octets (Err (fault f.reason (0 + w.0))) first (fault_stops s.octets (fault f.reason (0 + w.0)) first)) ∙ e) in
        ap (λ (r : Reason). Err (fault r f.place)) (ap (λ (x : Fault). x.reason) same) ∙ ap (λ (p : ℕ). Err (fault g.reason p)) (omega (arith, w.1, ap (λ (x : Fault). x.place) same))
    of (Ok None) a = absurd (ok_not_err (Need (0 + length s.octets + 1)) g (sym (outer_none s.octets (opening_moves s.place 0 s.octets None a)) ∙ e))
    of (Ok (Some (Definite h))) a = absurd (counted_ok s.octets h _ g (sym (outer_definite s.octets h (opening_moves s.place 0 s.octets (Some (Definite h)) a)) ∙ e))
    of (Ok (Some (Indefinite tag))) a = ap (indefinite_at s tag) e

-- if the walk needs octets, reading returns Overrun at the innermost incomplete element
pub next_of_need : (s : Span) (n : ℕ) → outer_at s.octets ≡ Ok (Need n) → next_at s ≡ Err (fault Overrun (s.place + innermost_at s.octets))
unfolding next_at
next_of_need s n e = of (opening_at s) refl
  where
    first : goes at_first s.octets ≡ None → (let a : Result (Element × Span) Fault = Err (fault Overrun s.place) in a) ≡ Err (fault Overrun (s.place + innermost_at s.octets))
    first stop = ap (λ (p : ℕ). Err (fault Overrun p)) (omega (arith, at_start s.octets stop))

    counted : (h : Header) (short : Bool) → nat_lt (length s.octets) (0 + (h.len + h.content_len) - 0) ≡ short → by_count s.octets h short ≡ Ok (Need n) → length s.octets < h.len + h.content_len
    counted h true k q = omega (arith, ltb-true (length s.octets) (0 + (h.len + h.content_len) - 0) k)
    counted h false k q = absurd (whole_not_need _ n q)

    of : (found : Result (Option Opening) Fault) → opening_at s ≡ found → (found >>= element_of s) ≡ Err (fault Overrun (s.place + innermost_at s.octets))
    of (Err f) a =
        let w = opening_fault s.place s.octets f a in
        let there = opening_refused 0 w.0 s.octets f.reason w.2 in
        absurd (ok_not_err (Need n) (fault f.reason (0 + w.0)) (sym e ∙ stopped_outer s.octets (Err (fault f.reason (0 + w.0))) there (fault_stops s.octets (fault f.reason (0 + w.0)) there)))
    of (Ok None) a = first (none_stops s.octets (opening_moves s.place 0 s.octets None a))
    of (Ok (Some (Definite h))) a =
        let there = opening_moves s.place 0 s.octets (Some (Definite h)) a in
        let short = counted h _ refl (sym (outer_definite s.octets h there) ∙ e) in
        rw (lt-ltb (length s.octets) (h.len + h.content_len) short) (first (definite_stops s.octets h there))
    of (Ok (Some (Indefinite tag))) a = ap (indefinite_at s tag) e

-- ---- the result of reading

outer_is : (octets : List ℕ) → ((n : ℕ) × (outer_at octets ≡ Ok (Whole n))) ⊎ ((n : ℕ) × (outer_at octets ≡ Ok (Need n))) ⊎ ((g : Fault) × (outer_at octets ≡ Err g))
outer_is octets = of (outer_at octets) refl
  where
    of : (r : Result Outer Fault) → outer_at octets ≡ r → ((n : ℕ) × (outer_at octets ≡ Ok (Whole n))) ⊎ ((n : ℕ) × (outer_at octets ≡ Ok (Need n))) ⊎ ((g : Fault) × (outer_at octets ≡ Err g))
    of (Ok (Whole n)) e = inl (n, e)
    of (Ok (Need n)) e = inr (inl (n, e))
    of (Err g) e = inr (inr (g, e))

-- if the walk finds a whole element, reading returns it
pub next_of_whole : (s : Span) (n : ℕ) → outer_at s.octets ≡ Ok (Whole n) → (x : Element × Span) × (next_at s ≡ Ok x) × FindsElement s x.0 x.1
next_of_whole s n e =
    let b = outer_whole s.octets n e in
    let read = ap (λ (o : List ℕ). next_at (record { octets = o; place = s.place })) b.joined ∙ next_complete s.place b.tag b.content b.element b.rest b.is_element in (
      read_element s.place b.tag b.content b.element b.rest,
      read,
      record {
        octets = b.element;
        is_element = b.is_element;
        joined = b.joined;
        content_place = refl;
        place = refl;
        behind_place = refl;
      },
    )

pub next_sound : (s : Span) (x : Element × Span) → next_at s ≡ Ok x → FindsElement s x.0 x.1
next_sound s x e =
    elim (outer_is s.octets) [
      | inl w ↦ let found = next_of_whole s w.0 w.1 in subst (λ (y : Element × Span). FindsElement s y.0 y.1) (ok_is found.0 x (sym found.1 ∙ e)) found.2
      | inr (inl k) ↦ absurd (ok_not_err x _ (sym e ∙ next_of_need s k.0 k.1))
      | inr (inr k) ↦ absurd (ok_not_err x _ (sym e ∙ next_of_fault s k.0 k.1))
    ]

pub next_fault : (s : Span) (f : Fault) → 0 < length s.octets → next_at s ≡ Err f → IsElementFault s f.reason f.place
next_fault s f some e =
    elim (outer_is s.octets) [
      | inl w ↦ let found = next_of_whole s w.0 w.1 in absurd (ok_not_err found.0 f (sym found.1 ∙ e))
      | inr (inl k) ↦ subst (λ (x : Fault). IsElementFault s x.reason x.place) (err_is {A = Element × Span} _ f (sym (next_of_need s k.0 k.1) ∙ e))
          (innermost_at s.octets, refl, inr (refl, some, is_unfinished s.octets k.0 k.1, innermost_sound s.octets))
      | inr (inr k) ↦ subst (λ (x : Fault). IsElementFault s x.reason x.place) (err_is {A = Element × Span} _ f (sym (next_of_fault s k.0 k.1) ∙ e))
          (k.0.place, refl, inl (outer_fault s.octets k.0 k.1))
    ]

-- reading a faulty element returns its fault
pub next_refused : (s : Span) (f : Fault) → IsElementFault s f.reason f.place → next_at s ≡ Err f
next_refused s f (offset, place_is, inl wrong) =
    next_of_fault s (fault f.reason offset) (outer_refused s.octets f.reason offset wrong) ∙ ap (λ (p : ℕ). Err (fault f.reason p)) (sym place_is)
next_refused s f (offset, place_is, inr (reason_is, some, unfinished, inside)) =
    elim (outer_is s.octets) [
      | inl w ↦ let b = outer_whole s.octets w.0 w.1 in absurd (unfinished.no_element b.tag b.content b.element b.rest b.is_element b.joined)
      | inr (inl k) ↦ next_of_need s k.0 k.1 ∙ ap (λ (r : Reason). Err (fault r (s.place + innermost_at s.octets))) (sym reason_is)
          ∙ ap (λ (p : ℕ). Err (fault f.reason p)) (omega (arith, innermost_unique s.octets offset inside, place_is))
      | inr (inr k) ↦ absurd (unfinished.no_fault k.0.reason k.0.place (outer_fault s.octets k.0 k.1))
    ]
