-- Reading a header of definite or indefinite length returns the header at the front, or its fault.
use Rattle.std.proofs.Common.{◌≡◌, ℕ, ◌+◌, ◌-◌, ◌/◌, ◌%◌, ◌<◌, ◌≤◌, Bool, true, false, List, [], ◌∷◌, ◌++◌, length, drop, Option, Some, None, Result, Ok, Err, refl, sym, ap, subst, ◌∙◌, inl, inr, arith, append_assoc}
use Rattle.std.proofs.lemmas.List.{drop_at}
use Rattle.std.proofs.lemmas.Bool.{eqb-true, eq-eqb, ne_eqb}
use Rattle.tcap_ber.specs.declared.fault.Fault.{Fault}
use Rattle.tcap_ber.specs.declared.fault.Reason.{Reason}
use Rattle.tcap_ber.specs.declared.fault.Reason.TheVariants as reasons
use Rattle.tcap_ber.specs.declared.header.Header.{Header}
use Rattle.tcap_ber.specs.declared.header.Opening.{Opening}
use Rattle.tcap_ber.specs.declared.header.Opening.TheVariants.{Definite, Indefinite}
use Rattle.tcap_ber.specs.Element.{IsTag, IsLength, content_limit, IsConstructed, is_next}
use Rattle.tcap_ber.specs.Header.{HasLongTag, HasLengthOctet, HasLongLength}
use Rattle.tcap_ber.specs.Span.{Span}
use Rattle.tcap_ber.specs.HeaderReading.{fault, ◌>>=◌, tag_in, tag_at, is_constructed, definite_of, definite_behind, opening_behind, opening_at}
use Rattle.tcap_ber.proofs.Steps.{chosen, bind_ok, bind_err, err_is, ok_not_err}
use Rattle.tcap_ber.proofs.TagLaws.{FindsTag, tag_sound, tag_complete, tag_fault, tag_long}
use Rattle.tcap_ber.proofs.HeaderLaws.{FindsHeader, header_at, header_sound, header_complete, header_fault, header_refused, IsHeaderFault}

-- octets from a place on
abbrev pub from : ℕ → List ℕ → Span
from place octets = record { octets = octets; place = place }

-- a constructed tag and the length octet 80, at the front
pub record FindsIndefinite (octets : List ℕ) (count : ℕ) : Type 0 where
  pub tag : List ℕ
  pub rest : List ℕ
  pub is_tag : IsTag tag
  pub is_constructed : IsConstructed tag
  pub joined : octets ≡ tag ++ 0x80 ∷ rest
  pub count_is : count ≡ length tag

-- the faults of the header that the octets begin with; the place is counted from its first octet
abbrev pub IsOpeningFault : List ℕ → Reason → ℕ → Type 0
IsOpeningFault octets reasons.TagForm offset = HasLongTag octets × (offset ≡ 0)
IsOpeningFault octets reasons.LengthForm offset = (octet : ℕ) × (132 < octet) × HasLengthOctet octet octets offset
IsOpeningFault octets reasons.Indefinite offset = (h : HasLengthOctet 0x80 octets offset) × (IsConstructed h.tag → ⊥)
IsOpeningFault octets reasons.TooLong offset = HasLongLength octets × (offset ≡ 0)
IsOpeningFault octets _ offset = ⊥

-- ---- parts

-- the octets after a tag that was found
pub behind_found : (octets : List ℕ) (n : ℕ) (f : FindsTag octets n) → drop n octets ≡ f.rest
behind_found octets n f = ap (drop n) f.joined ∙ drop_at f.tag f.rest n (sym f.count)

-- an octet that `is_next` finds is at the front
pub next_sound : (octet : ℕ) (octets : List ℕ) → is_next octet octets ≡ true → (rest : List ℕ) × (octets ≡ octet ∷ rest)
next_sound octet [] e = absurd cc
next_sound octet (first ∷ more) e = (more, ap (λ (x : ℕ). x ∷ more) (eqb-true first octet e))

pub no_indefinite : (n : ℕ) (length_octets rest : List ℕ) → IsLength n length_octets → is_next 0x80 (length_octets ++ rest) ≡ false
no_indefinite n [] rest l = absurd l
no_indefinite n (first ∷ more) rest (inl h) = ne_eqb first 128 (λ e. omega (arith, e, h.0))
no_indefinite n (first ∷ more) rest (inr h) = ne_eqb first 128 (λ e. omega (arith, e, h.0, h.1))

-- `is_constructed` decides `IsConstructed` for the tag at the front
pub constructed_sound : (tag rest : List ℕ) → IsTag tag → is_constructed (tag ++ rest) ≡ true → IsConstructed tag
constructed_sound [] rest t e = absurd t
constructed_sound (first ∷ more) rest t e = eqb-true (first / 32 % 2) 1 e

-- the converse of `constructed_sound`
pub constructed_complete : (tag rest : List ℕ) → IsConstructed tag → is_constructed (tag ++ rest) ≡ true
constructed_complete [] rest c = absurd c
constructed_complete (first ∷ more) rest c = eq-eqb (first / 32 % 2) 1 c

pub primitive_complete : (tag rest : List ℕ) → IsTag tag → (IsConstructed tag → ⊥) → is_constructed (tag ++ rest) ≡ false
primitive_complete [] rest t c = absurd t
primitive_complete (first ∷ more) rest t c = ne_eqb (first / 32 % 2) 1 c

-- a tag has one to five octets
pub tag_length : (tag : List ℕ) → IsTag tag → (1 ≤ length tag) × (length tag ≤ 5)
tag_length [] t = absurd t
tag_length (first ∷ more) (inl h) = (omega arith, omega (arith, ap length h.1))
tag_length (first ∷ more) (inr h) = (omega arith, omega (arith, h.2))

-- a length has at least one octet
pub length_some : (n : ℕ) (length_octets : List ℕ) → IsLength n length_octets → 1 ≤ length length_octets
length_some n [] l = absurd l
length_some n (first ∷ more) l = omega arith

-- a header of definite length, as an opening
abbrev pub found_definite : Option Header → Result (Option Opening) Fault
found_definite h = Ok (definite_of h)

pub definite_is : (x : Option Header) (h : Header) → found_definite x ≡ Ok (Some (Definite h)) → x ≡ Some h
definite_is None h e = absurd cc
definite_is (Some k) h e = let same : k ≡ h = cc in ap (λ (y : Header). Some y) same

-- if the octet after the tag is not 80, the header is of definite length
pub plain : (place : ℕ) (tag rest : List ℕ) → IsTag tag → is_next 0x80 rest ≡ false
    → opening_at (from place (tag ++ rest)) ≡ (header_at (from place (tag ++ rest)) >>= found_definite)
unfolding opening_at header_at tag_at
plain place tag rest t e =
    let behind_it : drop (length tag) (tag ++ rest) ≡ rest = drop_at tag rest (length tag) refl in
    rw (tag_complete place tag rest t, behind_it, e) refl

-- ---- a header that is found is at the front

-- after a tag, the header of definite length is that of `header_at`
pub definite_part : (s : Span) (n : ℕ) (h : Header) → tag_in s.place s.octets ≡ Ok (Some n) → opening_behind s (Some n) ≡ Ok (Some (Definite h)) → header_at s ≡ Ok (Some h)
unfolding header_at tag_at
definite_part s n h t b =
    elim (chosen (is_next 0x80 (drop n s.octets)) _ _ (Ok (Some (Definite h))) b) [
      | inl k ↦ elim (chosen (is_constructed s.octets) _ _ (Ok (Some (Definite h))) k.1) [
        | inl m ↦ absurd cc
        | inr m ↦ absurd cc
      ]
      | inr k ↦ let r = bind_ok (definite_behind s n) found_definite (Some (Definite h)) k.1 in
          rw t (r.1 ∙ ap (λ (x : Option Header). Ok x) (definite_is r.0 h r.2))
    ]

pub definite_sound : (place : ℕ) (octets : List ℕ) (h : Header) → opening_at (from place octets) ≡ Ok (Some (Definite h)) → FindsHeader octets h
unfolding opening_at tag_at
definite_sound place octets h e =
    let a = bind_ok (tag_in place octets) (opening_behind (from place octets)) (Some (Definite h)) e in
    of_tag a.0 a.1 a.2
  where
    of_tag : (tag : Option ℕ) → tag_in place octets ≡ Ok tag → opening_behind (from place octets) tag ≡ Ok (Some (Definite h)) → FindsHeader octets h
    of_tag None t b = absurd cc
    of_tag (Some n) t b = header_sound (from place octets) h (definite_part (from place octets) n h t b)

-- a header of definite length is not one of indefinite length
pub not_definite : (x : Option Header) (tag : ℕ) → found_definite x ≡ Ok (Some (Indefinite tag)) → ⊥
not_definite None tag e = absurd cc
not_definite (Some k) tag e = absurd cc

pub indefinite_is : (n m : ℕ) → (let a : Result (Option Opening) Fault = Ok (Some (Indefinite n)) in a) ≡ Ok (Some (Indefinite m)) → n ≡ m
indefinite_is n m e = cc

pub indefinite_sound : (place : ℕ) (octets : List ℕ) (tag : ℕ) → opening_at (from place octets) ≡ Ok (Some (Indefinite tag)) → FindsIndefinite octets tag
unfolding opening_at tag_at
indefinite_sound place octets tag e =
    let a = bind_ok (tag_in place octets) (opening_behind (from place octets)) (Some (Indefinite tag)) e in
    of_tag a.0 a.1 a.2
  where
    of_tag : (found : Option ℕ) → tag_in place octets ≡ Ok found → opening_behind (from place octets) found ≡ Ok (Some (Indefinite tag)) → FindsIndefinite octets tag
    of_tag None t b = absurd cc
    of_tag (Some n) t b =
        let front = tag_sound place octets n t in
        elim (chosen (is_next 0x80 (drop n octets)) _ _ (Ok (Some (Indefinite tag))) b) [
          | inl k ↦ elim (chosen (is_constructed octets) _ _ (Ok (Some (Indefinite tag))) k.1) [
            | inl m ↦
                let next = next_sound 0x80 (drop n octets) k.0 in
                let same : n ≡ tag = indefinite_is n tag m.1 in
                record {
                  tag = front.tag;
                  rest = next.0;
                  is_tag = front.is_tag;
                  is_constructed = constructed_sound front.tag front.rest front.is_tag (ap is_constructed (sym front.joined) ∙ m.0);
                  joined = front.joined ∙ ap (λ (x : List ℕ). front.tag ++ x) (sym (behind_found octets n front) ∙ next.1);
                  count_is = sym same ∙ front.count;
                }
            | inr m ↦ absurd cc
          ]
          | inr k ↦ let r = bind_ok (definite_behind (from place octets) n) found_definite (Some (Indefinite tag)) k.1 in
              absurd (not_definite r.0 tag r.2)
        ]

pub definite_complete : (place n : ℕ) (tag length_octets rest : List ℕ) → IsTag tag → IsLength n length_octets → n ≤ content_limit
    → opening_at (from place (tag ++ (length_octets ++ rest))) ≡ Ok (Some (Definite (record { tag_len = length tag; len = length tag + length length_octets; content_len = n })))
definite_complete place n tag length_octets rest is_tag is_length is_within =
    plain place tag (length_octets ++ rest) is_tag (no_indefinite n length_octets rest is_length)
    ∙ ap (λ (r : Result (Option Header) Fault). r >>= found_definite) (header_complete place n tag length_octets rest is_tag is_length is_within)

pub indefinite_complete : (place : ℕ) (tag rest : List ℕ) → IsTag tag → IsConstructed tag → opening_at (from place (tag ++ 0x80 ∷ rest)) ≡ Ok (Some (Indefinite (length tag)))
unfolding opening_at tag_at
indefinite_complete place tag rest is_tag is_constructed =
    let behind_it : drop (length tag) (tag ++ 0x80 ∷ rest) ≡ 0x80 ∷ rest = drop_at tag (0x80 ∷ rest) (length tag) refl in
    rw (tag_complete place tag (0x80 ∷ rest) is_tag, behind_it, constructed_complete tag (0x80 ∷ rest) is_constructed) refl

-- ---- a fault that is returned is there

pub tag_is : (n m : ℕ) → (let a : Result (Option ℕ) Fault = Ok (Some n) in a) ≡ Ok (Some m) → n ≡ m
tag_is n m e = cc

-- a length octet 80 comes right after the tag
pub next_is_80 : (place n offset : ℕ) (octets : List ℕ) → tag_in place octets ≡ Ok (Some n) → HasLengthOctet 0x80 octets offset → is_next 0x80 (drop n octets) ≡ true
next_is_80 place n offset octets t h =
    let same : length h.tag ≡ n = tag_is (length h.tag) n (sym (ap (tag_in place) h.joined ∙ tag_complete place h.tag (0x80 ∷ h.rest) h.is_tag) ∙ t) in
    ap (is_next 0x80) (ap (drop n) h.joined ∙ drop_at h.tag (0x80 ∷ h.rest) n same)

-- if the length octet is not 80, a fault of the header of definite length is a fault of the header
pub of_header_fault : (octets : List ℕ) (reason : Reason) (offset : ℕ) → (HasLengthOctet 0x80 octets offset → ⊥) → IsHeaderFault octets reason offset → IsOpeningFault octets reason offset
of_header_fault octets reasons.TagForm offset other h = h
of_header_fault octets reasons.LengthForm offset other h = h
of_header_fault octets reasons.Indefinite offset other h = absurd (other h)
of_header_fault octets reasons.TooLong offset other h = h
of_header_fault octets _ offset other h = absurd h

pub true_not_false : (b : Bool) → b ≡ true → b ≡ false → ⊥
true_not_false b e f = absurd cc

pub opening_fault : (place : ℕ) (octets : List ℕ) (f : Fault) → opening_at (from place octets) ≡ Err f → (offset : ℕ) × (f.place ≡ place + offset) × IsOpeningFault octets f.reason offset
unfolding opening_at header_at tag_at
opening_fault place octets f e =
    elim (bind_err (tag_in place octets) (opening_behind (from place octets)) f e) [
      | inl t ↦ let k = tag_fault place octets f t in
          subst (λ (x : Fault). (offset : ℕ) × (x.place ≡ place + offset) × IsOpeningFault octets x.reason offset) (sym k.1) (0, omega arith, (k.0, refl))
      | inr a ↦ of_tag a.0 a.1 a.2
    ]
  where
    of_tag : (tag : Option ℕ) → tag_in place octets ≡ Ok tag → opening_behind (from place octets) tag ≡ Err f → (offset : ℕ) × (f.place ≡ place + offset) × IsOpeningFault octets f.reason offset
    of_tag None t b = absurd cc
    of_tag (Some n) t b =
        let front = tag_sound place octets n t in
        elim (chosen (is_next 0x80 (drop n octets)) _ _ (Err f) b) [
          | inl k ↦ elim (chosen (is_constructed octets) _ _ (Err f) k.1) [
            | inl m ↦ absurd cc
            | inr m ↦
                let next = next_sound 0x80 (drop n octets) k.0 in
                subst (λ (x : Fault). (offset : ℕ) × (x.place ≡ place + offset) × IsOpeningFault octets x.reason offset) (err_is {A = Option Opening} (fault reasons.Indefinite (place + n)) f m.1) (
                  n,
                  refl,
                  (
                    record { tag = front.tag; rest = next.0; is_tag = front.is_tag; joined = front.joined ∙ ap (λ (x : List ℕ). front.tag ++ x) (sym (behind_found octets n front) ∙ next.1); place_is = front.count },
                    λ c. true_not_false (is_constructed octets) (ap is_constructed front.joined ∙ constructed_complete front.tag front.rest c) m.0,
                  ),
                )
          ]
          | inr k ↦ elim (bind_err (definite_behind (from place octets) n) found_definite f k.1) [
            | inl l ↦
                let w = header_fault (from place octets) f (rw t l) in
                (w.0, w.1, of_header_fault octets f.reason w.0 (λ h. true_not_false _ (next_is_80 place n w.0 octets t h) k.0) w.2)
            | inr l ↦ absurd (ok_not_err (definite_of l.0) f l.2)
          ]
        ]

-- if the octet after the tag is not 80, reading returns the fault of the header of definite length
pub plain_refused : (place : ℕ) (tag rest octets : List ℕ) (f : Fault) → IsTag tag → octets ≡ tag ++ rest → is_next 0x80 rest ≡ false
    → header_at (from place octets) ≡ Err f → opening_at (from place octets) ≡ Err f
plain_refused place tag rest octets f t joined other e =
    ap (λ (x : List ℕ). opening_at (from place x)) joined ∙ plain place tag rest t other
    ∙ ap (λ (r : Result (Option Header) Fault). r >>= found_definite) (ap (λ (x : List ℕ). header_at (from place x)) (sym joined) ∙ e)

-- a long tag is refused
pub long_tag : (place : ℕ) (octets : List ℕ) → HasLongTag octets → opening_at (from place octets) ≡ Err (fault reasons.TagForm place)
unfolding opening_at tag_at
long_tag place octets h = rw (tag_long place octets h) refl

-- a primitive element of indefinite length is refused
pub primitive_refused : (place offset : ℕ) (octets : List ℕ) (h : HasLengthOctet 0x80 octets offset) → (IsConstructed h.tag → ⊥) → opening_at (from place octets) ≡ Err (fault reasons.Indefinite (place + offset))
unfolding opening_at tag_at
primitive_refused place offset octets h c =
    let behind_it : drop (length h.tag) (h.tag ++ 0x80 ∷ h.rest) ≡ 0x80 ∷ h.rest = drop_at h.tag (0x80 ∷ h.rest) (length h.tag) refl in
    rw (h.joined, tag_complete place h.tag (0x80 ∷ h.rest) h.is_tag, behind_it, primitive_complete h.tag (0x80 ∷ h.rest) h.is_tag c)
    (ap (λ (p : ℕ). Err (fault reasons.Indefinite (place + p))) (sym h.place_is))

pub opening_refused : (place offset : ℕ) (octets : List ℕ) (reason : Reason) → IsOpeningFault octets reason offset → opening_at (from place octets) ≡ Err (fault reason (place + offset))
opening_refused place offset octets reasons.TagForm h = long_tag place octets h.0 ∙ ap (λ (p : ℕ). Err (fault reasons.TagForm p)) (omega (arith, h.1))
opening_refused place offset octets reasons.LengthForm h =
    plain_refused place h.2.tag (h.0 ∷ h.2.rest) octets _ h.2.is_tag h.2.joined (ne_eqb h.0 128 (λ e. omega (arith, e, h.1))) (header_refused place offset octets reasons.LengthForm h)
opening_refused place offset octets reasons.Indefinite h = primitive_refused place offset octets h.0 h.1
opening_refused place offset octets reasons.TooLong h =
    plain_refused place h.0.tag (h.0.length_octets ++ h.0.rest) octets _ h.0.is_tag (h.0.joined ∙ append_assoc h.0.tag h.0.length_octets h.0.rest)
    (no_indefinite h.0.count h.0.length_octets h.0.rest h.0.is_length) (header_refused place offset octets reasons.TooLong h)
opening_refused place offset octets _ h = absurd h

pub no_octets : (place : ℕ) → opening_at (from place []) ≡ Ok None
unfolding opening_at tag_at
no_octets place = refl
