-- Reading a header returns the header at the front, or its fault.
use Rattle.std.proofs.Common.{◌≡◌, ℕ, ◌+◌, ◌-◌, ◌<◌, ◌≤◌, ◌⊎◌, List, [], ◌∷◌, ◌++◌, length, take, drop, Option, Some, None, Result, Ok, Err, refl, sym, ap, subst, ◌∙◌, inl, inr, arith, append_assoc}
use Rattle.std.specs.Prelude.{nat_lt, ◌==◌}
use Rattle.std.proofs.lemmas.List.{take_at, drop_at, take-append-drop, length-append, length-take-le}
use Rattle.std.proofs.lemmas.Bool.{ltb-true, ltb-false, lt-ltb, le-ltb, eqb-true, eqb-false, ne_eqb}
use Rattle.tcap_ber.specs.declared.fault.Fault.{Fault}
use Rattle.tcap_ber.specs.declared.fault.Reason.{Reason}
use Rattle.tcap_ber.specs.declared.fault.Reason.TheVariants as reasons
use Rattle.tcap_ber.specs.declared.header.Header.{Header}
use Rattle.tcap_ber.specs.Element.{number, IsTag, IsLength, content_limit}
use Rattle.tcap_ber.specs.Header.{HasLongTag, HasLengthOctet, HasLongLength}
use Rattle.tcap_ber.specs.Span.{Span, behind}
use Rattle.tcap_ber.specs.HeaderReading.{fault, ◌>>=◌, tag_in, tag_at, length_in, length_at, header_of}
use Rattle.tcap_ber.proofs.Steps.{chosen, bind_ok, bind_err, err_is}
use Rattle.tcap_ber.proofs.TagLaws.{FindsTag, tag_sound, tag_complete, tag_fault, tag_long}

-- the length after a tag of this many octets
abbrev pub behind_tag : Span → Option ℕ → Result (Option Header) Fault
behind_tag s None = Ok None
behind_tag s (Some tag) = length_at (behind tag s) >>= header_of s.place tag

-- the header of definite length at the front, or None if the octets end before it does
unfoldable pub header_at : Span → Result (Option Header) Fault
header_at s = tag_at s >>= behind_tag s

-- The faults of the header of definite length that the octets begin with; the place is counted from its first octet.
abbrev pub IsHeaderFault : List ℕ → Reason → ℕ → Type 0
IsHeaderFault octets reasons.TagForm place = HasLongTag octets × (place ≡ 0)
IsHeaderFault octets reasons.LengthForm place = (octet : ℕ) × (132 < octet) × HasLengthOctet octet octets place
IsHeaderFault octets reasons.Indefinite place = HasLengthOctet 128 octets place
IsHeaderFault octets reasons.TooLong place = HasLongLength octets × (place ≡ 0)
IsHeaderFault octets _ place = ⊥

-- a length, at the front
pub record FindsLength (octets : List ℕ) (len count : ℕ) : Type 0 where
  pub length_octets : List ℕ
  pub rest : List ℕ
  pub is_length : IsLength count length_octets
  pub joined : octets ≡ length_octets ++ rest
  pub len_is : len ≡ length length_octets

pair_is : (x y : ℕ × ℕ) → (let a : Result (Option (ℕ × ℕ)) Fault = Ok (Some x) in a) ≡ Ok (Some y) → x ≡ y
pair_is x y e = cc

long_is : (first : ℕ) (more : List ℕ) (x : ℕ × ℕ) → 128 ≤ first → (first ≡ 128 → ⊥) → first ≤ 132 → first - 128 ≤ length more
    → (first - 127, number (take (first - 128) more)) ≡ x → FindsLength (first ∷ more) x.0 x.1
long_is first more x low other high room e =
    let k : length (take (first - 128) more) ≡ first - 128 = length-take-le (first - 128) more room in
    subst (λ (y : ℕ × ℕ). FindsLength (first ∷ more) y.0 y.1) e (record {
      length_octets = first ∷ take (first - 128) more;
      rest = drop (first - 128) more;
      is_length = inr (omega (arith, k), omega (arith, k, other), omega (arith, k), refl);
      joined = ap (λ (y : List ℕ). first ∷ y) (sym (take-append-drop (first - 128) more));
      len_is = omega (arith, k, other);
    })

pub length_sound : (place : ℕ) (octets : List ℕ) (x : ℕ × ℕ) → length_in place octets ≡ Ok (Some x) → FindsLength octets x.0 x.1
length_sound place [] x e = absurd cc
length_sound place (first ∷ more) x e =
    elim (chosen (nat_lt first 128) _ _ (Ok (Some x)) e) [
      | inl h ↦ subst (λ (y : ℕ × ℕ). FindsLength (first ∷ more) y.0 y.1) (pair_is (1, first) x h.1)
          (record { length_octets = first ∷ []; rest = more; is_length = inl (ltb-true first 128 h.0, refl, refl); joined = refl; len_is = refl })
      | inr h ↦ elim (chosen (first == 128) _ _ (Ok (Some x)) h.1) [
        | inl k ↦ absurd cc
        | inr k ↦ elim (chosen (nat_lt 132 first) _ _ (Ok (Some x)) k.1) [
          | inl l ↦ absurd cc
          | inr l ↦ elim (chosen (nat_lt (length more) (first - 128)) _ _ (Ok (Some x)) l.1) [
            | inl m ↦ absurd cc
            | inr m ↦ long_is first more x (ltb-false first 128 h.0) (eqb-false first 128 k.0) (ltb-false 132 first l.0) (ltb-false (length more) (first - 128) m.0) (pair_is _ x m.1)
          ]
        ]
      ]
    ]

pub length_complete : (place n : ℕ) (length_octets rest : List ℕ) → IsLength n length_octets → length_in place (length_octets ++ rest) ≡ Ok (Some (length length_octets, n))
length_complete place n [] rest l = absurd l
length_complete place n (first ∷ more) rest (inl h) =
    let e : length (first ∷ more) ≡ 1 = ap (λ (x : List ℕ). length (first ∷ x)) h.1 in
    rw (lt-ltb first 128 h.0) (ap (λ (x : ℕ × ℕ). Ok (Some x)) (ap (λ (x : ℕ). (1, x)) (sym h.2) ∙ ap (λ (x : ℕ). (x, n)) (sym e)))
length_complete place n (first ∷ more) rest (inr h) =
    let k : first - 128 ≡ length more = omega arith in
    let one : first - 127 ≡ length (first ∷ more) = omega arith in
    let room : first - 128 ≤ length (more ++ rest) = omega (arith, length-append more rest) in
    let taken : number (take (first - 128) (more ++ rest)) ≡ n = ap number (take_at more rest (first - 128) (sym k)) ∙ sym h.3 in
    rw (le-ltb first 128 (omega arith), ne_eqb first 128 (λ e. omega arith), le-ltb 132 first (omega arith), le-ltb (length (more ++ rest)) (first - 128) room)
    (rw (one, taken) refl)

-- a length octet that begins no definite length
pub length_fault : (place : ℕ) (octets : List ℕ) (f : Fault) → length_in place octets ≡ Err f
    → (octet : ℕ) × (rest : List ℕ) × (octets ≡ octet ∷ rest) × (((octet ≡ 128) × (f ≡ fault reasons.Indefinite place)) ⊎ ((132 < octet) × (f ≡ fault reasons.LengthForm place)))
length_fault place [] f e = absurd cc
length_fault place (first ∷ more) f e =
    elim (chosen (nat_lt first 128) _ _ (Err f) e) [
      | inl h ↦ absurd cc
      | inr h ↦ elim (chosen (first == 128) _ _ (Err f) h.1) [
        | inl k ↦ (first, more, refl, inl (eqb-true first 128 k.0, sym (err_is {A = Option (ℕ × ℕ)} _ f k.1)))
        | inr k ↦ elim (chosen (nat_lt 132 first) _ _ (Err f) k.1) [
          | inl l ↦ (first, more, refl, inr (ltb-true 132 first l.0, sym (err_is {A = Option (ℕ × ℕ)} _ f l.1)))
          | inr l ↦ elim (chosen (nat_lt (length more) (first - 128)) _ _ (Err f) l.1) [
            | inl m ↦ absurd cc
            | inr m ↦ absurd cc
          ]
        ]
      ]
    ]

pub length_indefinite : (place : ℕ) (rest : List ℕ) → length_in place (128 ∷ rest) ≡ Err (fault reasons.Indefinite place)
length_indefinite place rest = refl

pub length_form : (place octet : ℕ) (rest : List ℕ) → 132 < octet → length_in place (octet ∷ rest) ≡ Err (fault reasons.LengthForm place)
length_form place octet rest h = rw (le-ltb octet 128 (omega arith), ne_eqb octet 128 (λ e. omega arith), lt-ltb 132 octet h) refl

-- a header at the front whose content is within the limit
pub record FindsHeader (octets : List ℕ) (h : Header) : Type 0 where
  pub tag : List ℕ
  pub length_octets : List ℕ
  pub rest : List ℕ
  pub is_tag : IsTag tag
  pub is_length : IsLength h.content_len length_octets
  pub within : h.content_len ≤ content_limit
  pub joined : octets ≡ tag ++ (length_octets ++ rest)
  pub tag_len : h.tag_len ≡ length tag
  pub len : h.len ≡ length tag + length length_octets

header_is : (x y : Header) → (let a : Result (Option Header) Fault = Ok (Some x) in a) ≡ Ok (Some y) → x ≡ y
header_is x y e = cc

header_of_sound : (place tag : ℕ) (found : Option (ℕ × ℕ)) (h : Header) → header_of place tag found ≡ Ok (Some h)
    → (x : ℕ × ℕ) × (found ≡ Some x) × (x.1 ≤ content_limit) × ((let made : Header = record { tag_len = tag; len = tag + x.0; content_len = x.1 } in made) ≡ h)
header_of_sound place tag None h e = absurd cc
header_of_sound place tag (Some x) h e =
    elim (chosen (nat_lt content_limit x.1) _ _ (Ok (Some h)) e) [
      | inl k ↦ absurd cc
      | inr k ↦ (x, refl, ltb-false content_limit x.1 k.0, header_is _ h k.1)
    ]

pub header_sound : (s : Span) (h : Header) → header_at s ≡ Ok (Some h) → FindsHeader s.octets h
unfolding header_at tag_at length_at
header_sound s h e =
    let a = bind_ok (tag_in s.place s.octets) (behind_tag s) (Some h) e in
    behind_tag_sound a.0 a.1 a.2
  where
    behind_tag_sound : (tag : Option ℕ) → tag_in s.place s.octets ≡ Ok tag → behind_tag s tag ≡ Ok (Some h) → FindsHeader s.octets h
    behind_tag_sound None t b = absurd cc
    behind_tag_sound (Some n) t b =
        let front = tag_sound s.place s.octets n t in
        let l = bind_ok (length_in (s.place + n) (drop n s.octets)) (header_of s.place n) (Some h) b in
        let found = header_of_sound s.place n l.0 h l.2 in
        let len = length_sound (s.place + n) (drop n s.octets) found.0 (l.1 ∙ ap (λ (x : Option (ℕ × ℕ)). Ok x) found.1) in
        let behind_it : drop n s.octets ≡ front.rest = ap (drop n) front.joined ∙ drop_at front.tag front.rest n (sym front.count) in
        subst (FindsHeader s.octets) found.3 (record {
          tag = front.tag;
          length_octets = len.length_octets;
          rest = len.rest;
          is_tag = front.is_tag;
          is_length = len.is_length;
          within = found.2;
          joined = front.joined ∙ ap (λ (x : List ℕ). front.tag ++ x) (sym behind_it ∙ len.joined);
          tag_len = front.count;
          len = omega (arith, front.count, len.len_is);
        })

pub header_complete : (place n : ℕ) (tag length_octets rest : List ℕ) → IsTag tag → IsLength n length_octets → n ≤ content_limit
    → header_at (record { octets = tag ++ (length_octets ++ rest); place = place }) ≡ Ok (Some (record { tag_len = length tag; len = length tag + length length_octets; content_len = n }))
unfolding header_at tag_at length_at
header_complete place n tag length_octets rest t l w =
    let behind_it : drop (length tag) (tag ++ (length_octets ++ rest)) ≡ length_octets ++ rest = drop_at tag (length_octets ++ rest) (length tag) refl in
    rw (tag_complete place tag (length_octets ++ rest) t, behind_it, length_complete (place + length tag) n length_octets rest l, le-ltb content_limit n w) refl

pub header_fault : (s : Span) (f : Fault) → header_at s ≡ Err f → (offset : ℕ) × (f.place ≡ s.place + offset) × IsHeaderFault s.octets f.reason offset
unfolding header_at tag_at length_at
header_fault s f e =
    elim (bind_err (tag_in s.place s.octets) (behind_tag s) f e) [
      | inl t ↦ let k = tag_fault s.place s.octets f t in
          subst (λ (x : Fault). (offset : ℕ) × (x.place ≡ s.place + offset) × IsHeaderFault s.octets x.reason offset) (sym k.1) (0, omega arith, (k.0, refl))
      | inr a ↦ behind_tag_fault a.0 a.1 a.2
    ]
  where
    behind_length : (n : ℕ) (front : FindsTag s.octets n) (found : Option (ℕ × ℕ)) → length_in (s.place + n) (drop n s.octets) ≡ Ok found → header_of s.place n found ≡ Err f → (offset : ℕ) × (f.place ≡ s.place + offset) × IsHeaderFault s.octets f.reason offset
    behind_length n front None l b = absurd cc
    behind_length n front (Some x) l b =
        let len = length_sound (s.place + n) (drop n s.octets) x l in
        let behind_it : drop n s.octets ≡ front.rest = ap (drop n) front.joined ∙ drop_at front.tag front.rest n (sym front.count) in
        elim (chosen (nat_lt content_limit x.1) _ _ (Err f) b) [
          | inl k ↦ subst (λ (y : Fault). (offset : ℕ) × (y.place ≡ s.place + offset) × IsHeaderFault s.octets y.reason offset) (err_is {A = Option Header} (fault reasons.TooLong s.place) f k.1) (
            0,
            omega arith,
            (
              record {
                tag = front.tag;
                length_octets = len.length_octets;
                rest = len.rest;
                count = x.1;
                is_tag = front.is_tag;
                is_length = len.is_length;
                is_over = ltb-true content_limit x.1 k.0;
                joined = front.joined ∙ ap (λ (y : List ℕ). front.tag ++ y) (sym behind_it ∙ len.joined) ∙ sym (append_assoc front.tag len.length_octets len.rest);
              },
              refl,
            ),
          )
          | inr k ↦ absurd cc
        ]

    behind_tag_fault : (tag : Option ℕ) → tag_in s.place s.octets ≡ Ok tag → behind_tag s tag ≡ Err f → (offset : ℕ) × (f.place ≡ s.place + offset) × IsHeaderFault s.octets f.reason offset
    behind_tag_fault None t b = absurd cc
    behind_tag_fault (Some n) t b =
        let front = tag_sound s.place s.octets n t in
        let behind_it : drop n s.octets ≡ front.rest = ap (drop n) front.joined ∙ drop_at front.tag front.rest n (sym front.count) in
        elim (bind_err (length_in (s.place + n) (drop n s.octets)) (header_of s.place n) f b) [
          | inl l ↦ let k = length_fault (s.place + n) (drop n s.octets) f l in
              let here : s.octets ≡ front.tag ++ k.0 ∷ k.1 = front.joined ∙ ap (λ (y : List ℕ). front.tag ++ y) (sym behind_it ∙ k.2) in
              elim k.3 [
                | inl m ↦ subst (λ (y : Fault). (offset : ℕ) × (y.place ≡ s.place + offset) × IsHeaderFault s.octets y.reason offset) (sym m.1)
                    (n, refl, record { tag = front.tag; rest = k.1; is_tag = front.is_tag; joined = here ∙ ap (λ (o : ℕ). front.tag ++ o ∷ k.1) m.0; place_is = front.count })
                | inr m ↦ subst (λ (y : Fault). (offset : ℕ) × (y.place ≡ s.place + offset) × IsHeaderFault s.octets y.reason offset) (sym m.1)
                    (n, refl, (k.0, m.0, record { tag = front.tag; rest = k.1; is_tag = front.is_tag; joined = here; place_is = front.count }))
              ]
          | inr l ↦ behind_length n front l.0 l.1 l.2
        ]

behind_length_octet : (place : ℕ) (octet offset : ℕ) (octets : List ℕ) (f : Fault) → HasLengthOctet octet octets offset
    → ((rest : List ℕ) → length_in (place + offset) (octet ∷ rest) ≡ Err f) → header_at (record { octets = octets; place = place }) ≡ Err f
unfolding header_at tag_at length_at
behind_length_octet place octet offset octets f h wrong =
    let behind_it : drop (length h.tag) (h.tag ++ octet ∷ h.rest) ≡ octet ∷ h.rest = drop_at h.tag (octet ∷ h.rest) (length h.tag) refl in
    let at : length_in (place + length h.tag) (octet ∷ h.rest) ≡ Err f = rw (← h.place_is) (wrong h.rest) in
    rw (h.joined, tag_complete place h.tag (octet ∷ h.rest) h.is_tag, behind_it, at) refl

long_length : (place : ℕ) (octets : List ℕ) → HasLongLength octets → header_at (record { octets = octets; place = place }) ≡ Err (fault reasons.TooLong place)
unfolding header_at tag_at length_at
long_length place octets h =
    let here : octets ≡ h.tag ++ (h.length_octets ++ h.rest) = h.joined ∙ append_assoc h.tag h.length_octets h.rest in
    let behind_it : drop (length h.tag) (h.tag ++ (h.length_octets ++ h.rest)) ≡ h.length_octets ++ h.rest = drop_at h.tag (h.length_octets ++ h.rest) (length h.tag) refl in
    rw (here, tag_complete place h.tag (h.length_octets ++ h.rest) h.is_tag, behind_it, length_complete (place + length h.tag) h.count h.length_octets h.rest h.is_length, lt-ltb content_limit h.count h.is_over) refl

long_tag : (place : ℕ) (octets : List ℕ) → HasLongTag octets → header_at (record { octets = octets; place = place }) ≡ Err (fault reasons.TagForm place)
unfolding header_at tag_at
long_tag place octets h = rw (tag_long place octets h) refl

-- reading a faulty header returns its fault
pub header_refused : (place offset : ℕ) (octets : List ℕ) (reason : Reason) → IsHeaderFault octets reason offset
    → header_at (record { octets = octets; place = place }) ≡ Err (fault reason (place + offset))
header_refused place offset octets reasons.TagForm h = long_tag place octets h.0 ∙ ap (λ (p : ℕ). Err (fault reasons.TagForm p)) (omega (arith, h.1))
header_refused place offset octets reasons.LengthForm h = behind_length_octet place h.0 offset octets _ h.2 (λ rest. length_form (place + offset) h.0 rest h.1)
header_refused place offset octets reasons.Indefinite h = behind_length_octet place 128 offset octets _ h (λ rest. length_indefinite (place + offset) rest)
header_refused place offset octets reasons.TooLong h = long_length place octets h.0 ∙ ap (λ (p : ℕ). Err (fault reasons.TooLong p)) (omega (arith, h.1))
header_refused place offset octets _ h = absurd h
