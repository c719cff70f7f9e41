-- Headers do not depend on the octets after them or on their place, and their lengths are limited.
use Rattle.std.proofs.Common.{◌≡◌, ℕ, zero, suc, ◌+◌, ◌-◌, ◌%◌, ◌<◌, ◌≤◌, true, false, List, [], ◌∷◌, ◌++◌, length, take, drop, Option, Some, None, Result, Ok, Err, refl, sym, ap, ◌∙◌, inl, inr, arith, append_assoc}
use Rattle.std.proofs.lemmas.List.{take_at, take-append-drop, take-append-le, length-append}
use Rattle.std.proofs.lemmas.Bool.{ltb-true, ltb-false}
use Rattle.std.specs.Prelude.{nat_lt, ◌==◌}
use Rattle.tcap_ber.specs.declared.fault.Fault.{Fault}
use Rattle.tcap_ber.specs.declared.fault.Reason.{Reason}
use Rattle.tcap_ber.specs.declared.fault.Reason.TheVariants as reasons
use Rattle.tcap_ber.specs.declared.header.Header.{Header}
use Rattle.tcap_ber.specs.declared.header.Opening.{Opening}
use Rattle.tcap_ber.specs.declared.header.Opening.TheVariants.{Definite, Indefinite}
use Rattle.tcap_ber.specs.Element.{content_limit, is_next}
use Rattle.tcap_ber.specs.HeaderReading.{fault, tag_rest, tag_in, tag_at, length_in, length_at, header_of, is_constructed, definite_behind, opening_behind, opening_at}
use Rattle.tcap_ber.specs.Progress.{header_octets}
use Rattle.tcap_ber.proofs.Steps.{chosen, bind_ok}
use Rattle.tcap_ber.proofs.TagLaws.{tag_sound}
use Rattle.tcap_ber.proofs.StayLaws.{long_tag_stays, length_octet_stays, long_length_stays}
use Rattle.tcap_ber.proofs.HeaderLaws.{FindsHeader}
use Rattle.tcap_ber.proofs.OpeningLaws.{from, FindsIndefinite, IsOpeningFault, behind_found, tag_length, length_some, found_definite, definite_sound, indefinite_sound, definite_complete, indefinite_complete, opening_fault, opening_refused}

-- ---- octets after a header

-- a header of definite length at the front is found
pub definite_found : (place : ℕ) (octets : List ℕ) (h : Header) → FindsHeader octets h → opening_at (from place octets) ≡ Ok (Some (Definite h))
definite_found place octets h f =
    let counts : (let made : Header = record { tag_len = length f.tag; len = length f.tag + length f.length_octets; content_len = h.content_len } in made) ≡ h = rw (← f.len, ← f.tag_len) refl in
    ap (λ (x : List ℕ). opening_at (from place x)) f.joined
    ∙ definite_complete place h.content_len f.tag f.length_octets f.rest f.is_tag f.is_length f.within
    ∙ ap (λ (x : Header). Ok (Some (Definite x))) counts

-- a header of indefinite length at the front is found
pub indefinite_found : (place : ℕ) (octets : List ℕ) (tag : ℕ) → FindsIndefinite octets tag → opening_at (from place octets) ≡ Ok (Some (Indefinite tag))
indefinite_found place octets tag f =
    ap (λ (x : List ℕ). opening_at (from place x)) f.joined
    ∙ indefinite_complete place f.tag f.rest f.is_tag f.is_constructed
    ∙ ap (λ (n : ℕ). Ok (Some (Indefinite n))) (sym f.count_is)

-- three parts, with more after them
pub more_behind : (octets a b c more : List ℕ) → octets ≡ a ++ (b ++ c) → octets ++ more ≡ a ++ (b ++ (c ++ more))
more_behind octets a b c more e =
    ap (λ (x : List ℕ). x ++ more) e ∙ append_assoc a (b ++ c) more ∙ ap (λ (x : List ℕ). a ++ x) (append_assoc b c more)

-- octets after a whole header do not change it
pub opening_stays : (place : ℕ) (octets more : List ℕ) (opening : Opening) → opening_at (from place octets) ≡ Ok (Some opening) → opening_at (from place (octets ++ more)) ≡ Ok (Some opening)
opening_stays place octets more (Definite h) e =
    let f = definite_sound place octets h e in
    definite_found place (octets ++ more) h (record {
      tag = f.tag;
      length_octets = f.length_octets;
      rest = f.rest ++ more;
      is_tag = f.is_tag;
      is_length = f.is_length;
      within = f.within;
      joined = more_behind octets f.tag f.length_octets f.rest more f.joined;
      tag_len = f.tag_len;
      len = f.len;
    })
opening_stays place octets more (Indefinite tag) e =
    let f = indefinite_sound place octets tag e in
    indefinite_found place (octets ++ more) tag (record {
      tag = f.tag;
      rest = f.rest ++ more;
      is_tag = f.is_tag;
      is_constructed = f.is_constructed;
      joined = more_behind octets f.tag (0x80 ∷ []) f.rest more f.joined;
      count_is = f.count_is;
    })

-- a fault stays if more octets follow
pub wrong_stays : (octets more : List ℕ) (reason : Reason) (offset : ℕ) → IsOpeningFault octets reason offset → IsOpeningFault (octets ++ more) reason offset
wrong_stays octets more reasons.TagForm offset h = (long_tag_stays octets more h.0, h.1)
wrong_stays octets more reasons.LengthForm offset h = (h.0, h.1, length_octet_stays h.0 octets more offset h.2)
wrong_stays octets more reasons.Indefinite offset h = (length_octet_stays 0x80 octets more offset h.0, h.1)
wrong_stays octets more reasons.TooLong offset h = (long_length_stays octets more h.0, h.1)
wrong_stays octets more _ offset h = absurd h

-- a fault that was returned stays if more octets follow
pub fault_stays : (place : ℕ) (octets more : List ℕ) (f : Fault) → opening_at (from place octets) ≡ Err f → opening_at (from place (octets ++ more)) ≡ Err f
fault_stays place octets more f e =
    let w = opening_fault place octets f e in
    opening_refused place w.0 (octets ++ more) f.reason (wrong_stays octets more f.reason w.0 w.2)
    ∙ ap (λ (p : ℕ). Err (fault f.reason p)) (sym w.1)

-- ---- places

-- the length of a long tag does not depend on its place
pub tag_rest_moves : (place other left len : ℕ) (octets : List ℕ) (found : Option ℕ) → tag_rest place left len octets ≡ Ok found → tag_rest other left len octets ≡ Ok found
tag_rest_moves place other zero len octets found e = absurd cc
tag_rest_moves place other (suc left) len [] found e = e
tag_rest_moves place other (suc left) len (octet ∷ octets) found e =
    elim (chosen (nat_lt octet 128) (Ok (Some (len + 1))) (tag_rest place left (len + 1) octets) (Ok found) e) [
      | inl h ↦ rw h.0 h.1
      | inr h ↦ rw h.0 (tag_rest_moves place other left (len + 1) octets found h.1)
    ]

-- a tag's length does not depend on its place
pub tag_moves : (place other : ℕ) (octets : List ℕ) (found : Option ℕ) → tag_in place octets ≡ Ok found → tag_in other octets ≡ Ok found
tag_moves place other [] found e = e
tag_moves place other (first ∷ more) found e =
    elim (chosen (first % 32 == 31) (tag_rest place 4 1 more) (Ok (Some 1)) (Ok found) e) [
      | inl h ↦ rw h.0 (tag_rest_moves place other 4 1 more found h.1)
      | inr h ↦ rw h.0 h.1
    ]

-- a length does not depend on its place
pub length_moves : (place other : ℕ) (octets : List ℕ) (found : Option (ℕ × ℕ)) → length_in place octets ≡ Ok found → length_in other octets ≡ Ok found
length_moves place other [] found e = e
length_moves place other (first ∷ more) found e =
    elim (chosen (nat_lt first 128) _ _ (Ok found) e) [
      | inl h ↦ rw h.0 h.1
      | inr h ↦ elim (chosen (first == 128) _ _ (Ok found) h.1) [
        | inl k ↦ absurd cc
        | inr k ↦ elim (chosen (nat_lt 132 first) _ _ (Ok found) k.1) [
          | inl l ↦ absurd cc
          | inr l ↦ rw (h.0, k.0, l.0) l.1
        ]
      ]
    ]

pub header_of_moves : (place other tag : ℕ) (x : Option (ℕ × ℕ)) (found : Option Header) → header_of place tag x ≡ Ok found → header_of other tag x ≡ Ok found
header_of_moves place other tag None found e = e
header_of_moves place other tag (Some x) found e =
    elim (chosen (nat_lt content_limit x.1) _ _ (Ok found) e) [
      | inl h ↦ absurd cc
      | inr h ↦ rw h.0 h.1
    ]

-- a header of definite length does not depend on its place
pub definite_moves : (place other n : ℕ) (octets : List ℕ) (found : Option Header) → definite_behind (from place octets) n ≡ Ok found → definite_behind (from other octets) n ≡ Ok found
unfolding length_at
definite_moves place other n octets found e =
    let a = bind_ok (length_in (place + n) (drop n octets)) (header_of place n) found e in
    rw (length_moves (place + n) (other + n) (drop n octets) a.0 a.1) (header_of_moves place other n a.0 found a.2)

-- the opening after a tag does not depend on its place
pub behind_moves : (place other : ℕ) (octets : List ℕ) (tag : Option ℕ) (found : Option Opening) → opening_behind (from place octets) tag ≡ Ok found → opening_behind (from other octets) tag ≡ Ok found
behind_moves place other octets None found e = e
behind_moves place other octets (Some n) found e =
    elim (chosen (is_next 0x80 (drop n octets)) _ _ (Ok found) e) [
      | inl h ↦ elim (chosen (is_constructed octets) _ _ (Ok found) h.1) [
        | inl k ↦ rw (h.0, k.0) k.1
        | inr k ↦ absurd cc
      ]
      | inr h ↦ let a = bind_ok (definite_behind (from place octets) n) found_definite found h.1 in
          rw (h.0, definite_moves place other n octets a.0 a.1) a.2
    ]

-- a header does not depend on its place
pub opening_moves : (place other : ℕ) (octets : List ℕ) (found : Option Opening) → opening_at (from place octets) ≡ Ok found → opening_at (from other octets) ≡ Ok found
unfolding opening_at tag_at
opening_moves place other octets found e =
    let a = bind_ok (tag_in place octets) (opening_behind (from place octets)) found e in
    rw (tag_moves place other octets a.0 a.1) (behind_moves place other octets a.0 found a.2)

-- ---- lengths of headers

-- a header has at least two octets, which are among those given
pub opening_within : (place : ℕ) (octets : List ℕ) (opening : Opening) → opening_at (from place octets) ≡ Ok (Some opening) → (2 ≤ header_octets opening) × (header_octets opening ≤ length octets)
opening_within place octets (Definite h) e =
    let f = definite_sound place octets h e in
    let t = tag_length f.tag f.is_tag in
    let l = length_some h.content_len f.length_octets f.is_length in
    let total : length octets ≡ length f.tag + (length f.length_octets + length f.rest) = omega (arith, ap length f.joined, length-append f.tag (f.length_octets ++ f.rest), length-append f.length_octets f.rest) in
    (omega (arith, f.len, t.0, l), omega (arith, f.len, total))
opening_within place octets (Indefinite tag) e =
    let f = indefinite_sound place octets tag e in
    let t = tag_length f.tag f.is_tag in
    (omega (arith, f.count_is, t.0), omega (arith, f.count_is, ap length f.joined, length-append f.tag (0x80 ∷ f.rest)))

-- an incomplete long tag has fewer octets than it may have
pub tag_rest_cut : (place left len : ℕ) (octets : List ℕ) → tag_rest place left len octets ≡ Ok None → length octets < left
tag_rest_cut place zero len octets e = absurd cc
tag_rest_cut place (suc left) len [] e = omega arith
tag_rest_cut place (suc left) len (octet ∷ octets) e =
    elim (chosen (nat_lt octet 128) (Ok (Some (len + 1))) (tag_rest place left (len + 1) octets) (Ok None) e) [
      | inl h ↦ absurd cc
      | inr h ↦ omega (arith, tag_rest_cut place left (len + 1) octets h.1)
    ]

-- an incomplete tag has at most four octets
pub tag_cut : (place : ℕ) (octets : List ℕ) → tag_in place octets ≡ Ok None → length octets ≤ 4
tag_cut place [] e = omega arith
tag_cut place (first ∷ more) e =
    elim (chosen (first % 32 == 31) (tag_rest place 4 1 more) (Ok (Some 1)) (Ok None) e) [
      | inl h ↦ omega (arith, tag_rest_cut place 4 1 more h.1)
      | inr h ↦ absurd cc
    ]

-- an incomplete length has at most four octets
pub length_cut : (place : ℕ) (octets : List ℕ) → length_in place octets ≡ Ok None → length octets ≤ 4
length_cut place [] e = omega arith
length_cut place (first ∷ more) e =
    elim (chosen (nat_lt first 128) _ _ (Ok None) e) [
      | inl h ↦ absurd cc
      | inr h ↦ elim (chosen (first == 128) _ _ (Ok None) h.1) [
        | inl k ↦ absurd cc
        | inr k ↦ elim (chosen (nat_lt 132 first) _ _ (Ok None) k.1) [
          | inl l ↦ absurd cc
          | inr l ↦ elim (chosen (nat_lt (length more) (first - 128)) _ _ (Ok None) l.1) [
            | inl m ↦ omega (arith, ltb-true (length more) (first - 128) m.0, ltb-false 132 first l.0)
            | inr m ↦ absurd cc
          ]
        ]
      ]
    ]

-- a header whose length was read is whole
pub header_of_cut : (place tag : ℕ) (x : Option (ℕ × ℕ)) → header_of place tag x ≡ Ok None → x ≡ None
header_of_cut place tag None e = refl
header_of_cut place tag (Some x) e =
    elim (chosen (nat_lt content_limit x.1) _ _ (Ok None) e) [
      | inl h ↦ absurd cc
      | inr h ↦ absurd cc
    ]

pub definite_none : (x : Option Header) → found_definite x ≡ Ok None → x ≡ None
definite_none None e = refl
definite_none (Some h) e = absurd cc

-- after its tag, an incomplete header has at most four octets
pub behind_cut : (place n : ℕ) (octets : List ℕ) → opening_behind (from place octets) (Some n) ≡ Ok None → length (drop n octets) ≤ 4
unfolding length_at
behind_cut place n octets e =
    elim (chosen (is_next 0x80 (drop n octets)) _ _ (Ok None) e) [
      | inl h ↦ elim (chosen (is_constructed octets) _ _ (Ok None) h.1) [
        | inl k ↦ absurd cc
        | inr k ↦ absurd cc
      ]
      | inr h ↦
          let a = bind_ok (definite_behind (from place octets) n) found_definite None h.1 in
          let b = bind_ok (length_in (place + n) (drop n octets)) (header_of place n) a.0 a.1 in
          let cut : b.0 ≡ None = header_of_cut place n b.0 (b.2 ∙ ap (λ (x : Option Header). Ok x) (definite_none a.0 a.2)) in
          length_cut (place + n) (drop n octets) (b.1 ∙ ap (λ (x : Option (ℕ × ℕ)). Ok x) cut)
    ]

-- an incomplete header has at most nine octets
pub unfinished_within : (place : ℕ) (octets : List ℕ) → opening_at (from place octets) ≡ Ok None → length octets ≤ 9
unfolding opening_at tag_at
unfinished_within place octets e =
    let a = bind_ok (tag_in place octets) (opening_behind (from place octets)) None e in
    of_tag a.0 a.1 a.2
  where
    of_tag : (tag : Option ℕ) → tag_in place octets ≡ Ok tag → opening_behind (from place octets) tag ≡ Ok None → length octets ≤ 9
    of_tag None t b = omega (arith, tag_cut place octets t)
    of_tag (Some n) t b =
        let f = tag_sound place octets n t in
        let cut : length f.rest ≤ 4 = omega (arith, behind_cut place n octets b, ap length (behind_found octets n f)) in
        omega (arith, cut, (tag_length f.tag f.is_tag).1, ap length f.joined, length-append f.tag f.rest)

-- the first of two parts begins with octets that fit into it
pub begins : (a b c d : List ℕ) → a ++ b ≡ c ++ d → length a ≤ length c → c ≡ a ++ drop (length a) c
begins a b c d e room =
    let front : a ≡ take (length a) c = sym (take_at a b (length a) refl) ∙ ap (take (length a)) e ∙ take-append-le (length a) c d room in
    sym (take-append-drop (length a) c) ∙ ap (λ (x : List ℕ). x ++ drop (length a) c) (sym front)

-- a header within the first octets is found without those after
pub opening_shrinks : (place : ℕ) (octets more : List ℕ) (opening : Opening) → opening_at (from place (octets ++ more)) ≡ Ok (Some opening) → header_octets opening ≤ length octets
    → opening_at (from place octets) ≡ Ok (Some opening)
opening_shrinks place octets more (Definite h) e room =
    let f = definite_sound place (octets ++ more) h e in
    let front = f.tag ++ f.length_octets in
    let split : octets ≡ front ++ drop (length front) octets =
    begins front f.rest octets more (append_assoc f.tag f.length_octets f.rest ∙ sym f.joined) (omega (arith, length-append f.tag f.length_octets, f.len, room)) in
    definite_found place octets h (record {
      tag = f.tag;
      length_octets = f.length_octets;
      rest = drop (length front) octets;
      is_tag = f.is_tag;
      is_length = f.is_length;
      within = f.within;
      joined = split ∙ append_assoc f.tag f.length_octets (drop (length front) octets);
      tag_len = f.tag_len;
      len = f.len;
    })
opening_shrinks place octets more (Indefinite tag) e room =
    let f = indefinite_sound place (octets ++ more) tag e in
    let front = f.tag ++ 0x80 ∷ [] in
    let split : octets ≡ front ++ drop (length front) octets =
    begins front f.rest octets more (append_assoc f.tag (0x80 ∷ []) f.rest ∙ sym f.joined) (omega (arith, length-append f.tag (0x80 ∷ []), f.count_is, room)) in
    indefinite_found place octets tag (record {
      tag = f.tag;
      rest = drop (length front) octets;
      is_tag = f.is_tag;
      is_constructed = f.is_constructed;
      joined = split ∙ append_assoc f.tag (0x80 ∷ []) (drop (length front) octets);
      count_is = f.count_is;
    })

-- a header ends with the octet that completes it
pub opening_exact : (place octet : ℕ) (octets : List ℕ) (opening : Opening) → opening_at (from place octets) ≡ Ok None → opening_at (from place (octets ++ octet ∷ [])) ≡ Ok (Some opening)
    → header_octets opening ≡ length octets + 1
opening_exact place octet octets opening none some =
    let within = (opening_within place (octets ++ octet ∷ []) opening some).1 in
    let above : length octets < header_octets opening = elim (chosen (nat_lt (length octets) (header_octets opening)) true false _ refl) [
      | inl h ↦ ltb-true (length octets) (header_octets opening) h.0
      | inr h ↦ absurd (none_not_some opening (sym none ∙ opening_shrinks place octets (octet ∷ []) opening some (ltb-false (length octets) (header_octets opening) h.0)))
    ] in
    omega (arith, within, above, length-append octets (octet ∷ []))
  where
    none_not_some : (x : Opening) → (let a : Result (Option Opening) Fault = Ok None in a) ≡ Ok (Some x) → ⊥
    none_not_some x e = absurd cc
