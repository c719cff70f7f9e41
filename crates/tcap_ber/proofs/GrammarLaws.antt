-- Readers of parts, contents and bodies are exact, in the sense of `specs/Reads.antt`: one law for each combinator of
-- the grammar.
use Rattle.std.proofs.Common.{◌≡◌, ◌≢◌, ℕ, ◌+◌, ◌<◌, ◌⊎◌, true, false, List, [], ◌∷◌, ◌++◌, length, Option, Some, None, Result, Ok, Err, refl, sym, ap, subst, ◌∙◌, inl, inr, arith}
use Rattle.std.specs.Prelude.{◌==◌, if◌then◌else◌}
use Rattle.std.proofs.lemmas.Bool.{eqb-true, eqb-false, eq-eqb, ne_eqb}
use Rattle.std.proofs.lemmas.List.{length-append, nil_from_length}
use Rattle.tcap_ber.specs.declared.fault.Fault.{Fault}
use Rattle.tcap_ber.specs.declared.fault.Reason.TheVariants.{Missing, UnexpectedTag, Trailing}
use Rattle.tcap_ber.specs.Element.{IsElement, content_start}
use Rattle.tcap_ber.specs.Grammar.{Body, Field, Content, IsElementFault, IsMissing, IsUnexpected, IsFaultyInside, BeginsWith, SpellsOptional, SpellsParameter, required, optional, parameter, ended, ◌⨾▹◌, ◌⨾◌, structure, made, single, absent, after}
use Rattle.tcap_ber.specs.FrontElement.{FindsElement, Taken}
use Rattle.tcap_ber.specs.ExactReader.{ReadsField, ReadsBody, ReadsContent}
use Rattle.tcap_ber.specs.Span.{Span}
use Rattle.tcap_ber.specs.Reading.{◌>>=◌, fault, Element, next_at, is_tag, is_next, wanted, required_at, raw_of, raw_at, with_body, with_some, optional_at, parameter_at, end_at, single_at, absent_at}
use Rattle.tcap_ber.proofs.Steps.{chosen, bind_ok, bind_err, ok_is, err_is}
use Rattle.tcap_ber.proofs.ElementLaws.{element_form, element_len_at_least, next_sound, next_complete, next_fault}
use Rattle.tcap_ber.proofs.FaultLaws.{refused_by, element_fault_some, raw_refused, required_refused}
use Rattle.tcap_ber.proofs.RawLaws.{raw_sound, raw_complete}

-- the window of a front and the rest after it
abbrev pub joint : ℕ → List ℕ → List ℕ → Span
joint place front rest = record { octets = front ++ rest; place = place }

-- a window after a front is given by its octets and its place
pub is_after : (place : ℕ) (front : List ℕ) (s : Span) → s.place ≡ place + length front → s ≡ after place front s.octets
is_after place front s e = ap (λ (p : ℕ). let w : Span = record { octets = s.octets; place = p } in w) e

-- ---- elements with a tag

-- `is_tag` decides whether the octet is the whole tag
pub is_tag-true : (tag : ℕ) (octets : List ℕ) → is_tag tag octets ≡ true → octets ≡ tag ∷ []
is_tag-true tag [] e = absurd cc
is_tag-true tag (first ∷ []) e = ap (λ (x : ℕ). x ∷ []) (eqb-true first tag e)
is_tag-true tag (first ∷ second ∷ more) e = absurd cc

pub is_tag-itself : (tag : ℕ) → is_tag tag (tag ∷ []) ≡ true
is_tag-itself tag = eq-eqb tag tag refl

pub is_tag-false : (tag : ℕ) (octets : List ℕ) → is_tag tag octets ≡ false → octets ≢ tag ∷ []
is_tag-false tag octets e same = let k : true ≡ false = sym (is_tag-itself tag) ∙ sym (ap (is_tag tag) same) ∙ e in cc

-- a required element that was read has the tag
pub required_sound : (tag : ℕ) (s : Span) (x : Element × Span) → required_at tag s ≡ Ok x → FindsElement s x.0 x.1 × (x.0.tag ≡ tag ∷ [])
unfolding required_at
required_sound tag s x e =
    elim (chosen (length s.octets == 0) _ _ (Ok x) e) [
      | inl h ↦ absurd cc
      | inr h ↦ let a = bind_ok (next_at s) (wanted tag s) x h.1 in
          elim (chosen (is_tag tag a.0.0.tag) _ _ (Ok x) a.2) [
            | inl k ↦ subst (λ (y : Element × Span). FindsElement s y.0 y.1 × (y.0.tag ≡ tag ∷ [])) (ok_is a.0 x k.1)
                (next_sound s a.0 a.1, is_tag-true tag a.0.0.tag k.0)
            | inr k ↦ absurd cc
          ]
    ]

-- the element with this tag and content in these octets
abbrev pub element_in : ℕ → ℕ → List ℕ → List ℕ → Element
element_in place tag content octets = record { tag = tag ∷ []; content = record { octets = content; place = place + content_start (tag ∷ []) content octets }; place = place }

-- a required element of the tag is read
pub required_complete : (place tag : ℕ) (content octets rest : List ℕ) → IsElement (tag ∷ []) content octets
    → required_at tag (joint place octets rest) ≡ Ok (element_in place tag content octets, after place octets rest)
unfolding required_at
required_complete place tag content octets rest e =
    let some : length (octets ++ rest) ≡ 0 → ⊥ = λ (z : length (octets ++ rest) ≡ 0). omega (arith, z, length-append octets rest, element_len_at_least (tag ∷ []) content octets e) in
    rw (ne_eqb (length (octets ++ rest)) 0 some, next_complete place (tag ∷ []) content octets rest e, is_tag-itself tag) refl

some_left : (n : ℕ) → (n ≡ 0 → ⊥) → 0 < n
some_left n h = omega (arith, h)

pub not_none : (n : ℕ) → 0 < n → n ≡ 0 → ⊥
not_none n some none = omega (arith, some, none)

-- the faults of reading a required element, apart from its content
pub required_fault : (tag : ℕ) (s : Span) (f : Fault) → required_at tag s ≡ Err f
    → IsMissing s f.reason f.place ⊎ IsElementFault s f.reason f.place ⊎ IsUnexpected tag s f.reason f.place
unfolding required_at
required_fault tag s f e =
    elim (chosen (length s.octets == 0) _ _ (Err f) e) [
      | inl h ↦ inl (missing (nil_from_length s.octets (eqb-true (length s.octets) 0 h.0)) (err_is {A = Element × Span} (fault Missing s.place) f h.1))
      | inr h ↦ elim (bind_err (next_at s) (wanted tag s) f h.1) [
        | inl k ↦ inr (inl (next_fault s f (some_left (length s.octets) (eqb-false (length s.octets) 0 h.0)) k))
        | inr a ↦ elim (chosen (is_tag tag a.0.0.tag) _ _ (Err f) a.2) [
          | inl k ↦ absurd cc
          | inr k ↦ inr (inr (unexpected a.0 (next_sound s a.0 a.1) (is_tag-false tag a.0.0.tag k.0) (err_is {A = Element × Span} (fault UnexpectedTag s.place) f k.1)))
        ]
      ]
    ]
  where
    missing : s.octets ≡ [] → fault Missing s.place ≡ f → IsMissing s f.reason f.place
    missing ends k = subst (λ (x : Fault). IsMissing s x.reason x.place) k (record { ends = ends; reason_is = refl; place_is = refl })

    unexpected : (x : Element × Span) → FindsElement s x.0 x.1 → x.0.tag ≢ tag ∷ [] → fault UnexpectedTag s.place ≡ f → IsUnexpected tag s f.reason f.place
    unexpected x found other k = subst (λ (x : Fault). IsUnexpected tag s x.reason x.place) k (record {
      other = x.0.tag;
      content = x.0.content.octets;
      octets = found.octets;
      rest = x.1.octets;
      is_element = found.is_element;
      is_other = other;
      joined = found.joined;
      reason_is = refl;
      place_is = refl;
    })

pub reads_required : {V : Type 0} (tag : ℕ) (body : Body V) (read : Element → Result V Fault) → ReadsBody body read
    → ReadsField (required tag body) (λ s. required_at tag s >>= with_body read)
reads_required {V} tag body read reads = record {
  sound = λ s v rest e.
      let a = bind_ok (required_at tag s) (with_body read) (v, rest) e in
      let b = bind_ok (read a.0.0) (λ v. Ok (v, a.0.1)) (v, rest) a.2 in
      let found = required_sound tag s a.0 a.1 in
      subst (λ (y : V × Span). Taken (required tag body) s y.0 y.1) (ok_is (b.0, a.0.1) (v, rest) b.2)
      (taken s a.0.0 a.0.1 b.0 found.0 found.1 (reads.sound a.0.0 b.0 b.1));
  complete = λ place v front rest h. rw (required_complete place tag h.content front rest h.is_element, reads.complete (element_in place tag h.content front) v h.inside) refl;
  refuses = λ s f e.
      elim (bind_err (required_at tag s) (with_body read) f e) [
        | inl h ↦ elim (required_fault tag s f h) [
          | inl m ↦ inl m
          | inr m ↦ elim m [
            | inl w ↦ inr (inl w)
            | inr u ↦ inr (inr (inl u))
          ]
        ]
        | inr a ↦ elim (bind_err (read a.0.0) (λ v. Ok (v, a.0.1)) f a.2) [
          | inl h ↦ let found = required_sound tag s a.0 a.1 in inr (inr (inr (inside s f a.0.0 a.0.1 found.0 found.1 (reads.refuses a.0.0 f h))))
          | inr b ↦ absurd cc
        ]
      ];
  stops = stops;
}
  where
    taken : (s : Span) (e : Element) (r : Span) (v : V) → FindsElement s e r → e.tag ≡ tag ∷ [] → body.spells v e.content.octets → Taken (required tag body) s v r
    taken s e r v found same spelled = record {
      front = found.octets;
      joined = found.joined;
      place = found.behind_place;
      is_part = record { content = e.content.octets; is_element = subst (λ (t : List ℕ). IsElement t e.content.octets found.octets) same found.is_element; inside = spelled };
    }

    inside : (s : Span) (f : Fault) (e : Element) (r : Span) → FindsElement s e r → e.tag ≡ tag ∷ [] → body.faulty e.place e.content f.reason f.place → IsFaultyInside tag body.faulty s f.reason f.place
    inside s f e r found same wrong = record {
      content = e.content.octets;
      octets = found.octets;
      rest = r.octets;
      is_element = subst (λ (t : List ℕ). IsElement t e.content.octets found.octets) same found.is_element;
      joined = found.joined;
      inside = subst (λ (p : ℕ). body.faulty s.place (record { octets = e.content.octets; place = p }) f.reason f.place)
          (found.content_place ∙ ap (λ (t : List ℕ). s.place + content_start t e.content.octets found.octets) same)
          (subst (λ (p : ℕ). body.faulty p e.content f.reason f.place) found.place wrong);
    }

    stops : (s : Span) (f : Fault) → (required tag body).faulty s f.reason f.place → (required_at tag s >>= with_body read) ≡ Err f
    stops s f (inl m) = rw (required_refused tag s f (inl m)) refl
    stops s f (inr (inl w)) = rw (required_refused tag s f (inr (inl w))) refl
    stops s f (inr (inr (inl u))) = rw (required_refused tag s f (inr (inr u))) refl
    stops s f (inr (inr (inr h))) =
        let there = ap (λ (x : List ℕ). required_at tag (record { octets = x; place = s.place })) h.joined ∙ required_complete s.place tag h.content h.octets h.rest h.is_element in
        rw (there, reads.stops (element_in s.place tag h.content h.octets) f h.inside) refl

-- `is_next` decides `BeginsWith`
pub is_next-true : (tag : ℕ) (octets : List ℕ) → is_next tag octets ≡ true → BeginsWith tag octets
is_next-true tag [] e = absurd cc
is_next-true tag (first ∷ more) e = eqb-true first tag e

pub is_next-begins : (tag : ℕ) (octets : List ℕ) → BeginsWith tag octets → is_next tag octets ≡ true
is_next-begins tag [] b = absurd b
is_next-begins tag (first ∷ more) b = eq-eqb first tag b

is_next-none : (tag : ℕ) (octets : List ℕ) → (BeginsWith tag octets → ⊥) → is_next tag octets ≡ false
is_next-none tag [] b = refl
is_next-none tag (first ∷ more) b = ne_eqb first tag b

is_next-false : (tag : ℕ) (octets : List ℕ) → is_next tag octets ≡ false → BeginsWith tag octets → ⊥
is_next-false tag octets e b = let k : true ≡ false = sym (is_next-begins tag octets b) ∙ e in cc

-- an element of the tag begins with it
is_next-element : (tag : ℕ) (content octets rest : List ℕ) → IsElement (tag ∷ []) content octets → is_next tag (octets ++ rest) ≡ true
is_next-element tag content octets rest e =
    elim (element_form (tag ∷ []) content octets e) [
      | inl d ↦ ap (λ (x : List ℕ). is_next tag (x ++ rest)) d.joined ∙ eq-eqb tag tag refl
      | inr i ↦ ap (λ (x : List ℕ). is_next tag (x ++ rest)) i.1.joined ∙ eq-eqb tag tag refl
    ]

nothing_before : (s : Span) → s ≡ after s.place [] s.octets
nothing_before s = is_after s.place [] s (omega arith)

-- the value of a required element
abbrev value_at : {V : Type 0} → ℕ → (Element → Result V Fault) → Span → Result (V × Span) Fault
value_at tag read s = required_at tag s >>= with_body read

pub reads_optional : {V : Type 0} (tag : ℕ) (body : Body V) (read : Element → Result V Fault) → ReadsBody body read
    → ReadsField (optional tag body) (optional_at tag read)
reads_optional {V} tag body read reads = record {
  sound = λ s v rest e.
      elim (chosen (is_next tag s.octets) _ _ (Ok (v, rest)) e) [
        | inl h ↦ let a = bind_ok (value_at tag read s) with_some (v, rest) h.1 in
            subst (λ (y : Option V × Span). Taken (optional tag body) s y.0 y.1) (ok_is (Some a.0.0, a.0.1) (v, rest) a.2) (some s a.0.0 a.0.1 (one.sound s a.0.0 a.0.1 a.1))
        | inr h ↦ subst (λ (y : Option V × Span). Taken (optional tag body) s y.0 y.1) (ok_is (None, s) (v, rest) h.1)
            (record { front = []; joined = refl; place = omega arith; is_part = (refl, is_next-false tag s.octets h.0) })
      ];
  complete = complete;
  refuses = λ s f e.
      elim (chosen (is_next tag s.octets) _ _ (Err f) e) [
        | inl h ↦ elim (bind_err (value_at tag read s) with_some f h.1) [
          | inl k ↦ (is_next-true tag s.octets h.0, one.refuses s f k)
          | inr a ↦ absurd cc
        ]
        | inr h ↦ absurd cc
      ];
  stops = λ s f wrong. rw (is_next-begins tag s.octets wrong.0, one.stops s f wrong.1) refl;
}
  where
    one : ReadsField (required tag body) (value_at tag read)
    one = reads_required tag body read reads

    some : (s : Span) (v : V) (rest : Span) → Taken (required tag body) s v rest → Taken (optional tag body) s (Some v) rest
    some s v rest t = record { front = t.front; joined = t.joined; place = t.place; is_part = t.is_part }

    complete : (place : ℕ) (v : Option V) (front rest : List ℕ) → SpellsOptional tag body v front rest
        → (if is_next tag (front ++ rest) then value_at tag read (joint place front rest) >>= with_some else Ok (None, joint place front rest)) ≡ Ok (v, after place front rest)
    complete place (Some v) front rest h = rw (is_next-element tag h.content front rest h.is_element, one.complete place v front rest h) refl
    complete place None [] rest h = rw (is_next-none tag rest h.1) (ap (λ (s : Span). Ok (None, s)) (nothing_before (record { octets = rest; place = place })))
    complete place None (first ∷ more) rest h = absurd cc

-- the faults of reading an element verbatim
pub raw_fault : (s : Span) (f : Fault) → 0 < length s.octets → raw_at s ≡ Err f → IsElementFault s f.reason f.place
unfolding raw_at
raw_fault s f some e =
    elim (bind_err (next_at s) (raw_of s) f e) [
      | inl h ↦ next_fault s f some h
      | inr a ↦ absurd cc
    ]

pub reads_parameter : ReadsField parameter parameter_at
unfolding parameter_at
reads_parameter = record {
  sound = λ s v rest e.
      elim (chosen (length s.octets == 0) _ _ (Ok (v, rest)) e) [
        | inl h ↦ subst (λ (y : Option (List ℕ) × Span). Taken parameter s y.0 y.1) (ok_is (None, s) (v, rest) h.1)
            (record { front = []; joined = refl; place = omega arith; is_part = (refl, nil_from_length s.octets (eqb-true (length s.octets) 0 h.0)) })
        | inr h ↦ let a = bind_ok (raw_at s) with_some (v, rest) h.1 in
            let r = raw_sound s a.0 a.1 in
            subst (λ (y : Option (List ℕ) × Span). Taken parameter s y.0 y.1) (ok_is (Some a.0.0, a.0.1) (v, rest) a.2)
            (record { front = a.0.0; joined = r.1; place = r.2; is_part = (r.0, refl) })
      ];
  complete = complete;
  refuses = λ s f e.
      elim (chosen (length s.octets == 0) _ _ (Err f) e) [
        | inl h ↦ absurd cc
        | inr h ↦ elim (bind_err (raw_at s) with_some f h.1) [
          | inl k ↦ raw_fault s f (some_left (length s.octets) (eqb-false (length s.octets) 0 h.0)) k
          | inr a ↦ absurd cc
        ]
      ];
  stops = λ s f wrong. rw (ne_eqb (length s.octets) 0 (not_none (length s.octets) (element_fault_some s f.reason f.place wrong)), raw_refused s f wrong) refl;
}
  where
    complete : (place : ℕ) (v : Option (List ℕ)) (front rest : List ℕ) → SpellsParameter v front rest
        → (if length (front ++ rest) == 0 then Ok (None, joint place front rest) else raw_at (joint place front rest) >>= with_some) ≡ Ok (v, after place front rest)
    complete place (Some raw) front rest h =
        let some : length (raw ++ rest) ≡ 0 → ⊥ = λ (z : length (raw ++ rest) ≡ 0). omega (arith, z, length-append raw rest, element_len_at_least h.0.0 h.0.1 raw h.0.2) in
        rw (h.1, ne_eqb (length (raw ++ rest)) 0 some, raw_complete place raw rest h.0) refl
    complete place None [] rest h = rw (eq-eqb (length rest) 0 (ap length h.1)) (ap (λ (s : Span). Ok (None, s)) (nothing_before (record { octets = rest; place = place })))
    complete place None (first ∷ more) rest h = absurd cc

pub reads_ended : {W : Type 0} (w : W) → ReadsContent ended (λ _. w) (end_at w)
reads_ended {W} w = record {
  sound = λ s x e.
      elim (chosen (length s.octets == 0) _ _ (Ok x) e) [
        | inl h ↦ (tt, sym (ok_is w x h.1), nil_from_length s.octets (eqb-true (length s.octets) 0 h.0))
        | inr h ↦ absurd cc
      ];
  complete = λ s v ends. rw (eq-eqb (length s.octets) 0 (ap length ends)) refl;
  refuses = λ s f e.
      elim (chosen (length s.octets == 0) _ _ (Err f) e) [
        | inl h ↦ absurd cc
        | inr h ↦ let k = err_is {A = W} (fault Trailing s.place) f h.1 in
            let some = eqb-false (length s.octets) 0 h.0 in
            (omega (arith, some), sym (ap (λ (x : Fault). x.reason) k), sym (ap (λ (x : Fault). x.place) k))
      ];
  stops = λ s f wrong. rw (ne_eqb (length s.octets) 0 (not_none (length s.octets) wrong.0)) (refused_by f Trailing s.place wrong.1 wrong.2);
}

pub reads_then_by : {V W U : Type 0} (first : Field V) (others : V → Content W) (make : V × W → U) (read : Span → Result (V × Span) Fault) (go_on : V → Span → Result U Fault)
    → ReadsField first read → ((v : V) → ReadsContent (others v) (λ w. make (v, w)) (go_on v))
    → ReadsContent (first ⨾▹ others) make (λ s. read s >>= λ x. go_on x.0 x.1)
reads_then_by first others make read go_on one all = record {
  sound = λ s u e.
      let a = bind_ok (read s) (λ x. go_on x.0 x.1) u e in
      let t = one.sound s a.0.0 a.0.1 a.1 in
      let o = (all a.0.0).sound a.0.1 u a.2 in
      ((a.0.0, o.0), o.1, record { front = t.front; rest = a.0.1.octets; joined = t.joined; is_first = t.is_part; are_others = o.2 });
  complete = λ s x h.
      let here = ap (λ (y : List ℕ). read (record { octets = y; place = s.place })) h.joined ∙ one.complete s.place x.0 h.front h.rest h.is_first in
      ap (λ r. r >>= λ x. go_on x.0 x.1) here ∙ (all x.0).complete (after s.place h.front h.rest) x.1 h.are_others;
  refuses = λ s f e.
      elim (bind_err (read s) (λ x. go_on x.0 x.1) f e) [
        | inl h ↦ inl (one.refuses s f h)
        | inr a ↦ let t = one.sound s a.0.0 a.0.1 a.1 in
            inr (record {
              value = a.0.0;
              front = t.front;
              rest = a.0.1.octets;
              joined = t.joined;
              is_first = t.is_part;
              behind = subst (λ (r : Span). (others a.0.0).faulty r f.reason f.place) (is_after s.place t.front a.0.1 t.place) ((all a.0.0).refuses a.0.1 f a.2);
            })
      ];
  stops = λ s f wrong.
      elim wrong [
        | inl h ↦ ap (λ r. r >>= λ x. go_on x.0 x.1) (one.stops s f h)
        | inr h ↦
            let here = ap (λ (y : List ℕ). read (record { octets = y; place = s.place })) h.joined ∙ one.complete s.place h.value h.front h.rest h.is_first in
            ap (λ r. r >>= λ x. go_on x.0 x.1) here ∙ (all h.value).stops (after s.place h.front h.rest) f h.behind
      ];
}

pub reads_then : {V W U : Type 0} (first : Field V) (others : Content W) (make : V × W → U) (read : Span → Result (V × Span) Fault) (go_on : V → Span → Result U Fault)
    → ReadsField first read → ((v : V) → ReadsContent others (λ w. make (v, w)) (go_on v))
    → ReadsContent (first ⨾ others) make (λ s. read s >>= λ x. go_on x.0 x.1)
reads_then first others make read go_on one all = reads_then_by first (λ _. others) make read go_on one all

pub reads_structure : {V W : Type 0} (content : Content V) (make : V → W) (read : Span → Result W Fault) → ReadsContent content make read
    → ReadsBody (made make (structure content)) (λ e. read e.content)
reads_structure content make read reads = record {
  sound = λ e w h. reads.sound e.content w h;
  complete = λ e w h. reads.complete e.content h.0 h.2 ∙ ap (λ x. Ok x) (sym h.1);
  refuses = λ e f h. reads.refuses e.content f h;
  stops = λ e f h. reads.stops e.content f h;
}

pub reads_single : {V : Type 0} (part : Field V) (read : Span → Result (V × Span) Fault) → ReadsField part read → ReadsBody (single part) (λ e. single_at read e.content)
reads_single part read one =
    reads_structure (part ⨾ ended) (λ parts. parts.0) (single_at read)
    (reads_then part ended (λ parts. parts.0) read (λ v s. end_at v s) one (λ v. reads_ended v))

pub reads_absent : (V : Type 0) → ReadsField (absent {V = V}) absent_at
reads_absent V = record {
  sound = λ s v rest e.
      let none : Option V × Span = (None, s) in
      subst (λ (y : Option V × Span). Taken absent s y.0 y.1) (ok_is none (v, rest) e) (record { front = []; joined = refl; place = omega arith; is_part = (refl, refl) });
  complete = λ place v front rest h.
      let same : place ≡ place + 0 = omega arith in
      let read : Result (Option V × Span) Fault = absent_at (record { octets = rest; place = place }) in
      let gone : read ≡ Ok (None, record { octets = rest; place = place + 0 }) = ap (λ (p : ℕ). Ok (None, record { octets = rest; place = p })) same in
      rw (h.0, h.1) gone;
  refuses = λ s f e. absurd cc;
  stops = λ s f h. absurd h;
}
