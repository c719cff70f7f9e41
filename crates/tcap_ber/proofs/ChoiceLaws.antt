-- Readers of a choice are exact, in the sense of `specs/Reads.antt`.
use Rattle.std.proofs.Common.{◌≡◌, ◌≢◌, ℕ, ◌+◌, ◌⊎◌, true, false, List, [], ◌∷◌, ◌++◌, length, Result, Ok, Err, refl, sym, ap, subst, ◌∙◌, inl, inr, arith}
use Rattle.std.specs.Prelude.{◌==◌, ◌↔◌, IsOk}
use Rattle.std.proofs.lemmas.Bool.{eq-eqb, eqb-true, eqb-false, ne_eqb, false_from_ne_true}
use Rattle.std.proofs.lemmas.List.{length-append, nil_from_length}
use Rattle.tcap_ber.specs.declared.fault.Fault.{Fault}
use Rattle.tcap_ber.specs.declared.fault.Reason.{Reason}
use Rattle.tcap_ber.specs.declared.fault.Reason.TheVariants.{Missing, BadSize}
use Rattle.tcap_ber.specs.Element.{IsElement, content_start}
use Rattle.tcap_ber.specs.Grammar.{Body, IsMissing, IsElementFault, after}
use Rattle.tcap_ber.specs.Choice.{Choice, ◌▹◌, ◌∣◌, others_are, IsFaultyChoice, one_of}
use Rattle.tcap_ber.specs.SmallInteger.{null}
use Rattle.tcap_ber.specs.FrontElement.{FindsElement, Taken}
use Rattle.tcap_ber.specs.ExactReader.{ReadsField, ReadsBody, ReadsChoice}
use Rattle.tcap_ber.specs.Span.{Span}
use Rattle.tcap_ber.specs.Reading.{Gives, fault, Element, is_tag, with_body, some_at, one_of_at, tagged_at, refused_at, null_at}
use Rattle.tcap_ber.proofs.Steps.{chosen, bind_ok, bind_err, ok_is, err_is, ok_not_err}
use Rattle.tcap_ber.proofs.ElementLaws.{element_len_at_least, next_sound, next_complete, next_fault, next_refused}
use Rattle.tcap_ber.proofs.FaultLaws.{refused_by, element_fault_some}
use Rattle.tcap_ber.proofs.GrammarLaws.{joint, is_tag-true, is_tag-false, is_tag-itself, not_none}

-- ---- the alternatives of a choice

is_tag-other : (tag : ℕ) (octets : List ℕ) → octets ≢ tag ∷ [] → is_tag tag octets ≡ false
is_tag-other tag octets other = false_from_ne_true (is_tag tag octets) (λ e. other (is_tag-true tag octets e))

is_tag-same : (tag : ℕ) (octets : List ℕ) → octets ≡ tag ∷ [] → is_tag tag octets ≡ true
is_tag-same tag octets e = ap (is_tag tag) e ∙ is_tag-itself tag

pub reads_tagged : {V : Type 0} (tag : ℕ) (body : Body V) (read : Element → Result V Fault) (others : Choice V) (read_others : Element → Result V Fault)
    → ReadsBody body read → ReadsChoice others read_others → ReadsChoice (tag ▹ body ∣ others) (tagged_at tag read read_others)
reads_tagged {V} tag body read others read_others one more = record {
  sound = λ e v h.
      elim (chosen (is_tag tag e.tag) _ _ (Ok v) h) [
        | inl k ↦ inl (is_tag-true tag e.tag k.0, one.sound e v k.1)
        | inr k ↦ inr (is_tag-false tag e.tag k.0, more.sound e v k.1)
      ];
  complete = complete;
  refuses = λ e f h.
      elim (chosen (is_tag tag e.tag) _ _ (Err f) h) [
        | inl k ↦ inl (is_tag-true tag e.tag k.0, one.refuses e f k.1)
        | inr k ↦ inr (is_tag-false tag e.tag k.0, more.refuses e f k.1)
      ];
  stops = stops;
}
  where
    complete : (e : Element) (v : V) → (tag ▹ body ∣ others).spells v e.tag e.content.octets → tagged_at tag read read_others e ≡ Ok v
    complete e v (inl h) = rw (is_tag-same tag e.tag h.0) (one.complete e v h.1)
    complete e v (inr h) = rw (is_tag-other tag e.tag h.0) (more.complete e v h.1)

    stops : (e : Element) (f : Fault) → (tag ▹ body ∣ others).faulty e.tag e.place e.content f.reason f.place → tagged_at tag read read_others e ≡ Err f
    stops e f (inl h) = rw (is_tag-same tag e.tag h.0) (one.stops e f h.1)
    stops e f (inr h) = rw (is_tag-other tag e.tag h.0) (more.stops e f h.1)

pub reads_others : {V : Type 0} (refusal : Reason) → ReadsChoice (others_are {V = V} refusal) (refused_at refusal)
reads_others {V} refusal = record {
  sound = λ e v h. absurd cc;
  complete = λ e v h. absurd h;
  refuses = λ e f h. let k = err_is {A = V} (fault refusal e.place) f h in (sym (ap (λ (x : Fault). x.reason) k), sym (ap (λ (x : Fault). x.place) k));
  stops = λ e f h. refused_by f refusal e.place h.0 h.1;
}

-- ---- an element of the choice

-- a required element of any tag
pub some_sound : (s : Span) (x : Element × Span) → some_at s ≡ Ok x → FindsElement s x.0 x.1
unfolding some_at
some_sound s x e =
    elim (chosen (length s.octets == 0) _ _ (Ok x) e) [
      | inl h ↦ absurd cc
      | inr h ↦ next_sound s x h.1
    ]

-- the element with this tag and content in these octets
abbrev pub any_element_in : ℕ → List ℕ → List ℕ → List ℕ → Element
any_element_in place tag content octets = record { tag = tag; content = record { octets = content; place = place + content_start tag content octets }; place = place }

pub some_complete : (place : ℕ) (tag content octets rest : List ℕ) → IsElement tag content octets
    → some_at (joint place octets rest) ≡ Ok (any_element_in place tag content octets, after place octets rest)
unfolding some_at
some_complete place tag content octets rest e =
    let some : length (octets ++ rest) ≡ 0 → ⊥ = λ (z : length (octets ++ rest) ≡ 0). omega (arith, z, length-append octets rest, element_len_at_least tag content octets e) in
    rw (ne_eqb (length (octets ++ rest)) 0 some) (next_complete place tag content octets rest e)

pub some_fault : (s : Span) (f : Fault) → some_at s ≡ Err f → IsMissing s f.reason f.place ⊎ IsElementFault s f.reason f.place
unfolding some_at
some_fault s f e =
    elim (chosen (length s.octets == 0) _ _ (Err f) e) [
      | inl h ↦ inl (subst (λ (x : Fault). IsMissing s x.reason x.place) (err_is {A = Element × Span} (fault Missing s.place) f h.1)
          (record { ends = nil_from_length s.octets (eqb-true (length s.octets) 0 h.0); reason_is = refl; place_is = refl }))
      | inr h ↦ let k = eqb-false (length s.octets) 0 h.0 in inr (next_fault s f (omega (arith, k)) h.1)
    ]

pub some_refused : (s : Span) (f : Fault) → IsMissing s f.reason f.place ⊎ IsElementFault s f.reason f.place → some_at s ≡ Err f
unfolding some_at
some_refused s f (inl m) = rw (eq-eqb (length s.octets) 0 (ap length m.ends)) (refused_by f Missing s.place m.reason_is m.place_is)
some_refused s f (inr w) = rw (ne_eqb (length s.octets) 0 (not_none (length s.octets) (element_fault_some s f.reason f.place w))) (next_refused s f w)

pub reads_one_of : {V : Type 0} (choice : Choice V) (read : Element → Result V Fault) → ReadsChoice choice read → ReadsField (one_of choice) (one_of_at read)
reads_one_of {V} choice read reads = record {
  sound = λ s v rest e.
      let a = bind_ok (some_at s) (with_body read) (v, rest) e in
      let b = bind_ok (read a.0.0) (λ v. Ok (v, a.0.1)) (v, rest) a.2 in
      subst (λ (y : V × Span). Taken (one_of choice) s y.0 y.1) (ok_is (b.0, a.0.1) (v, rest) b.2)
      (taken s a.0.0 a.0.1 b.0 (some_sound s a.0 a.1) (reads.sound a.0.0 b.0 b.1));
  complete = λ place v front rest h.
      rw (some_complete place h.tag h.content front rest h.is_element, reads.complete (any_element_in place h.tag h.content front) v h.inside) refl;
  refuses = λ s f e.
      elim (bind_err (some_at s) (with_body read) f e) [
        | inl h ↦ elim (some_fault s f h) [
          | inl m ↦ inl m
          | inr w ↦ inr (inl w)
        ]
        | inr a ↦ elim (bind_err (read a.0.0) (λ v. Ok (v, a.0.1)) f a.2) [
          | inl h ↦ inr (inr (inside s f a.0.0 a.0.1 (some_sound s a.0 a.1) (reads.refuses a.0.0 f h)))
          | inr b ↦ absurd cc
        ]
      ];
  stops = stops;
}
  where
    taken : (s : Span) (e : Element) (r : Span) (v : V) → FindsElement s e r → choice.spells v e.tag e.content.octets → Taken (one_of choice) s v r
    taken s e r v found spelled = record {
      front = found.octets;
      joined = found.joined;
      place = found.behind_place;
      is_part = record { tag = e.tag; content = e.content.octets; is_element = found.is_element; inside = spelled };
    }

    inside : (s : Span) (f : Fault) (e : Element) (r : Span) → FindsElement s e r → choice.faulty e.tag e.place e.content f.reason f.place → IsFaultyChoice choice s f.reason f.place
    inside s f e r found wrong = record {
      tag = e.tag;
      content = e.content.octets;
      octets = found.octets;
      rest = r.octets;
      is_element = found.is_element;
      joined = found.joined;
      inside = subst (λ (p : ℕ). choice.faulty e.tag s.place (record { octets = e.content.octets; place = p }) f.reason f.place) found.content_place
          (subst (λ (p : ℕ). choice.faulty e.tag p e.content f.reason f.place) found.place wrong);
    }

    stops : (s : Span) (f : Fault) → (one_of choice).faulty s f.reason f.place → one_of_at read s ≡ Err f
    stops s f (inl m) = rw (some_refused s f (inl m)) refl
    stops s f (inr (inl w)) = rw (some_refused s f (inr w)) refl
    stops s f (inr (inr h)) =
        let there = ap (λ (x : List ℕ). some_at (record { octets = x; place = s.place })) h.joined ∙ some_complete s.place h.tag h.content h.octets h.rest h.is_element in
        rw (there, reads.stops (any_element_in s.place h.tag h.content h.octets) f h.inside) refl

-- ---- NULL

pub reads_null : ReadsBody null null_at
unfolding null_at
reads_null = record {
  sound = λ e v h.
      elim (chosen (length e.content.octets == 0) _ _ (Ok v) h) [
        | inl k ↦ nil_from_length e.content.octets (eqb-true (length e.content.octets) 0 k.0)
        | inr k ↦ absurd cc
      ];
  complete = λ e v h. rw (eq-eqb (length e.content.octets) 0 (ap length h)) refl;
  refuses = λ e f h.
      elim (chosen (length e.content.octets == 0) _ _ (Err f) h) [
        | inl k ↦ absurd cc
        | inr k ↦ let same = err_is {A = Unit {0}} (fault BadSize e.place) f k.1 in
            let some = eqb-false (length e.content.octets) 0 k.0 in
            (omega (arith, some), sym (ap (λ (x : Fault). x.reason) same), sym (ap (λ (x : Fault). x.place) same))
      ];
  stops = λ e f h. rw (ne_eqb (length e.content.octets) 0 (not_none (length e.content.octets) h.0)) (refused_by f BadSize e.place h.1 h.2);
}

pub null_iff : (e : Element) (r : Result (Unit {0}) Fault) → Gives (λ x. x) r (null_at e) → IsOk r ↔ (e.content.octets ≡ [])
null_iff e (Ok x) h = (λ _. reads_null.sound e x h, λ _. refl)
null_iff e (Err f) h = (λ k. absurd cc, λ none. absurd (ok_not_err {A = Unit {0}} tt f (sym (reads_null.complete e tt none) ∙ h)))
