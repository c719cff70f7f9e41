-- Readers of element bodies: INTEGERs, and values made from other bodies.
use Rattle.std.proofs.Common.{◌≡◌, ℕ, ◌<◌, ◌⊎◌, true, false, List, [], ◌∷◌, length, Ok, Err, refl, sym, ap, subst, ◌∙◌, inl, inr, arith, ℤ, Result}
use Rattle.std.specs.Prelude.{not, ◌&&◌, nat_lt, ◌==◌}
use Rattle.std.proofs.lemmas.Bool.{ltb-true, ltb-false, lt-ltb, le-ltb, eqb-true, eq-eqb, and_parts, and_from, both_ways, not-true, not_from_false, false_from_ne_true}
use Rattle.tcap_ber.specs.declared.fault.Fault.{Fault}
use Rattle.tcap_ber.specs.declared.fault.Reason.{Reason}
use Rattle.tcap_ber.specs.declared.fault.Reason.TheVariants.{BadInteger}
use Rattle.tcap_ber.specs.Integer.{IsInteger, signed}
use Rattle.tcap_ber.specs.Grammar.{Body, made, integer}
use Rattle.tcap_ber.specs.ExactReader.{ReadsBody}
use Rattle.tcap_ber.specs.Reading.{◌>>=◌, fault, Element, is_integer, integer_at, within, small_integer_at}
use Rattle.tcap_ber.proofs.Steps.{chosen, bind_ok, bind_err, ok_is, err_is}
use Rattle.tcap_ber.proofs.FaultLaws.{refused_by}

-- `is_integer` decides `IsInteger`
pub is_integer_sound : (octets : List ℕ) → is_integer octets ≡ true → IsInteger octets
is_integer_sound [] e = absurd cc
is_integer_sound (first ∷ []) e = tt
is_integer_sound (first ∷ second ∷ more) e =
    let both = and_parts (not ((first == 0) && nat_lt second 128)) (not ((first == 255) && nat_lt 127 second)) e in
    let low : ((first == 0) && nat_lt second 128) ≡ false = not-true _ both.0 in
    let high : ((first == 255) && nat_lt 127 second) ≡ false = not-true _ both.1 in (
      λ h. both_ways _ low (and_from _ _ (eq-eqb first 0 h.0) (lt-ltb second 128 h.1)),
      λ h. both_ways _ high (and_from _ _ (eq-eqb first 255 h.0) (lt-ltb 127 second (omega (arith, h.1)))),
    )

pub is_integer_complete : (octets : List ℕ) → IsInteger octets → is_integer octets ≡ true
is_integer_complete [] h = absurd h
is_integer_complete (first ∷ []) h = refl
is_integer_complete (first ∷ second ∷ more) h =
    and_from _ _ (not_from_false _ (false_from_ne_true _ low)) (not_from_false _ (false_from_ne_true _ high))
  where
    low : ((first == 0) && nat_lt second 128) ≡ true → ⊥
    low e = let both = and_parts (first == 0) (nat_lt second 128) e in h.0 (eqb-true first 0 both.0, ltb-true second 128 both.1)

    high : ((first == 255) && nat_lt 127 second) ≡ true → ⊥
    high e = let both = and_parts (first == 255) (nat_lt 127 second) e in
        let above = ltb-true 127 second both.1 in
        h.1 (eqb-true first 255 both.0, omega (arith, above))

-- a reader whose value is mapped
pub reads_made : {V W : Type 0} (make : V → W) (body : Body V) (read : Element → Result V Fault) → ReadsBody body read
    → ReadsBody (made make body) (λ e. read e >>= λ v. Ok (make v))
reads_made {V} {W} make body read reads = record {
  sound = λ e w h.
      let a = bind_ok (read e) (λ v. Ok (make v)) w h in
      (a.0, sym (ok_is (make a.0) w a.2), reads.sound e a.0 a.1);
  complete = λ e w h. rw (reads.complete e h.0 h.2) (ap (λ (x : W). Ok x) (sym h.1));
  refuses = λ e f h.
      elim (bind_err (read e) (λ v. Ok (make v)) f h) [
        | inl k ↦ reads.refuses e f k
        | inr a ↦ absurd cc
      ];
  stops = λ e f h. rw (reads.stops e f h) refl;
}

pub reads_integer : (limit : ℕ) (too_wide : Reason) → ReadsBody (integer limit too_wide) (small_integer_at limit too_wide)
unfolding integer_at small_integer_at
reads_integer limit too_wide = record {
  sound = λ e v h.
      let a = bind_ok (integer_at e) (within limit too_wide e) v h in
      elim (chosen (is_integer e.content.octets) _ _ (Ok a.0) a.1) [
        | inl k ↦ read e v a.0 (is_integer_sound e.content.octets k.0) (ok_is e.content.octets a.0 k.1) a.2
        | inr k ↦ absurd cc
      ];
  complete = λ e v h. rw (is_integer_complete e.content.octets h.0, le-ltb limit (length e.content.octets) h.1) (ap (λ (n : ℤ). Ok n) (sym h.2));
  refuses = λ e f h.
      elim (bind_err (integer_at e) (within limit too_wide e) f h) [
        | inl a ↦ elim (chosen (is_integer e.content.octets) _ _ (Err f) a) [
          | inl k ↦ absurd cc
          | inr k ↦ bad e f k.0 (err_is {A = List ℕ} (fault BadInteger e.place) f k.1)
        ]
        | inr a ↦ elim (chosen (is_integer e.content.octets) _ _ (Ok a.0) a.1) [
          | inl k ↦ wide e f a.0 (is_integer_sound e.content.octets k.0) (ok_is e.content.octets a.0 k.1) a.2
          | inr k ↦ absurd cc
        ]
      ];
  stops = λ e f h. stops e f h.0 h.1;
}
  where
    read : (e : Element) (v : ℤ) (octets : List ℕ) → IsInteger e.content.octets → e.content.octets ≡ octets → within limit too_wide e octets ≡ Ok v → (integer limit too_wide).spells v e.content.octets
    read e v octets good same h =
        elim (chosen (nat_lt limit (length octets)) _ _ (Ok v) h) [
          | inl k ↦ absurd cc
          | inr k ↦ (good, omega (arith, ap length same, ltb-false limit (length octets) k.0), sym (ok_is (signed octets) v k.1) ∙ sym (ap signed same))
        ]

    bad : (e : Element) (f : Fault) → is_integer e.content.octets ≡ false → fault BadInteger e.place ≡ f → (integer limit too_wide).faulty e.place e.content f.reason f.place
    bad e f k same = subst (λ (x : Fault). (integer limit too_wide).faulty e.place e.content x.reason x.place) same
        (refl, inl (refl, λ good. both_ways (is_integer e.content.octets) k (is_integer_complete e.content.octets good)))

    wide : (e : Element) (f : Fault) (octets : List ℕ) → IsInteger e.content.octets → e.content.octets ≡ octets → within limit too_wide e octets ≡ Err f → (integer limit too_wide).faulty e.place e.content f.reason f.place
    wide e f octets good same h =
        elim (chosen (nat_lt limit (length octets)) _ _ (Err f) h) [
          | inl k ↦ subst (λ (x : Fault). (integer limit too_wide).faulty e.place e.content x.reason x.place) (err_is {A = ℤ} (fault too_wide e.place) f k.1)
              (refl, inr (refl, good, omega (arith, ap length same, ltb-true limit (length octets) k.0)))
          | inr k ↦ absurd cc
        ]

    stops : (e : Element) (f : Fault) → f.place ≡ e.place
        → ((f.reason ≡ BadInteger) × (IsInteger e.content.octets → ⊥)) ⊎ ((f.reason ≡ too_wide) × IsInteger e.content.octets × (limit < length e.content.octets))
        → small_integer_at limit too_wide e ≡ Err f
    stops e f at (inl h) =
        let none = false_from_ne_true _ (λ t. h.1 (is_integer_sound e.content.octets t)) in
        rw none (refused_by f BadInteger e.place h.0 at)
    stops e f at (inr h) = rw (is_integer_complete e.content.octets h.1, lt-ltb limit (length e.content.octets) h.2) (refused_by f too_wide e.place h.0 at)
