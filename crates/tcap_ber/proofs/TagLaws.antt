-- Reading a tag returns the tag at the front.
use Rattle.std.proofs.Common.{◌≡◌, ℕ, zero, suc, ◌+◌, ◌%◌, ◌≤◌, List, [], ◌∷◌, ◌++◌, length, Option, Some, Result, Ok, Err, refl, sym, ap, ◌∙◌, inl, inr, arith}
use Rattle.std.specs.List.{AllByRecursion}
use Rattle.std.specs.Prelude.{nat_lt, ◌==◌}
use Rattle.std.proofs.lemmas.Bool.{ltb-true, ltb-false, lt-ltb, le-ltb, eqb-true, eqb-false, eq-eqb, ne_eqb}
use Rattle.tcap_ber.specs.declared.fault.Fault.{Fault}
use Rattle.tcap_ber.specs.declared.fault.Reason.TheVariants.{TagForm}
use Rattle.tcap_ber.specs.Element.{IsContinued, IsTag}
use Rattle.tcap_ber.specs.Header.{HasLongTag}
use Rattle.tcap_ber.specs.HeaderReading.{fault, tag_rest, tag_in}
use Rattle.tcap_ber.proofs.Steps.{chosen, err_is, ok_not_err}

-- the octets after the first of a long tag, at the front
pub record FindsMore (left len : ℕ) (octets : List ℕ) (n : ℕ) : Type 0 where
  pub more : List ℕ
  pub rest : List ℕ
  pub continued : IsContinued more
  pub within : length more ≤ left
  pub joined : octets ≡ more ++ rest
  pub count : n ≡ len + length more

IsContinued-cons : (octet : ℕ) (more : List ℕ) → 128 ≤ octet → IsContinued more → IsContinued (octet ∷ more)
IsContinued-cons octet [] le c = absurd c
IsContinued-cons octet (next ∷ more) le c = (le, c)

some_is : (x y : ℕ) → (let a : Result (Option ℕ) Fault = Ok (Some x) in a) ≡ Ok (Some y) → x ≡ y
some_is x y e = cc

tag_rest_sound : (place left len : ℕ) (octets : List ℕ) (n : ℕ) → tag_rest place left len octets ≡ Ok (Some n) → FindsMore left len octets n
tag_rest_sound place zero len octets n e = absurd cc
tag_rest_sound place (suc left) len [] n e = absurd cc
tag_rest_sound place (suc left) len (octet ∷ octets) n e =
    elim (chosen (nat_lt octet 128) (Ok (Some (len + 1))) (tag_rest place left (len + 1) octets) (Ok (Some n)) e) [
      | inl h ↦ let k : len + 1 ≡ n = some_is (len + 1) n h.1 in
          record { more = octet ∷ []; rest = octets; continued = ltb-true octet 128 h.0; within = omega arith; joined = refl; count = omega arith }
      | inr h ↦ let f = tag_rest_sound place left (len + 1) octets n h.1 in
          record { more = octet ∷ f.more; rest = f.rest; continued = IsContinued-cons octet f.more (ltb-false octet 128 h.0) f.continued; within = omega (arith, f.within); joined = ap (λ (x : List ℕ). octet ∷ x) f.joined; count = omega (arith, f.count) }
    ]

tag_rest_complete : (place left len : ℕ) (more rest : List ℕ) → IsContinued more → length more ≤ left → tag_rest place left len (more ++ rest) ≡ Ok (Some (len + length more))
tag_rest_complete place left len [] rest c w = absurd c
tag_rest_complete place zero len (octet ∷ more) rest c w = absurd (omega arith)
tag_rest_complete place (suc left) len (octet ∷ []) rest c w = rw (lt-ltb octet 128 c) refl
tag_rest_complete place (suc left) len (octet ∷ next ∷ more) rest c w =
    let k : len + 1 + length (next ∷ more) ≡ len + length (octet ∷ next ∷ more) = omega arith in
    let tail = tag_rest_complete place left (len + 1) (next ∷ more) rest c.1 (omega arith) in
    rw (le-ltb octet 128 c.0) (tail ∙ ap (λ (m : ℕ). Ok (Some m)) k)

-- octets with the top bit set, at the front
pub record FindsLong (left : ℕ) (octets : List ℕ) : Type 0 where
  pub more : List ℕ
  pub rest : List ℕ
  pub go_on : AllByRecursion (λ octet. 128 ≤ octet) more
  pub count : length more ≡ left
  pub joined : octets ≡ more ++ rest

tag_rest_fault : (place left len : ℕ) (octets : List ℕ) (f : Fault) → tag_rest place left len octets ≡ Err f → FindsLong left octets × (f ≡ fault TagForm place)
tag_rest_fault place zero len octets f e = (record { more = []; rest = octets; go_on = tt; count = refl; joined = refl }, sym (err_is {A = Option ℕ} (fault TagForm place) f e))
tag_rest_fault place (suc left) len [] f e = absurd cc
tag_rest_fault place (suc left) len (octet ∷ octets) f e =
    elim (chosen (nat_lt octet 128) (Ok (Some (len + 1))) (tag_rest place left (len + 1) octets) (Err f) e) [
      | inl h ↦ absurd (ok_not_err (Some (len + 1)) f h.1)
      | inr h ↦ let t = tag_rest_fault place left (len + 1) octets f h.1 in
          (record { more = octet ∷ t.0.more; rest = t.0.rest; go_on = (ltb-false octet 128 h.0, t.0.go_on); count = ap suc t.0.count; joined = ap (λ (x : List ℕ). octet ∷ x) t.0.joined }, t.1)
    ]

tag_rest_long : (place left len : ℕ) (more rest : List ℕ) → AllByRecursion (λ octet. 128 ≤ octet) more → length more ≡ left → tag_rest place left len (more ++ rest) ≡ Err (fault TagForm place)
tag_rest_long place zero len more rest h e = refl
tag_rest_long place (suc left) len [] rest h e = absurd (omega arith)
tag_rest_long place (suc left) len (octet ∷ more) rest h e = rw (le-ltb octet 128 h.0) (tag_rest_long place left (len + 1) more rest h.1 (omega arith))

-- a tag, at the front
pub record FindsTag (octets : List ℕ) (n : ℕ) : Type 0 where
  pub tag : List ℕ
  pub rest : List ℕ
  pub is_tag : IsTag tag
  pub joined : octets ≡ tag ++ rest
  pub count : n ≡ length tag

pub tag_sound : (place : ℕ) (octets : List ℕ) (n : ℕ) → tag_in place octets ≡ Ok (Some n) → FindsTag octets n
tag_sound place [] n e = absurd cc
tag_sound place (first ∷ more) n e =
    elim (chosen (first % 32 == 31) (tag_rest place 4 1 more) (Ok (Some 1)) (Ok (Some n)) e) [
      | inl h ↦ let f = tag_rest_sound place 4 1 more n h.1 in
          record { tag = first ∷ f.more; rest = f.rest; is_tag = inr (eqb-true (first % 32) 31 h.0, f.continued, f.within); joined = ap (λ (x : List ℕ). first ∷ x) f.joined; count = omega (arith, f.count) }
      | inr h ↦ let k : 1 ≡ n = some_is 1 n h.1 in
          record { tag = first ∷ []; rest = more; is_tag = inl (eqb-false (first % 32) 31 h.0, refl); joined = refl; count = omega arith }
    ]

pub tag_complete : (place : ℕ) (tag rest : List ℕ) → IsTag tag → tag_in place (tag ++ rest) ≡ Ok (Some (length tag))
tag_complete place [] rest t = absurd t
tag_complete place (first ∷ more) rest (inl h) = rw (ne_eqb (first % 32) 31 h.0, h.1) refl
tag_complete place (first ∷ more) rest (inr h) =
    let k : 1 + length more ≡ length (first ∷ more) = omega arith in
    rw (eq-eqb (first % 32) 31 h.0) (tag_rest_complete place 4 1 more rest h.1 h.2 ∙ ap (λ (m : ℕ). Ok (Some m)) k)

pub tag_fault : (place : ℕ) (octets : List ℕ) (f : Fault) → tag_in place octets ≡ Err f → HasLongTag octets × (f ≡ fault TagForm place)
tag_fault place [] f e = absurd cc
tag_fault place (first ∷ more) f e =
    elim (chosen (first % 32 == 31) (tag_rest place 4 1 more) (Ok (Some 1)) (Err f) e) [
      | inl h ↦ let t = tag_rest_fault place 4 1 more f h.1 in
          (record { first = first; four = t.0.more; rest = t.0.rest; is_long = eqb-true (first % 32) 31 h.0; are_four = t.0.count; go_on = t.0.go_on; joined = ap (λ (x : List ℕ). first ∷ x) t.0.joined }, t.1)
      | inr h ↦ absurd (ok_not_err (Some 1) f h.1)
    ]

pub tag_long : (place : ℕ) (octets : List ℕ) → HasLongTag octets → tag_in place octets ≡ Err (fault TagForm place)
tag_long place octets h = rw (h.joined, eq-eqb (h.first % 32) 31 h.is_long) (tag_rest_long place 4 1 h.four h.rest h.go_on h.are_four)
