-- The reader of a number from 0 to 127 is exact.
use Rattle.std.proofs.Common.{◌≡◌, ℕ, ◌<◌, List, [], ◌∷◌, Ok, Err, refl, sym, ap, subst, ◌∙◌, inl, inr, ◌⊎◌, arith}
use Rattle.std.specs.Prelude.{nat_lt}
use Rattle.std.proofs.lemmas.Bool.{ltb-true, ltb-false, lt-ltb, both_ways, false_from_ne_true}
use Rattle.tcap_ber.specs.declared.fault.Fault.{Fault}
use Rattle.tcap_ber.specs.declared.fault.Reason.TheVariants.{BadInteger, BadSize}
use Rattle.tcap_ber.specs.Integer.{IsInteger}
use Rattle.tcap_ber.specs.SmallInteger.{IsSmall, small}
use Rattle.tcap_ber.specs.ExactReader.{ReadsBody}
use Rattle.tcap_ber.specs.Reading.{fault, Element, is_integer, integer_at, small_in, small_at}
use Rattle.tcap_ber.proofs.Steps.{chosen, bind_ok, bind_err, ok_is, err_is}
use Rattle.tcap_ber.proofs.FaultLaws.{refused_by}
use Rattle.tcap_ber.proofs.BodyLaws.{is_integer_sound, is_integer_complete}

-- `small_in` reads one octet below 128
small_in_sound : (place : ℕ) (octets : List ℕ) (n : ℕ) → small_in place octets ≡ Ok n → IsSmall n octets
small_in_sound place [] n e = absurd cc
small_in_sound place (octet ∷ []) n e =
    elim (chosen (nat_lt octet 128) _ _ (Ok n) e) [
      | inl k ↦ let same = ok_is octet n k.1 in (ap (λ (x : ℕ). x ∷ []) same, subst (λ (x : ℕ). x < 128) same (ltb-true octet 128 k.0))
      | inr k ↦ absurd cc
    ]
small_in_sound place (first ∷ second ∷ more) n e = absurd cc

small_in_complete : (place n : ℕ) → n < 128 → small_in place (n ∷ []) ≡ Ok n
small_in_complete place n h = rw (lt-ltb n 128 h) refl

small_in_fault : (place : ℕ) (octets : List ℕ) (f : Fault) → small_in place octets ≡ Err f → (f ≡ fault BadSize place) × ((n : ℕ) → IsSmall n octets → ⊥)
small_in_fault place [] f e = (sym (err_is {A = ℕ} (fault BadSize place) f e), λ n h. let k : [] ≡ n ∷ [] = h.0 in cc)
small_in_fault place (octet ∷ []) f e =
    elim (chosen (nat_lt octet 128) _ _ (Err f) e) [
      | inl k ↦ absurd cc
      | inr k ↦ (sym (err_is {A = ℕ} (fault BadSize place) f k.1), λ n h. let same : octet ≡ n = cc in let above = ltb-false octet 128 k.0 in omega (arith, same, above, h.1))
    ]
small_in_fault place (first ∷ second ∷ more) f e = (sym (err_is {A = ℕ} (fault BadSize place) f e), λ n h. let k = h.0 in cc)

small_in_refused : (place : ℕ) (octets : List ℕ) → ((n : ℕ) → IsSmall n octets → ⊥) → small_in place octets ≡ Err (fault BadSize place)
small_in_refused place [] none = refl
small_in_refused place (octet ∷ []) none = rw (false_from_ne_true (nat_lt octet 128) (λ t. none octet (refl, ltb-true octet 128 t))) refl
small_in_refused place (first ∷ second ∷ more) none = refl

pub reads_small : ReadsBody small small_at
unfolding integer_at small_at
reads_small = record {
  sound = λ e v h.
      let a = bind_ok (integer_at e) (small_in e.place) v h in
      elim (chosen (is_integer e.content.octets) _ _ (Ok a.0) a.1) [
        | inl k ↦ small_in_sound e.place e.content.octets v (ap (small_in e.place) (ok_is e.content.octets a.0 k.1) ∙ a.2)
        | inr k ↦ absurd cc
      ];
  complete = λ e v h. rw h.0 (small_in_complete e.place v h.1);
  refuses = λ e f h.
      elim (bind_err (integer_at e) (small_in e.place) f h) [
        | inl a ↦ elim (chosen (is_integer e.content.octets) _ _ (Err f) a) [
          | inl k ↦ absurd cc
          | inr k ↦ let same = err_is {A = List ℕ} (fault BadInteger e.place) f k.1 in (
            sym (ap (λ (x : Fault). x.place) same),
            inl (
              sym (ap (λ (x : Fault). x.reason) same),
              λ i. both_ways (is_integer e.content.octets) k.0 (is_integer_complete e.content.octets i),
            ),
          )
        ]
        | inr a ↦ elim (chosen (is_integer e.content.octets) _ _ (Ok a.0) a.1) [
          | inl k ↦ let none = small_in_fault e.place e.content.octets f (ap (small_in e.place) (ok_is e.content.octets a.0 k.1) ∙ a.2) in
              (ap (λ (x : Fault). x.place) none.0, inr (ap (λ (x : Fault). x.reason) none.0, is_integer_sound e.content.octets k.0, none.1))
          | inr k ↦ absurd cc
        ]
      ];
  stops = λ e f h. stops e f h.0 h.1;
}
  where
    stops : (e : Element) (f : Fault) → f.place ≡ e.place
        → ((f.reason ≡ BadInteger) × (IsInteger e.content.octets → ⊥)) ⊎ ((f.reason ≡ BadSize) × IsInteger e.content.octets × ((n : ℕ) → IsSmall n e.content.octets → ⊥))
        → small_at e ≡ Err f
    stops e f at (inl h) =
        let none = false_from_ne_true _ (λ t. h.1 (is_integer_sound e.content.octets t)) in
        rw none (refused_by f BadInteger e.place h.0 at)
    stops e f at (inr h) = rw (is_integer_complete e.content.octets h.1) (small_in_refused e.place e.content.octets h.2 ∙ refused_by f BadSize e.place h.0 at)
