-- `is_object_id` decides `IsObjectId`, and the reader of OBJECT IDENTIFIERs is exact.
use Rattle.std.proofs.Common.{◌≡◌, ◌≢◌, ℕ, Bool, true, false, List, [], ◌∷◌, ◌++◌, length, Ok, Err, refl, sym, ap, ◌∙◌, inl, inr, arith}
use Rattle.std.specs.Prelude.{not, ◌&&◌, nat_lt, ◌==◌, ◌↔◌, IsTrue}
use Rattle.std.specs.List.{AllByRecursion, concat}
use Rattle.std.proofs.lemmas.Bool.{cases_Bool, ltb-true, ltb-false, lt-ltb, le-ltb, eqb-true, eq-eqb, ne_eqb, and_parts, and_from, both_ways, not-true, not_from_false, false_from_ne_true}
use Rattle.tcap_ber.specs.declared.fault.Fault.{Fault}
use Rattle.tcap_ber.specs.declared.fault.Reason.TheVariants.{BadObjectId}
use Rattle.tcap_ber.specs.Element.{IsContinued}
use Rattle.tcap_ber.specs.ObjectId.{IsSubidentifier, IsObjectId, object_id}
use Rattle.tcap_ber.specs.ExactReader.{ReadsBody}
use Rattle.tcap_ber.specs.Reading.{fault, are_subidentifiers, is_object_id, object_id_at}
use Rattle.tcap_ber.proofs.Steps.{chosen, ok_is, err_is}
use Rattle.tcap_ber.proofs.FaultLaws.{refused_by}

-- ---- the test

-- an octet passes the test unless it is 80 and begins a subidentifier
octet_sound : (start : Bool) (octet : ℕ) → not (start && (octet == 128)) ≡ true → start ≡ true → octet ≡ 128 → ⊥
octet_sound start octet e s o = both_ways _ (not-true _ e) (and_from start (octet == 128) s (eq-eqb octet 128 o))

octet_complete : (start : Bool) (octet : ℕ) → (start ≡ true → octet ≡ 128 → ⊥) → not (start && (octet == 128)) ≡ true
octet_complete start octet h =
    not_from_false _ (false_from_ne_true _ (λ t. let both = and_parts start (octet == 128) t in h both.0 (eqb-true octet 128 both.1)))

-- after an octet of a subidentifier come its other octets and further subidentifiers
record Split (octet : ℕ) (more : List ℕ) : Type 0 where
  pub tail : List ℕ
  pub others : List (List ℕ)
  pub continued : IsContinued (octet ∷ tail)
  pub are_others : AllByRecursion IsSubidentifier others
  pub joined : more ≡ tail ++ concat others

split : (octet : ℕ) (more : List ℕ) → are_subidentifiers (nat_lt octet 128) more ≡ true → Split octet more
split octet [] e = record { tail = []; others = []; continued = ltb-true octet 128 e; are_others = tt; joined = refl }
split octet (next ∷ more) e =
    let both = and_parts (not (nat_lt octet 128 && (next == 128))) (are_subidentifiers (nat_lt next 128) more) e in
    let behind = split next more both.1 in
    let joined = ap (λ (x : List ℕ). next ∷ x) behind.joined in
    elim (cases_Bool (nat_lt octet 128)) [
      | inl last ↦ record {
        tail = [];
        others = (next ∷ behind.tail) ∷ behind.others;
        continued = ltb-true octet 128 last;
        are_others = ((behind.continued, octet_sound (nat_lt octet 128) next both.0 last), behind.are_others);
        joined = joined;
      }
      | inr on ↦ record {
        tail = next ∷ behind.tail;
        others = behind.others;
        continued = (ltb-false octet 128 on, behind.continued);
        are_others = behind.are_others;
        joined = joined;
      }
    ]

some_octets : (octet : ℕ) (more : List ℕ) → is_object_id (octet ∷ more) ≡ are_subidentifiers true (octet ∷ more)
some_octets octet more = rw (ne_eqb (length (octet ∷ more)) 0 (λ z. omega (arith, z))) refl

pub is_object_id_sound : (octets : List ℕ) → is_object_id octets ≡ true → IsObjectId octets
is_object_id_sound [] e = absurd cc
is_object_id_sound (octet ∷ more) e =
    let both = and_parts (not (octet == 128)) (are_subidentifiers (nat_lt octet 128) more) (sym (some_octets octet more) ∙ e) in
    let s = split octet more both.1 in (
      (octet ∷ s.tail) ∷ s.others,
      λ none. cc,
      ((s.continued, octet_sound true octet both.0 refl), s.are_others),
      ap (λ (x : List ℕ). octet ∷ x) s.joined,
    )

-- the octets of one subidentifier, with others after it
joined_complete : (start : Bool) (octet : ℕ) (more others : List ℕ) → IsContinued (octet ∷ more) → (start ≡ true → octet ≡ 128 → ⊥) → are_subidentifiers true others ≡ true
    → are_subidentifiers start (octet ∷ more ++ others) ≡ true
joined_complete start octet [] others c h e = and_from _ _ (octet_complete start octet h) (rw (lt-ltb octet 128 c) e)
joined_complete start octet (next ∷ more) others c h e =
    and_from _ _ (octet_complete start octet h) (rw (le-ltb octet 128 c.0) (joined_complete false next more others c.1 (λ s. cc) e))

are_subidentifiers_complete : (ids : List (List ℕ)) → AllByRecursion IsSubidentifier ids → are_subidentifiers true (concat ids) ≡ true
are_subidentifiers_complete [] h = refl
are_subidentifiers_complete ([] ∷ ids) h = absurd h.0.0
are_subidentifiers_complete ((octet ∷ more) ∷ ids) h = joined_complete true octet more (concat ids) h.0.0 (λ s. h.0.1) (are_subidentifiers_complete ids h.1)

pub is_object_id_complete : (octets : List ℕ) → IsObjectId octets → is_object_id octets ≡ true
is_object_id_complete octets h = of_ids octets h.0 h.1 h.2 h.3
  where
    of_ids : (octets : List ℕ) (ids : List (List ℕ)) → ids ≢ [] → AllByRecursion IsSubidentifier ids → octets ≡ concat ids → is_object_id octets ≡ true
    of_ids octets [] some all e = absurd (some refl)
    of_ids octets ([] ∷ ids) some all e = absurd all.0.0
    of_ids octets ((octet ∷ more) ∷ ids) some all e =
        ap is_object_id e ∙ some_octets octet (more ++ concat ids) ∙ are_subidentifiers_complete ((octet ∷ more) ∷ ids) all

pub object_id_iff : (octets : List ℕ) (b : Bool) → b ≡ is_object_id octets → IsTrue b ↔ IsObjectId octets
object_id_iff octets b e = (λ t. is_object_id_sound octets (sym e ∙ t), λ h. e ∙ is_object_id_complete octets h)

-- ---- the reader

pub reads_object_id : ReadsBody object_id object_id_at
unfolding object_id_at
reads_object_id = record {
  sound = λ e v h.
      elim (chosen (is_object_id e.content.octets) _ _ (Ok v) h) [
        | inl k ↦ (is_object_id_sound e.content.octets k.0, sym (ok_is e.content.octets v k.1))
        | inr k ↦ absurd cc
      ];
  complete = λ e v h. rw (is_object_id_complete e.content.octets h.0) (ap (λ (x : List ℕ). Ok x) (sym h.1));
  refuses = λ e f h.
      elim (chosen (is_object_id e.content.octets) _ _ (Err f) h) [
        | inl k ↦ absurd cc
        | inr k ↦ let same = err_is {A = List ℕ} (fault BadObjectId e.place) f k.1 in (
          sym (ap (λ (x : Fault). x.reason) same),
          sym (ap (λ (x : Fault). x.place) same),
          λ id. both_ways (is_object_id e.content.octets) k.0 (is_object_id_complete e.content.octets id),
        )
      ];
  stops = λ e f h.
      let none = false_from_ne_true _ (λ t. h.2 (is_object_id_sound e.content.octets t)) in
      rw none (refused_by f BadObjectId e.place h.0 h.1);
}
