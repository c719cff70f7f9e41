-- Framing the front of a record's octets returns what they begin with.
use Rattle.std.proofs.Common.{◌≡◌, ◌≢◌, ℕ, ◌+◌, ◌<◌, ◌≤◌, List, [], ◌∷◌, ◌++◌, length, take, drop, Option, Some, None, Result, Ok, Err, refl, sym, ap, subst, ◌∙◌, inl, inr, arith, add-one}
use Rattle.std.specs.Prelude.{true, false, nat_lt, ◌==◌}
use Rattle.tcap_ber.specs.declared.fault.Fault.{Fault}
use Rattle.tcap_ber.specs.declared.element.Outer.{Outer}
use Rattle.tcap_ber.specs.declared.element.Outer.TheVariants.{Whole as WholeElement, Need}
use Rattle.tcap_ber.specs.WalkPlaces.{IsUnfinished, BeginsElement}
use Rattle.tcap_ber.specs.WalkResult.{outer_at}
use Rattle.tcap_record.specs.declared.entry.End.{End}
use Rattle.tcap_record.specs.declared.fault.FeedReason.{FeedReason}
use Rattle.tcap_record.specs.declared.fault.FeedReason.TheVariants as feed
use Rattle.tcap_record.specs.declared.frames.Front.{Front}
use Rattle.tcap_record.specs.declared.frames.Front.TheVariants.{Whole, Part, Refused}
use Rattle.tcap_record.specs.RecordOctets.{octet_of, quiet_octet, entry_limit, IsEndOctet, IsRestFault}
use Rattle.tcap_record.specs.FramingResult.{end_in}
use Rattle.tcap_record.specs.PartialRecord.{IsPart, IsWhole}
use Rattle.tcap_record.specs.FrontEntry.{front_by, front_of, front_at}
use Rattle.tcap_ber.proofs.Steps.{chosen}
use Rattle.tcap_ber.proofs.OuterLaws.{outer_whole, outer_fault, is_unfinished}
use Rattle.tcap_ber.proofs.RoomLaws.{need_within}
use Rattle.tcap_record.proofs.FramingLaws.{end_is, is_end, no_end}
use Rattle.std.proofs.lemmas.Bool.{eqb-true, eqb-false, ltb-true, ltb-false}
use Rattle.std.proofs.lemmas.List.{take_at, take-append-drop, take-append-le, length-append, append-nil}

whole_is : (n m : ℕ) → (let a : Front = Whole n in a) ≡ Whole m → n ≡ m
whole_is n m e = cc

refused_is : (r s : FeedReason) (a b : ℕ) → (let x : Front = Refused r a in x) ≡ Refused s b → (r ≡ s) × (a ≡ b)
refused_is r s a b e = (cc, cc)

-- a whole entry
pub front_whole : (count n : ℕ) (octets : List ℕ) → front_at count octets ≡ Whole n → (n ≤ length octets) × (0 < n) × IsWhole (take n octets) × (count ≢ entry_limit)
front_whole count n [] e = absurd cc
front_whole count n (first ∷ more) e =
    elim (chosen (count == entry_limit) _ _ (Whole n) e) [
      | inl h ↦ absurd cc
      | inr h ↦ elim (chosen (first == quiet_octet) _ _ (Whole n) h.1) [
        | inl q ↦ subst (λ (m : ℕ). (m ≤ length (first ∷ more)) × (0 < m) × IsWhole (take m (first ∷ more)) × (count ≢ entry_limit)) (whole_is 1 n q.1)
            (omega arith, omega arith, inl (ap (λ (octet : ℕ). octet ∷ []) (eqb-true first quiet_octet q.0)), eqb-false count entry_limit h.0)
        | inr q ↦ of_end (eqb-false count entry_limit h.0) (end_in first) refl q.1
      ]
    ]
  where
    of_outer : count ≢ entry_limit → (side : End) → end_in first ≡ Some side → (r : Result Outer Fault) → outer_at more ≡ r → front_by r ≡ Whole n
        → (n ≤ length (first ∷ more)) × (0 < n) × IsWhole (take n (first ∷ more)) × (count ≢ entry_limit)
    of_outer room side a (Ok (WholeElement m)) o b =
        let there = outer_whole more m o in
        let front : take m more ≡ there.element = ap (take m) there.joined ∙ take_at there.element there.rest m (sym there.len) in
        subst (λ (k : ℕ). (k ≤ length (first ∷ more)) × (0 < k) × IsWhole (take k (first ∷ more)) × (count ≢ entry_limit)) (whole_is (m + 1) n b) (
          omega (arith, there.len, ap length there.joined, length-append there.element there.rest),
          omega arith,
          inr (side, there.element, ap (λ (k : ℕ). take k (first ∷ more)) (add-one m) ∙ ap (λ (octet : ℕ). octet ∷ take m more) (end_is first side a) ∙ ap (λ (x : List ℕ). octet_of side ∷ x) front, (there.tag, there.content, there.is_element)),
          room,
        )
    of_outer room side a (Ok (Need m)) o b = absurd cc
    of_outer room side a (Err f) o b = absurd cc

    of_end : count ≢ entry_limit → (o : Option End) → end_in first ≡ o → front_of o more ≡ Whole n
        → (n ≤ length (first ∷ more)) × (0 < n) × IsWhole (take n (first ∷ more)) × (count ≢ entry_limit)
    of_end room None a b = absurd cc
    of_end room (Some side) a b = of_outer room side a (outer_at more) refl b

-- a part of an entry
pub front_part : (count : ℕ) (octets : List ℕ) → front_at count octets ≡ Part → IsPart octets × (octets ≢ [] → count ≢ entry_limit) × (length octets ≤ 65551)
front_part count [] e = (tt, λ some. absurd (some refl), omega arith)
front_part count (first ∷ more) e =
    elim (chosen (count == entry_limit) _ _ Part e) [
      | inl h ↦ absurd cc
      | inr h ↦ elim (chosen (first == quiet_octet) _ _ Part h.1) [
        | inl q ↦ absurd cc
        | inr q ↦ of_end (eqb-false count entry_limit h.0) (end_in first) refl q.1
      ]
    ]
  where
    of_outer : count ≢ entry_limit → (side : End) → end_in first ≡ Some side → (r : Result Outer Fault) → outer_at more ≡ r → front_by r ≡ Part
        → IsPart (first ∷ more) × ((first ∷ more) ≢ [] → count ≢ entry_limit) × (length (first ∷ more) ≤ 65551)
    of_outer room side a (Ok (WholeElement m)) o b = absurd cc
    of_outer room side a (Ok (Need m)) o b =
        ((subst IsEndOctet (sym (end_is first side a)) (is_end side), is_unfinished more m o), λ some. room, omega (arith, need_within more m o))
    of_outer room side a (Err f) o b = absurd cc

    of_end : count ≢ entry_limit → (o : Option End) → end_in first ≡ o → front_of o more ≡ Part
        → IsPart (first ∷ more) × ((first ∷ more) ≢ [] → count ≢ entry_limit) × (length (first ∷ more) ≤ 65551)
    of_end room None a b = absurd cc
    of_end room (Some side) a b = of_outer room side a (outer_at more) refl b

-- a fault of the octets other than CutRecord
abbrev IsRefusal : ℕ → List ℕ → FeedReason → ℕ → Type 0
IsRefusal count octets reason offset = IsRestFault count octets reason offset × (reason ≢ feed.CutRecord)

-- equal refusals are of equal faults
refused_so : (count : ℕ) (octets : List ℕ) (r s : FeedReason) (a b : ℕ) → (let x : Front = Refused r a in x) ≡ Refused s b → IsRefusal count octets r a → IsRefusal count octets s b
refused_so count octets r s a b e refusal =
    let same = refused_is r s a b e in
    subst (λ (x : FeedReason). IsRefusal count octets x b) same.0 (subst (λ (x : ℕ). IsRefusal count octets r x) same.1 refusal)

-- a refusal
pub front_refused : (count offset : ℕ) (octets : List ℕ) (reason : FeedReason) → count ≤ entry_limit → front_at count octets ≡ Refused reason offset → IsRestFault count octets reason offset × (reason ≢ feed.CutRecord)
front_refused count offset [] reason within e = absurd cc
front_refused count offset (first ∷ more) reason within e =
    elim (chosen (count == entry_limit) _ _ (Refused reason offset) e) [
      | inl h ↦ refused_so count (first ∷ more) feed.TooManyEntries reason 0 offset h.1 ((eqb-true count entry_limit h.0, refl), λ same. cc)
      | inr h ↦ elim (chosen (first == quiet_octet) _ _ (Refused reason offset) h.1) [
        | inl q ↦ absurd cc
        | inr q ↦ let apart = eqb-false count entry_limit h.0 in of_end (omega (arith, within, apart)) (eqb-false first quiet_octet q.0) (end_in first) refl q.1
      ]
    ]
  where
    of_outer : count < entry_limit → (side : End) → end_in first ≡ Some side → (r : Result Outer Fault) → outer_at more ≡ r → front_by r ≡ Refused reason offset → IsRefusal count (first ∷ more) reason offset
    of_outer room side a (Ok (WholeElement m)) o b = absurd cc
    of_outer room side a (Ok (Need m)) o b = absurd cc
    of_outer room side a (Err f) o b =
        refused_so count (first ∷ more) (feed.Element f.reason) reason (f.place + 1) offset b
        ((room, subst IsEndOctet (sym (end_is first side a)) (is_end side), (f.place, omega arith, outer_fault more f o)), λ same. cc)

    of_end : count < entry_limit → first ≢ quiet_octet → (o : Option End) → end_in first ≡ o → front_of o more ≡ Refused reason offset → IsRefusal count (first ∷ more) reason offset
    of_end room loud None a b = refused_so count (first ∷ more) feed.BadEnd reason 0 offset b ((room, no_end first a, loud, refl), λ same. cc)
    of_end room loud (Some side) a b = of_outer room side a (outer_at more) refl b

-- octets begin with a second front that is no longer than they are
begins : (a b c d : List ℕ) → a ++ b ≡ c ++ d → length c ≤ length a → a ≡ c ++ drop (length c) a
begins a b c d e room =
    let front : take (length c) a ≡ c = sym (take-append-le (length c) a b room) ∙ ap (take (length c)) e ∙ take_at c d (length c) refl in
    sym (take-append-drop (length c) a) ∙ ap (λ (x : List ℕ). x ++ drop (length c) a) front

-- the octet of an end is not that of a quiet mark
end_loud : (octet : ℕ) → IsEndOctet octet → octet ≢ quiet_octet
end_loud octet (inl h) e = omega (arith, h, e)
end_loud octet (inr h) e = omega (arith, h, e)

-- the element that incomplete octets begin is longer than they are
element_longer : (octets more : List ℕ) (n : ℕ) → IsUnfinished octets → BeginsElement (octets ++ more) n → length octets < n
element_longer octets more n unfinished there =
    elim (chosen (nat_lt (length octets) n) true false _ refl) [
      | inl h ↦ ltb-true (length octets) n h.0
      | inr h ↦
          let room : length there.element ≤ length octets = omega (arith, there.len, ltb-false (length octets) n h.0) in
          absurd (unfinished.no_element there.tag there.content there.element _ there.is_element (begins octets more there.element there.rest there.joined room))
    ]

-- a part is shorter than the whole entry that it begins
pub part_longer : (count n : ℕ) (part more : List ℕ) → IsPart part → front_at count (part ++ more) ≡ Whole n → length part < n
part_longer count n [] more is_part e = (front_whole count n more e).1
part_longer count n (first ∷ octets) more is_part e =
    elim (chosen (count == entry_limit) _ _ (Whole n) e) [
      | inl h ↦ absurd cc
      | inr h ↦ elim (chosen (first == quiet_octet) _ _ (Whole n) h.1) [
        | inl q ↦ absurd (end_loud first is_part.0 (eqb-true first quiet_octet q.0))
        | inr q ↦ of_end (end_in first) q.1
      ]
    ]
  where
    of_outer : (r : Result Outer Fault) → outer_at (octets ++ more) ≡ r → front_by r ≡ Whole n → length (first ∷ octets) < n
    of_outer (Ok (WholeElement m)) o b = omega (arith, whole_is (m + 1) n b, element_longer octets more m is_part.1 (outer_whole (octets ++ more) m o))
    of_outer (Ok (Need m)) o b = absurd cc
    of_outer (Err f) o b = absurd cc

    of_end : (o : Option End) → front_of o (octets ++ more) ≡ Whole n → length (first ∷ octets) < n
    of_end None b = absurd cc
    of_end (Some side) b = of_outer (outer_at (octets ++ more)) refl b

-- a part is not a whole entry
pub part_not_whole : (octets : List ℕ) → IsPart octets → IsWhole octets → ⊥
part_not_whole [] is_part (inl mark) = absurd cc
part_not_whole [] is_part (inr (side, element, joined, raw)) = absurd cc
part_not_whole (first ∷ more) is_part (inl mark) = let same : first ≡ quiet_octet = cc in end_loud first is_part.0 same
part_not_whole (first ∷ more) is_part (inr (side, element, joined, raw)) =
    let same : more ≡ element = cc in
    is_part.1.no_element raw.0 raw.1 element [] raw.2 (same ∙ sym (append-nil element))

-- a part has at most 65,551 octets
pub part_within : (octets : List ℕ) → IsPart octets → length octets ≤ 65551
part_within [] is_part = omega arith
part_within (first ∷ more) is_part = of_outer (outer_at more) refl
  where
    of_outer : (r : Result Outer Fault) → outer_at more ≡ r → length (first ∷ more) ≤ 65551
    of_outer (Ok (WholeElement m)) o =
        let there = outer_whole more m o in
        absurd (is_part.1.no_element there.tag there.content there.element there.rest there.is_element there.joined)
    of_outer (Ok (Need m)) o = omega (arith, need_within more m o)
    of_outer (Err f) o = absurd (is_part.1.no_fault f.reason f.place (outer_fault more f o))
