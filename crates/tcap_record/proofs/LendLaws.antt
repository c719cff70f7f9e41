-- An entry lent from the front of octets.
use Rattle.std.proofs.Common.{◌≡◌, ℕ, ◌+◌, ◌<◌, ◌≤◌, List, [], ◌∷◌, ◌++◌, length, take, drop, Some, None, Ok, refl, sym, ap, subst, ◌∙◌, inl, inr, arith, add-one, append-nil, take-append-drop}
use Rattle.std.proofs.lemmas.List.{take_at}
use Rattle.tcap_ber.specs.declared.element.Outer.{Outer}
use Rattle.tcap_ber.specs.declared.element.Outer.TheVariants.{Whole as WholeElement, Need}
use Rattle.tcap_ber.specs.Reading.{outer_at}
use Rattle.tcap_ber.proofs.Steps.{bind_ok}
use Rattle.tcap_ber.proofs.OuterLaws.{outer_whole, outer_of_element}
use Rattle.tcap_ber.proofs.RoomLaws.{element_within}
use Rattle.tcap_msg.specs.declared.message.Message.{Message}
use Rattle.tcap_msg.specs.Message.{Spells, whole}
use Rattle.tcap_msg.specs.Reading.{message_in, with_len as with_count, in_outer, message_at}
use Rattle.tcap_msg.proofs.MessageLaws.{message_sound}
use Rattle.tcap_record.specs.declared.entry.End.{End}
use Rattle.tcap_record.specs.declared.entry.End.TheVariants as ends
use Rattle.tcap_record.specs.declared.entry.Body.TheVariants.{Good}
use Rattle.tcap_record.specs.declared.entry.Entry.{Entry}
use Rattle.tcap_record.specs.declared.frames.Front.{Front}
use Rattle.tcap_record.specs.declared.frames.Front.TheVariants.{Whole, Part, Refused}
use Rattle.tcap_record.specs.RecordOctets.{octet_of, quiet_octet, IsEntry, entry_limit}
use Rattle.tcap_record.specs.FramingResult.{end_in}
use Rattle.tcap_record.specs.FrontEntry.{front_by, front_at, whole_in}
use Rattle.tcap_record.specs.PartialRecord.{FramerState, IsFramerState, IsWhole, IsFront, IsFramedSoFar, dropped, grown}
use Rattle.tcap_record.specs.LentEntry.{IsLent}
use Rattle.tcap_record.proofs.FrontLaws.{front_whole}
use Rattle.tcap_record.proofs.FramingLaws.{end_is}
use Rattle.tcap_record.proofs.FedLaws.{fed_grown, fed_dropped}

-- a whole entry has at most 65,546 octets
pub whole_within : (octets : List ℕ) → IsWhole octets → length octets ≤ 65546
whole_within octets (inl mark) = omega (arith, ap length mark)
whole_within octets (inr (side, element, joined, raw)) = omega (arith, ap length joined, element_within raw.0 raw.1 element raw.2)

-- after the octet of an end, a whole element makes a whole entry
sent_front : (side : End) (element : List ℕ) (n : ℕ) → outer_at element ≡ Ok (WholeElement n) → front_at 0 (octet_of side ∷ element) ≡ Whole (n + 1)
sent_front ends.A element n e = ap front_by e
sent_front ends.B element n e = ap front_by e

-- the front of octets that begin with a whole entry
whole_front : (octets : List ℕ) (n : ℕ) → IsWhole (take n octets) → (m : ℕ) × (front_at 0 octets ≡ Whole m)
whole_front octets n w = by_form w
  where
    all : (front : List ℕ) → take n octets ≡ front → octets ≡ front ++ drop n octets
    all front e = sym (take-append-drop n octets) ∙ ap (λ (x : List ℕ). x ++ drop n octets) e

    by_form : IsWhole (take n octets) → (m : ℕ) × (front_at 0 octets ≡ Whole m)
    by_form (inl mark) = (1, ap (front_at 0) (all (quiet_octet ∷ []) mark))
    by_form (inr (side, element, joined, raw)) = (
      length element + 1,
      ap (front_at 0) (all (octet_of side ∷ element) joined)
          ∙ sent_front side (element ++ drop n octets) (length element) (outer_of_element raw.0 raw.1 element (drop n octets) raw.2),
    )

-- if no whole entry is found, none begins the octets
pub none_whole : (octets : List ℕ) (n : ℕ) → whole_in (front_at 0 octets) ≡ None → IsWhole (take n octets) → ⊥
none_whole octets n e w = let there = whole_front octets n w in let no : Some there.0 ≡ None = sym (ap whole_in there.1) ∙ e in absurd cc

-- a whole entry that is found begins the octets
pub found_whole : (octets : List ℕ) (n : ℕ) → whole_in (front_at 0 octets) ≡ Some n → (n ≤ length octets) × IsWhole (take n octets)
found_whole octets n e = of_front (front_at 0 octets) refl e
  where
    of_front : (front : Front) → front_at 0 octets ≡ front → whole_in front ≡ Some n → (n ≤ length octets) × IsWhole (take n octets)
    of_front (Whole m) there same =
        let found = front_whole 0 m octets there in
        let is : m ≡ n = cc in
        (omega (arith, found.0, is), subst (λ (k : ℕ). IsWhole (take k octets)) is found.2)
    of_front Part there same = absurd cc
    of_front (Refused reason place) there same = absurd cc

-- the element of a message is whole
outer_there : (octets : List ℕ) (x : Message × ℕ) → message_at octets ≡ Ok x → outer_at octets ≡ Ok (WholeElement x.1)
unfolding message_at
outer_there octets x e = let a = bind_ok (outer_at octets) (in_outer octets) x e in of_outer a.0 a.1 a.2
  where
    of_outer : (o : Outer) → outer_at octets ≡ Ok o → in_outer octets o ≡ Ok x → outer_at octets ≡ Ok (WholeElement x.1)
    of_outer (WholeElement n) there within =
        let a = bind_ok (message_in (whole octets)) (with_count n) x within in
        let same : n ≡ x.1 = cc in
        there ∙ ap (λ (k : ℕ). Ok (WholeElement k)) same
    of_outer (Need n) there within = absurd cc

-- a message after the octet of an end is an entry
pub good_lent : (place first n : ℕ) (element : List ℕ) (side : End) (m : Message) → end_in first ≡ Some side → message_at element ≡ Ok (m, n)
    → IsLent place (first ∷ element) (record { side = Some side; place = place + 1; body = Good m }) (n + 1)
good_lent place first n element side m e read =
    let outer = outer_there element (m, n) read in
    let found = front_whole 0 (n + 1) (first ∷ element) (ap (λ (octet : ℕ). front_at 0 (octet ∷ element)) (end_is first side e) ∙ sent_front side element n outer) in
    let there = outer_whole element n outer in
    let message = message_sound element (m, n) read in
    let front : take n element ≡ message.0 = ap (take n) message.2 ∙ take_at message.0 message.1 n (sym message.3) in
    let same : take n element ≡ there.element = ap (take n) there.joined ∙ take_at there.element there.rest n (sym there.len) in
    let joined : take (n + 1) (first ∷ element) ≡ octet_of side ∷ take n element =
    ap (λ (k : ℕ). take k (first ∷ element)) (add-one n) ∙ ap (λ (octet : ℕ). octet ∷ take n element) (end_is first side e) in
    record {
      most = found.0;
      is_whole = found.2;
      is_entry = inl (record {
        side = side;
        element = take n element;
        side_is = refl;
        joined = joined ∙ ap (λ (x : List ℕ). octet_of side ∷ x) (sym (append-nil (take n element)));
        raw = (there.tag, there.content, rw same there.is_element);
        place_is = refl;
        body = subst (Spells m) (sym front) message.4;
      });
    }

-- ---- an entry that is passed

-- after it, the record may have one more entry
pub held_passed : (h : FramerState) (len : ℕ) → h.fault ≡ None → h.octets ≡ [] → h.count < entry_limit → IsFramerState (record { octets = h.octets; place = h.place + len; count = h.count + 1; fault = h.fault })
held_passed h len sound nothing room = rw (sound, nothing) (omega (arith, room), ((λ some. absurd (some refl)), inl tt))

-- the octets taken are one more entry
pub fed_passed : (returned : List ℕ) (entries : List Entry) (h : FramerState) (entry : Entry) (octets : List ℕ) → h.fault ≡ None → h.octets ≡ [] → IsEntry h.place entry octets [] → IsFramedSoFar returned entries h
    → IsFramedSoFar (returned ++ octets) (entries ++ entry ∷ []) (record { octets = h.octets; place = h.place + length octets; count = h.count + 1; fault = h.fault })
fed_passed returned entries h entry octets sound nothing there fed =
    let all : h.octets ++ octets ≡ octets = ap (λ (x : List ℕ). x ++ octets) nothing in
    let front : IsFront entry (grown h octets None) = subst (λ (x : List ℕ). IsEntry h.place entry x []) (sym all) there in
    let after : IsFramedSoFar (returned ++ octets) (entries ++ entry ∷ []) (dropped (grown h octets None)) =
    fed_dropped (returned ++ octets) entries (grown h octets None) entry front (fed_grown returned entries h octets None fed) in
    let last : (x : List ℕ) → x ≡ octets → IsFramedSoFar (returned ++ octets) (entries ++ entry ∷ []) (record { octets = []; place = h.place + length x; count = h.count + 1; fault = None })
    → IsFramedSoFar (returned ++ octets) (entries ++ entry ∷ []) (record { octets = []; place = h.place + length octets; count = h.count + 1; fault = None }) =
    λ x e f. subst (λ (y : List ℕ). IsFramedSoFar (returned ++ octets) (entries ++ entry ∷ []) (record { octets = []; place = h.place + length y; count = h.count + 1; fault = None })) e f in
    rw (sound, nothing) (last (h.octets ++ octets) all after)
