-- All octets taken of a record remain the dropped entries and the octets held.
use Rattle.std.proofs.Common.{◌≡◌, ℕ, ◌+◌, ◌-◌, List, [], ◌∷◌, ◌++◌, length, take, Option, None, ap, subst, ◌∙◌, inl, inr, arith, append_assoc}
use Rattle.std.proofs.lemmas.List.{length-append}
use Rattle.tcap_record.specs.declared.entry.Entry.{Entry}
use Rattle.tcap_record.specs.declared.fault.FeedFault.{FeedFault}
use Rattle.tcap_record.specs.RecordOctets.{octet_of, IsEntry, FramedFrom}
use Rattle.tcap_record.specs.PartialRecord.{FramerState, IsFramedSoFar, IsFront, grown, dropped}
use Rattle.tcap_record.proofs.FramingLaws.{IsEntryAt, entry_shorter, framed_more}

-- an entry stays at the front if more octets follow
entry_on : (place : ℕ) (entry : Entry) (octets others more : List ℕ) → IsEntry place entry octets others
    → IsEntry place entry (octets ++ more) (others ++ more)
entry_on place entry octets others more (inl sent) = inl (record {
  side = sent.side;
  element = sent.element;
  side_is = sent.side_is;
  joined = ap (λ (x : List ℕ). x ++ more) sent.joined ∙ append_assoc (octet_of sent.side ∷ sent.element) others more;
  raw = sent.raw;
  place_is = sent.place_is;
  body = sent.body;
})
entry_on place entry octets others more (inr mark) = inr (record {
  side_is = mark.side_is;
  body_is = mark.body_is;
  joined = ap (λ (x : List ℕ). x ++ more) mark.joined;
  place_is = mark.place_is;
})

-- with more octets after them, octets are the same entries and a longer rest
pub framed_on : (place : ℕ) (entries : List Entry) (octets rest more : List ℕ) → FramedFrom place entries octets rest
    → FramedFrom place entries (octets ++ more) (rest ++ more)
framed_on place [] octets rest more framed = ap (λ (x : List ℕ). x ++ more) framed
framed_on place (entry ∷ entries) octets rest more (others, is_entry, framed) =
    let at : place + (length octets - length others) ≡ place + (length (octets ++ more) - length (others ++ more)) =
    omega (arith, length-append octets more, length-append others more) in (
      others ++ more,
      entry_on place entry octets others more is_entry,
      subst (λ (n : ℕ). FramedFrom n entries (others ++ more) (rest ++ more)) at
          (framed_on (place + (length octets - length others)) entries others rest more framed),
    )

pub fed_grown : (octets : List ℕ) (entries : List Entry) (h : FramerState) (more : List ℕ) (fault : Option FeedFault)
    → IsFramedSoFar octets entries h → IsFramedSoFar (octets ++ more) entries (grown h more fault)
fed_grown octets entries h more fault fed = record {
  framed = framed_on 0 entries octets h.octets more fed.framed;
  count_is = fed.count_is;
  place_is = omega (arith, fed.place_is, length-append h.octets more, length-append octets more);
}

pub fed_dropped : (octets : List ℕ) (entries : List Entry) (h : FramerState) (entry : Entry) → IsFront entry h → IsFramedSoFar octets entries h
    → IsFramedSoFar octets (entries ++ entry ∷ []) (dropped h)
fed_dropped octets entries h entry front fed =
    let there : IsEntryAt (record { octets = h.octets; place = h.place }) entry
    (record { octets = []; place = h.place + length h.octets }) =
    record { is_entry = front; behind = omega arith; fewer = entry_shorter h.place entry h.octets [] front } in
    record {
      framed = framed_more entries 0 octets (record { octets = h.octets; place = h.place }) entry
          (record { octets = []; place = h.place + length h.octets }) fed.framed (omega (arith, fed.place_is)) there;
      count_is = omega (arith, fed.count_is, length-append entries (entry ∷ []));
      place_is = omega (arith, fed.place_is);
    }

-- `IsFramedSoFar` after dropping the entry at the front
pub fed_emptied : (octets : List ℕ) (entries : List Entry) (h : FramerState) (entry : Entry) (left : List ℕ) (len : ℕ) → left ≡ []
    → len ≡ length h.octets → h.fault ≡ None → IsFront entry h → IsFramedSoFar octets entries h
    → IsFramedSoFar octets (entries ++ entry ∷ []) (record { octets = left; place = h.place + len; count = h.count + 1; fault = h.fault })
fed_emptied octets entries h entry left len none same sound front fed =
    rw (none, same, sound) (fed_dropped octets entries h entry front fed)

pub fed_taken : (octets : List ℕ) (entries : List Entry) (h : FramerState) (piece new : List ℕ) (n : ℕ) (fault : Option FeedFault)
    → new ≡ h.octets ++ take n piece → IsFramedSoFar octets entries h
    → IsFramedSoFar (octets ++ take n piece) entries (record { octets = new; place = h.place; count = h.count; fault = fault })
fed_taken octets entries h piece new n fault grown fed = rw grown (fed_grown octets entries h (take n piece) fault fed)
