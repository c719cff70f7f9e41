-- A fault of octets stays if more octets follow.
use Rattle.std.proofs.Common.{ℕ, List, ◌∷◌, ◌++◌, ap, ◌∙◌, inl, inr, append_assoc}
use Rattle.tcap_ber.specs.declared.fault.Reason.{Reason}
use Rattle.tcap_ber.specs.declared.fault.Reason.TheVariants as reasons
use Rattle.tcap_ber.specs.Header.{HasLongTag, HasLengthOctet, HasLongLength}
use Rattle.tcap_ber.specs.WalkPlaces.{Level, walked, IsWrongThere, IsWalkFault}

pub long_tag_stays : (octets more : List ℕ) → HasLongTag octets → HasLongTag (octets ++ more)
long_tag_stays octets more h = record {
  first = h.first;
  four = h.four;
  rest = h.rest ++ more;
  is_long = h.is_long;
  are_four = h.are_four;
  go_on = h.go_on;
  joined = ap (λ (x : List ℕ). x ++ more) h.joined ∙ append_assoc (h.first ∷ h.four) h.rest more;
}

abbrev pub length_octet_stays : (octet : ℕ) (octets more : List ℕ) (place : ℕ) → HasLengthOctet octet octets place → HasLengthOctet octet (octets ++ more) place
length_octet_stays octet octets more place h = record {
  tag = h.tag;
  rest = h.rest ++ more;
  is_tag = h.is_tag;
  place_is = h.place_is;
  joined = ap (λ (x : List ℕ). x ++ more) h.joined ∙ append_assoc h.tag (octet ∷ h.rest) more;
}

pub long_length_stays : (octets more : List ℕ) → HasLongLength octets → HasLongLength (octets ++ more)
long_length_stays octets more h = record {
  tag = h.tag;
  length_octets = h.length_octets;
  rest = h.rest ++ more;
  count = h.count;
  is_tag = h.is_tag;
  is_length = h.is_length;
  is_over = h.is_over;
  joined = ap (λ (x : List ℕ). x ++ more) h.joined ∙ append_assoc (h.tag ++ h.length_octets) h.rest more;
}

wrong_stays : (levels : List Level) (rest more : List ℕ) (reason : Reason) (place : ℕ) → IsWrongThere levels rest reason place → IsWrongThere levels (rest ++ more) reason place
wrong_stays levels rest more reasons.TagForm place h = (long_tag_stays rest more h.0, h.1)
wrong_stays levels rest more reasons.LengthForm place (octet, offset, form, h, place_is) = (octet, offset, form, length_octet_stays octet rest more offset h, place_is)
wrong_stays levels rest more reasons.Indefinite place (offset, h, primitive, place_is) = (offset, length_octet_stays 0x80 rest more offset h, primitive, place_is)
wrong_stays levels rest more reasons.TooDeep place (offset, h, constructed, full, place_is) = (offset, length_octet_stays 0x80 rest more offset h, constructed, full, place_is)
wrong_stays levels rest more reasons.TooLong place (inl h) = inl (long_length_stays rest more h.0, h.1)
wrong_stays levels rest more reasons.TooLong place (inr (some, first, (front, behind, count, joined, announced, over))) =
    inr (some, first, (front, behind ++ more, count, ap (λ (x : List ℕ). x ++ more) joined ∙ append_assoc front behind more, announced, over))
wrong_stays levels rest more _ place h = absurd h

pub walk_fault_stays : (octets more : List ℕ) (reason : Reason) (place : ℕ) → IsWalkFault octets reason place → IsWalkFault (octets ++ more) reason place
walk_fault_stays octets more reason place (levels, rest, w, wrong) = (
  levels,
  rest ++ more,
  record { left = w.left; are_open = w.are_open; is_within = w.is_within; joined = ap (λ (x : List ℕ). x ++ more) w.joined ∙ append_assoc (walked levels) rest more },
  wrong_stays levels rest more reason place wrong,
)
