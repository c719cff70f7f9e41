-- The contents and places of a record's entries.
use Rattle.std.proofs.Common.{◌≡◌, ℕ, ◌+◌, ◌-◌, ◌<◌, ◌≤◌, List, [], ◌∷◌, ◌++◌, length, Some, None, Result, Ok, Err, refl, sym, ap, subst, ◌∙◌, inl, inr, arith}
use Rattle.std.specs.Prelude.{◌==◌}
use Rattle.std.proofs.lemmas.Bool.{eqb-true}
use Rattle.std.proofs.lemmas.List.{length-append, append-nil, nil_from_length}
use Rattle.tcap_ber.specs.declared.fault.Fault.{Fault}
use Rattle.tcap_ber.specs.declared.element.Outer.TheVariants.{Whole}
use Rattle.tcap_ber.specs.Element.{IsRaw}
use Rattle.tcap_ber.specs.Span.{Span}
use Rattle.tcap_ber.specs.Reading.{◌>>=◌, outer_at}
use Rattle.tcap_ber.proofs.Steps.{chosen, bind_ok, ok_is}
use Rattle.tcap_ber.proofs.OuterLaws.{walk_fault_within, outer_of_element, outer_fault}
use Rattle.tcap_msg.specs.declared.message.Message.{Message}
use Rattle.tcap_msg.specs.Message.{Spells, whole}
use Rattle.tcap_msg.specs.Reading.{message_in, with_len as with_count, in_outer, message_at}
use Rattle.tcap_record.specs.declared.entry.End.{End}
use Rattle.tcap_record.specs.declared.entry.End.TheVariants as ends
use Rattle.tcap_record.specs.declared.entry.Entry.{Entry}
use Rattle.tcap_record.specs.declared.fault.FeedReason.{FeedReason}
use Rattle.tcap_record.specs.declared.fault.FeedReason.TheVariants as feed
use Rattle.tcap_record.specs.RecordOctets.{octet_of, IsBody, IsEntry, FramedFrom, IsEndOctet, IsRestFault}
use Rattle.tcap_record.specs.FramingResult.{end_in, body_of, body_at}
use Rattle.tcap_record.specs.Reading.{EndsAs}
use Rattle.tcap_msg.proofs.MessageLaws.{message_sound, message_complete, message_refused}
use Rattle.tcap_msg.proofs.MessageWithin.{faulty_within}

-- ---- places

pub outer_fault_within : (octets : List ℕ) (f : Fault) → outer_at octets ≡ Err f → f.place ≤ length octets
outer_fault_within octets f e = omega (arith, walk_fault_within octets f.reason f.place (outer_fault octets f e))

pub message_fault_within : (octets : List ℕ) (f : Fault) → message_at octets ≡ Err f → f.place ≤ length octets
message_fault_within octets f e = faulty_within octets f.reason f.place (message_refused octets f e)

-- ---- bodies

-- a message that begins a whole element is all of it
all_of_it : (octets : List ℕ) (x : Message × ℕ) → IsRaw octets → message_at octets ≡ Ok x → x.1 ≡ length octets
unfolding message_at
all_of_it octets x raw e =
    let there : outer_at octets ≡ Ok (Whole (length octets)) =
    ap outer_at (sym (append-nil octets)) ∙ outer_of_element raw.0 raw.1 octets [] raw.2 in
    let within : in_outer octets (Whole (length octets)) ≡ Ok x = sym (ap (λ r. r >>= in_outer octets) there) ∙ e in
    let a = bind_ok (message_in (whole octets)) (with_count (length octets)) x within in
    let same : (a.0.0, length octets) ≡ x = ok_is (a.0.0, length octets) x a.2 in
    sym (ap (λ (y : Message × ℕ). y.1) same)

spelled_whole : (octets front rest : List ℕ) (m : Message) → octets ≡ front ++ rest → length octets ≡ length front → Spells m front
    → Spells m octets
spelled_whole octets front rest m joined len spelled =
    let nothing : rest ≡ [] = nil_from_length rest (omega (arith, ap length joined, length-append front rest, len)) in
    subst (Spells m) (sym (joined ∙ ap (λ (y : List ℕ). front ++ y) nothing ∙ append-nil front)) spelled

body_is : (place : ℕ) (octets : List ℕ) (r : Result (Message × ℕ) Fault) → IsRaw octets → message_at octets ≡ r
    → IsBody (body_of place r) place octets
body_is place octets (Ok x) raw e =
    let a = message_sound octets x e in
    spelled_whole octets a.0 a.1 x.0 a.2 (sym (all_of_it octets x raw e) ∙ a.3) a.4
body_is place octets (Err f) raw e = (λ m spelled. never m spelled, (f.place, refl, message_refused octets f e))
  where
    never : (m : Message) → Spells m octets → ⊥
    never m spelled =
        let there : message_at octets ≡ Ok (m, length octets) =
        ap message_at (sym (append-nil octets)) ∙ message_complete m octets [] spelled in
        cc

pub element_is : (s : Span) → IsRaw s.octets → IsBody (body_at s) s.place s.octets
unfolding body_at
element_is s raw = body_is s.place s.octets (message_at s.octets) raw refl

-- ---- entries

pub end_is : (octet : ℕ) (side : End) → end_in octet ≡ Some side → octet ≡ octet_of side
end_is octet side e =
    elim (chosen (octet == 0x41) _ _ (Some side) e) [
      | inl h ↦ let k : ends.A ≡ side = cc in eqb-true octet 0x41 h.0 ∙ ap octet_of k
      | inr h ↦ elim (chosen (octet == 0x42) _ _ (Some side) h.1) [
        | inl i ↦ let k : ends.B ≡ side = cc in eqb-true octet 0x42 i.0 ∙ ap octet_of k
        | inr i ↦ absurd cc
      ]
    ]

pub is_end : (side : End) → IsEndOctet (octet_of side)
is_end ends.A = inl refl
is_end ends.B = inr refl

pub no_end : (octet : ℕ) → end_in octet ≡ None → IsEndOctet octet → ⊥
no_end octet e (inl h) = let k : end_in octet ≡ Some ends.A = rw h refl in cc
no_end octet e (inr h) = let k : end_in octet ≡ Some ends.B = rw h refl in cc

-- An entry at the front of a window, and the window after it.
pub record IsEntryAt (s : Span) (entry : Entry) (rest : Span) : Type 0 where
  pub is_entry : IsEntry s.place entry s.octets rest.octets
  pub behind : rest.place + length rest.octets ≡ s.place + length s.octets
  pub fewer : length rest.octets < length s.octets

-- ---- the end of the octets

not_reader : (count : ℕ) (rest : List ℕ) (offset : ℕ) → IsRestFault count rest feed.Read offset → ⊥
not_reader count [] offset h = h
not_reader count (first ∷ more) offset h = h

not_hex : (count : ℕ) (rest : List ℕ) (offset : ℕ) → IsRestFault count rest feed.BadHexLine offset → ⊥
not_hex count [] offset h = h
not_hex count (first ∷ more) offset h = h

not_memory : (count : ℕ) (rest : List ℕ) (offset : ℕ) → IsRestFault count rest feed.Memory offset → ⊥
not_memory count [] offset h = h
not_memory count (first ∷ more) offset h = h

pub ends_as : (count total : ℕ) (rest : List ℕ) (reason : FeedReason) (place offset : ℕ) → place ≡ total - length rest + offset
    → IsRestFault count rest reason offset → EndsAs count total rest reason place
ends_as count total rest (feed.Element reason) place offset at h = (offset, at, h)
ends_as count total rest feed.BadEnd place offset at h = (offset, at, h)
ends_as count total rest feed.CutRecord place offset at h = (offset, at, h)
ends_as count total rest feed.TooManyEntries place offset at h = (offset, at, h)
ends_as count total rest feed.BadHexLine place offset at h = absurd (not_hex count rest offset h)
ends_as count total rest feed.Read place offset at h = absurd (not_reader count rest offset h)
ends_as count total rest feed.Memory place offset at h = absurd (not_memory count rest offset h)

-- ---- entries, one after the other

-- the octets after an entry are fewer
pub entry_shorter : (place : ℕ) (entry : Entry) (octets others : List ℕ) → IsEntry place entry octets others
    → length others < length octets
entry_shorter place entry octets others (inl sent) = omega (arith, ap length sent.joined, length-append sent.element others)
entry_shorter place entry octets others (inr mark) = omega (arith, ap length mark.joined)

pub framed_more : (entries : List Entry) (place : ℕ) (octets : List ℕ) (s : Span) (entry : Entry) (rest : Span)
    → FramedFrom place entries octets s.octets → s.place + length s.octets ≡ place + length octets
    → IsEntryAt s entry rest → FramedFrom place (entries ++ entry ∷ []) octets rest.octets
framed_more [] place octets s entry rest so_far sum there =
    let at : s.place ≡ place = omega (arith, sum, ap length so_far) in (
      rest.octets,
      subst (λ (x : List ℕ). IsEntry place entry x rest.octets) (sym so_far)
          (subst (λ (n : ℕ). IsEntry n entry s.octets rest.octets) at there.is_entry),
      refl,
    )
framed_more (first ∷ entries) place octets s entry rest (others, is_entry, framed) sum there =
    let left : s.place + length s.octets ≡ place + (length octets - length others) + length others =
    omega (arith, sum, entry_shorter place first octets others is_entry) in
    (others, is_entry, framed_more entries (place + (length octets - length others)) others s entry rest framed left there)
