-- The octets held of a record: the entry at the front, whole or in part.
use Rattle.std.proofs.Common.{◌≡◌, ◌≢◌, ℕ, ◌+◌, ◌≤◌, List, [], ◌∷◌, length, drop, append-nil, Option, Some, None, Result, Ok, Err, refl, sym, ap, ◌∙◌, inl, inr, arith}
use Rattle.std.specs.Prelude.{slice_index, Bool, true, false}
use Rattle.std.proofs.lemmas.List.{length-append}
use Rattle.tcap_ber.specs.declared.fault.Fault.{Fault}
use Rattle.tcap_ber.specs.declared.element.Outer.{Outer}
use Rattle.tcap_ber.specs.declared.element.Outer.TheVariants.{Whole, Need}
use Rattle.tcap_ber.specs.Reading.{Gives, outer_at}
use Rattle.tcap_ber.proofs.OuterLaws.{outer_whole}
use Rattle.tcap_record.specs.declared.entry.End.{End}
use Rattle.tcap_record.specs.declared.entry.End.TheVariants as ends
use Rattle.tcap_record.specs.declared.entry.Body.{Body}
use Rattle.tcap_record.specs.declared.fault.FeedFault.{FeedFault}
use Rattle.tcap_record.specs.RecordOctets.{octet_of, quiet_octet, IsEntry}
use Rattle.tcap_record.specs.FramingResult.{end_in, body_at}
use Rattle.tcap_record.specs.PartialRecord.{IsPart, IsWhole}
use Rattle.tcap_record.specs.FrontEntry.{IsAnswerWithin}
use Rattle.tcap_record.proofs.FramingLaws.{outer_fault_within, element_is}
use Rattle.tcap_record.proofs.FrontLaws.{part_not_whole}

-- the result of framing few octets is within their limit
pub answer_within : (octets : List ℕ) (read r : Result Outer Fault) → length octets ≤ 65551 → read ≡ outer_at octets
    → Gives (λ (x : Outer). x) r read → IsAnswerWithin r
answer_within octets read (Ok (Whole n)) few e gives =
    let there = outer_whole octets n (sym e ∙ gives) in
    omega (arith, there.len, ap length there.joined, length-append there.element there.rest)
answer_within octets read (Ok (Need n)) few e gives = tt
answer_within octets read (Err f) few e gives = omega (arith, outer_fault_within octets f (sym e ∙ gives))

-- `end_in` is the inverse of `octet_of`
pub end_there : (side : End) → end_in (octet_of side) ≡ Some side
end_there ends.A = refl
end_there ends.B = refl

-- an entry that is not a quiet mark is given by its end and its element
pub entry_whole : (place : ℕ) (octets : List ℕ) (side : Option End) (body : Body) → IsWhole octets
    → slice_index octets 0 ≢ quiet_octet → side ≡ end_in (slice_index octets 0)
    → body ≡ body_at (record { octets = drop 1 octets; place = place + 1 })
    → IsEntry place (record { side = side; place = place + 1; body = body }) octets []
entry_whole place octets side body (inl quiet) loud e b = absurd (loud (ap (λ (x : List ℕ). slice_index x 0) quiet))
entry_whole place octets side body (inr (end, element, joined, raw)) loud e b =
    let first : slice_index octets 0 ≡ octet_of end = ap (λ (x : List ℕ). slice_index x 0) joined in
    let behind : drop 1 octets ≡ element = ap (λ (x : List ℕ). drop 1 x) joined in
    inl (record {
      side = end;
      element = element;
      side_is = e ∙ ap end_in first ∙ end_there end;
      joined = joined ∙ ap (λ (x : List ℕ). octet_of end ∷ x) (sym (append-nil element));
      raw = raw;
      place_is = refl;
      body = rw (b, behind) (element_is (record { octets = element; place = place + 1 }) raw);
    })

-- ---- whether a whole entry is held

pub none_there : (o : Option FeedFault) → ((f : FeedFault) → o ≡ Some f → ⊥) → o ≡ None
none_there None none = refl
none_there (Some f) none = absurd (none f refl)

-- if a part is held, the flag of a whole entry is false
pub not_told : (returned : Bool) (octets : List ℕ) → (returned ≡ true → IsWhole octets) → IsPart octets → returned ≡ false
not_told true octets whole is_part = absurd (part_not_whole octets is_part (whole refl))
not_told false octets whole is_part = refl

-- if a whole entry is held, the flag is true
pub is_told : (returned : Bool) (octets : List ℕ) → (returned ≡ false → IsPart octets) → IsWhole octets → returned ≡ true
is_told true octets is_part whole = refl
is_told false octets is_part whole = absurd (part_not_whole octets (is_part refl) whole)
