-- The digits of octets, one piece after the other.
use Rattle.std.proofs.Common.{◌≡◌, ℕ, List, [], ◌∷◌, ◌++◌, length, take, drop, ◌-◌, ◌≤◌, refl, sym, ap, ◌∙◌, append_assoc, append-nil, slice_index, ◌/◌, ◌%◌, arith}
use Rattle.std.proofs.Math.Dec.{leb}
use Rattle.std.proofs.lemmas.Bool.{leb-true}
use Rattle.std.specs.Str.{IsUtf8}
use Rattle.std.proofs.lemmas.List.Sums.{AllPass-from_list_all}
use Rattle.std.proofs.lemmas.Str.{IsUtf8-from_ascii}
use Rattle.std.proofs.lemmas.Str.Ascii.{IsAscii-from_all}
use Rattle.hex.proofs.HexLemmas.{IsAscii-encode_with}
use Rattle.hex.specs.Hex.{encode_with, encode_lower, lower_digits}
use Rattle.tcap_record.proofs.FeederLaws.{rest_is}

-- the digits of two pieces
encode_with-append : (digits front rest : List ℕ) → encode_with digits (front ++ rest) ≡ encode_with digits front ++ encode_with digits rest
unfolding encode_with
encode_with-append digits [] rest = refl
encode_with-append digits (octet ∷ front) rest =
    ap (λ l. slice_index digits (octet / 16) ∷ slice_index digits (octet % 16) ∷ l) (encode_with-append digits front rest)

-- the text after appending the digits of one more piece
pub piece_more : (all old new piece rest left : List ℕ) → left ≡ piece ++ rest → new ≡ old ++ encode_lower piece
    → old ++ encode_lower left ≡ all → new ++ encode_lower rest ≡ all
piece_more all old new piece rest left parts grew so_far =
    ap (λ l. l ++ encode_lower rest) grew ∙ append_assoc old _ _
    ∙ ap (λ l. old ++ l) (sym (encode_with-append lower_digits piece rest) ∙ ap encode_lower (sym parts))
    ∙ so_far

-- the text when no piece is left
pub none_left : (all made rest : List ℕ) → length rest ≡ 0 → made ++ encode_lower rest ≡ all → made ≡ all
unfolding encode_with
none_left all made [] none so_far = sym (append-nil made) ∙ so_far
none_left all made (octet ∷ rest) none so_far = cc none

-- the text after appending the two digits of an octet, each as a character
pub octet_more : (old mid new high low : List ℕ) (octet a b : ℕ) → mid ≡ old ++ high → high ≡ a ∷ [] → a ≡ slice_index lower_digits (octet / 16)
    → new ≡ mid ++ low → low ≡ b ∷ [] → b ≡ slice_index lower_digits (octet % 16) → new ≡ old ++ encode_lower (octet ∷ [])
unfolding encode_with
octet_more old mid new high low octet a b first high_is a_is second low_is b_is =
    second ∙ ap (λ l. l ++ low) first ∙ append_assoc old high low
    ∙ ap (λ l. old ++ (l ++ low)) (high_is ∙ ap (λ (d : ℕ). d ∷ []) a_is)
    ∙ ap (λ l. old ++ (slice_index lower_digits (octet / 16) ∷ l)) (low_is ∙ ap (λ (d : ℕ). d ∷ []) b_is)

-- octets are the first one and those after it
pub first_then : (octets : List ℕ) → 1 ≤ length octets → octets ≡ (slice_index octets 0 ∷ []) ++ take (length octets - 1) (drop 1 octets)
first_then [] some = absurd (omega (arith, some))
first_then (octet ∷ more) some = ap (λ (l : List ℕ). octet ∷ l) (sym (rest_is (octet ∷ more) 1))

-- digits are ASCII, so they are text
pub digits_are_text : (octets : List ℕ) → IsUtf8 (encode_lower octets)
digits_are_text octets =
    let passed = AllPass-from_list_all (λ digit. leb digit 127) lower_digits refl in
    let ascii = IsAscii-from_all lower_digits (λ k d within. omega (arith, leb-true _ 127 (passed k d within))) in
    IsUtf8-from_ascii (encode_lower octets) (IsAscii-encode_with lower_digits octets ascii)
