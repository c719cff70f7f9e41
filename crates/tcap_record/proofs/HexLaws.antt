-- Digits that are read by a table of their values.
use Rattle.std.proofs.Common.{◌≡◌, ℕ, zero, suc, ◌+◌, ◌*◌, ◌<◌, ◌≤◌, Bool, true, ◌&&◌, ◌==◌, ◌⊎◌, inl, inr, List, [], ◌∷◌, Option, Some, None, unwrap_or, Result, Ok, Err, slice_index, refl, arith}
use Rattle.std.proofs.lemmas.Bool.{and_parts, cases_lt, eqb-true}
use Rattle.hex.specs.Hex.{digit_or_error, hex_digit_value, pair_value, ◌>>=◌}
use Rattle.hex.specs.declared.error.FromHexError.{FromHexError}

-- the value of each digit by its octet, or 255 if the octet is not a digit
unfoldable pub values : List ℕ
values =
    255 ∷ 255 ∷ 255 ∷ 255 ∷ 255 ∷ 255 ∷ 255 ∷ 255 ∷ 255 ∷ 255 ∷ 255 ∷ 255 ∷ 255 ∷ 255 ∷ 255 ∷ 255 ∷
    255 ∷ 255 ∷ 255 ∷ 255 ∷ 255 ∷ 255 ∷ 255 ∷ 255 ∷ 255 ∷ 255 ∷ 255 ∷ 255 ∷ 255 ∷ 255 ∷ 255 ∷ 255 ∷
    255 ∷ 255 ∷ 255 ∷ 255 ∷ 255 ∷ 255 ∷ 255 ∷ 255 ∷ 255 ∷ 255 ∷ 255 ∷ 255 ∷ 255 ∷ 255 ∷ 255 ∷ 255 ∷
    0 ∷ 1 ∷ 2 ∷ 3 ∷ 4 ∷ 5 ∷ 6 ∷ 7 ∷ 8 ∷ 9 ∷ 255 ∷ 255 ∷ 255 ∷ 255 ∷ 255 ∷ 255 ∷
    255 ∷ 10 ∷ 11 ∷ 12 ∷ 13 ∷ 14 ∷ 15 ∷ 255 ∷ 255 ∷ 255 ∷ 255 ∷ 255 ∷ 255 ∷ 255 ∷ 255 ∷ 255 ∷
    255 ∷ 255 ∷ 255 ∷ 255 ∷ 255 ∷ 255 ∷ 255 ∷ 255 ∷ 255 ∷ 255 ∷ 255 ∷ 255 ∷ 255 ∷ 255 ∷ 255 ∷ 255 ∷
    255 ∷ 10 ∷ 11 ∷ 12 ∷ 13 ∷ 14 ∷ 15 ∷ 255 ∷ 255 ∷ 255 ∷ 255 ∷ 255 ∷ 255 ∷ 255 ∷ 255 ∷ 255 ∷
    255 ∷ 255 ∷ 255 ∷ 255 ∷ 255 ∷ 255 ∷ 255 ∷ 255 ∷ 255 ∷ 255 ∷ 255 ∷ 255 ∷ 255 ∷ 255 ∷ 255 ∷ 255 ∷
    255 ∷ 255 ∷ 255 ∷ 255 ∷ 255 ∷ 255 ∷ 255 ∷ 255 ∷ 255 ∷ 255 ∷ 255 ∷ 255 ∷ 255 ∷ 255 ∷ 255 ∷ 255 ∷
    255 ∷ 255 ∷ 255 ∷ 255 ∷ 255 ∷ 255 ∷ 255 ∷ 255 ∷ 255 ∷ 255 ∷ 255 ∷ 255 ∷ 255 ∷ 255 ∷ 255 ∷ 255 ∷
    255 ∷ 255 ∷ 255 ∷ 255 ∷ 255 ∷ 255 ∷ 255 ∷ 255 ∷ 255 ∷ 255 ∷ 255 ∷ 255 ∷ 255 ∷ 255 ∷ 255 ∷ 255 ∷
    255 ∷ 255 ∷ 255 ∷ 255 ∷ 255 ∷ 255 ∷ 255 ∷ 255 ∷ 255 ∷ 255 ∷ 255 ∷ 255 ∷ 255 ∷ 255 ∷ 255 ∷ 255 ∷
    255 ∷ 255 ∷ 255 ∷ 255 ∷ 255 ∷ 255 ∷ 255 ∷ 255 ∷ 255 ∷ 255 ∷ 255 ∷ 255 ∷ 255 ∷ 255 ∷ 255 ∷ 255 ∷
    255 ∷ 255 ∷ 255 ∷ 255 ∷ 255 ∷ 255 ∷ 255 ∷ 255 ∷ 255 ∷ 255 ∷ 255 ∷ 255 ∷ 255 ∷ 255 ∷ 255 ∷ 255 ∷
    255 ∷ 255 ∷ 255 ∷ 255 ∷ 255 ∷ 255 ∷ 255 ∷ 255 ∷ 255 ∷ 255 ∷ 255 ∷ 255 ∷ 255 ∷ 255 ∷ 255 ∷ 255 ∷
    255 ∷ 255 ∷ 255 ∷ 255 ∷ 255 ∷ 255 ∷ 255 ∷ 255 ∷ 255 ∷ 255 ∷ 255 ∷ 255 ∷ 255 ∷ 255 ∷ 255 ∷ 255 ∷ []

-- the table entry is right
is_right : ℕ → Bool
is_right digit = slice_index values digit == unwrap_or (hex_digit_value digit) 255

-- the first n table entries are right
are_right : ℕ → Bool
are_right zero = true
are_right (suc n) = is_right n && are_right n

-- each of them is right
right_at : (n digit : ℕ) → are_right n ≡ true → digit < n → is_right digit ≡ true
unfolding are_right
right_at zero digit all lt = absurd (omega arith)
right_at (suc n) digit all lt =
    let parts = and_parts (is_right n) (are_right n) all in
    elim (cases_lt digit n) [
      | inl below ↦ right_at n digit parts.1 below
      | inr top ↦
          let e : digit ≡ n = omega arith in
          rw e parts.0
    ]

-- each table entry is the digit's value
pub value_is : (digit : ℕ) → digit < 256 → slice_index values digit ≡ unwrap_or (hex_digit_value digit) 255
unfolding is_right are_right values
value_is digit lt = eqb-true (slice_index values digit) (unwrap_or (hex_digit_value digit) 255) (right_at 256 digit refl lt)

-- a value is below 16
value_small : (digit v : ℕ) → hex_digit_value digit ≡ Some v → v < 16
value_small digit v is = grind (arith)

-- a digit's value, or 255
abbrev pub value_or_none : ℕ → ℕ
value_or_none digit = unwrap_or (hex_digit_value digit) 255

-- the value of two digits, given the value of each
pair_of : ℕ → ℕ → ℕ → Option ℕ → Option ℕ → Result ℕ FromHexError
pair_of high low i a b = digit_or_error high i a >>= λ h. (digit_or_error low (i + 1) b >>= λ l. Ok (h * 16 + l))

pair_reads : (high low i : ℕ) (a b : Option ℕ) → unwrap_or a 255 ≤ 15 → unwrap_or b 255 ≤ 15
    → pair_of high low i a b ≡ Ok (unwrap_or a 255 * 16 + unwrap_or b 255)
unfolding pair_of
pair_reads high low i (Some a) (Some b) few_a few_b = refl
pair_reads high low i (Some a) None few_a few_b = absurd (omega (arith, few_b))
pair_reads high low i None b few_a few_b = absurd (omega (arith, few_a))

pair_fails : (high low i : ℕ) (a b : Option ℕ) → ((v : ℕ) → a ≡ Some v → v < 16) → ((v : ℕ) → b ≡ Some v → v < 16)
    → (15 < unwrap_or a 255) ⊎ (15 < unwrap_or b 255) → (e : FromHexError) × (pair_of high low i a b ≡ Err e)
unfolding pair_of
pair_fails high low i None b small_a small_b big = (_, refl)
pair_fails high low i (Some a) None small_a small_b big = (_, refl)
pair_fails high low i (Some a) (Some b) small_a small_b (inl big) = absurd (omega (arith, big, small_a a refl))
pair_fails high low i (Some a) (Some b) small_a small_b (inr big) = absurd (omega (arith, big, small_b b refl))

-- two digits with values below 16
pub reads_pair : (high low i : ℕ) → value_or_none high ≤ 15 → value_or_none low ≤ 15
    → pair_value high low i ≡ Ok (value_or_none high * 16 + value_or_none low)
unfolding pair_of
reads_pair high low i few_high few_low = pair_reads high low i (hex_digit_value high) (hex_digit_value low) few_high few_low

-- two octets, one not a digit
pub refuses_pair : (high low i : ℕ) → (15 < value_or_none high) ⊎ (15 < value_or_none low)
    → (e : FromHexError) × (pair_value high low i ≡ Err e)
unfolding pair_of
refuses_pair high low i big =
    pair_fails high low i (hex_digit_value high) (hex_digit_value low) (value_small high) (value_small low) big
