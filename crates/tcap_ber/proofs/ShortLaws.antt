-- Reading a header of two octets.
use Rattle.std.proofs.Common.{◌≡◌, ℕ, ◌+◌, ◌-◌, ◌*◌, ◌%◌, ◌<◌, ◌≤◌, true, false, List, length, Some, Ok, refl, ap, ◌∙◌, arith, add-one}
use Rattle.std.specs.Prelude.{nat_lt, if◌then◌else◌}
use Rattle.std.proofs.lemmas.Bool.{lt-ltb, le-ltb, ne_eqb}
use Rattle.tcap_ber.specs.declared.header.Header.{Header}
use Rattle.tcap_ber.specs.declared.header.Opening.TheVariants.{Definite}
use Rattle.tcap_ber.specs.declared.element.Outer.TheVariants.{Whole, Need}
use Rattle.tcap_ber.specs.ShortHeader.{IsShort}
use Rattle.tcap_ber.specs.Span.{Span}
use Rattle.tcap_ber.specs.HeaderReading.{◌>>=◌, tag_at, length_at, opening_at}
use Rattle.tcap_ber.specs.Reading.{definite_at, element_of, next_at}
use Rattle.tcap_ber.specs.WalkResult.{outer_at, walk_on, gone_to, at_first}

-- the header of two octets for a content of n
abbrev pub short : ℕ → Header
short n = record { tag_len = 1; len = 2; content_len = n }

-- reading the opening returns this header
pub short_opening : (place n : ℕ) (octets : List ℕ) → IsShort n octets → opening_at (record { octets = octets; place = place }) ≡ Ok (Some (Definite (short n)))
unfolding opening_at tag_at length_at
short_opening place n octets s =
    rw (s.joined, ne_eqb (s.first % 32) 31 s.is_low, ne_eqb n 128 (λ e. omega (arith, e, s.is_short)), lt-ltb n 128 s.is_short, le-ltb 65535 n (omega (arith, s.is_short))) refl

-- reading the element uses this header
pub short_next : (n : ℕ) (s : Span) → IsShort n s.octets → next_at s ≡ definite_at s (short n)
unfolding next_at
short_next n s there = ap (λ r. r >>= element_of s) (short_opening s.place n s.octets there)

-- the first step of the walk
short_outer : (n : ℕ) (octets : List ℕ) → IsShort n octets → outer_at octets ≡ gone_to (walk_on (length octets)) at_first octets (record { at = 0 + (2 + n); depth = 0; limit = 0 })
unfolding outer_at
short_outer n octets s = rw (add-one (length octets), short_opening 0 n octets s) refl

-- the element is whole
pub short_whole : (n : ℕ) (octets : List ℕ) → IsShort n octets → n + 2 ≤ length octets → outer_at octets ≡ Ok (Whole (n + 2))
short_whole n octets s room =
    let there : nat_lt (length octets) (0 + (2 + n) - 0) ≡ false = le-ltb (length octets) (0 + (2 + n) - 0) (omega (arith, room)) in
    short_outer n octets s ∙ ap (λ b. if b then Ok (Need (0 + (2 + n) + 2 * 0)) else Ok (Whole (0 + (2 + n)))) there ∙ ap (λ (m : ℕ). Ok (Whole m)) (omega arith)

-- the element is incomplete
pub short_need : (n : ℕ) (octets : List ℕ) → IsShort n octets → length octets < n + 2 → outer_at octets ≡ Ok (Need (n + 2))
short_need n octets s few =
    let there : nat_lt (length octets) (0 + (2 + n) - 0) ≡ true = lt-ltb (length octets) (0 + (2 + n) - 0) (omega (arith, few)) in
    short_outer n octets s ∙ ap (λ b. if b then Ok (Need (0 + (2 + n) + 2 * 0)) else Ok (Whole (0 + (2 + n)))) there ∙ ap (λ (m : ℕ). Ok (Need m)) (omega arith)
