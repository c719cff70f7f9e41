-- Reading an INTEGER of one octet after a header of two octets.
use Rattle.std.proofs.Common.{◌≡◌, ℕ, ℤ, ◌+◌, List, [], ◌∷◌, length, Ok, refl, sym, ap, ◌∙◌, arith}
use Rattle.std.specs.Prelude.{◌≢◌}
use Rattle.std.proofs.lemmas.Bool.{le-ltb, ne_eqb}
use Rattle.tcap_ber.specs.Span.{Span, behind}
use Rattle.tcap_ber.specs.ShortHeader.{IsShort}
use Rattle.tcap_ber.specs.Reading.{Element, next_at, required_at, some_at, small_integer_at, integer_at}
use Rattle.tcap_ber.proofs.ShortLaws.{short_next}
use Rattle.tcap_parts.specs.declared.code.Code.TheVariants.{Local}
use Rattle.tcap_parts.specs.Reading.{invoke_id_at, code_at}
use Rattle.tcap_parts.specs.ShortInteger.{BeginsWithOctet}

-- its header has two octets
header : (n : ℤ) (octets : List ℕ) → BeginsWithOctet n octets → IsShort 1 octets
header n octets b = record { first = 0x02; rest = b.octet ∷ b.rest; joined = b.joined; is_low = λ e. absurd (omega (arith, e)); is_short = omega arith }

-- the element
found : ℕ → ℕ → Element
found place octet = record { tag = 0x02 ∷ []; content = record { octets = octet ∷ []; place = place + 2 }; place = place }

-- reading returns this element
next_is : (place : ℕ) (m : ℤ) (octets : List ℕ) → (b : BeginsWithOctet m octets) → next_at (record { octets = octets; place = place }) ≡ Ok (found place b.octet, behind 3 (record { octets = octets; place = place }))
unfolding found
next_is place m octets b =
    short_next 1 (record { octets = octets; place = place }) (header m octets b)
    ∙ rw (b.joined, le-ltb (length (0x02 ∷ 1 ∷ b.octet ∷ b.rest)) 3 (omega arith)) refl

some : (n : ℤ) (octets : List ℕ) → BeginsWithOctet n octets → length octets ≢ 0
some n octets b e = absurd (omega (arith, sym (ap (λ (l : List ℕ). length l) b.joined) ∙ e))

-- reading it as an invoke ID
pub short_invoke_id : (n : ℤ) (s : Span) → BeginsWithOctet n s.octets → invoke_id_at s ≡ Ok (n, behind 3 s)
unfolding invoke_id_at required_at small_integer_at integer_at found
short_invoke_id n s b =
    rw (ne_eqb (length s.octets) 0 (some n s.octets b), next_is s.place n s.octets b, b.is_number) refl

-- reading it as a local code
pub short_code : (n : ℤ) (s : Span) → BeginsWithOctet n s.octets → code_at s ≡ Ok (Local n, behind 3 s)
unfolding code_at some_at small_integer_at integer_at found
short_code n s b =
    rw (ne_eqb (length s.octets) 0 (some n s.octets b), next_is s.place n s.octets b, b.is_number) refl
