-- Which spelling of an element does the encoder write? The one with the shortest definite length (X.690 8.1.3).
use Rattle.std.specs.Prelude.{ℕ, zero, suc, ◌-◌, ◌/◌, ◌%◌, ◌^◌, ℤ, pos, negsuc, List, [], ◌∷◌, ◌++◌, length, Option, Some, None, nat_lt, nat_le, if◌then◌else◌}
use Rattle.tcap_ber.specs.Element.{content_limit}

-- the shortest definite length of n, for n up to 65,535
abbrev pub shortest_length : ℕ → List ℕ
shortest_length n =
    if nat_lt n 128 then n ∷ []
    else (if nat_lt n 256 then 0x81 ∷ n ∷ [] else 0x82 ∷ n / 256 ∷ n % 256 ∷ [])

-- the shortest header with this tag of one octet, for a content of n octets
abbrev pub shortest_header : ℕ → ℕ → List ℕ
shortest_header tag n = tag ∷ shortest_length n

-- both parts one after the other, if both exist
infixl 9 ◌⧺◌
abbrev pub ◌⧺◌ : Option (List ℕ) → Option (List ℕ) → Option (List ℕ)
(Some front) ⧺ (Some rest) = Some (front ++ rest)
(Some front) ⧺ None = None
None ⧺ rest = None

-- an element with this tag and content, if the content exists and is within the limit
abbrev pub element_around : ℕ → Option (List ℕ) → Option (List ℕ)
element_around tag None = None
element_around tag (Some content) =
    if nat_le (length content) content_limit then Some (shortest_header tag (length content) ++ content) else None

-- the last `count` octets of a number, the most significant first
abbrev pub number_octets : ℕ → ℕ → List ℕ
number_octets zero n = []
number_octets (suc count) n = number_octets count (n / 256) ++ n % 256 ∷ []

-- the distance of a number from 0, or from -1 if it is negative
abbrev pub magnitude : ℤ → ℕ
magnitude (pos n) = n
magnitude (negsuc n) = n

-- the length in octets of a 32-bit number in shortest two's complement (X.690 8.3.2)
abbrev pub integer_len : ℤ → ℕ
integer_len n =
    if nat_lt (magnitude n) 0x80 then 1
    else (if nat_lt (magnitude n) 0x8000 then 2 else (if nat_lt (magnitude n) 0x800000 then 3 else 4))

-- a number in two's complement of `count` octets, read as unsigned
abbrev pub twos_complement : ℕ → ℤ → ℕ
twos_complement count (pos n) = n
twos_complement count (negsuc n) = 256 ^ count - 1 - n

-- the contents of an INTEGER (X.690 8.3.3)
abbrev pub integer_octets : ℤ → List ℕ
integer_octets n = number_octets (integer_len n) (twos_complement (integer_len n) n)
