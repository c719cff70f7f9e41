-- Which contents are an INTEGER (X.690 8.3), and what is their number?
use Rattle.std.specs.Prelude.{◌≡◌, ℕ, ◌+◌, ◌-◌, ◌^◌, ◌<◌, ◌≤◌, ℤ, pos, negsuc, List, [], ◌∷◌, length, nat_lt, if◌then◌else◌}
use Rattle.tcap_ber.specs.Element.{number}

-- The contents of an INTEGER have at least one octet (X.690 8.3.1). If they have more, the first nine bits are neither
-- all zero nor all one (8.3.2).
abbrev pub IsInteger : List ℕ → Type 0
IsInteger [] = ⊥
IsInteger (first ∷ []) = Unit {0}
IsInteger (first ∷ second ∷ more) = ((first ≡ 0) × (second < 128) → ⊥) × ((first ≡ 255) × (128 ≤ second) → ⊥)

-- the number of octets in two's complement (X.690 8.3.3)
abbrev pub signed : List ℕ → ℤ
signed [] = pos 0
signed (first ∷ more) =
    if nat_lt first 128 then pos (number (first ∷ more))
    else negsuc (256 ^ (1 + length more) - 1 - number (first ∷ more))
