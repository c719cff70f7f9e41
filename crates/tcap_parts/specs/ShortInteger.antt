-- Which octets begin with an INTEGER of one octet after a header of two octets?
use Rattle.std.specs.Prelude.{◌≡◌, ℕ, ℤ, List, [], ◌∷◌}
use Rattle.tcap_ber.specs.Integer.{signed}

-- The octets begin with an INTEGER of one octet after a header of two octets, whose number is n.
pub record BeginsWithOctet (n : ℤ) (octets : List ℕ) : Type 0 where
  pub octet : ℕ
  pub rest : List ℕ
  pub joined : octets ≡ 0x02 ∷ 1 ∷ octet ∷ rest
  pub is_number : n ≡ signed (octet ∷ [])
