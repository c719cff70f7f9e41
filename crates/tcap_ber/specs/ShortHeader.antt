-- Which octets begin with a header of two octets, one of the tag and one of the length?
use Rattle.std.specs.Prelude.{◌≡◌, ◌≢◌, ℕ, ◌%◌, ◌<◌, List, ◌∷◌}

-- The octets begin with a header of two octets, which announces a content of n octets.
pub record IsShort (n : ℕ) (octets : List ℕ) : Type 0 where
  pub first : ℕ
  pub rest : List ℕ
  pub joined : octets ≡ first ∷ n ∷ rest
  pub is_low : first % 32 ≢ 31
  pub is_short : n < 128
