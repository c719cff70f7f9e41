-- Which headers are faulty, and at which place is the first length octet?
use Rattle.std.specs.Prelude.{◌≡◌, ℕ, ◌%◌, ◌<◌, ◌≤◌, List, ◌∷◌, ◌++◌, length}
use Rattle.std.specs.List.{AllByRecursion}
use Rattle.tcap_ber.specs.Element.{IsTag, IsLength, content_limit}

-- the octets begin with a long tag of more than five octets: the four octets after its first have the top bit set
pub record HasLongTag (octets : List ℕ) : Type 0 where
  pub first : ℕ
  pub four : List ℕ
  pub rest : List ℕ
  pub is_long : first % 32 ≡ 31
  pub are_four : length four ≡ 4
  pub go_on : AllByRecursion (λ octet. 128 ≤ octet) four
  pub joined : octets ≡ first ∷ four ++ rest

-- the octets begin with a tag, and this length octet comes after it, at this place
pub record HasLengthOctet (octet : ℕ) (octets : List ℕ) (place : ℕ) : Type 0 where
  pub tag : List ℕ
  pub rest : List ℕ
  pub is_tag : IsTag tag
  pub joined : octets ≡ tag ++ octet ∷ rest
  pub place_is : place ≡ length tag

-- the octets begin with a whole header whose length is over the limit
pub record HasLongLength (octets : List ℕ) : Type 0 where
  pub tag : List ℕ
  pub length_octets : List ℕ
  pub rest : List ℕ
  pub count : ℕ
  pub is_tag : IsTag tag
  pub is_length : IsLength count length_octets
  pub is_over : content_limit < count
  pub joined : octets ≡ tag ++ length_octets ++ rest
