-- Test vectors, computed on the definitions: the octets of contexts in dotted numbers.
use Rattle.std.proofs.Common.{◌≡◌, [], ◌∷◌, Some, None, codes, refl}
use Rattle.hex.proofs.OnLiterals.{hex_on_literals}
use Rattle.tcap_books.specs.BookText.{context_of}

-- networkLocUpContext of MAP, version 3
pub of_map : context_of (codes "0.4.0.0.1.0.1.3") ≡ Some (0x04 ∷ 0x00 ∷ 0x00 ∷ 0x01 ∷ 0x00 ∷ 0x01 ∷ 0x03 ∷ [])
of_map = refl

pub in_digits : context_of (codes "04000001000103") ≡ context_of (codes "0.4.0.0.1.0.1.3")
unfolding hex_on_literals
in_digits = refl

-- the example of X.690 8.19
pub joint : context_of (codes "2.999") ≡ Some (0x88 ∷ 0x37 ∷ [])
joint = refl

pub least : context_of (codes "0.0") ≡ Some (0 ∷ [])
least = refl

pub greatest : context_of (codes "2.4294967295") ≡ Some (0x90 ∷ 0x80 ∷ 0x80 ∷ 0x80 ∷ 0x4F ∷ [])
greatest = refl

pub too_great : context_of (codes "1.4294967296") ≡ None
too_great = refl

pub second_is_39 : context_of (codes "1.39") ≡ Some (79 ∷ [])
second_is_39 = refl

pub second_is_40 : context_of (codes "1.40") ≡ None
second_is_40 = refl

pub first_is_3 : context_of (codes "3.1") ≡ None
first_is_3 = refl

pub leading_zero : context_of (codes "0.04") ≡ None
leading_zero = refl

pub with_sign : context_of (codes "0.+4") ≡ None
with_sign = refl

pub ends_with_dot : context_of (codes "0.4.") ≡ None
ends_with_dot = refl

pub digits_of_hex : context_of (codes "0.4.0a") ≡ None
digits_of_hex = refl
