-- Which contents are an INTEGER of one octet that is not negative, and which are NULL?
use Rattle.std.specs.Prelude.{◌≡◌, ℕ, ◌<◌, ◌⊎◌, List, [], ◌∷◌, length}
use Rattle.tcap_ber.specs.declared.fault.Reason.TheVariants.{BadInteger, BadSize}
use Rattle.tcap_ber.specs.Integer.{IsInteger}
use Rattle.tcap_ber.specs.Grammar.{Body}

-- the content is one octet, a number from 0 to 127
abbrev pub IsSmall : ℕ → List ℕ → Type 0
IsSmall n octets = (octets ≡ n ∷ []) × (n < 128)

-- An INTEGER of one octet that is not negative (X.690 8.3). Other contents are BadInteger if they are no INTEGER, else
-- BadSize. The place is the element's.
abbrev pub small : Body ℕ
small = record {
  spells = IsSmall;
  faulty = λ at s reason place.
      (place ≡ at)
      × (((reason ≡ BadInteger) × (IsInteger s.octets → ⊥))
      ⊎ ((reason ≡ BadSize) × IsInteger s.octets × ((n : ℕ) → IsSmall n s.octets → ⊥)));
}

-- NULL has no content (X.690 8.8.2); if it has, the fault is at the element.
abbrev pub null : Body (Unit {0})
null = record {
  spells = λ _ octets. octets ≡ [];
  faulty = λ at s reason place. (0 < length s.octets) × (reason ≡ BadSize) × (place ≡ at);
}
