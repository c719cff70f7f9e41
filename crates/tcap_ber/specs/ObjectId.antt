-- Which contents are an OBJECT IDENTIFIER (X.690 8.19)?
use Rattle.std.specs.Prelude.{◌≡◌, ◌≢◌, ℕ, List, []}
use Rattle.std.specs.List.{AllByRecursion, concat}
use Rattle.tcap_ber.specs.declared.fault.Reason.TheVariants.{BadObjectId}
use Rattle.tcap_ber.specs.Element.{IsContinued}
use Rattle.tcap_ber.specs.Grammar.{Body, BeginsWith}

-- a subidentifier: all its octets but the last have the top bit set, and the first is not 80 (X.690 8.19.2)
abbrev pub IsSubidentifier : List ℕ → Type 0
IsSubidentifier octets = IsContinued octets × (BeginsWith 0x80 octets → ⊥)

-- the contents of an OBJECT IDENTIFIER: one subidentifier after the other, and at least one (X.690 8.19.2)
abbrev pub IsObjectId : List ℕ → Type 0
IsObjectId octets =
    (subidentifiers : List (List ℕ)) × (subidentifiers ≢ []) × AllByRecursion IsSubidentifier subidentifiers
    × (octets ≡ concat subidentifiers)

-- an OBJECT IDENTIFIER, whose value is its contents; other contents are BadObjectId at the element
abbrev pub object_id : Body (List ℕ)
object_id = record {
  spells = λ id octets. IsObjectId octets × (id ≡ octets);
  faulty = λ at s reason place. (reason ≡ BadObjectId) × (place ≡ at) × (IsObjectId s.octets → ⊥);
}
