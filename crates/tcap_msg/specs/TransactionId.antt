-- Which octets are a transaction ID (Q.773 4.2.1), and how are IDs compared?
use Rattle.std.specs.Prelude.{◌≡◌, ℕ, zero, suc, ◌+◌, ◌*◌, ◌<◌, ◌≤◌, List, [], ◌∷◌, length, drop, replicate, ◌-◌, Result, Ok, Err, nat_lt, Bool, ◌&&◌, if◌then◌else◌}
use Rattle.tcap_ber.specs.declared.fault.Fault.{Fault}
use Rattle.tcap_ber.specs.declared.fault.Reason.TheVariants.{BadTransactionId}
use Rattle.tcap_ber.specs.Grammar.{Body}
use Rattle.tcap_ber.specs.Reading.{fault, Element}

-- one to four octets
abbrev pub IsTransactionId : List ℕ → Type 0
IsTransactionId octets = (0 < length octets) × (length octets ≤ 4)

-- a transaction ID, whose value is its octets; other contents are BadTransactionId at the element
abbrev pub transaction_id : Body (List ℕ)
transaction_id = record {
  spells = λ id octets. IsTransactionId octets × (id ≡ octets);
  faulty = λ at content reason place. (IsTransactionId content.octets → ⊥) × (reason ≡ BadTransactionId) × (place ≡ at);
}

-- the octets are a transaction ID
abbrev pub is_transaction_id : List ℕ → Bool
is_transaction_id octets = nat_lt 0 (length octets) && nat_lt (length octets) 5

-- the transaction ID in an element
unfoldable pub transaction_id_of : Element → Result (List ℕ) Fault
transaction_id_of e = if is_transaction_id e.content.octets then Ok e.content.octets
    else Err (fault BadTransactionId e.place)

-- the big-endian number of octets after `high`, padded with zeros to the first count
unfoldable pub filled : ℕ → ℕ → List ℕ → ℕ
filled zero high octets = high
filled (suc more) high [] = filled more (high * 256) []
filled (suc more) high (octet ∷ octets) = filled more (high * 256 + octet) octets

-- a number that orders IDs as their octets do: four octets, padded with zeros, and then their count
unfoldable pub key : List ℕ → ℕ
key octets = filled 4 0 octets * 256 + length octets

-- four octets: those of an ID, padded with zeros
abbrev pub IsPadded : ℕ → List ℕ → Type 0
IsPadded len octets = (length octets ≡ 4) × (0 < len) × (len ≤ 4) × (drop len octets ≡ replicate (4 - len) 0)
