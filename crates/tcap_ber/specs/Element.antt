-- Which octets are an element of the basic encoding rules (X.690 8.1), within this profile's limits?
use Rattle.std.specs.Prelude.{◌≡◌, ◌≢◌, ℕ, zero, suc, ◌+◌, ◌-◌, ◌*◌, ◌/◌, ◌%◌, ◌<◌, ◌≤◌, ◌⊎◌, List, [], ◌∷◌, ◌++◌, length, drop, fold, Bool, false, ◌==◌, if◌then◌else◌}
use Rattle.std.specs.List.{AllByRecursion, concat}

-- the octets of a long tag after its first: all but the last have the top bit set (X.690 8.1.2.4.2)
abbrev pub IsContinued : List ℕ → Type 0
IsContinued [] = ⊥
IsContinued (octet ∷ []) = octet < 128
IsContinued (octet ∷ next ∷ more) = (128 ≤ octet) × IsContinued (next ∷ more)

-- A tag is one octet whose low five bits aren't all ones (X.690 8.1.2.2). Or it is one whose low five bits are all
-- ones, and one to four octets after it (8.1.2.4; at most four is this profile's limit). The profile accepts long tags
-- of low numbers and padded ones too, and compares tags by their octets.
abbrev pub IsTag : List ℕ → Type 0
IsTag [] = ⊥
IsTag (first ∷ more) = ((first % 32 ≢ 31) × (more ≡ [])) ⊎ ((first % 32 ≡ 31) × IsContinued more × (length more ≤ 4))

-- the number of big-endian octets
abbrev pub number : List ℕ → ℕ
number octets = fold (λ n octet. n * 256 + octet) 0 octets

-- These octets are a definite length of n. They are one octet below 128 (X.690 8.1.3.4), or 128 + k and then k octets
-- for k from 1 to 4 (8.1.3.5; at most four is this profile's limit). Padded lengths are allowed.
abbrev pub IsLength : ℕ → List ℕ → Type 0
IsLength n [] = ⊥
IsLength n (first ∷ more) =
    ((first < 128) × (more ≡ []) × (n ≡ first))
    ⊎ ((first ≡ 128 + length more) × (0 < length more) × (length more ≤ 4) × (n ≡ number more))

-- the greatest content length in octets, this profile's limit
abbrev pub content_limit : ℕ
content_limit = 65535

-- the greatest length of a header of definite length: five octets of the tag, five of the length
abbrev pub header_limit : ℕ
header_limit = 10

-- the greatest length of a header of indefinite length: five octets of the tag, one length octet
abbrev pub opening_limit : ℕ
opening_limit = 6

-- the greatest length of a header that the encoder writes: one octet of the tag, three of the length
abbrev pub shortest_header_limit : ℕ
shortest_header_limit = 4

-- An element of definite length is a tag, a length and a content, and the length is the content's count of octets
-- (X.690 8.1.3.3).
pub record IsDefinite (tag content octets : List ℕ) : Type 0 where
  pub length_octets : List ℕ
  pub is_tag : IsTag tag
  pub is_length : IsLength (length content) length_octets
  pub is_within : length content ≤ content_limit
  pub joined : octets ≡ tag ++ length_octets ++ content

-- the tag of a constructed element: bit 6 of its first octet is set (X.690 8.1.2.5)
abbrev pub IsConstructed : List ℕ → Type 0
IsConstructed [] = ⊥
IsConstructed (first ∷ more) = first / 32 % 2 ≡ 1

-- the end-of-contents octets: two zero octets (X.690 8.1.5)
abbrev pub ending : List ℕ
ending = 0 ∷ 0 ∷ []

-- An element of indefinite length is a constructed tag, the length octet 80, elements one after the other as content,
-- and the end-of-contents octets (X.690 8.1.3.6). Two zero octets at an element's place always end the content, so they
-- are not one of its elements.
pub record IsIndefinite (IsInner : List ℕ → Type 0) (tag content octets : List ℕ) : Type 0 where
  pub items : List (List ℕ)
  pub is_tag : IsTag tag
  pub is_constructed : IsConstructed tag
  pub are_items : AllByRecursion (λ item. IsInner item × (item ≢ ending)) items
  pub content_is : content ≡ concat items
  pub is_within : length content ≤ content_limit
  pub joined : octets ≡ tag ++ 0x80 ∷ content ++ ending

-- An element with at most `depth` nested elements of indefinite length, itself included. The content of an element of
-- definite length is opaque, so elements inside it don't count.
abbrev pub IsNested : ℕ → List ℕ → List ℕ → List ℕ → Type 0
IsNested zero tag content octets = IsDefinite tag content octets
IsNested (suc depth) tag content octets =
    IsDefinite tag content octets
    ⊎ IsIndefinite (λ item. (inner_tag inner : List ℕ) × IsNested depth inner_tag inner item) tag content octets

-- the greatest number of nested elements of indefinite length, this profile's limit
abbrev pub depth_limit : ℕ
depth_limit = 32

-- an element of definite or indefinite length (X.690 8.1.1, 8.1.3)
unfoldable pub IsElement : List ℕ → List ℕ → List ℕ → Type 0
IsElement tag content octets = IsNested depth_limit tag content octets

-- the octets begin with this octet
abbrev pub is_next : ℕ → List ℕ → Bool
is_next octet [] = false
is_next octet (first ∷ more) = first == octet

-- The offset of an element's content: after the tag and the length octet 80, or, for a definite length, all octets
-- before the content.
abbrev pub content_start : List ℕ → List ℕ → List ℕ → ℕ
content_start tag content octets =
    if is_next 0x80 (drop (length tag) octets) then length tag + 1 else length octets - length content

-- the octets are exactly one element
abbrev pub IsRaw : List ℕ → Type 0
IsRaw octets = (tag content : List ℕ) × IsElement tag content octets
