-- Which places does a walk over an element's octets reach, and what is faulty there? An element of indefinite length is
-- open from its length octet 80 to its end-of-contents octets, and the elements in it are walked one by one.
use Rattle.std.specs.Prelude.{◌≡◌, ◌≢◌, ℕ, suc, ◌+◌, ◌<◌, ◌≤◌, ◌⊎◌, List, [], ◌∷◌, ◌++◌, length}
use Rattle.std.specs.List.{AllByRecursion, concat}
use Rattle.tcap_ber.specs.declared.fault.Reason.{Reason}
use Rattle.tcap_ber.specs.declared.fault.Reason.TheVariants.{LengthForm, TooLong, TagForm, Indefinite, TooDeep}
use Rattle.tcap_ber.specs.Element.{IsTag, IsLength, content_limit, IsConstructed, ending, IsNested, depth_limit, IsElement}
use Rattle.tcap_ber.specs.Header.{HasLongTag, HasLengthOctet, HasLongLength}

-- an open element: its tag, and the elements in it that were walked
pub record Level : Type 0 where
  pub tag : List ℕ
  pub items : List (List ℕ)

-- the walked octets of open elements, whose innermost is the first of the list
abbrev pub walked : List Level → List ℕ
walked [] = []
walked (level ∷ outer) = walked outer ++ (level.tag ++ 0x80 ∷ concat level.items)

-- the levels are open elements, each inside the next of the list, and `left` more may open inside the first
abbrev pub AreOpen : ℕ → List Level → Type 0
AreOpen left [] = left ≡ depth_limit
AreOpen left (level ∷ outer) =
    IsTag level.tag
    × IsConstructed level.tag
    × AllByRecursion (λ item. ((tag content : List ℕ) × IsNested left tag content item) × (item ≢ ending)) level.items
    × AreOpen (suc left) outer

-- the number of octets walked of the outermost open element's content
abbrev pub content_walked : List Level → ℕ
content_walked [] = 0
content_walked (level ∷ []) = length (concat level.items)
content_walked (level ∷ next ∷ outer) = content_walked (next ∷ outer) + length (level.tag ++ 0x80 ∷ concat level.items)

-- the octets were walked up to the place of an element or of end-of-contents octets
pub record IsWalked (octets : List ℕ) (levels : List Level) (rest : List ℕ) : Type 0 where
  pub left : ℕ
  pub are_open : AreOpen left levels
  pub is_within : content_walked levels ≤ content_limit
  pub joined : octets ≡ walked levels ++ rest

-- A whole header or end-of-contents octets are next, and `count` is how many more octets of the outermost open
-- element's content they announce: the header and, for a definite length, its content, or the two end-of-contents
-- octets.
abbrev pub Announces : List Level → List ℕ → ℕ → Type 0
Announces levels front count =
    ((tag length_octets : List ℕ) × (n : ℕ) × IsTag tag × IsLength n length_octets × (n ≤ content_limit)
    × (front ≡ tag ++ length_octets) × (front ≢ ending) × (count ≡ length front + n))
    ⊎ ((tag : List ℕ) × IsTag tag × IsConstructed tag × (length levels < depth_limit)
    × (front ≡ tag ++ 0x80 ∷ []) × (count ≡ length front))
    ⊎ ((front ≡ ending) × (1 < length levels) × (count ≡ length front))

-- The faults at the place reached (X.690 8.1.2.4, 8.1.3.2, 8.1.3.5, and this profile's limits). TooLong is at an
-- element whose own length is over the limit, or at the outermost open element if its walked and announced content is.
abbrev pub IsWrongThere : List Level → List ℕ → Reason → ℕ → Type 0
IsWrongThere levels rest TagForm place = HasLongTag rest × (place ≡ length (walked levels))
IsWrongThere levels rest LengthForm place =
    (octet offset : ℕ) × (132 < octet) × HasLengthOctet octet rest offset × (place ≡ length (walked levels) + offset)
IsWrongThere levels rest Indefinite place =
    (offset : ℕ) × (h : HasLengthOctet 0x80 rest offset) × (IsConstructed h.tag → ⊥)
    × (place ≡ length (walked levels) + offset)
IsWrongThere levels rest TooDeep place =
    (offset : ℕ) × (h : HasLengthOctet 0x80 rest offset) × IsConstructed h.tag × (length levels ≡ depth_limit)
    × (place ≡ length (walked levels))
IsWrongThere levels rest TooLong place =
    (HasLongLength rest × (place ≡ length (walked levels)))
    ⊎ ((levels ≢ []) × (place ≡ 0) × ((front more : List ℕ) × (count : ℕ) × (rest ≡ front ++ more)
    × Announces levels front count
    × (content_limit < content_walked levels + count)))
IsWrongThere levels rest _ place = ⊥

-- the walk meets this reason at this place, counted from the first octet
abbrev pub IsWalkFault : List ℕ → Reason → ℕ → Type 0
IsWalkFault octets reason place =
    (levels : List Level) × (rest : List ℕ) × IsWalked octets levels rest × IsWrongThere levels rest reason place

-- no element begins the octets, and they have no fault so far
pub record IsUnfinished (octets : List ℕ) : Type 0 where
  pub no_element : (tag content element rest : List ℕ) → IsElement tag content element → octets ≡ element ++ rest → ⊥
  pub no_fault : (reason : Reason) (place : ℕ) → IsWalkFault octets reason place → ⊥

-- the place of the innermost incomplete element: at the rest or, if no octet is left, at the innermost open element
abbrev pub innermost : List Level → List ℕ → ℕ
innermost [] rest = 0
innermost (level ∷ outer) [] = length (walked outer)
innermost (level ∷ outer) (octet ∷ more) = length (walked (level ∷ outer))

-- the innermost incomplete element begins at this place: no walk gets further than this one
pub record IsInnermost (octets : List ℕ) (place : ℕ) : Type 0 where
  pub levels : List Level
  pub rest : List ℕ
  pub is_walked : IsWalked octets levels rest
  pub furthest : (others : List Level) (behind : List ℕ) → IsWalked octets others behind → length rest ≤ length behind
  pub place_is : place ≡ innermost levels rest

-- the octets begin with an element of n octets
pub record BeginsElement (octets : List ℕ) (n : ℕ) : Type 0 where
  pub tag : List ℕ
  pub content : List ℕ
  pub element : List ℕ
  pub rest : List ℕ
  pub is_element : IsElement tag content element
  pub joined : octets ≡ element ++ rest
  pub len : n ≡ length element

-- The octets are unfinished, and any element that begins with them has at least n octets, which is more than they are.
pub record NeedsMore (octets : List ℕ) (n : ℕ) : Type 0 where
  pub above : length octets < n
  pub least : (tag content element more : List ℕ) → IsElement tag content element → element ≡ octets ++ more
      → n ≤ length element
  pub unfinished : IsUnfinished octets
