-- Which octets spell a value, and which faults have octets that spell none? These are the combinators of the
-- productions. Octets are read from left to right. A fault inside a content counts only if everything before it is
-- spelled correctly. So the element must be whole and have the expected tag, and the walk over it must find no fault.
use Rattle.std.specs.Prelude.{◌≡◌, ◌≢◌, ℕ, ◌+◌, ◌<◌, ◌≤◌, ◌⊎◌, ℤ, List, [], ◌∷◌, ◌++◌, length, Option, Some, None}
use Rattle.tcap_ber.specs.declared.fault.Reason.{Reason}
use Rattle.tcap_ber.specs.declared.fault.Reason.TheVariants.{Overrun, BadInteger, UnexpectedTag, Missing, Trailing}
use Rattle.tcap_ber.specs.Element.{IsElement, IsRaw, content_start}
use Rattle.tcap_ber.specs.Integer.{IsInteger, signed}
use Rattle.tcap_ber.specs.WalkPlaces.{IsWalkFault, IsUnfinished, IsInnermost}
use Rattle.tcap_ber.specs.Span.{Span}

-- The content of an element: the octets that spell each value, and the faults of octets, given the element's place and
-- the content.
pub record Body (V : Type 0) : Type 1 where
  pub spells : V → List ℕ → Type 0
  pub faulty : ℕ → Span → Reason → ℕ → Type 0

-- A part of a structure. `spells value octets rest` means that these octets spell the value if `rest` comes after them.
-- `faulty` gives the faults of the rest of the structure, from this part on.
pub record Field (V : Type 0) : Type 1 where
  pub spells : V → List ℕ → List ℕ → Type 0
  pub faulty : Span → Reason → ℕ → Type 0

-- The rest of a structure: the octets that spell each value, and the faults of octets.
pub record Content (V : Type 0) : Type 1 where
  pub spells : V → List ℕ → Type 0
  pub faulty : Span → Reason → ℕ → Type 0

-- ---- the element at a place

-- The faults of the element at the front of a non-empty window: a fault that the walk over it meets, or Overrun if the
-- window ends before the element does. Overrun is at the innermost incomplete element.
abbrev pub IsElementFault : Span → Reason → ℕ → Type 0
IsElementFault s reason place =
    (offset : ℕ) × (place ≡ s.place + offset) × (IsWalkFault s.octets reason offset
    ⊎ ((reason ≡ Overrun) × (0 < length s.octets) × IsUnfinished s.octets × IsInnermost s.octets offset))

-- the window is empty, but an element is required
pub record IsMissing (s : Span) (reason : Reason) (place : ℕ) : Type 0 where
  pub ends : s.octets ≡ []
  pub reason_is : reason ≡ Missing
  pub place_is : place ≡ s.place

-- the window begins with an element of another tag
pub record IsUnexpected (tag : ℕ) (s : Span) (reason : Reason) (place : ℕ) : Type 0 where
  pub other : List ℕ
  pub content : List ℕ
  pub octets : List ℕ
  pub rest : List ℕ
  pub is_element : IsElement other content octets
  pub is_other : other ≢ tag ∷ []
  pub joined : s.octets ≡ octets ++ rest
  pub reason_is : reason ≡ UnexpectedTag
  pub place_is : place ≡ s.place

-- the window begins with an element of this tag, and its content has a fault
pub record IsFaultyInside (tag : ℕ) (faulty : ℕ → Span → Reason → ℕ → Type 0) (s : Span) (reason : Reason)
    (place : ℕ) : Type 0 where
  pub content : List ℕ
  pub octets : List ℕ
  pub rest : List ℕ
  pub is_element : IsElement (tag ∷ []) content octets
  pub joined : s.octets ≡ octets ++ rest
  pub inside : faulty s.place (record { octets = content; place = s.place + content_start (tag ∷ []) content octets })
      reason place

-- the octets are an element of this tag with such a content
pub record IsElementOf (tag : ℕ) (spells : List ℕ → Type 0) (octets : List ℕ) : Type 0 where
  pub content : List ℕ
  pub is_element : IsElement (tag ∷ []) content octets
  pub inside : spells content

-- ---- parts

-- an element with this tag and this body
abbrev pub required : {V : Type 0} → ℕ → Body V → Field V
required tag body = record {
  spells = λ v octets behind. IsElementOf tag (body.spells v) octets;
  faulty = λ s reason place.
      IsMissing s reason place
      ⊎ IsElementFault s reason place
      ⊎ IsUnexpected tag s reason place
      ⊎ IsFaultyInside tag body.faulty s reason place;
}

-- The octets begin with this octet. If the octet is a whole tag, an element at the front has that tag.
abbrev pub BeginsWith : ℕ → List ℕ → Type 0
BeginsWith tag [] = ⊥
BeginsWith tag (first ∷ more) = first ≡ tag

-- an element of this tag, or no octets if the tag does not follow
abbrev pub SpellsOptional : {V : Type 0} → ℕ → Body V → Option V → List ℕ → List ℕ → Type 0
SpellsOptional tag body (Some v) octets behind = IsElementOf tag (body.spells v) octets
SpellsOptional tag body None octets behind = (octets ≡ []) × (BeginsWith tag behind → ⊥)

-- An element with this tag and this body, or nothing. The element is present exactly if the octets begin with its tag.
abbrev pub optional : {V : Type 0} → ℕ → Body V → Field (Option V)
optional tag body = record {
  spells = SpellsOptional tag body;
  faulty = λ s reason place. BeginsWith tag s.octets × (required tag body).faulty s reason place;
}

-- one element, or no octets if none follow
abbrev pub SpellsParameter : Option (List ℕ) → List ℕ → List ℕ → Type 0
SpellsParameter (Some raw) octets behind = IsRaw raw × (octets ≡ raw)
SpellsParameter None octets behind = (octets ≡ []) × (behind ≡ [])

-- one element with any tag, kept verbatim, or nothing if the structure ends here
abbrev pub parameter : Field (Option (List ℕ))
parameter = record {
  spells = SpellsParameter;
  faulty = IsElementFault;
}

-- an element with this tag, kept verbatim
abbrev pub verbatim : ℕ → Field (List ℕ)
verbatim tag = record {
  spells = λ v octets behind. IsElementOf tag (λ content. Unit {0}) octets × (v ≡ octets);
  faulty = λ s reason place. IsMissing s reason place ⊎ IsElementFault s reason place ⊎ IsUnexpected tag s reason place;
}

-- a part that is always absent
abbrev pub absent : {V : Type 0} → Field (Option V)
absent = record {
  spells = λ v octets behind. (v ≡ None) × (octets ≡ []);
  faulty = λ s reason place. ⊥;
}

-- ---- contents

-- the end of the structure; any octet left is Trailing
abbrev pub ended : Content (Unit {0})
ended = record {
  spells = λ _ octets. octets ≡ [];
  faulty = λ s reason place. (0 < length s.octets) × (reason ≡ Trailing) × (place ≡ s.place);
}

-- the window after its front
abbrev pub after : ℕ → List ℕ → List ℕ → Span
after place front rest = record { octets = rest; place = place + length front }

-- the octets spell the part, and then the content
pub record SpellsThen {V W : Type 0} (first : Field V) (others : V → Content W) (x : V × W)
    (octets : List ℕ) : Type 0 where
  pub front : List ℕ
  pub rest : List ℕ
  pub joined : octets ≡ front ++ rest
  pub is_first : first.spells x.0 front rest
  pub are_others : (others x.0).spells x.1 rest

-- the first part is correct, and the octets after it have a fault
pub record IsFaultyBehind {V : Type 0} (first : Field V) (faulty : V → Span → Reason → ℕ → Type 0) (s : Span)
    (reason : Reason) (place : ℕ) : Type 0 where
  pub value : V
  pub front : List ℕ
  pub rest : List ℕ
  pub joined : s.octets ≡ front ++ rest
  pub is_first : first.spells value front rest
  pub behind : faulty value (after s.place front rest) reason place

infixr 4 ◌⨾▹◌
-- a part, and the content after it, which may depend on the part's value
abbrev pub ◌⨾▹◌ : {V W : Type 0} → Field V → (V → Content W) → Content (V × W)
first ⨾▹ others = record {
  spells = SpellsThen first others;
  faulty = λ s reason place. first.faulty s reason place ⊎ IsFaultyBehind first (λ v. (others v).faulty) s reason place;
}

infixr 4 ◌⨾◌
-- a part, and the content after it
abbrev pub ◌⨾◌ : {V W : Type 0} → Field V → Content W → Content (V × W)
first ⨾ others = first ⨾▹ (λ _. others)

-- the octets spell these items one after the other
abbrev pub SpellsEach : {V : Type 0} → Field V → List V → List ℕ → Type 0
SpellsEach item [] octets = octets ≡ []
SpellsEach item (v ∷ vs) octets = (front rest : List ℕ) × (octets ≡ front ++ rest) × item.spells v front rest
    × SpellsEach item vs rest

-- after items of these values, the next item has a fault
abbrev pub IsFaultyAfter : {V : Type 0} → Field V → List V → Span → Reason → ℕ → Type 0
IsFaultyAfter item [] s reason place = (0 < length s.octets) × item.faulty s reason place
IsFaultyAfter item (v ∷ vs) s reason place =
    (front rest : List ℕ) × (s.octets ≡ front ++ rest) × item.spells v front rest
    × IsFaultyAfter item vs (after s.place front rest) reason place

-- items one after the other up to the end
abbrev pub each : {V : Type 0} → Field V → Content (List V)
each {V} item = record {
  spells = SpellsEach item;
  faulty = λ s reason place. (vs : List V) × IsFaultyAfter item vs s reason place;
}

-- ---- bodies of elements

-- the body of a structure, whose content is its parts
abbrev pub structure : {V : Type 0} → Content V → Body V
structure content = record {
  spells = content.spells;
  faulty = λ at s reason place. content.faulty s reason place;
}

-- the body, with a function applied to its value
abbrev pub made : {V W : Type 0} → (V → W) → Body V → Body W
made {V} make body = record {
  spells = λ w octets. (v : V) × (w ≡ make v) × body.spells v octets;
  faulty = body.faulty;
}

-- the body of a structure of one part
abbrev pub single : {V : Type 0} → Field V → Body V
single part = made (λ parts. parts.0) (structure (part ⨾ ended))

-- the contents of an INTEGER (X.690 8.3) of at most `limit` octets, and its number
abbrev pub IsSmallInteger : ℕ → ℤ → List ℕ → Type 0
IsSmallInteger limit n octets = IsInteger octets × (length octets ≤ limit) × (n ≡ signed octets)

-- Contents that are not an INTEGER are BadInteger; those of more than `limit` octets are `too_wide`. The place is the
-- element's.
abbrev pub IsSmallIntegerFault : ℕ → Reason → ℕ → List ℕ → Reason → ℕ → Type 0
IsSmallIntegerFault limit too_wide at octets reason place =
    (place ≡ at)
    × (((reason ≡ BadInteger) × (IsInteger octets → ⊥))
    ⊎ ((reason ≡ too_wide) × IsInteger octets × (limit < length octets)))

-- an INTEGER of at most `limit` octets; wider ones have the fault `too_wide`
abbrev pub integer : ℕ → Reason → Body ℤ
integer limit too_wide = record {
  spells = IsSmallInteger limit;
  faulty = λ at s reason place. IsSmallIntegerFault limit too_wide at s.octets reason place;
}
