-- Which octets spell a choice: one of several elements, identified by its tag?
use Rattle.std.specs.Prelude.{◌≡◌, ◌≢◌, ℕ, ◌+◌, ◌⊎◌, List, [], ◌∷◌, ◌++◌}
use Rattle.tcap_ber.specs.declared.fault.Reason.{Reason}
use Rattle.tcap_ber.specs.Element.{IsElement, content_start}
use Rattle.tcap_ber.specs.Grammar.{Body, Field, IsMissing, IsElementFault}
use Rattle.tcap_ber.specs.Span.{Span}

-- The alternatives of a choice: the values that an element of each tag and content spells, and the faults of an
-- element, given its tag, place and content.
pub record Choice (V : Type 0) : Type 1 where
  pub spells : V → List ℕ → List ℕ → Type 0
  pub faulty : List ℕ → ℕ → Span → Reason → ℕ → Type 0

-- one alternative of a choice: a tag and the body of its element
pub record Alternative (V : Type 0) : Type 1 where
  pub tag : ℕ
  pub body : Body V

infixr 5 ◌▹◌
-- the alternative with this tag and body
abbrev pub ◌▹◌ : {V : Type 0} → ℕ → Body V → Alternative V
tag ▹ body = record { tag = tag; body = body }

infixr 4 ◌∣◌
-- an element with this tag and body, or, if it has another tag, one of the others
abbrev pub ◌∣◌ : {V : Type 0} → Alternative V → Choice V → Choice V
one ∣ others = record {
  spells = λ v tag content.
      ((tag ≡ one.tag ∷ []) × one.body.spells v content)
      ⊎ ((tag ≢ one.tag ∷ []) × others.spells v tag content);
  faulty = λ tag at content reason place.
      ((tag ≡ one.tag ∷ []) × one.body.faulty at content reason place)
      ⊎ ((tag ≢ one.tag ∷ []) × others.faulty tag at content reason place);
}

-- no further alternative: an element with any other tag has this fault
abbrev pub others_are : {V : Type 0} → Reason → Choice V
others_are refusal = record {
  spells = λ v tag content. ⊥;
  faulty = λ tag at content reason place. (reason ≡ refusal) × (place ≡ at);
}

-- the octets are an element of the choice, and it spells the value
pub record IsOneOf {V : Type 0} (choice : Choice V) (v : V) (octets : List ℕ) : Type 0 where
  pub tag : List ℕ
  pub content : List ℕ
  pub is_element : IsElement tag content octets
  pub inside : choice.spells v tag content

-- the window begins with an element, and the alternative of its tag has a fault
pub record IsFaultyChoice {V : Type 0} (choice : Choice V) (s : Span) (reason : Reason) (place : ℕ) : Type 0 where
  pub tag : List ℕ
  pub content : List ℕ
  pub octets : List ℕ
  pub rest : List ℕ
  pub is_element : IsElement tag content octets
  pub joined : s.octets ≡ octets ++ rest
  pub inside : choice.faulty tag s.place
      (record { octets = content; place = s.place + content_start tag content octets }) reason place

-- an element of this choice
abbrev pub one_of : {V : Type 0} → Choice V → Field V
one_of choice = record {
  spells = λ v octets behind. IsOneOf choice v octets;
  faulty =
      λ s reason place. IsMissing s reason place ⊎ IsElementFault s reason place ⊎ IsFaultyChoice choice s reason place;
}
