-- What does reading find at the front of a window?
use Rattle.std.specs.Prelude.{◌≡◌, ℕ, ◌+◌, List, ◌++◌, length}
use Rattle.tcap_ber.specs.Element.{IsElement, content_start}
use Rattle.tcap_ber.specs.Grammar.{Field}
use Rattle.tcap_ber.specs.Span.{Span}
use Rattle.tcap_ber.specs.Reading.{Element}

-- an element at the front of a window, and the window after it
pub record FindsElement (s : Span) (e : Element) (r : Span) : Type 0 where
  pub octets : List ℕ
  pub is_element : IsElement e.tag e.content.octets octets
  pub joined : s.octets ≡ octets ++ r.octets
  pub content_place : e.content.place ≡ s.place + content_start e.tag e.content.octets octets
  pub place : e.place ≡ s.place
  pub behind_place : r.place ≡ s.place + length octets

-- a part at the front of a window that spells this value, and the window after it
pub record Taken {V : Type 0} (part : Field V) (s : Span) (value : V) (rest : Span) : Type 0 where
  pub front : List ℕ
  pub joined : s.octets ≡ front ++ rest.octets
  pub place : rest.place ≡ s.place + length front
  pub is_part : part.spells value front rest.octets
