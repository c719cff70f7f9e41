-- What is a window of octets?
use Rattle.std.specs.Prelude.{ℕ, ◌+◌, List, drop}

-- the octets of a window, and the place of the first
pub record Span : Type 0 where
  pub octets : List ℕ
  pub place : ℕ

-- the window after its first n octets
abbrev pub behind : ℕ → Span → Span
behind n s = record { octets = drop n s.octets; place = s.place + n }
