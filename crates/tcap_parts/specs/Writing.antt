-- What does it mean that a part was written?
use Rattle.std.specs.Prelude.{◌≡◌, ℕ, List, Option, Some}
use Rattle.std.specs.Io.KnownBytes.{Appends}

-- the octets that the writer has taken grew by this spelling, if it exists
abbrev pub Written : Option (List ℕ) → Option (List ℕ) → Option (List ℕ) → Type 0
Written spelling old new = (octets : List ℕ) → spelling ≡ Some octets → Appends old new octets
