-- What does a checker keep of a Begin or Continue that a listed event names?
use Rattle.std.specs.Prelude.{ℕ, ℤ, Bool, List, Option}

-- Whether the message is a Begin, its originating ID, and for each component its invoke ID if it is an Invoke, else
-- None.
pub record MessageNote : Type 0 where
  pub begins : Bool
  pub otid : List ℕ
  pub invokes : List (Option ℤ)
