-- Which operation tables do the worked records use?
use Rattle.std.specs.Prelude.{ℕ, pos, Bool, true, false, List, [], ◌∷◌}
use Rattle.tcap_parts.specs.declared.code.Code.{Code}
use Rattle.tcap_parts.specs.declared.code.Code.TheVariants.{Local}
use Rattle.tcap_end.specs.Table.{Operation, Table}

-- The operations that may be linked to operation 50: 48 alone.
abbrev pub alone : List (Code × Unit {0})
alone = (Local (pos 48), tt) ∷ []

-- The operations that may be linked to operation 50: 45 and 48.
abbrev pub both : List (Code × Unit {0})
both = (Local (pos 45), tt) ∷ (Local (pos 48), tt) ∷ []

abbrev operation : ℕ → Bool → Operation
operation class expires = record { class = class; linked = []; expires = expires }

-- Operations 45 to 48 have the classes 1 to 4, and the first four values are whether their invocations may expire.
-- The class, expiry and linked operations of 50 are the next three.
abbrev pub operations : Bool → Bool → Bool → Bool → ℕ → Bool → List (Code × Unit {0}) → Bool → Table
operations of_45 of_46 of_47 of_48 class expires linked prearranged = record {
  operations =
      (Local (pos 45), operation 1 of_45) ∷ (Local (pos 46), operation 2 of_46) ∷ (Local (pos 47), operation 3 of_47)
      ∷ (Local (pos 48), operation 4 of_48)
      ∷ (Local (pos 50), record { class = class; linked = linked; expires = expires }) ∷ [];
  prearranged = prearranged;
}

-- All invocations may expire.
abbrev pub all_expire : Table
all_expire = operations true true true true 1 true alone false

-- Invocations of 45, 46 and 48 do not expire.
abbrev pub some_last : Table
some_last = operations false false true false 1 true alone false

-- Invocations of 45 to 48 do not expire.
abbrev pub all_last : Table
all_last = operations false false false false 1 true alone false

-- Transactions may end by prearrangement.
abbrev pub prearranged : Table
prearranged = operations true true true true 1 true alone true
