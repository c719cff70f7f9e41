-- The least number noted so far, by end and transaction.
use Rattle.std.specs.Prelude.{◌≡◌, ℕ, Bool, false, length, slice_get, Option, Some, None, ◌==◌, nat_lt, nat_le, min}
use Rattle.tcap_record.specs.declared.entry.End.{End as Side}
use Rattle.tcap_record.specs.declared.entry.End.TheVariants as sides
use Rattle.tcap_model.specs.Run.{option_then}
use Rattle.tcap_search.specs.declared.leasts.Leasts.{Leasts}

-- the least number noted, if there is one
abbrev pub least_at : Side → ℕ → Leasts → Option ℕ
least_at sides.A transaction l = option_then (slice_get l.a.items transaction) (λ least. least)
least_at sides.B transaction l = option_then (slice_get l.b.items transaction) (λ least. least)

-- There is room for this many transactions.
abbrev pub HasRoom : ℕ → Leasts → Type 0
HasRoom count l = (length l.a.items ≡ count) × (length l.b.items ≡ count)

-- the least of this number and the one before, if any
abbrev pub lesser : ℕ → Option ℕ → Option ℕ
lesser number None = Some number
lesser number (Some least) = Some (min least number)

-- whether an optional transaction is this one
abbrev pub is_transaction : ℕ → Option ℕ → Bool
is_transaction transaction None = false
is_transaction transaction (Some other) = transaction == other

-- whether a number below the limit was noted
abbrev pub is_below : ℕ → Option ℕ → Bool
is_below limit None = false
is_below limit (Some least) = nat_lt least limit

-- whether a number up to the limit was noted
abbrev pub is_within : ℕ → Option ℕ → Bool
is_within limit None = false
is_within limit (Some least) = nat_le least limit
