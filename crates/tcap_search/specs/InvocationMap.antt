-- How values are kept by transaction, end and invoke ID.
use Rattle.std.specs.Prelude.{ℕ, ℤ, ◌+◌, ◌*◌, Option}
use Rattle.std.specs.Ordering.{int_cmp, nat_cmp, ordering_then}
use Rattle.std.specs.declared.cmp.Ordering.{Ordering}
use Rattle.std.specs.BTreeMap.{is_at}
use Rattle.std.specs.Map.{lookup}
use Rattle.tcap_record.specs.declared.entry.End.{End as Side}
use Rattle.tcap_record.specs.declared.entry.End.TheVariants as sides
use Rattle.tcap_search.specs.declared.by_invocation.ByInvocation.{ByInvocation}

-- one number for a transaction and an end
abbrev pub half_number : ℕ → Side → ℕ
half_number transaction sides.A = 2 * transaction
half_number transaction sides.B = 2 * transaction + 1

-- the key of a transaction, an end and an invoke ID
abbrev pub key_of : ℕ → Side → ℤ → ℕ × ℤ
key_of transaction side id = (half_number transaction side, id)

-- the order of keys
abbrev pub key_cmp : ℕ × ℤ → ℕ × ℤ → Ordering
key_cmp k l = ordering_then (nat_cmp k.0 l.0) (int_cmp k.1 l.1)

-- the value kept for a transaction, an end and an invoke ID
abbrev pub kept_at : {T : Type 0} → ℕ → Side → ℤ → ByInvocation T → Option T
kept_at transaction side id kept = lookup (is_at (key_cmp (key_of transaction side id))) kept.map.entries
