-- Which codes are counted?
use Rattle.std.specs.Prelude.{◌≡◌, ℕ, ℤ, true, List, Option, is_some}
use Rattle.std.specs.Cmp.Lexicographic.{slice_cmp}
use Rattle.std.specs.Global.{Vec}
use Rattle.std.specs.Ordering.{int_cmp, nat_cmp}
use Rattle.std.specs.List.{list_any}
use Rattle.std.specs.Map.{lookup}
use Rattle.std.specs.BTreeMap.{is_at}
use Rattle.tcap_parts.specs.declared.code.Code.{Code}
use Rattle.tcap_parts.specs.declared.code.Code.TheVariants.{Local, Global}
use Rattle.tcap_end.specs.Component.{is_code}

-- The count of a code, if it is counted.
abbrev pub counted : List (ℤ × ℕ) → List (Vec ℕ × ℕ) → Code → Option ℕ
counted locals globals (Local n) = lookup (is_at (int_cmp n)) locals
counted locals globals (Global octets) = lookup (λ k. is_at (slice_cmp nat_cmp octets) k.items) globals

-- Each code that is counted is in this list.
abbrev pub AreListed : List (ℤ × ℕ) → List (Vec ℕ × ℕ) → List Code → Type 0
AreListed locals globals codes =
    (code : Code) → is_some (counted locals globals code) ≡ true → list_any (is_code code) codes ≡ true
