-- What a map from operation codes holds. Local codes come before global ones.
use Rattle.std.specs.Prelude.{ℕ, List, map, ◌++◌}
use Rattle.std.specs.Ordering.{int_cmp, nat_cmp}
use Rattle.std.specs.declared.cmp.Ordering.{Ordering}
use Rattle.std.specs.declared.cmp.Ordering.TheVariants.{Less, Greater}
use Rattle.std.specs.Cmp.Lexicographic.{slice_cmp}
use Rattle.tcap_parts.specs.declared.code.Code.{Code}
use Rattle.tcap_parts.specs.declared.code.Code.TheVariants.{Local, Global}
use Rattle.tcap_lists.specs.declared.code_map.CodeKey.{CodeKey}
use Rattle.tcap_lists.specs.declared.code_map.CodeKey.TheVariants as keys
use Rattle.tcap_lists.specs.declared.code_map.CodeMap.{CodeMap}

-- the order of octet strings: octet by octet, from the first
abbrev pub octets_cmp : List ℕ → List ℕ → Ordering
octets_cmp a b = slice_cmp nat_cmp a b

-- the order of codes: local codes first
abbrev pub code_cmp : Code → Code → Ordering
code_cmp (Local m) (Local n) = int_cmp m n
code_cmp (Local m) (Global octets) = Less
code_cmp (Global octets) (Local n) = Greater
code_cmp (Global a) (Global b) = octets_cmp a b

-- the code that a key means
abbrev pub key_code : CodeKey → Code
key_code (keys.Local n) = Local n
key_code (keys.Global octets) = Global octets.items

-- the codes and their values, in the order of the codes
abbrev pub coded : {V : Type 0} → CodeMap V → List (Code × V)
coded m = map (λ e. (Local e.0, e.1)) m.locals.entries ++ map (λ e. (Global e.0.items, e.1)) m.globals.entries
