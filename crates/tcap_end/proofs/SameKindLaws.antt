-- Equality of kinds.
use Rattle.std.proofs.Common.{◌≡◌, Bool, true, false, refl, ap}
use Rattle.std.specs.Ordering.{is_eq}
use Rattle.std.specs.declared.cmp.Ordering.{Ordering}
use Rattle.std.specs.declared.cmp.Ordering.TheVariants.{Less, Equal, Greater}
use Rattle.std.specs.FinMap.{int_cmp-IsAntisymmetric}
use Rattle.std.specs.Ordering.{int_cmp}
use Rattle.std.proofs.lemmas.Map.Lookups.{exact_bytes}
use Rattle.tcap_parts.specs.declared.code.Code.{Code}
use Rattle.tcap_parts.specs.declared.code.Code.TheVariants.{Local, Global}
use denote.Enum.Bare.{sameb}
use mathlib.Core.Bool.{beq}
use Rattle.tcap_end.specs.contracts.received.Link.{the_type as link_type}
use Rattle.tcap_end.specs.declared.received.Link.{Link}
use Rattle.tcap_end.specs.declared.received.Link.TheVariants as links
use Rattle.tcap_end.specs.Table.{octets_cmp}
use Rattle.tcap_end.specs.Component.{is_code}

equal_from : (r : Ordering) → is_eq r ≡ true → r ≡ Equal
equal_from Less bad = let wrong : false ≡ true = bad in cc
equal_from Equal e = refl
equal_from Greater bad = let wrong : false ≡ true = bad in cc

pub codes_same : (code other : Code) → is_code code other ≡ true → code ≡ other
codes_same (Local m) (Local n) e = ap Local (int_cmp-IsAntisymmetric m n (equal_from (int_cmp m n) e))
codes_same (Local m) (Global b) bad = let wrong : false ≡ true = bad in cc
codes_same (Global a) (Local n) bad = let wrong : false ≡ true = bad in cc
codes_same (Global a) (Global b) e = ap Global (exact_bytes a b (equal_from (octets_cmp a b) e))

pub links_same : (a b : Link) → sameb link_type a b ≡ true → a ≡ b
links_same links.Fine links.Fine e = refl
links_same links.Fine links.Unrecognized e = cc
links_same links.Fine links.Unexpected e = cc
links_same links.Fine links.Other e = cc
links_same links.Unrecognized links.Fine e = cc
links_same links.Unrecognized links.Unrecognized e = refl
links_same links.Unrecognized links.Unexpected e = cc
links_same links.Unrecognized links.Other e = cc
links_same links.Unexpected links.Fine e = cc
links_same links.Unexpected links.Unrecognized e = cc
links_same links.Unexpected links.Unexpected e = refl
links_same links.Unexpected links.Other e = cc
links_same links.Other links.Fine e = cc
links_same links.Other links.Unrecognized e = cc
links_same links.Other links.Unexpected e = cc
links_same links.Other links.Other e = refl

pub bools_same : (a b : Bool) → beq a b ≡ true → a ≡ b
bools_same true true e = refl
bools_same true false e = cc
bools_same false true e = cc
bools_same false false e = refl
