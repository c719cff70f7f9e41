-- Lists of codes.
use Rattle.std.proofs.Common.{◌≡◌, Bool, true, false, ◌||◌, List, [], ◌∷◌, inl, inr, refl, ap, arith}
use Rattle.std.specs.List.{list_any}
use Rattle.std.proofs.lemmas.Bool.{or_cases, or_left, or_right}
use Rattle.std.proofs.lemmas.Map.Lookups.{exact_bytes, exact_signed}
use Rattle.std.proofs.lemmas.Map.Views.{tells_apart}
use Rattle.tcap_parts.specs.declared.code.Code.{Code}
use Rattle.tcap_parts.specs.declared.code.Code.TheVariants.{Local, Global}
use Rattle.tcap_end.specs.Component.{is_code}

-- Codes that compare as equal are equal.
pub code_same : (a b : Code) → is_code a b ≡ true → a ≡ b
code_same (Local m) (Local n) is = ap Local (tells_apart exact_signed m n is)
code_same (Local m) (Global octets) is = cc
code_same (Global octets) (Local n) is = cc
code_same (Global a) (Global b) is = ap Global (tells_apart exact_bytes a b is)

absorbed : (a b : Bool) → (b ≡ true → a ≡ true) → a ≡ (a || b)
absorbed true b option_then = refl
absorbed false true option_then = option_then refl
absorbed false false option_then = refl

-- If a code of the list passes a test, the test finds one.
listed_passes : (code : Code) (passes : Code → Bool) (codes : List Code) → list_any (is_code code) codes ≡ true
    → passes code ≡ true → list_any passes codes ≡ true
listed_passes code passes [] there so = there
listed_passes code passes (first ∷ more) there so =
    elim (or_cases (is_code code first) (list_any (is_code code) more) there) [
      | inl is ↦ or_left (passes first) _ (rw (← code_same code first is) so)
      | inr later ↦ or_right (passes first) _ (listed_passes code passes more later so)
    ]

-- A code of the list adds nothing to what a test finds.
pub listed_stays : (code : Code) (codes : List Code) → list_any (is_code code) codes ≡ true
    → (passes : Code → Bool) → list_any passes codes ≡ (list_any passes codes || passes code)
listed_stays code codes there passes =
    absorbed (list_any passes codes) (passes code) (listed_passes code passes codes there)
