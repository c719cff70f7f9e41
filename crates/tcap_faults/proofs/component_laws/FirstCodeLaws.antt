-- What a test finds among counted codes, with the first code kept apart.
use Rattle.std.proofs.Common.{◌≡◌, ℕ, ℤ, Bool, true, false, ◌&&◌, ◌||◌, not, Option, Some, None, List, [], ◌∷◌, length, refl, sym, ap, ◌∙◌, arith}
use Rattle.std.specs.Prelude.{◌==◌, vec_len}
use Rattle.std.specs.Global.{Box}
use Rattle.std.specs.List.{list_any}
use Rattle.std.proofs.lemmas.Bool.Decides.{nat_tests}
use Rattle.tcap_parts.specs.declared.code.Code.{Code}
use Rattle.tcap_parts.specs.declared.code.Code.TheVariants.{Local}
use Rattle.tcap_refute.proofs.TestLaws.{and_false, and_true}
use Rattle.tcap_faults.specs.declared.component.code_counts.CodeCounts.{CodeCounts}
use Rattle.tcap_faults.specs.declared.component.code_count_maps.ManyCodes.{ManyCodes}
use Rattle.tcap_faults.specs.TallyMeaning.{codes_any, first_passes, others_any}

-- If the first code passes, a code passes.
pub first_is_so : (passes : Code → Bool) (kept : CodeCounts) (n : ℤ) → kept.first ≡ Some n → passes (Local n) ≡ true
    → true ≡ codes_any passes kept
first_is_so passes kept n is so =
    sym (ap (λ first. first_passes passes first || others_any passes kept.others) is
    ∙ ap (λ b. b || others_any passes kept.others) so)

-- If there is no first code, a code was counted exactly if there are others.
pub others_listed : (kept : CodeCounts) (others : Box ManyCodes) → kept.first ≡ None → kept.others ≡ Some others
    → not (vec_len others.value.codes == 0) ≡ codes_any (λ code. true) kept
others_listed kept others no_first is =
    rw (no_first, is) (listed (vec_len others.value.codes) others.value.codes.items (omega (arith, others.value.codes.ok.0)))
  where
    listed : (n : ℕ) (codes : List Code) → n ≡ length codes → not (n == 0) ≡ list_any (λ code. true) codes
    listed n [] is = rw is refl
    listed n (code ∷ more) is = let some : (n == 0) ≡ false = grind (arith, nat_tests) in ap not some

-- ---- a test that does not depend on the code

never : (codes : List Code) → list_any (λ code. false) codes ≡ false
never [] = refl
never (code ∷ more) = never more

none_so : (first : Option ℤ) (others : Option (Box ManyCodes))
    → (first_passes (λ code. false) first || others_any (λ code. false) others) ≡ false
none_so None None = refl
none_so None (Some others) = never others.value.codes.items
none_so (Some n) None = refl
none_so (Some n) (Some others) = never others.value.codes.items

by_some : (b : Bool) (kept : CodeCounts) → (codes_any (λ code. true) kept && b) ≡ codes_any (λ code. b) kept
by_some true kept = and_true (codes_any (λ code. true) kept)
by_some false kept = and_false (codes_any (λ code. true) kept) ∙ sym (none_so kept.first kept.others)

-- If a code was counted, the test finds one exactly if it holds.
pub where_some : (b : Bool) (kept : CodeCounts) → codes_any (λ code. true) kept ≡ true → b ≡ codes_any (λ code. b) kept
where_some b kept some = sym (ap (λ s. s && b) some) ∙ by_some b kept

-- If no code was counted, the test finds none.
pub where_none : (b : Bool) (kept : CodeCounts) → codes_any (λ code. true) kept ≡ false
    → false ≡ codes_any (λ code. b) kept
where_none b kept none = sym (ap (λ s. s && b) none) ∙ by_some b kept
