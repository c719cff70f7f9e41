-- The lowest number with which some dialogues are over.
use Rattle.std.proofs.Common.{arith, ◌≡◌, ◌⊎◌, inl, inr, ℕ, ◌<◌, ◌≤◌, List, [], ◌∷◌, ◌++◌, Option, Some, None, refl, sym, ap, ◌∙◌}
use Rattle.std.specs.Prelude.{Contains, min}
use Rattle.std.proofs.lemmas.Bool.{cases_lt}
use Rattle.tcap_dialogues.specs.Course.{Course, first_over, lower}
use Rattle.tcap_dialogues.proofs.CutLists.{first_in, in_cases, later_in, none_in}
use Rattle.tcap_dialogues.proofs.HeldLists.{AreSame}

-- ---- the lower of two numbers

pub lower_none : (a : Option ℕ) → lower a None ≡ a
lower_none None = refl
lower_none (Some a) = refl

pub lower_same : (a : Option ℕ) → lower a a ≡ a
lower_same None = refl
lower_same (Some a) = let same : min a a ≡ a = omega arith in rw same refl

pub lower_turned : (a b : Option ℕ) → lower a b ≡ lower b a
lower_turned None None = refl
lower_turned None (Some b) = refl
lower_turned (Some a) None = refl
lower_turned (Some a) (Some b) = let same : min a b ≡ min b a = omega arith in rw same refl

pub lower_more : (a b c : Option ℕ) → lower (lower a b) c ≡ lower a (lower b c)
lower_more None b c = refl
lower_more (Some a) None c = refl
lower_more (Some a) (Some b) None = refl
lower_more (Some a) (Some b) (Some c) = let same : min (min a b) c ≡ min a (min b c) = omega arith in rw same refl

-- It is one of them.
pub lower_is : (a b : Option ℕ) (n : ℕ) → lower a b ≡ Some n → (a ≡ Some n) ⊎ (b ≡ Some n)
lower_is None b n is = inr is
lower_is (Some a) None n is = inl is
lower_is (Some a) (Some b) n is = by (cases_lt a b)
  where
    same : min a b ≡ n
    same = cc

    by : (a < b) ⊎ (b ≤ a) → (Some a ≡ Some n) ⊎ (Some b ≡ Some n)
    by (inl less) = let it : a ≡ n = omega (arith, same, less) in inl (ap (λ x. Some x) it)
    by (inr more) = let it : b ≡ n = omega (arith, same, more) in inr (ap (λ x. Some x) it)

-- ---- the lowest of several

pub over_appended : (ds es : List Course) → first_over (ds ++ es) ≡ lower (first_over ds) (first_over es)
over_appended [] es = refl
over_appended (d ∷ ds) es = ap (lower d.over) (over_appended ds es) ∙ sym (lower_more d.over (first_over ds) (first_over es))

-- It is that of one dialogue.
pub over_of : (ds : List Course) (n : ℕ) → first_over ds ≡ Some n → (d : Course) × Contains ds d × (d.over ≡ Some n)
over_of [] n is = cc
over_of (d ∷ ds) n is = by (lower_is d.over (first_over ds) n is) (λ there. over_of ds n there)
  where
    by : (d.over ≡ Some n) ⊎ (first_over ds ≡ Some n) → (first_over ds ≡ Some n → (e : Course) × Contains ds e × (e.over ≡ Some n))
        → (e : Course) × Contains (d ∷ ds) e × (e.over ≡ Some n)
    by (inl here) rest = (d, first_in d ds, here)
    by (inr there) rest = let (e, has, so) = rest there in (e, later_in d e ds has, so)

-- It is the lowest.
over_low : (ds : List Course) (d : Course) → Contains ds d → lower d.over (first_over ds) ≡ first_over ds
over_low [] d has = absurd (none_in d has)
over_low (e ∷ ds) d has = by (in_cases e d ds has) (λ there. over_low ds d there)
  where
    by : (e ≡ d) ⊎ Contains ds d → (Contains ds d → lower d.over (first_over ds) ≡ first_over ds)
        → lower d.over (lower e.over (first_over ds)) ≡ lower e.over (first_over ds)
    by (inl same) rest =
        ap (λ x. lower (x.over) (lower e.over (first_over ds))) (sym same) ∙ sym (lower_more e.over e.over (first_over ds))
        ∙ ap (λ o. lower o (first_over ds)) (lower_same e.over)
    by (inr there) rest =
        sym (lower_more d.over e.over (first_over ds)) ∙ ap (λ o. lower o (first_over ds)) (lower_turned d.over e.over)
        ∙ lower_more e.over d.over (first_over ds) ∙ ap (lower e.over) (rest there)

over_lowest : (ds : List Course) (low : Option ℕ) → ((d : Course) → Contains ds d → lower d.over low ≡ low) → lower (first_over ds) low ≡ low
over_lowest [] low below = refl
over_lowest (d ∷ ds) low below =
    lower_more d.over (first_over ds) low ∙ ap (lower d.over) (over_lowest ds low (λ e has. below e (later_in d e ds has)))
    ∙ below d (first_in d ds)

-- It does not depend on the order.
pub over_same : (ds es : List Course) → AreSame ds es → first_over ds ≡ first_over es
over_same ds es same =
    sym (over_lowest es (first_over ds) (λ d has. over_low ds d (same.back d has)))
    ∙ lower_turned (first_over es) (first_over ds)
    ∙ over_lowest ds (first_over es) (λ d has. over_low es d (same.there d has))
