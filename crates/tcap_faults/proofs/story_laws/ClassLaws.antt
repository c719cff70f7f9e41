-- Counts of Invokes by tests and classes of their operations (Q.771 3.1).
use Rattle.std.proofs.Common.{◌≡◌, ◌≢◌, ℕ, ℤ, ◌+◌, ◌≤◌, arith, Bool, true, false, cond, List, Option, Some, None, not, refl, sym, ◌∙◌}
use Rattle.std.specs.Prelude.{◌&&◌, ◌||◌, ◌==◌}
use Rattle.std.proofs.lemmas.Bool.{and_parts, both_ways, eqb-true, not-true, or_left, or_right}
use Rattle.tcap_parts.specs.declared.code.Code.{Code}
use Rattle.tcap_parts.specs.declared.component.Component.{Component}
use Rattle.tcap_parts.specs.declared.component.Component.TheVariants.{Invoke}
use Rattle.tcap_end.specs.Class.{of_class, reports}
use Rattle.tcap_end.specs.Component.{class_reports}
use Rattle.tcap_end.specs.Table.{Table, class_of}
use Rattle.tcap_refute.specs.EarlierMessages.{invokes, is_invoke_id}
use Rattle.tcap_faults.specs.Counts.{count, count_class, count_suited, has_class, invokes_where, is_class}
use Rattle.tcap_faults.proofs.list_laws.CountLaws.{count_apart, count_covered}

-- ---- tests of operations

either_and : (a b c : Bool) → (a && (b || c)) ≡ true → (a && b || a && c) ≡ true
either_and a b c is = grind (arith, is)

both_and : (a b c : Bool) → (c ≡ true → b ≡ true) → (a && c) ≡ true → (a && b) ≡ true
both_and true b c option_then is = option_then is
both_and false b c option_then is = cc

-- An Invoke that passes a test of its operation passes a weaker one.
pub invokes_weaker : (p r : Code → Bool) → ((code : Code) → p code ≡ true → r code ≡ true) → (x : ℤ) (c : Component)
    → invokes_where x p c ≡ true → invokes_where x r c ≡ true
invokes_weaker p r weaker x (Invoke id linked code parameter) is =
    both_and (is_invoke_id x id) (r code) (p code) (weaker code) is
invokes_weaker p r weaker x c is = cc

-- If a test implies one of two, an Invoke that passes it passes one of them.
invokes_covered : (p q r : Code → Bool) → ((code : Code) → r code ≡ true → (p code || q code) ≡ true) → (x : ℤ)
    (c : Component) → invokes_where x r c ≡ true → (invokes_where x p c || invokes_where x q c) ≡ true
invokes_covered p q r covered x (Invoke id linked code parameter) is =
    either_and (is_invoke_id x id) (p code) (q code)
    (both_and (is_invoke_id x id) (p code || q code) (r code) (covered code) is)
invokes_covered p q r covered x c is = cc

-- If two tests exclude each other, no Invoke passes both.
invokes_apart : (p q : Code → Bool) → ((code : Code) → p code ≡ true → q code ≡ true → ⊥) → (x : ℤ) (c : Component)
    → invokes_where x p c ≡ true → invokes_where x q c ≡ true → ⊥
invokes_apart p q apart x (Invoke id linked code parameter) first second =
    apart code (and_parts (is_invoke_id x id) (p code) first).1 (and_parts (is_invoke_id x id) (q code) second).1
invokes_apart p q apart x c first second = cc

-- The counts that follow.
module _ (p q r : Code → Bool) (x : ℤ) (cs : List Component) where
  pub codes_covered : ((code : Code) → r code ≡ true → (p code || q code) ≡ true)
      → count (invokes_where x r) cs ≤ count (invokes_where x p) cs + count (invokes_where x q) cs
  codes_covered covered =
      count_covered (invokes_where x p) (invokes_where x q) (invokes_where x r) cs (invokes_covered p q r covered x)

  pub codes_apart : ((code : Code) → p code ≡ true → r code ≡ true) → ((code : Code) → q code ≡ true → r code ≡ true)
      → ((code : Code) → p code ≡ true → q code ≡ true → ⊥)
      → count (invokes_where x p) cs + count (invokes_where x q) cs ≤ count (invokes_where x r) cs
  codes_apart left right apart =
      count_apart (invokes_where x p) (invokes_where x q) (invokes_where x r) cs (invokes_weaker p r left x)
      (invokes_weaker q r right x) (invokes_apart p q apart x)

-- Each Invoke with the ID passes a test or its negation.
pub codes_either : (p : Code → Bool) (x : ℤ) (cs : List Component)
    → count (invokes_where x p) cs + count (invokes_where x (λ code. not (p code))) cs ≡ count (invokes x) cs
codes_either p x cs = omega (arith, above, below)
  where
    q : Code → Bool
    q code = not (p code)

    to_any : (t : Code → Bool) (c : Component) → invokes_where x t c ≡ true → invokes x c ≡ true
    to_any t (Invoke id linked code parameter) is = (and_parts (is_invoke_id x id) (t code) is).0
    to_any t c is = cc

    split : (a b : Bool) → a ≡ true → (a && b || a && not b) ≡ true
    split a b is = grind (arith, is)

    from_any : (c : Component) → invokes x c ≡ true → (invokes_where x p c || invokes_where x q c) ≡ true
    from_any (Invoke id linked code parameter) is = split (is_invoke_id x id) (p code) is
    from_any c is = cc

    above : count (invokes x) cs ≤ count (invokes_where x p) cs + count (invokes_where x q) cs
    above = count_covered (invokes_where x p) (invokes_where x q) (invokes x) cs from_any

    below : count (invokes_where x p) cs + count (invokes_where x q) cs ≤ count (invokes x) cs
    below = count_apart (invokes_where x p) (invokes_where x q) (invokes x) cs (to_any p) (to_any q)
        (invokes_apart p q (λ code is other. both_ways (p code) (not-true (p code) other) is) x)

-- ---- classes

-- An operation has one class.
pub class_apart : (table : Table) (m n : ℕ) → m ≢ n → (code : Code) → has_class table m code ≡ true
    → has_class table n code ≡ true → ⊥
class_apart table m n other code = λ h1 h2. grind (arith, h1, h2)

-- Classes 1 and 3 report success, and classes 1 and 2 report failure.
pub reports_class : (table : Table) (is_result : Bool) (code : Code) → class_reports table is_result code
    ≡ (has_class table 1 code || has_class table (cond is_result 3 2) code)
reports_class table is_result code = by is_result (class_of table code)
  where
    two : (a b : Bool) → cond a true (cond b true false) ≡ (a || b)
    two a b = grind arith

    by : (b : Bool) (o : Option ℕ) → of_class (reports b) o ≡ (is_class 1 o || is_class (cond b 3 2) o)
    by b None = refl
    by true (Some n) = two (n == 1) (n == 3)
    by false (Some n) = two (n == 1) (n == 2)

-- The number of Invokes whose class allows such an answer.
pub count_reports : (table : Table) (is_result : Bool) (x : ℤ) (cs : List Component)
    → count (invokes_where x (class_reports table is_result)) cs ≡ count_suited table is_result x cs
count_reports table is_result x cs = omega (arith, above, below)
  where
    other : ℕ
    other = cond is_result 3 2

    not_one : (b : Bool) → ◌≢◌ {A = ℕ} 1 (cond b 3 2)
    not_one true = omega arith
    not_one false = omega arith

    above : count (invokes_where x (class_reports table is_result)) cs ≤ count_suited table is_result x cs
    above = codes_covered (has_class table 1) (has_class table other) (class_reports table is_result) x cs
        (λ code is. sym (reports_class table is_result code) ∙ is)

    below : count_suited table is_result x cs ≤ count (invokes_where x (class_reports table is_result)) cs
    below = codes_apart (has_class table 1) (has_class table other) (class_reports table is_result) x cs
        (λ code is. reports_class table is_result code ∙ or_left _ _ is)
        (λ code is. reports_class table is_result code ∙ or_right _ _ is)
        (class_apart table 1 other (not_one is_result))

-- Classes 1, 2 and 3 report success or failure.
pub count_reporting : (table : Table) (x : ℤ) (cs : List Component)
    → count (invokes_where x (λ code. class_reports table true code || class_reports table false code)) cs
    ≤ count_class table x 1 cs + count_class table x 2 cs + count_class table x 3 cs
count_reporting table x cs = omega (arith, either, count_reports table true x cs)
  where
    covered : (a b c s f : Bool) → s ≡ (a || c) → f ≡ (a || b) → (s || f) ≡ true → (s || b) ≡ true
    covered a b c s f success failure is = grind (arith, success, failure, is)

    either : count (invokes_where x (λ code. class_reports table true code || class_reports table false code)) cs
        ≤ count (invokes_where x (class_reports table true)) cs + count_class table x 2 cs
    either = codes_covered (class_reports table true) (has_class table 2) _ x cs
        (λ code. covered (has_class table 1 code) (has_class table 2 code) (has_class table 3 code)
        (class_reports table true code) (class_reports table false code) (reports_class table true code)
        (reports_class table false code))
