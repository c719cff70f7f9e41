-- Counts of few components: no sum of these counts exceeds the greatest.
use Rattle.std.proofs.Common.{◌≡◌, ℕ, ℤ, ◌+◌, ◌^◌, ◌≤◌, ◌<◌, arith, Bool, true, false, List, [], ◌∷◌, ◌++◌, length, length-append, refl, sym, ap, ◌∙◌}
use Rattle.std.proofs.lemmas.Bool.Decides.{nat_tests}
use Rattle.std.specs.Prelude.{◌&&◌, nat_lt}
use Rattle.std.specs.List.{list_any}
use Rattle.std.proofs.Math.Path.{fun_ext}
use Rattle.std.proofs.lemmas.Bool.{both_ways, ltb-false, ltb-true}
use Rattle.std.proofs.lemmas.List.Folds.{list_any-append}
use Rattle.tcap_parts.specs.declared.component.Component.{Component}
use Rattle.tcap_parts.specs.declared.component.Component.TheVariants.{Invoke}
use Rattle.tcap_end.specs.Component.{is_code}
use Rattle.tcap_end.specs.Table.{Table}
use Rattle.tcap_refute.specs.EarlierMessages.{invokes, is_invoke_id}
use Rattle.tcap_faults.specs.Counts.{count, invokes_where, is_result_of}
use Rattle.tcap_faults.specs.declared.component.component_sort.Class.TheVariants as classes
use Rattle.tcap_faults.specs.declared.component.component_sort.Sort.TheVariants as sorts
use Rattle.tcap_faults.specs.InvokeCounts.{AreFew, both_tallied, invokes_link, is_sort, results_where, sum, tallied}
use Rattle.tcap_faults.proofs.list_laws.CountLaws.{any_counts, count_both, count_more, counts_any, one}
use Rattle.tcap_faults.proofs.component_laws.SumLaws.{sum_few}

-- ---- sums

-- A sum of three that does not exceed the greatest is exact.
pub sum_three : (a b c : ℕ) → a + b + c < 2 ^ 128 → sum (sum a b) c ≡ a + b + c
sum_three a b c below = rw (sum_few a b (omega arith)) (sum_few (a + b) c below)

-- ---- counts

one_within : (b : Bool) → one b ≤ 1
one_within b = grind arith

-- A count is at most the length.
pub count_within : {A : Type 0} (p : A → Bool) (xs : List A) → count p xs ≤ length xs
count_within p [] = omega arith
count_within p (x ∷ xs) = omega (arith, count_more p x xs, one_within (p x), count_within p xs)

-- Tests that agree count the same.
pub count_same : {A : Type 0} (p q : A → Bool) (xs : List A) → ((x : A) → p x ≡ q x) → count p xs ≡ count q xs
count_same p q xs same = ap (λ t. count t xs) (fun_ext same)

-- Tests that agree find the same.
pub any_same : {A : Type 0} (p q : A → Bool) (xs : List A) → ((x : A) → p x ≡ q x) → list_any p xs ≡ list_any q xs
any_same p q xs same = ap (λ t. list_any t xs) (fun_ext same)

-- A test finds an element exactly if its count is not 0.
pub any_counted : {A : Type 0} (p : A → Bool) (xs : List A) → nat_lt 0 (count p xs) ≡ list_any p xs
any_counted p xs = by (list_any p xs) (nat_lt 0 (count p xs)) refl refl
  where
    by : (found counted : Bool) → list_any p xs ≡ found → nat_lt 0 (count p xs) ≡ counted → counted ≡ found
    by true true is one = refl
    by true false is none = absurd (omega (arith, any_counts p xs is, ltb-false 0 (count p xs) none))
    by false true is one = absurd (both_ways _ is (counts_any p xs (ltb-true 0 (count p xs) one)))
    by false false is none = refl

-- ---- Invokes

-- An Invoke of any class is an Invoke.
any_class : (table : Table) (id : ℤ) (c : Component) → is_sort table id (sorts.Invokes classes.Any) c ≡ invokes id c
any_class table id (Invoke other linked code parameter) = grind arith
any_class table id c = refl

pub count_invokes : (table : Table) (id : ℤ) (cs : List Component)
    → count (is_sort table id (sorts.Invokes classes.Any)) cs ≡ count (invokes id) cs
count_invokes table id cs =
    count_same (is_sort table id (sorts.Invokes classes.Any)) (invokes id) cs (any_class table id)

-- ---- components of two lists

pub few_front : (xs ys : List Component) → AreFew (xs ++ ys) → AreFew xs
few_front xs ys few = omega (arith, few, length-append xs ys)

pub few_behind : (xs ys : List Component) → AreFew (xs ++ ys) → AreFew ys
few_behind xs ys few = omega (arith, few, length-append xs ys)

-- The sum of the counts of two lists is the count of the joined list.
sum_both : (p : Component → Bool) (xs ys : List Component) → AreFew (xs ++ ys)
    → sum (count p xs) (count p ys) ≡ count p (xs ++ ys)
sum_both p xs ys few =
    sum_few (count p xs) (count p ys)
    (omega (arith, few, count_within p xs, count_within p ys, length-append xs ys)) ∙ sym (count_both p xs ys)

pub tallied_both : (table : Table) (xs ys : List Component) → AreFew (xs ++ ys)
    → both_tallied (tallied table xs) (tallied table ys) ≡ tallied table (xs ++ ys)
tallied_both table xs ys few = λ i. record {
  count = λ id sort. sum_both (is_sort table id sort) xs ys few i;
  invokes_of = λ id code. sum_both (invokes_where id (is_code code)) xs ys few i;
  results_of = λ id code. sum_both (is_result_of id code) xs ys few i;
  has_operation = λ id passes. sym (list_any-append (invokes_where id passes) xs ys) i;
  has_link = λ id passes. sym (list_any-append (invokes_link id passes) xs ys) i;
  has_result = λ id passes. sym (list_any-append (results_where id passes) xs ys) i;
}
