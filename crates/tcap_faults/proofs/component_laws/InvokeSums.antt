-- F10 and F11 from counts are F10 and F11, if few components are counted (Q.774 3.2, Q.771 3.1).
use Rattle.std.proofs.Common.{◌≡◌, ℕ, ℤ, ◌+◌, ◌^◌, ◌≤◌, arith, Bool, true, false, ltb, List, Some, not, refl, sym, ap, ◌∙◌, ap₂}
use Rattle.std.proofs.lemmas.Bool.Decides.{nat_tests}
use Rattle.std.specs.Prelude.{◌||◌, ◌&&◌, ◌==◌, nat_le}
use Rattle.std.specs.List.{list_any}
use Rattle.std.proofs.lemmas.Bool.{eqb-true, le-ltb, or_from, or_left, or_right}
use Rattle.tcap_parts.specs.declared.problem.Problem.TheVariants as problems
use Rattle.tcap_parts.specs.declared.component.Component.{Component}
use Rattle.tcap_parts.specs.declared.component.Component.TheVariants.{Invoke, Reject}
use Rattle.tcap_end.specs.Component.{links}
use Rattle.tcap_end.specs.Table.{Table, expires_of}
use Rattle.tcap_refute.specs.EarlierMessages.{invokes, is_invoke_id}
use Rattle.tcap_faults.specs.Counts.{any_problem, count, invokes_where, is_error, is_last_result, is_not_last, rejects_invoke, rejects_result, takes}
use Rattle.tcap_faults.specs.ComponentKinds.{invokes_busy, is_busy, links_badly, may_reject_answer, may_reject_invoke, rejects_generally}
use Rattle.tcap_faults.specs.HalfByPeerId.{HalfMessages}
use Rattle.tcap_faults.specs.declared.component.component_sort.Class.{Class}
use Rattle.tcap_faults.specs.declared.component.component_sort.Class.TheVariants as classes
use Rattle.tcap_faults.specs.declared.component.component_sort.Sort.TheVariants as sorts
use Rattle.tcap_faults.specs.InvokeCounts.{AreFew, is_of_class, is_sort, sum, tallied}
use Rattle.tcap_faults.specs.KindsByCounts.{Counted, invokes_busy_by, is_busy_by, links_badly_by, more_last_by, taken_by}
use Rattle.tcap_faults.proofs.story_laws.AnsweredLaws.{count_takes, count_takes_all}
use Rattle.tcap_faults.proofs.list_laws.CountLaws.{count_apart, count_covered, count_weaker}
use Rattle.tcap_faults.proofs.component_laws.FewSums.{any_counted, count_invokes, count_within, sum_three}
use Rattle.tcap_faults.proofs.component_laws.SumLaws.{above_sum, sum_few, sum_more}

-- The exact counts of what a half heard, invoked and sent before, of the message's components before this one, and of
-- all that may have ended an own invocation.
abbrev pub counted_of : Table → HalfMessages → List Component → List Component → List Component → Counted
counted_of table h all before own = record {
  incoming = tallied table h.incoming;
  invoked = tallied table h.invoked;
  outgoing = tallied table before;
  own = tallied table own;
  all_outgoing = tallied table all;
}

-- ---- F10

-- If no invocation lasts, none of a class does.
none_last : (of_1 of_3 results not_lasts : ℕ) → of_1 ≤ 0 → of_3 ≤ 0
    → (ltb results (of_1 + of_3) || ltb not_lasts 0) ≡ false
none_last of_1 of_3 results not_lasts none_1 none_3 =
    or_from _ _ (le-ltb results (of_1 + of_3) (omega arith)) (le-ltb not_lasts 0 (omega arith))

where_none : (all of_1 of_3 results not_lasts : ℕ) → of_1 ≤ all → of_3 ≤ all
    → (not (all == 0) && (ltb results (of_1 + of_3) || ltb not_lasts all))
    ≡ (ltb results (of_1 + of_3) || ltb not_lasts all)
where_none all of_1 of_3 results not_lasts least_1 least_3 = grind (arith, nat_tests)

-- No sum is compared with a number over the greatest.
last_same : (all of_1 of_3 : ℕ) (results errors rejects generals : ℕ) (own_results own_generals not_lasts : ℕ)
    → of_1 ≤ all → of_3 ≤ all → all ≤ 2 ^ 126
    → (not (all == 0) && more_last_by all of_1 of_3 (sum (sum (sum results errors) rejects) generals) own_results
    own_generals not_lasts)
    ≡ (ltb (results + errors + rejects + generals + own_results + own_generals) (of_1 + of_3)
    || ltb (results + errors + rejects + generals + not_lasts) all)
last_same all of_1 of_3 results errors rejects generals own_results own_generals not_lasts least_1 least_3 few =
    rw (
      sum_more results errors rejects,
      sum_more (results + errors) rejects generals,
      sum_more (results + errors + rejects) generals own_results,
      sum_more (results + errors + rejects + generals) own_results own_generals,
      sum_more (results + errors + rejects) generals not_lasts,
      sum_few of_1 of_3 (omega arith),
      above_sum (results + errors + rejects + generals + own_results) own_generals (of_1 + of_3) (omega arith),
      above_sum (results + errors + rejects + generals) not_lasts all (omega arith),
    ) (where_none all of_1 of_3 _ _ least_1 least_3)

-- A lasting invocation of a class is a lasting invocation.
last_weaker : (table : Table) (id : ℤ) (class : Class) (c : Component)
    → is_sort table id (sorts.Lasting class) c ≡ true → is_sort table id (sorts.Lasting classes.Any) c ≡ true
last_weaker table id class (Invoke other linked code parameter) = λ h3. grind (arith, h3)
last_weaker table id class c = λ is. cc

-- A Reject has one problem.
module _ (id : ℤ) where
  no_invoke : (c : Component) → rejects_invoke id any_problem c ≡ true → rejects_generally id c ≡ true → ⊥
  no_invoke (Reject (Some other) (problems.Invoke n)) = λ is general. cc
  no_invoke c = λ is. cc

  no_answer : (c : Component) → rejects_result id any_problem c ≡ true → rejects_generally id c ≡ true → ⊥
  no_answer (Reject (Some other) (problems.ReturnResult n)) = λ is general. cc
  no_answer c = λ is. cc

-- If two tests never both pass, the count of either is the sum of both counts.
count_either : (p q : Component → Bool) (xs : List Component) → ((c : Component) → p c ≡ true → q c ≡ true → ⊥)
    → count (λ c. p c || q c) xs ≡ count p xs + count q xs
count_either p q xs apart = omega (arith, least, most)
  where
    least : count p xs + count q xs ≤ count (λ c. p c || q c) xs
    least = count_apart p q (λ c. p c || q c) xs (λ c is. or_left (p c) (q c) is) (λ c is. or_right (p c) (q c) is) apart

    most : count (λ c. p c || q c) xs ≤ count p xs + count q xs
    most = count_covered p q (λ c. p c || q c) xs (λ c is. is)

module _ (table : Table) (h : HalfMessages) (few_invoked : AreFew h.invoked) (all before own : List Component) where
  busy_same : (id : ℤ) → is_busy_by (counted_of table h all before own) id ≡ is_busy table h all id
  busy_same id =
      last_same (lasting classes.Any) (lasting classes.One) (lasting classes.Three) results errors rejects generals
      own_results own_generals not_lasts (weaker classes.One) (weaker classes.Three)
      (omega (arith, few_invoked, count_within (is_sort table id (sorts.Lasting classes.Any)) h.invoked))
      ∙ ap₂ (λ n m. ltb n (lasting classes.One + lasting classes.Three) || ltb m (lasting classes.Any))
      (omega (arith, incoming, outgoing)) (omega (arith, incoming))
    where
      lasting : Class → ℕ
      lasting class = count (is_sort table id (sorts.Lasting class)) h.invoked

      weaker : (class : Class) → lasting class ≤ lasting classes.Any
      weaker class =
          count_weaker (is_sort table id (sorts.Lasting class)) (is_sort table id (sorts.Lasting classes.Any)) h.invoked
          (last_weaker table id class)

      results : ℕ
      results = count (is_last_result id) h.incoming

      errors : ℕ
      errors = count (is_error id) h.incoming

      rejects : ℕ
      rejects = count (rejects_invoke id any_problem) h.incoming

      generals : ℕ
      generals = count (rejects_generally id) h.incoming

      not_lasts : ℕ
      not_lasts = count (is_not_last id) h.incoming

      own_results : ℕ
      own_results = count (rejects_result id any_problem) all

      own_generals : ℕ
      own_generals = count (rejects_generally id) all

      incoming : count (may_reject_invoke id) h.incoming ≡ rejects + generals
      incoming = count_either (rejects_invoke id any_problem) (rejects_generally id) h.incoming (no_invoke id)

      outgoing : count (may_reject_answer id) all ≡ own_results + own_generals
      outgoing = count_either (rejects_result id any_problem) (rejects_generally id) all (no_answer id)

  -- Whether an Invoke has F10.
  pub invokes_busy_same : (c : Component)
      → invokes_busy_by (counted_of table h all before own) c ≡ invokes_busy table h all own before c
  invokes_busy_same (Invoke id linked code parameter) =
      ap₂ (λ a b. a || b) (ap (λ n. ltb 0 n) (count_invokes table id own) ∙ any_counted (invokes id) own) (busy_same id)
  invokes_busy_same c = refl

-- ---- F11

-- As many invocations were taken as the counts of each sort say.
taken_same : (table : Table) (before : List Component) (id : ℤ) → AreFew before
    → taken_by (tallied table before) id ≡ count (takes id) before
taken_same table before id few =
    sum_three (count (is_last_result id) before) (count (is_error id) before)
    (count (rejects_invoke id any_problem) before)
    (omega (
      arith,
      few,
      count_within (is_last_result id) before,
      count_within (is_error id) before,
      count_within (rejects_invoke id any_problem) before,
    ))
    ∙ all
  where
    all : count (is_last_result id) before + count (is_error id) before + count (rejects_invoke id any_problem) before
        ≡ count (takes id) before
    all = omega (arith, count_takes id before, count_takes_all id before)

-- Whether an Invoke has F11.
pub links_badly_same : (table : Table) (h : HalfMessages) (all before own : List Component) → AreFew before → (c : Component)
    → links_badly_by table (counted_of table h all before own) c ≡ links_badly table h own before c
links_badly_same table h all before own few (Invoke id (Some to) code parameter) =
    ap₂ (λ n m. nat_le n m || not (list_any (invokes_where to (λ of. links table of code)) h.incoming))
    (count_invokes table to h.incoming) (taken_same table before to few)
links_badly_same table h all before own few c = refl
