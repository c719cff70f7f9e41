-- A tally after one more component.
use Rattle.std.proofs.Common.{◌≡◌, ℕ, ℤ, Bool, true, false, cond, ◌&&◌, ◌||◌, List, [], ◌∷◌, ◌++◌, Option, Some, None, option_map, int_cmp, refl, sym, ap, ◌∙◌, arith}
use Rattle.std.specs.BTreeMap.{is_at}
use Rattle.std.specs.Global.{Box}
use Rattle.std.proofs.lemmas.Cmp.{eq_by_cmp_equiv, int_cmp_total}
use Rattle.std.proofs.lemmas.List.{length-append}
use Rattle.tcap_parts.specs.declared.code.Code.{Code}
use Rattle.tcap_parts.specs.declared.component.Component.{Component}
use Rattle.tcap_end.specs.Component.{is_code}
use Rattle.tcap_end.specs.Table.{Table}
use Rattle.tcap_refute.proofs.TestLaws.{or_none}
use Rattle.tcap_faults.specs.Counts.{invokes_where, is_result_of}
use Rattle.tcap_faults.specs.declared.component.component_sort.Sort.{Sort}
use Rattle.tcap_faults.specs.declared.component.invoke_history.IdHistory.{IdHistory}
use Rattle.tcap_faults.specs.declared.component.tally.Tally.{Tally}
use Rattle.tcap_faults.specs.InvokeCounts.{AreFew, Tallied, invokes_link, is_sort, more_if, results_where, tallied}
use Rattle.tcap_faults.specs.TallyMeaning.{IsTally, answers_in, count_in, count_of, invokes_in, kept_of, links_in, of_kept, tally_of}
use Rattle.tcap_faults.specs.CountUpdate.{IsNoted, IsNothing, answers_by, has_sort, invoke_id, invokes_by, is_its_id, links_where, names_code, one_tallied}
use Rattle.tcap_faults.proofs.component_laws.InvokeMapLaws.{Puts, read_put}
use Rattle.tcap_faults.proofs.component_laws.ComponentSortLaws.{its_answer, its_link, its_name, its_operation, its_sort}
use Rattle.tcap_faults.proofs.component_laws.SumLaws.{count_one_more}
use Rattle.tcap_faults.proofs.list_laws.OneMoreLaws.{any_more}

-- ---- a component with an ID

-- What is kept of the component's ID is one step after what was kept, if anything.
pub record AreSteps (table : Table) (c : Component) (old : Option IdHistory) (new : IdHistory) : Type 0 where
  pub counts : (sort : Sort) → count_in sort new ≡ more_if (has_sort table sort c) (of_kept 0 (count_in sort) old)
  pub invokes : (code : Code)
      → count_of code new.operations
      ≡ more_if (invokes_by (is_code code) c) (of_kept 0 (λ kept. count_of code kept.operations) old)
  pub results : (code : Code)
      → count_of code new.named ≡ more_if (names_code code c) (of_kept 0 (λ kept. count_of code kept.named) old)
  pub operations : (passes : Code → Bool)
      → invokes_in passes new
      ≡ (of_kept false (invokes_in passes) old || invokes_by passes c)
  pub links : (passes : ℤ → Code → Bool)
      → links_in passes new
      ≡ (of_kept false (links_in passes) old || links_where passes c)
  pub answers : (passes : Code → Bool)
      → answers_in passes new
      ≡ (of_kept false (answers_in passes) old || answers_by passes c)

module _ (table : Table) (c : Component) (old : Option IdHistory) (new : IdHistory) where
  pub steps_on : (was : IdHistory) → Some was ≡ old → IsNoted table c was new → AreSteps table c old new
  steps_on was there noted = rw (← there) (record {
    counts = noted.counts;
    invokes = noted.invokes;
    results = noted.results;
    operations = noted.operations;
    links = noted.links;
    answers = noted.answers;
  })

  pub steps_first : (fresh : IdHistory) → None ≡ old → IsNothing fresh → IsNoted table c fresh new → AreSteps table c old new
  steps_first fresh none nothing noted = rw (← none) (record {
    counts = λ sort. noted.counts sort ∙ ap (more_if (has_sort table sort c)) (nothing.counts sort);
    invokes = λ code. noted.invokes code ∙ ap (more_if (invokes_by (is_code code) c)) (nothing.invokes code);
    results = λ code. noted.results code ∙ ap (more_if (names_code code c)) (nothing.results code);
    operations = λ passes. noted.operations passes ∙ ap (λ b. b || invokes_by passes c) (nothing.operations passes);
    links = λ passes. noted.links passes ∙ ap (λ b. b || links_where passes c) (nothing.links passes);
    answers = λ passes. noted.answers passes ∙ ap (λ b. b || answers_by passes c) (nothing.answers passes);
  })

module _ (c : Component) (id q : ℤ) (its : invoke_id c ≡ Some id) (so has : Bool)
    (is : so ≡ (is_its_id q (invoke_id c) && has)) where
  at_its_id : so ≡ (is_at (int_cmp id) q && has)
  at_its_id =
      is ∙ ap (λ i. is_its_id q i && has) its ∙ ap (λ b. b && has) ((eq_by_cmp_equiv int_cmp_total).symm q id)

  counted_at : (n : ℕ) → cond (is_at (int_cmp id) q) (more_if has n) n ≡ more_if so n
  counted_at n = rw at_its_id (by (is_at (int_cmp id) q))
    where
      by : (b : Bool) → cond b (more_if has n) n ≡ more_if (b && has) n
      by b = grind arith

  found_at : (b : Bool) → cond (is_at (int_cmp id) q) (b || has) b ≡ (b || so)
  found_at found = rw at_its_id (by (is_at (int_cmp id) q))
    where
      by : (b : Bool) → cond b (found || has) found ≡ (found || (b && has))
      by b = grind arith

module _ (table : Table) (c : Component) (id : ℤ) (its : invoke_id c ≡ Some id) (old new : Tally) (s : Box IdHistory)
    (puts : Puts id s old.ids.entries new.ids.entries) (steps : AreSteps table c (kept_of id old) s.value) where
  read_at : {A : Type 0} (nothing : A) (f : IdHistory → A) (step : A → A)
      → f s.value ≡ step (of_kept nothing f (kept_of id old)) → (q : ℤ) → of_kept nothing f (kept_of q new)
      ≡ cond (is_at (int_cmp id) q) (step (of_kept nothing f (kept_of q old))) (of_kept nothing f (kept_of q old))
  read_at nothing f step is q =
      read_put (λ o. of_kept nothing f (option_map (λ kept. kept.value) o)) step id s old.ids.entries new.ids.entries
      puts is q

  pub tally_noted : tally_of new ≡ one_tallied table c (tally_of old)
  tally_noted = λ i. record {
    count = λ q sort.
        (read_at 0 (count_in sort) (more_if (has_sort table sort c)) (steps.counts sort) q
        ∙ counted_at c id q its (is_sort table q sort c) (has_sort table sort c) (its_sort table q sort c) _) i;
    invokes_of = λ q code.
        (read_at 0 (λ kept. count_of code kept.operations) (more_if (invokes_by (is_code code) c)) (steps.invokes code) q
        ∙ counted_at c id q its (invokes_where q (is_code code) c) (invokes_by (is_code code) c)
        (its_operation q (is_code code) c) _) i;
    results_of = λ q code.
        (read_at 0 (λ kept. count_of code kept.named) (more_if (names_code code c)) (steps.results code) q
        ∙ counted_at c id q its (is_result_of q code c) (names_code code c) (its_name q code c) _) i;
    has_operation = λ q passes.
        (read_at false (invokes_in passes) (λ b. b || invokes_by passes c) (steps.operations passes) q
        ∙ found_at c id q its (invokes_where q passes c) (invokes_by passes c) (its_operation q passes c) _) i;
    has_link = λ q passes.
        (read_at false (links_in passes) (λ b. b || links_where passes c) (steps.links passes) q
        ∙ found_at c id q its (invokes_link q passes c) (links_where passes c) (its_link q passes c) _) i;
    has_result = λ q passes.
        (read_at false (answers_in passes) (λ b. b || answers_by passes c) (steps.answers passes) q
        ∙ found_at c id q its (results_where q passes c) (answers_by passes c) (its_answer q passes c) _) i;
  }

-- ---- a component without an ID

module _ (q : ℤ) (c : Component) (none : invoke_id c ≡ None) (so has : Bool)
    (is : so ≡ (is_its_id q (invoke_id c) && has)) where
  is_none : so ≡ false
  is_none = is ∙ ap (λ i. is_its_id q i && has) none

  uncounted : (n : ℕ) → n ≡ more_if so n
  uncounted n = rw is_none refl

  unfound : (b : Bool) → b ≡ (b || so)
  unfound b = rw is_none (or_none b)

pub none_tallied : (table : Table) (c : Component) (t : Tallied) → invoke_id c ≡ None → t ≡ one_tallied table c t
none_tallied table c t none = λ i. record {
  count = λ q sort. uncounted q c none _ (has_sort table sort c) (its_sort table q sort c) (t.count q sort) i;
  invokes_of = λ q code.
      uncounted q c none _ (invokes_by (is_code code) c) (its_operation q (is_code code) c) (t.invokes_of q code) i;
  results_of = λ q code. uncounted q c none _ (names_code code c) (its_name q code c) (t.results_of q code) i;
  has_operation = λ q passes.
      unfound q c none _ (invokes_by passes c) (its_operation q passes c) (t.has_operation q passes) i;
  has_link = λ q passes. unfound q c none _ (links_where passes c) (its_link q passes c) (t.has_link q passes) i;
  has_result = λ q passes. unfound q c none _ (answers_by passes c) (its_answer q passes c) (t.has_result q passes) i;
}

-- ---- few components

module _ (table : Table) (cs : List Component) (c : Component) where
  one_more : AreFew (cs ++ c ∷ []) → one_tallied table c (tallied table cs) ≡ tallied table (cs ++ c ∷ [])
  one_more few = λ i. record {
    count = λ q sort. count_one_more (is_sort table q sort) cs c few i;
    invokes_of = λ q code. count_one_more (invokes_where q (is_code code)) cs c few i;
    results_of = λ q code. count_one_more (is_result_of q code) cs c few i;
    has_operation = λ q passes. sym (any_more (invokes_where q passes) cs c) i;
    has_link = λ q passes. sym (any_more (invokes_link q passes) cs c) i;
    has_result = λ q passes. sym (any_more (results_where q passes) cs c) i;
  }

  pub is_more : (old new : Tally) → tally_of new ≡ one_tallied table c (tally_of old) → IsTally table cs old
      → IsTally table (cs ++ c ∷ []) new
  is_more old new is was few =
      is ∙ (ap (one_tallied table c) (was (omega (arith, length-append cs (c ∷ []), few))) ∙ one_more few)
