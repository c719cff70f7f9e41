-- What a loop over several tallies returns.
use Rattle.std.proofs.Common.{◌≡◌, ℕ, zero, suc, ℤ, ◌+◌, ◌^◌, ◌<◌, ◌≤◌, Bool, true, ◌||◌, List, [], ◌∷◌, length, get_or, drop, Bor, sym, ap, ◌∙◌, arith}
use Rattle.std.proofs.lemmas.Bool.{or_left, or_right}
use Rattle.std.proofs.lemmas.List.{at_drop_all, at_drop_more}
use Rattle.tcap_parts.specs.declared.code.Code.{Code}
use Rattle.tcap_faults.specs.declared.component.component_sort.Sort.{Sort}
use Rattle.tcap_faults.specs.declared.component.tally.Tally.{Tally}
use Rattle.tcap_faults.specs.InvokeCounts.{sum}
use Rattle.tcap_faults.specs.TallyMeaning.{tallies_of}
use Rattle.tcap_faults.proofs.component_laws.SumLaws.{last, sum_below}

pub count_below : (id : ℤ) (sort : Sort) (tallies : List Tally) → (tallies_of tallies).count id sort < 2 ^ 128
count_below id sort [] = omega arith
count_below id sort (tally ∷ more) = sum_below _ _

pub invokes_below : (id : ℤ) (code : Code) (tallies : List Tally) → (tallies_of tallies).invokes_of id code < 2 ^ 128
invokes_below id code [] = omega arith
invokes_below id code (tally ∷ more) = sum_below _ _

pub results_below : (id : ℤ) (code : Code) (tallies : List Tally) → (tallies_of tallies).results_of id code < 2 ^ 128
results_below id code [] = omega arith
results_below id code (tally ∷ more) = sum_below _ _

-- After the loop, the sum so far is the sum of all.
pub counted_all : (f : List (Bor Tally) → ℕ) (all i : ℕ) (tallies : List (Bor Tally)) → f [] ≡ 0 → all < 2 ^ 128
    → length tallies ≤ i → sum all (f (drop i tallies)) ≡ f tallies → all ≡ f tallies
counted_all f all i tallies none few past is =
    sym (last all few) ∙ (ap (sum all) (sym (at_drop_all f tallies i past ∙ none)) ∙ is)

-- If the next tally passes, one of all passes.
pub found_next : (f : List (Bor Tally) → Bool) (p : Tally → Bool) (i : ℕ) (tallies : List (Bor Tally))
    (tally : Bor Tally) → ((t : Bor Tally) (more : List (Bor Tally)) → f (t ∷ more) ≡ (p t.now || f more)) → i < length tallies
    → tally ≡ get_or tallies i tally → p tally.now ≡ true → f (drop i tallies) ≡ f tallies → true ≡ f tallies
found_next f p i tallies tally step within is so left =
    let here : p (get_or tallies i tally).now ≡ true = rw (← is) so in
    sym (at_drop_more f tallies i tally within ∙ step (get_or tallies i tally) (drop (i + 1) tallies)
    ∙ or_left (p (get_or tallies i tally).now) (f (drop (i + 1) tallies)) here)
    ∙ left

-- If a tally passes, one of all passes.
pub found_one : (f : List (Bor Tally) → Bool) (p : Tally → Bool) (i : ℕ) (tallies : List (Bor Tally))
    (tally : Bor Tally) → ((t : Bor Tally) (more : List (Bor Tally)) → f (t ∷ more) ≡ (p t.now || f more)) → i < length tallies
    → tally ≡ get_or tallies i tally → p tally.now ≡ true → f tallies ≡ true
found_one f p i [] tally step within is so = absurd (omega arith)
found_one f p zero (t ∷ more) tally step within is so =
    step t more ∙ or_left (p t.now) (f more) (ap (λ b. p b.now) (sym is) ∙ so)
found_one f p (suc i) (t ∷ more) tally step within is so =
    step t more ∙ or_right (p t.now) (f more) (found_one f p i more tally step (omega arith) is so)
