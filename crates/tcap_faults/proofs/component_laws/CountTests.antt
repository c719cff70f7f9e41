-- Shortcuts for tests of counts.
use Rattle.std.proofs.Common.{◌≡◌, ℕ, ◌≤◌, ◌<◌, arith, Bool, true, false, not, refl, ap, ◌∙◌}
use Rattle.std.specs.Prelude.{◌||◌, ◌&&◌, ◌==◌, nat_lt}
use Rattle.std.proofs.lemmas.Bool.{le-leb, le-ltb, lt-ltb, ne_eqb}
use Rattle.tcap_faults.specs.Components.{is_of_link}
use Rattle.tcap_faults.specs.KindsByCounts.{more_last_by}

-- If an invocation lasts.
pub some_last : (r : Bool) (all of_1 of_3 ends results generals not_lasts : ℕ)
    (all' of_1' of_3' ends' results' generals' not_lasts' : ℕ) → (all ≡ 0 → ⊥)
    → r ≡ more_last_by all of_1 of_3 ends results generals not_lasts → all ≡ all' → of_1 ≡ of_1' → of_3 ≡ of_3'
    → ends ≡ ends' → results ≡ results' → generals ≡ generals' → not_lasts ≡ not_lasts'
    → r ≡ (not (all' == 0) && more_last_by all' of_1' of_3' ends' results' generals' not_lasts')
some_last r all of_1 of_3 ends results generals not_lasts all' of_1' of_3' ends' results' generals' not_lasts' some is
    same_all same_1 same_3 same_ends same_results same_generals same_not_lasts =
    is ∙ ap (λ b. not b && more_last_by all of_1 of_3 ends results generals not_lasts) (none (ne_eqb all 0 some))
    ∙ rw (same_all, same_1, same_3, same_ends, same_results, same_generals, same_not_lasts) refl
  where
    none : (all == 0) ≡ false → false ≡ (all == 0)
    none e = rw e refl

-- If an Invoke of the message has the ID.
pub seen_before : (n m : ℕ) (busy : Bool) → n ≡ m → 0 < n → nat_lt 0 n ≡ (nat_lt 0 m || busy)
seen_before n m busy same some = rw (← same, lt-ltb 0 n some) refl

-- If no Invoke of the message has the ID.
pub seen_not : (n m : ℕ) (busy busy' : Bool) → n ≡ m → n ≤ 0 → busy ≡ busy' → busy ≡ (nat_lt 0 m || busy')
seen_not n m busy busy' same none is = rw (← same, le-ltb 0 n none, ← is) refl

-- If the problem concerns a link, and there are not too many Rejects with one.
pub link_fine : (n linked linked' rejects rejects' : ℕ) (again fine fine' : Bool) → 5 ≤ n → n ≤ 7
    → linked ≡ linked' → rejects ≡ rejects' → rejects ≤ linked → fine ≡ fine'
    → fine ≡ (((n == 0) && again) || (is_of_link n && nat_lt linked' rejects') || fine' || nat_lt 7 n)
link_fine n linked linked' rejects rejects' again fine fine' from to same_linked same_rejects enough is =
    rw (
      ← same_linked,
      ← same_rejects,
      ne_eqb n 0 (λ zero. omega (arith, zero)),
      le-leb 5 n from,
      le-leb n 7 to,
      le-ltb linked rejects enough,
      le-ltb 7 n to,
      ← is,
    ) (or_last fine)
  where
    or_last : (b : Bool) → b ≡ (b || false)
    or_last b = grind arith
