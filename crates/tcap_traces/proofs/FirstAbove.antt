-- The first of ascending numbers that is above a number, found at the place from which on all are above it.
use Rattle.std.proofs.Common.{arith, ◌≡◌, ℕ, zero, suc, ◌-◌, ◌<◌, ◌≤◌, true, false, cond, List, [], ◌∷◌, drop, length, take, Some, None, refl, sym, ap, ◌∙◌}
use Rattle.std.specs.Prelude.{nat_le, nat_lt, slice_get, slice_index_or}
use Rattle.std.specs.List.{AllWithin, find}
use Rattle.std.proofs.lemmas.Bool.{le-ltb, leb-false, leb-true, lt-ltb}
use Rattle.std.proofs.lemmas.List.{length-drop}
use Rattle.std.proofs.Math.Seq.{take-length}

-- The number at the first place from which on all numbers are above n is the first number above n.
pub found_at : (n : ℕ) (ns : List ℕ) (at : ℕ) → AllWithin (λ y. nat_le y n ≡ true) ns 0 at
    → AllWithin (λ y. nat_le y n ≡ false) ns at (length ns) → slice_get ns at ≡ find (λ other. nat_lt n other) ns
found_at n [] zero below above = refl
found_at n [] (suc at) below above = refl
found_at n (m ∷ ns) zero below above =
    let more : n < m = leb-false m n (above 0 0 (omega arith) (omega arith)) in
    ap (λ b. cond b (Some m) (find (λ other. nat_lt n other) ns)) (sym (lt-ltb n m more))
found_at n (m ∷ ns) (suc at) below above =
    let most : m ≤ n = leb-true m n (below 0 0 (omega arith) (omega arith)) in
    found_at n ns at (λ k d from less. below (suc k) d (omega arith) (omega (less, arith)))
    (λ k d from less. above (suc k) d (omega (from, arith)) (omega (less, arith)))
    ∙ ap (λ b. cond b (Some m) (find (λ other. nat_lt n other) ns)) (sym (le-ltb n m most))

first_left : (ns : List ℕ) (at : ℕ) → slice_get ns at ≡ slice_get (drop at ns) 0
first_left [] zero = refl
first_left [] (suc at) = refl
first_left (n ∷ ns) zero = refl
first_left (n ∷ ns) (suc at) = first_left ns at

-- the numbers from a place on
abbrev pub left_from : List ℕ → ℕ → List ℕ
left_from ns at = take (length ns - at) (drop at ns)

left_is : (ns : List ℕ) (at : ℕ) → left_from ns at ≡ drop at ns
left_is ns at = ap (λ k. take k (drop at ns)) (sym (length-drop at ns)) ∙ take-length (drop at ns)

module _ (n : ℕ) (ns : List ℕ) (at : ℕ) (below : AllWithin (λ y. nat_le y n ≡ true) ns 0 at)
    (above : AllWithin (λ y. nat_le y n ≡ false) ns at (length ns)) where
  found_left : slice_get (left_from ns at) 0 ≡ find (λ other. nat_lt n other) ns
  found_left = ap (λ l. slice_get l 0) (left_is ns at) ∙ sym (first_left ns at) ∙ found_at n ns at below above

  pub none_found : length (left_from ns at) < 1 → None ≡ find (λ other. nat_lt n other) ns
  none_found short = by (left_from ns at) short ∙ found_left
    where
      by : (l : List ℕ) → length l < 1 → None ≡ slice_get l 0
      by [] less = refl
      by (m ∷ l) less = absurd (omega (less, arith))

  pub first_found : 1 ≤ length (left_from ns at) → Some (slice_index_or (left_from ns at) 0 0) ≡ find (λ other. nat_lt n other) ns
  first_found some = by (left_from ns at) some ∙ found_left
    where
      by : (l : List ℕ) → 1 ≤ length l → Some (slice_index_or l 0 0) ≡ slice_get l 0
      by [] more = absurd (omega (more, arith))
      by (m ∷ l) more = refl
