-- Removal of blanks at the end of octets.
use Rattle.std.proofs.Common.{◌≡◌, ℕ, suc, ◌-◌, arith, true, List, [], ◌∷◌, ◌++◌, cond, length, reverse, slice_index_or, take, refl, sym, ap, subst, ◌∙◌}
use Rattle.std.proofs.lemmas.List.{reverse-append}
use Rattle.tcap_traces.specs.Directive.{after_blanks, is_blank}

by_last : (x : ℕ) (xs : List ℕ) (d : ℕ)
    → take (length xs) (x ∷ xs) ++ slice_index_or (x ∷ xs) (length xs) d ∷ [] ≡ x ∷ xs
by_last x [] d = refl
by_last x (y ∷ ys) d = ap (λ l. x ∷ l) (by_last y ys d)

at_length : (x : ℕ) (xs : List ℕ) (d : ℕ) → is_blank (slice_index_or (x ∷ xs) (length xs) d) ≡ true
    → after_blanks (reverse (take (length xs) (x ∷ xs))) ≡ after_blanks (reverse (x ∷ xs))
at_length x xs d blank =
    let front = take (length xs) (x ∷ xs) in
    let last = slice_index_or (x ∷ xs) (length xs) d in
    sym (
    ap (λ l. after_blanks (reverse l)) (sym (by_last x xs d))
    ∙ ap after_blanks (reverse-append front (last ∷ []))
    ∙ ap (λ b. cond b (after_blanks (reverse front)) (last ∷ reverse front)) blank
    )

-- A blank at the end is dropped.
pub blank_at_end : (octets : List ℕ) (d : ℕ) → is_blank (slice_index_or octets (length octets - 1) d) ≡ true
    → after_blanks (reverse (take (length octets - 1) octets)) ≡ after_blanks (reverse octets)
blank_at_end [] d blank = refl
blank_at_end (x ∷ xs) d blank =
    let n : suc (length xs) - 1 ≡ length xs = omega arith in
    subst (
    λ n. is_blank (slice_index_or (x ∷ xs) n d) ≡ true
    → after_blanks (reverse (take n (x ∷ xs))) ≡ after_blanks (reverse (x ∷ xs))
    ) (sym n) (at_length x xs d) blank
