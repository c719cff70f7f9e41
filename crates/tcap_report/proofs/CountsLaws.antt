-- Counts of several lists of verdicts, one after another or in another order.
use Rattle.std.proofs.Common.{arith, ◌≡◌, ℕ, zero, suc, Bool, true, false, cond, List, [], ◌∷◌, ◌++◌, refl, sym, ap, ◌∙◌}
use Rattle.std.specs.Prelude.{max, nat_le}
use Rattle.std.proofs.lemmas.Bool.{leb-true, leb-false}
use Rattle.tcap_traces.specs.declared.verdict.Verdict.{Verdict}
use Rattle.tcap_traces.specs.declared.verdict.Verdict.TheVariants as verdicts
use Rattle.tcap_report.specs.declared.sum.Counts.{Counts}
use Rattle.tcap_report.specs.declared.sum.Sum.{Sum}
use Rattle.tcap_traces.specs.JudgedTrace.{is_fail, worst}
use Rattle.tcap_traces.specs.Verdict.{rank, worse}
use Rattle.tcap_traces.proofs.DialoguePairs.{IsShuffled}
use Rattle.tcap_report.specs.Counts.{HasJudged, more, no_counts, with_each, with_one}

-- ---- the worse of two verdicts

-- the verdict of a rank
abbrev of_rank : ℕ → Verdict
of_rank zero = verdicts.Pass
of_rank (suc zero) = verdicts.Inconclusive
of_rank (suc (suc zero)) = verdicts.Fail
of_rank (suc (suc (suc n))) = verdicts.Error

known : (v : Verdict) → of_rank (rank v) ≡ v
known verdicts.Pass = refl
known verdicts.Inconclusive = refl
known verdicts.Fail = refl
known verdicts.Error = refl

-- A verdict is known by its rank.
same_rank : (a b : Verdict) → rank a ≡ rank b → a ≡ b
same_rank a b same = sym (known a) ∙ ap of_rank same ∙ known b

rank_worse : (a b : Verdict) → rank (worse a b) ≡ max (rank a) (rank b)
rank_worse a b = by (nat_le (rank a) (rank b)) refl
  where
    by : (less : Bool) → nat_le (rank a) (rank b) ≡ less → rank (cond less b a) ≡ max (rank a) (rank b)
    by true is = let le = leb-true (rank a) (rank b) is in omega (le, arith)
    by false is = let lt = leb-false (rank a) (rank b) is in omega (lt, arith)

worse_joins : (a b c : Verdict) → worse (worse a b) c ≡ worse a (worse b c)
worse_joins a b c =
    let one = rank_worse (worse a b) c in
    let two = rank_worse a b in
    let three = rank_worse a (worse b c) in
    let four = rank_worse b c in
    same_rank (worse (worse a b) c) (worse a (worse b c)) (omega (one, two, three, four, arith))

worse_turned : (a b c : Verdict) → worse (worse a b) c ≡ worse (worse a c) b
worse_turned a b c =
    let one = rank_worse (worse a b) c in
    let two = rank_worse a b in
    let three = rank_worse (worse a c) b in
    let four = rank_worse a c in
    same_rank (worse (worse a b) c) (worse (worse a c) b) (omega (one, two, three, four, arith))

none_worse : (v : Verdict) → v ≡ worse v verdicts.Pass
none_worse v = let one = rank_worse v verdicts.Pass in same_rank v (worse v verdicts.Pass) (omega (one, arith))

pass_worse : (v : Verdict) → worse verdicts.Pass v ≡ v
pass_worse verdicts.Pass = refl
pass_worse verdicts.Inconclusive = refl
pass_worse verdicts.Fail = refl
pass_worse verdicts.Error = refl

-- ---- counts

pub each_append : (xs ys : List Verdict) (c : Counts) → with_each (xs ++ ys) c ≡ with_each ys (with_each xs c)
each_append [] ys c = refl
each_append (x ∷ xs) ys c = each_append xs ys (with_one x c)

pub judged_more : (xs ys : List Verdict) (a b c : Sum) → HasJudged xs a b → HasJudged ys b c → HasJudged (xs ++ ys) a c
judged_more xs ys a b c one two = two ∙ ap (with_each ys) one ∙ sym (each_append xs ys a.traces)

abbrev is_pass : Verdict → Bool
is_pass verdicts.Pass = true
is_pass v = false

abbrev is_inconclusive : Verdict → Bool
is_inconclusive verdicts.Inconclusive = true
is_inconclusive v = false

abbrev is_error : Verdict → Bool
is_error verdicts.Error = true
is_error v = false

-- one more, if it counts
abbrev counted : Bool → ℕ → ℕ
counted one n = cond one (more n 1) n

counted_turned : (a b : Bool) (n : ℕ) → counted b (counted a n) ≡ counted a (counted b n)
counted_turned true true n = refl
counted_turned true false n = refl
counted_turned false true n = refl
counted_turned false false n = refl

-- counts, by their fields
abbrev made : ℕ → ℕ → ℕ → ℕ → Verdict → Counts
made pass inconc fail error worst = record { pass = pass; inconc = inconc; fail = fail; error = error; worst = worst }

-- the counts after one more verdict, field by field
abbrev made_one : Verdict → Counts → Counts
made_one v c = made (counted (is_pass v) c.pass) (counted (is_inconclusive v) c.inconc) (counted (is_fail v) c.fail) (counted (is_error v) c.error)
    (worse c.worst v)

one_made : (v : Verdict) (c : Counts) → with_one v c ≡ made_one v c
one_made verdicts.Pass c = refl
one_made verdicts.Inconclusive c = refl
one_made verdicts.Fail c = refl
one_made verdicts.Error c = refl

-- Two more verdicts are counted in either order.
two_turned : (v w : Verdict) (c : Counts) → with_one w (with_one v c) ≡ with_one v (with_one w c)
two_turned v w c =
    both v w
    ∙ ap (λ n. made n (inconc v w) (fail v w) (error v w) (both_worse v w)) (counted_turned (is_pass v) (is_pass w) c.pass)
    ∙ ap (λ n. made (pass w v) n (fail v w) (error v w) (both_worse v w)) (counted_turned (is_inconclusive v) (is_inconclusive w) c.inconc)
    ∙ ap (λ n. made (pass w v) (inconc w v) n (error v w) (both_worse v w)) (counted_turned (is_fail v) (is_fail w) c.fail)
    ∙ ap (λ n. made (pass w v) (inconc w v) (fail w v) n (both_worse v w)) (counted_turned (is_error v) (is_error w) c.error)
    ∙ ap (made (pass w v) (inconc w v) (fail w v) (error w v)) (worse_turned c.worst v w)
    ∙ sym (both w v)
  where
    pass : Verdict → Verdict → ℕ
    pass x y = counted (is_pass y) (counted (is_pass x) c.pass)

    inconc : Verdict → Verdict → ℕ
    inconc x y = counted (is_inconclusive y) (counted (is_inconclusive x) c.inconc)

    fail : Verdict → Verdict → ℕ
    fail x y = counted (is_fail y) (counted (is_fail x) c.fail)

    error : Verdict → Verdict → ℕ
    error x y = counted (is_error y) (counted (is_error x) c.error)

    both_worse : Verdict → Verdict → Verdict
    both_worse x y = worse (worse c.worst x) y

    both : (x y : Verdict) → with_one y (with_one x c) ≡ made (pass x y) (inconc x y) (fail x y) (error x y) (both_worse x y)
    both x y = ap (with_one y) (one_made x c) ∙ one_made y (made_one x c)

-- A verdict is counted before others or after them.
one_moved : (xs : List Verdict) (v : Verdict) (c : Counts) → with_one v (with_each xs c) ≡ with_each xs (with_one v c)
one_moved [] v c = refl
one_moved (x ∷ xs) v c = one_moved xs v (with_one x c) ∙ ap (with_each xs) (two_turned x v c)

-- Counts do not depend on the order of the verdicts.
pub each_shuffled : (xs ys : List Verdict) (c : Counts) → IsShuffled xs ys → with_each ys c ≡ with_each xs c
each_shuffled [] ys c is = ap (λ l. with_each l c) is
each_shuffled (x ∷ xs) ys c (front, back, joined, rest) =
    ap (λ l. with_each l c) joined ∙ each_append front (x ∷ back) c ∙ ap (with_each back) (one_moved front x c)
    ∙ sym (each_append front back (with_one x c)) ∙ each_shuffled xs (front ++ back) (with_one x c) rest

worst_one : (v : Verdict) (c : Counts) → (with_one v c).worst ≡ worse c.worst v
worst_one v c = ap (λ (k : Counts). k.worst) (one_made v c)

worst_each : (xs : List Verdict) (c : Counts) → (with_each xs c).worst ≡ worse c.worst (worst xs)
worst_each [] c = none_worse c.worst
worst_each (x ∷ xs) c = worst_each xs (with_one x c) ∙ ap (λ w. worse w (worst xs)) (worst_one x c) ∙ worse_joins c.worst x (worst xs)

-- The worst of the counted verdicts is the worst of the list.
pub worst_counted : (xs : List Verdict) → (with_each xs no_counts).worst ≡ worst xs
worst_counted xs = worst_each xs no_counts ∙ pass_worse (worst xs)
