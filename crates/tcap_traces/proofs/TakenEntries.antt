-- The numbers and entries of a gathered dialogue are those of the dialogue that it represents.
use Rattle.std.proofs.Common.{arith, ◌≡◌, ◌⊎◌, inl, inr, ℕ, suc, ◌+◌, ◌<◌, ◌≤◌, Bool, true, false, cond, List, [], ◌∷◌, ◌++◌, Some, refl, sym, ap, subst, ◌∙◌, length}
use Rattle.std.specs.Prelude.{◌==◌, ◌||◌, slice_get}
use Rattle.std.specs.List.{AllByRecursion, cons_option, filter_map, list_any}
use Rattle.std.specs.List.Sorted.{IsStrictlySortedBy}
use Rattle.std.specs.Cmp.{ranks}
use Rattle.std.specs.declared.cmp.Ordering.TheVariants.{Less}
use Rattle.std.specs.Ordering.{MatchOrdering, nat_cmp}
use Rattle.std.proofs.lemmas.Bool.{eq-eqb, eqb-true, ne_eqb, or_cases, or_left, or_right, false≢true}
use Rattle.std.proofs.lemmas.Map.Keys.{sorted_head, sorted_tail}
use Rattle.tcap_dialogues.specs.Course.{Course, has_entry}
use Rattle.tcap_traces.specs.Pieces.{TraceEntry}
use Rattle.tcap_traces.specs.Segments.{entries_in, numbers_in}

-- whether this number is among these
abbrev pub among : List ℕ → ℕ → Bool
among ns n = list_any (λ i. i == n) ns

less : (k y : ℕ) → nat_cmp k y ≡ Less → k < y
less k y is = subst (λ r. MatchOrdering r (k < y) (k ≡ y) (y < k)) is (ranks k y)

-- all of these numbers are at least k
abbrev AllFrom : ℕ → List ℕ → Type 0
AllFrom k ns = (n : ℕ) → among ns n ≡ true → k ≤ n

among_head : (n : ℕ) (ns : List ℕ) → among (n ∷ ns) n ≡ true
among_head n ns = or_left (n == n) (among ns n) (eq-eqb n n refl)

among_tail : (m n : ℕ) (ns : List ℕ) → among ns n ≡ true → among (m ∷ ns) n ≡ true
among_tail m n ns is = or_right (m == n) (among ns n) is

-- The numbers after the first of an ascending list are greater.
later_from : (m : ℕ) (ns : List ℕ) → AllByRecursion (λ y. nat_cmp m y ≡ Less) ns → AllFrom (suc m) ns
later_from m [] all n is = absurd (false≢true is)
later_from m (x ∷ ns) (first, all) n is = by (or_cases (x == n) (among ns n) is) (later_from m ns all n)
  where
    by : (x == n ≡ true) ⊎ (among ns n ≡ true) → (among ns n ≡ true → suc m ≤ n) → suc m ≤ n
    by (inl same) rest = let e : x ≡ n = eqb-true x n same in let l = less m x first in omega (e, l, arith)
    by (inr there) rest = rest there

-- An ascending list of the numbers of d from k on.
record AreNumbers (d : Course) (k last : ℕ) (ns : List ℕ) : Type 0 where
  sorted : IsStrictlySortedBy nat_cmp ns
  least : AllFrom k ns
  same : (n : ℕ) → k ≤ n → among ns n ≡ has_entry d n
  below : (n : ℕ) → among ns n ≡ true → n < last

-- the numbers after k, if d has no entry k
not_first : (d : Course) (k last : ℕ) (ns : List ℕ) → has_entry d k ≡ false → AreNumbers d k last ns → AreNumbers d (suc k) last ns
not_first d k last ns is are = record {
  sorted = are.sorted;
  least = λ n there. by n there (are.least n there);
  same = λ n more. are.same n (omega (more, arith));
  below = are.below;
}
  where
    by : (n : ℕ) → among ns n ≡ true → k ≤ n → suc k ≤ n
    by n there more =
        let other : k ≡ n → ⊥ = λ eq. false≢true (sym is ∙ ap (has_entry d) eq ∙ sym (are.same n more) ∙ there) in omega (more, other, arith)

-- the numbers after k, if d has it
first_of : (d : Course) (k last n : ℕ) (ns : List ℕ) → has_entry d k ≡ true → AreNumbers d k last (n ∷ ns)
    → (n ≡ k) × AreNumbers d (suc k) last ns
first_of d k last n ns is are = (
  is_first,
  record {
    sorted = sorted_tail nat_cmp n ns are.sorted;
    least = λ m there. let more = above m there in omega (more, is_first, arith);
    same = λ m more. others m (omega (more, is_first, arith)) ∙ are.same m (omega (more, arith));
    below = λ m there. are.below m (among_tail n m ns there);
  },
)
  where
    above : AllFrom (suc n) ns
    above = later_from n ns (sorted_head nat_cmp n ns are.sorted)

    is_first : n ≡ k
    is_first = by (or_cases (n == k) (among ns k) (are.same k (omega arith) ∙ is))
      where
        by : (n == k ≡ true) ⊎ (among ns k ≡ true) → n ≡ k
        by (inl same) = eqb-true n k same
        by (inr there) =
            let more = above k there in
            let from = are.least n (among_head n ns) in
            absurd (omega (more, from, arith))

    others : (m : ℕ) → n < m → among ns m ≡ among (n ∷ ns) m
    others m fewer = let other : n ≡ m → ⊥ = λ eq. absurd (omega (fewer, eq, arith)) in ap (λ b. b || among ns m) (sym (ne_eqb n m other))

-- Such a list is the list of these numbers among those of the entries from k on.
numbers_from : (d : Course) (k : ℕ) (es : List TraceEntry) (ns : List ℕ) → AreNumbers d k (k + length es) ns → ns ≡ numbers_in d k es
numbers_from d k [] [] are = refl
numbers_from d k [] (n ∷ ns) are =
    let more = are.least n (among_head n ns) in
    let fewer = are.below n (among_head n ns) in
    absurd (omega (more, fewer, arith))
numbers_from d k (e ∷ es) ns are = by (has_entry d k) refl ns are (numbers_from d (suc k) es)
  where
    last : suc k + length es ≡ k + length (e ∷ es)
    last = omega arith

    by : (b : Bool) → has_entry d k ≡ b → (ms : List ℕ) → AreNumbers d k (k + length (e ∷ es)) ms
        → ((l : List ℕ) → AreNumbers d (suc k) (suc k + length es) l → l ≡ numbers_in d (suc k) es)
        → ms ≡ cond b (k ∷ numbers_in d (suc k) es) (numbers_in d (suc k) es)
    by true is [] those rest = absurd (false≢true (those.same k (omega arith) ∙ is))
    by true is (m ∷ ms) those rest =
        let (first, others) = first_of d k (k + length (e ∷ es)) m ms is those in
        ap (λ x. x ∷ ms) first
        ∙ ap (λ l. k ∷ l) (rest ms (subst (λ z. AreNumbers d (suc k) z ms) (sym last) others))
    by false is ms those rest =
        rest ms
        (subst (λ z. AreNumbers d (suc k) z ms) (sym last) (not_first d k (k + length (e ∷ es)) ms is those))

pub numbers_are : (d : Course) (es : List TraceEntry) (ns : List ℕ) → IsStrictlySortedBy nat_cmp ns
    → ((n : ℕ) → among ns n ≡ has_entry d n) → ((n : ℕ) → has_entry d n ≡ true → n < length es) → ns ≡ numbers_in d 0 es
numbers_are d es ns sorted same below =
    numbers_from d 0 es ns
    (record {
      sorted = sorted;
      least = λ n there. omega arith;
      same = λ n more. same n;
      below = λ n there. let less = below n (sym (same n) ∙ there) in omega (less, arith);
    })

-- ---- entries by their numbers

-- the entries with these numbers
abbrev pub entries_at : List TraceEntry → List ℕ → List TraceEntry
entries_at es ns = filter_map (slice_get es) ns

entries_from : (d : Course) (k : ℕ) (all es : List TraceEntry) → ((i : ℕ) → slice_get all (k + i) ≡ slice_get es i)
    → entries_at all (numbers_in d k es) ≡ entries_in d k es
entries_from d k all [] same = refl
entries_from d k all (e ∷ es) same = by (has_entry d k) (entries_from d (suc k) all es)
  where
    zero_more : k + 0 ≡ k
    zero_more = omega arith

    here : slice_get all k ≡ Some e
    here = ap (slice_get all) (sym zero_more) ∙ same 0

    next : (i : ℕ) → slice_get all (suc k + i) ≡ slice_get es i
    next i = let at : suc k + i ≡ k + suc i = omega arith in ap (slice_get all) at ∙ same (suc i)

    by : (b : Bool) → (((i : ℕ) → slice_get all (suc k + i) ≡ slice_get es i) → entries_at all (numbers_in d (suc k) es) ≡ entries_in d (suc k) es)
        → entries_at all (cond b (k ∷ numbers_in d (suc k) es) (numbers_in d (suc k) es))
        ≡ cond b (e ∷ entries_in d (suc k) es) (entries_in d (suc k) es)
    by true rest = ap (λ o. cons_option o (entries_at all (numbers_in d (suc k) es))) here ∙ ap (λ l. e ∷ l) (rest next)
    by false rest = rest next

-- The entries at the numbers of d are its entries.
pub entries_are : (d : Course) (es : List TraceEntry) → entries_at es (numbers_in d 0 es) ≡ entries_in d 0 es
entries_are d es = entries_from d 0 es es (λ i. let at : 0 + i ≡ i = omega arith in ap (slice_get es) at)

-- ---- entries that come later

-- An entry that is not of d changes neither.
pub numbers_push : (d : Course) (k : ℕ) (es : List TraceEntry) (e : TraceEntry) → has_entry d (k + length es) ≡ false
    → numbers_in d k (es ++ e ∷ []) ≡ numbers_in d k es
numbers_push d k [] e is = let at : k + 0 ≡ k = omega arith in ap (λ b. cond b (k ∷ []) []) (ap (has_entry d) (sym at) ∙ is)
numbers_push d k (x ∷ es) e is =
    let at : suc k + length es ≡ k + suc (length es) = omega arith in
    ap (λ l. cond (has_entry d k) (k ∷ l) l) (numbers_push d (suc k) es e (ap (has_entry d) at ∙ is))

pub entries_push : (d : Course) (k : ℕ) (es : List TraceEntry) (e : TraceEntry) → has_entry d (k + length es) ≡ false
    → entries_in d k (es ++ e ∷ []) ≡ entries_in d k es
entries_push d k [] e is = let at : k + 0 ≡ k = omega arith in ap (λ b. cond b (e ∷ []) []) (ap (has_entry d) (sym at) ∙ is)
entries_push d k (x ∷ es) e is =
    let at : suc k + length es ≡ k + suc (length es) = omega arith in
    ap (λ l. cond (has_entry d k) (x ∷ l) l) (entries_push d (suc k) es e (ap (has_entry d) at ∙ is))

-- ---- the numbers of a dialogue

-- As many numbers as entries.
pub as_many : (d : Course) (k : ℕ) (es : List TraceEntry) → length (numbers_in d k es) ≡ length (entries_in d k es)
as_many d k [] = refl
as_many d k (e ∷ es) = by (has_entry d k) (as_many d (suc k) es)
  where
    by : (b : Bool) → length (numbers_in d (suc k) es) ≡ length (entries_in d (suc k) es)
        → length (cond b (k ∷ numbers_in d (suc k) es) (numbers_in d (suc k) es))
        ≡ length (cond b (e ∷ entries_in d (suc k) es) (entries_in d (suc k) es))
    by true rest = ap suc rest
    by false rest = rest

-- All are below the number of the next entry.
pub all_below : (d : Course) (k last : ℕ) (es : List TraceEntry) → k + length es ≤ last → AllByRecursion (λ n. n < last) (numbers_in d k es)
all_below d k last [] most = tt
all_below d k last (e ∷ es) most = by (has_entry d k) (all_below d (suc k) last es (omega (most, arith)))
  where
    by : (b : Bool) → AllByRecursion (λ n. n < last) (numbers_in d (suc k) es)
        → AllByRecursion (λ n. n < last) (cond b (k ∷ numbers_in d (suc k) es) (numbers_in d (suc k) es))
    by true rest = (omega (most, arith), rest)
    by false rest = rest

-- The first of them is the least.
pub first_is : (d : Course) (k : ℕ) (es : List TraceEntry) (n : ℕ) → has_entry d n ≡ true → k ≤ n → n < k + length es
    → ((i : ℕ) → has_entry d i ≡ true → n ≤ i) → slice_get (numbers_in d k es) 0 ≡ Some n
first_is d k [] n is from below least = absurd (omega (from, below, arith))
first_is d k (e ∷ es) n is from below least =
    by (has_entry d k) refl (λ more. first_is d (suc k) es n is more (omega (below, arith)) least)
  where
    by : (b : Bool) → has_entry d k ≡ b → (suc k ≤ n → slice_get (numbers_in d (suc k) es) 0 ≡ Some n) → slice_get (cond b (k ∷ numbers_in d (suc k) es) (numbers_in d (suc k) es)) 0 ≡ Some n
    by true has rest = let most = least k has in let same : k ≡ n = omega (most, from, arith) in ap Some same
    by false has rest =
        let other : k ≡ n → ⊥ = λ eq. false≢true (sym has ∙ ap (has_entry d) eq ∙ is) in
        rest (omega (from, other, arith))
