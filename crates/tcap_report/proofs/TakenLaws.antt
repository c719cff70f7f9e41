-- Values that are taken out of a map by their keys, one after another.
use Rattle.std.specs.BTreeMap as tree
use Rattle.std.specs.BTreeMap.{BTreeMap, is_at}
use Rattle.std.specs.Cmp.{ranks, unsigned_tied}
use Rattle.std.specs.Ordering.{MatchOrdering, nat_cmp}
use Rattle.std.specs.declared.cmp.Ordering.TheVariants.{Less}
use Rattle.std.specs.List.{cons_option, filter_map, list_any}
use Rattle.std.specs.List.Sorted.{IsStrictlySortedBy}
use Rattle.std.proofs.Common.{arith, ◌≡◌, ℕ, suc, zero, ◌+◌, ◌<◌, Bool, true, false, cond, List, [], ◌∷◌, ◌++◌, length, take, drop, get_or, refl, sym, ap, subst, ◌∙◌, take-append-drop}
use Rattle.std.specs.Prelude.{◌==◌, ◌||◌, None, Option}
use Rattle.std.proofs.lemmas.Bool.{ne_eqb}
use Rattle.std.proofs.lemmas.List.{take_more}
use Rattle.std.proofs.lemmas.List.Elements.{filter_map-append}
use Rattle.std.proofs.lemmas.List.Folds.{list_any-append}
use Rattle.std.proofs.lemmas.Map.Keys.{Less-from_sorted, sorted_tail}

-- whether this number is among these
abbrev among : List ℕ → ℕ → Bool
among ns n = list_any (λ i. i == n) ns

-- The values at these keys were taken out, and no others.
abbrev pub AreOut : {X : Type 0} → List ℕ → BTreeMap ℕ X → BTreeMap ℕ X → Type 0
AreOut ns old new = (n : ℕ) → tree.get nat_cmp new n ≡ cond (list_any (λ i. i == n) ns) None (tree.get nat_cmp old n)

either_gone : {X : Type 0} (a b : Bool) (o : Option X) → cond b None (cond a None o) ≡ cond (a || (b || false)) None o
either_gone true true o = refl
either_gone true false o = refl
either_gone false true o = refl
either_gone false false o = refl

-- One more key was taken out.
pub one_out : {X : Type 0} (ns : List ℕ) (i d : ℕ) (old now new : BTreeMap ℕ X) → i < length ns → AreOut (take i ns) old now
    → ((n : ℕ) → tree.get nat_cmp new n ≡ cond (is_at (nat_cmp (get_or ns i d)) n) None (tree.get nat_cmp now n)) → AreOut (take (i + 1) ns) old new
one_out ns i d old now new less out takes n =
    let k = get_or ns i d in
    takes n ∙ ap (λ b. cond b None (tree.get nat_cmp now n)) (unsigned_tied k n) ∙ ap (cond (k == n) None) (out n)
    ∙ either_gone (among (take i ns) n) (k == n) (tree.get nat_cmp old n)
    ∙ ap (λ b. cond b None (tree.get nat_cmp old n)) (sym (list_any-append (λ i. i == n) (take i ns) (k ∷ [])))
    ∙ ap (λ l. cond (among l n) None (tree.get nat_cmp old n)) (sym (take_more ns i d less))

-- A value whose key is none of these stays.
pub others_stay : {X : Type 0} (ns : List ℕ) (i : ℕ) (old new : BTreeMap ℕ X) → AreOut (take i ns) old new
    → (n : ℕ) → list_any (λ i. i == n) ns ≡ false → tree.get nat_cmp new n ≡ tree.get nat_cmp old n
others_stay ns i old new out n none = out n ∙ ap (λ b. cond b None (tree.get nat_cmp old n)) (first_none (among (take i ns) n) _ (sym both ∙ none))
  where
    both : among ns n ≡ (among (take i ns) n || among (drop i ns) n)
    both = ap (λ l. among l n) (sym (take-append-drop i ns)) ∙ list_any-append (λ k. k == n) (take i ns) (drop i ns)

    first_none : (a b : Bool) → (a || b) ≡ false → a ≡ false
    first_none true b is = is
    first_none false b is = refl

-- The number at a place of an ascending list is not among those before it.
new_number : (ns : List ℕ) (i d : ℕ) → IsStrictlySortedBy nat_cmp ns → i < length ns → among (take i ns) (get_or ns i d) ≡ false
new_number [] i d sorted less = absurd (omega (less, arith))
new_number (n ∷ ns) zero d sorted less = refl
new_number (n ∷ ns) (suc i) d sorted less =
    let below : n < get_or ns i d = before n (get_or ns i d) (Less-from_sorted nat_cmp (n ∷ ns) 0 (suc i) d sorted (omega arith) less) in
    ap (λ b. b || among (take i ns) (get_or ns i d)) (ne_eqb n (get_or ns i d) (λ same. absurd (omega (below, same, arith))))
    ∙ new_number ns i d (sorted_tail nat_cmp n ns sorted) (omega (less, arith))
  where
    before : (k y : ℕ) → nat_cmp k y ≡ Less → k < y
    before k y is = subst (λ r. MatchOrdering r (k < y) (k ≡ y) (y < k)) is (ranks k y)

-- One more value is taken, if there is one at the key.
pub one_taken : {X : Type 0} (ns : List ℕ) (i d : ℕ) (old now : BTreeMap ℕ X) (es : List X) (o : Option X) → i < length ns
    → IsStrictlySortedBy nat_cmp ns → AreOut (take i ns) old now → es ≡ filter_map (tree.get nat_cmp old) (take i ns)
    → o ≡ tree.get nat_cmp now (get_or ns i d) → es ++ cons_option o [] ≡ filter_map (tree.get nat_cmp old) (take (i + 1) ns)
one_taken ns i d old now es o less sorted out those is =
    let k = get_or ns i d in
    let here : o ≡ tree.get nat_cmp old k = is ∙ out k ∙ ap (λ b. cond b None (tree.get nat_cmp old k)) (new_number ns i d sorted less) in
    ap (λ l. l ++ cons_option o []) those ∙ ap (λ x. filter_map (tree.get nat_cmp old) (take i ns) ++ cons_option x []) here
    ∙ sym (filter_map-append (tree.get nat_cmp old) (take i ns) (k ∷ []))
    ∙ ap (filter_map (tree.get nat_cmp old)) (sym (take_more ns i d less))
