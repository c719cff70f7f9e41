-- Steps that add or change one more transaction ID.
use Rattle.std.proofs.Common.{◌≡◌, ℕ, Bool, true, false, cond, List, [], ◌∷◌, ◌++◌, Some, bytes_eq, refl, sym, ap, ◌∙◌}
use Rattle.std.specs.Prelude.{◌&&◌, ◌||◌, not}
use Rattle.std.specs.BTreeMap as tree
use Rattle.std.specs.BTreeMap.{is_at}
use Rattle.std.specs.BTreeSet as set
use Rattle.std.specs.BTreeSet.{BTreeSet}
use Rattle.std.specs.Cmp.Lexicographic.{nat_list_cmp_total}
use Rattle.std.specs.List.{list_any}
use Rattle.std.proofs.lemmas.Cmp.{eq_by_cmp_equiv}
use Rattle.std.proofs.lemmas.List.Folds.{list_any-append}
use Rattle.std.proofs.lemmas.Map.Text.{is_eq-slice_cmp}
use Rattle.std.proofs.lemmas.Slice.Eq.{bytes_eq-Decides}
use Rattle.tcap_end.specs.Table.{octets_cmp}
use Rattle.tcap_traces.specs.declared.before_marks.Before.{Before}
use Rattle.tcap_traces.specs.declared.before_marks.Change.{Change}
use Rattle.tcap_traces.specs.declared.before_marks.Change.TheVariants as changes
use Rattle.tcap_traces.specs.declared.before_marks.EndMarks.{EndMarks}
use Rattle.tcap_traces.specs.IdsBeforeMarks.{changed, known_after, known_by, known_in}

-- ---- Booleans

or_none : (b : Bool) → (b || false) ≡ b
or_none true = refl
or_none false = refl

or_all : (b : Bool) → (b || true) ≡ true
or_all true = refl
or_all false = refl

and_all : (b : Bool) → (b && true) ≡ b
and_all true = refl
and_all false = refl

and_none : (b : Bool) → (b && false) ≡ false
and_none true = refl
and_none false = refl

-- ---- the IDs so far, and one more

abbrev pub is_one : List (List ℕ) → List ℕ → Bool
is_one keys q = list_any (is_at (octets_cmp q)) keys

pub at_octets : (a b : List ℕ) → is_at (octets_cmp a) b ≡ bytes_eq b a
at_octets a b = (eq_by_cmp_equiv nat_list_cmp_total).symm a b ∙ is_eq-slice_cmp b a

one_more : (keys : List (List ℕ)) (key q : List ℕ) → is_one (keys ++ key ∷ []) q ≡ (is_one keys q || bytes_eq q key)
one_more keys key q =
    list_any-append (is_at (octets_cmp q)) keys (key ∷ [])
    ∙ ap (λ b. is_one keys q || b) (or_none (is_at (octets_cmp q) key) ∙ is_eq-slice_cmp q key)

-- ---- a set to which the passing ones of these IDs are added

abbrev pub Adds : (List ℕ → Bool) → List (List ℕ) → BTreeSet (List ℕ) → BTreeSet (List ℕ) → Type 0
Adds passes keys old new = (q : List ℕ) → set.contains octets_cmp new q ≡ (is_one keys q && passes q) || set.contains octets_cmp old q

module _ (passes : List ℕ → Bool) (keys : List (List ℕ)) (key : List ℕ) (old now : BTreeSet (List ℕ))
    (so_far : Adds passes keys old now) (q : List ℕ) where
  abbrev had : Bool
  had = set.contains octets_cmp old q

  passed_both : (p : Bool) → passes key ≡ p → bytes_eq q key ≡ true
      → (cond p true ((is_one keys q && passes q) || had)) ≡ ((is_one keys q || true) && passes q) || had
  passed_both p is same =
      ap (λ x. cond p true ((is_one keys q && x) || had)) passes_q ∙ by p (is_one keys q) had
      ∙ ap (λ x. ((is_one keys q || true) && x) || had) (sym passes_q)
    where
      passes_q : passes q ≡ p
      passes_q = ap passes ((bytes_eq-Decides q key).0 same) ∙ is

      by : (p a o : Bool) → cond p true ((a && p) || o) ≡ ((a || true) && p) || o
      by true true o = refl
      by true false o = refl
      by false true o = refl
      by false false o = refl

  passed_at : (p b : Bool) → passes key ≡ p → bytes_eq q key ≡ b
      → cond (b && p) true (set.contains octets_cmp now q) ≡ (is_one (keys ++ key ∷ []) q && passes q) || had
  passed_at p b is same =
      ap (cond (b && p) true) (so_far q) ∙ by b same
      ∙ ap (λ x. (x && passes q) || had) (ap (λ x. is_one keys q || x) (sym same) ∙ sym (one_more keys key q))
    where
      by : (b : Bool) → bytes_eq q key ≡ b
          → cond (b && p) true ((is_one keys q && passes q) || had) ≡ ((is_one keys q || b) && passes q) || had
      by true same = passed_both p is same
      by false same = ap (λ x. (x && passes q) || had) (sym (or_none (is_one keys q)))

-- If the next ID passes, it is added.
pub adds_one : (passes : List ℕ → Bool) (keys : List (List ℕ)) (key : List ℕ) (old now new : BTreeSet (List ℕ))
    → Adds passes keys old now → passes key ≡ true
    → ((q : List ℕ) → set.contains octets_cmp new q ≡ cond (is_at (octets_cmp key) q) true (set.contains octets_cmp now q))
    → Adds passes (keys ++ key ∷ []) old new
adds_one passes keys key old now new so_far is puts q =
    puts q ∙ ap (λ b. cond b true (set.contains octets_cmp now q)) (at_octets key q ∙ sym (and_all (bytes_eq q key)))
    ∙ passed_at passes keys key old now so_far q true (bytes_eq q key) is refl

-- If the next ID does not pass, it is left out.
pub adds_none : (passes : List ℕ → Bool) (keys : List (List ℕ)) (key : List ℕ) (old now : BTreeSet (List ℕ))
    → Adds passes keys old now → passes key ≡ false → Adds passes (keys ++ key ∷ []) old now
adds_none passes keys key old now so_far is q =
    ap (λ b. cond b true (set.contains octets_cmp now q)) (sym (and_none (bytes_eq q key)))
    ∙ passed_at passes keys key old now so_far q false (bytes_eq q key) is refl

-- If all IDs pass, all are added.
pub adds_all : (keys : List (List ℕ)) (old new : BTreeSet (List ℕ)) → Adds (λ q. true) keys old new → (q : List ℕ)
    → set.contains octets_cmp new q ≡ is_one keys q || set.contains octets_cmp old q
adds_all keys old new adds q = adds q ∙ ap (λ b. b || set.contains octets_cmp old q) (and_all (is_one keys q))

-- ---- a change of what is known of these IDs

abbrev pub Changes : List (List ℕ) → Change → EndMarks → EndMarks → Type 0
Changes keys change old new = (q : List ℕ) → known_in new q ≡ cond (is_one keys q) (changed change (known_in old q)) (known_in old q)

twice : (change : Change) (before : Before) → changed change (changed change before) ≡ changed change before
twice changes.Closed before = refl
twice changes.Opened before = refl
twice changes.Sent before = refl

pub changes_more : (keys : List (List ℕ)) (key : List ℕ) (change : Change) (old now new : EndMarks) → Changes keys change old now
    → ((q : List ℕ) → tree.get octets_cmp new.known q
    ≡ cond (is_at (octets_cmp key) q) (Some (changed change (known_in now key))) (tree.get octets_cmp now.known q))
    → Changes (keys ++ key ∷ []) change old new
changes_more keys key change old now new so_far puts q =
    ap known_by (puts q)
    ∙ ap (λ b. known_by (cond b (Some (changed change (known_in now key))) (tree.get octets_cmp now.known q))) (at_octets key q)
    ∙ by (bytes_eq q key) refl
    ∙ ap (λ b. cond b (changed change (known_in old q)) (known_in old q)) (sym (one_more keys key q))
  where
    at : (b : Bool) → changed change (cond b (changed change (known_in old q)) (known_in old q))
        ≡ cond (b || true) (changed change (known_in old q)) (known_in old q)
    at true = twice change (known_in old q)
    at false = refl

    by : (b : Bool) → bytes_eq q key ≡ b
        → known_by (cond b (Some (changed change (known_in now key))) (tree.get octets_cmp now.known q))
        ≡ cond (is_one keys q || b) (changed change (known_in old q)) (known_in old q)
    by true same =
        ap (λ x. changed change (known_in now x)) (sym ((bytes_eq-Decides q key).0 same)) ∙ ap (changed change) (so_far q)
        ∙ at (is_one keys q)
    by false same = so_far q ∙ ap (λ b. cond b (changed change (known_in old q)) (known_in old q)) (sym (or_none (is_one keys q)))

-- ---- a quiet mark

abbrev after : Change → Bool → Before → Before
after change b before = cond b (changed change before) before

sent_after : (c o s : Bool) (k : Before)
    → (after changes.Sent s (after changes.Opened o (after changes.Closed c k))).sent ≡ k.sent || s
sent_after true true true k = sym (or_all k.sent)
sent_after true false true k = sym (or_all k.sent)
sent_after false true true k = sym (or_all k.sent)
sent_after false false true k = sym (or_all k.sent)
sent_after true true false k = sym (or_none k.sent)
sent_after true false false k = sym (or_none k.sent)
sent_after false true false k = sym (or_none k.sent)
sent_after false false false k = sym (or_none k.sent)

open_after : (c o s : Bool) (k : Before)
    → (after changes.Sent s (after changes.Opened o (after changes.Closed c k))).open ≡ o || (k.open && not c)
open_after c true true k = refl
open_after c true false k = refl
open_after true false true k = sym (and_none k.open)
open_after true false false k = sym (and_none k.open)
open_after false false true k = sym (and_all k.open)
open_after false false false k = sym (and_all k.open)

abbrev made : Bool → Bool → Before
made sent is_open = record { sent = sent; «open» = is_open }

-- After the mark, what was noted is known.
pub marks : (old one two three : EndMarks)
    → ((q : List ℕ) → known_in one q ≡ after changes.Closed (set.contains octets_cmp old.closed q) (known_in old q))
    → ((q : List ℕ) → known_in two q ≡ after changes.Opened (set.contains octets_cmp old.opened q) (known_in one q))
    → ((q : List ℕ) → known_in three q ≡ after changes.Sent (set.contains octets_cmp old.sent q) (known_in two q))
    → (q : List ℕ) → known_in three q ≡ known_after old q
marks old one two three first second third q =
    let c = set.contains octets_cmp old.closed q in
    let o = set.contains octets_cmp old.opened q in
    let s = set.contains octets_cmp old.sent q in
    let k = known_in old q in
    third q ∙ ap (after changes.Sent s) (second q ∙ ap (after changes.Opened o) (first q))
    ∙ ap (λ (x : Bool). made x (after changes.Sent s (after changes.Opened o (after changes.Closed c k))).open) (sent_after c o s k)
    ∙ ap (made (k.sent || s)) (open_after c o s k)
