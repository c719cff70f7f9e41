-- Tests: conjunctions, the ends of two entries, transaction IDs, and keys of invocations.
use Rattle.std.proofs.Common.{◌≡◌, Bool, true, false, refl, Some, None, ℕ, List, sym, ◌∙◌, ℤ, ◌==◌, ap, ap₂, arith}
use Rattle.std.specs.Prelude.{◌&&◌, ◌||◌}
use Rattle.tcap_record.specs.declared.entry.End.{End as Side}
use Rattle.tcap_record.specs.declared.entry.Entry.{Entry}
use Rattle.tcap_record.specs.Ends.{other, is_entry_of}
use Rattle.tcap_search.specs.SegmentEntries.{are_of_one_end, is_of_peer}
use Rattle.std.specs.Ordering.{is_eq, nat_cmp, int_cmp, ordering_reverse, ordering_then}
use Rattle.std.specs.Str.{bytes_eq}
use Rattle.std.specs.Cmp.Lexicographic.{slice_cmp}
use Rattle.std.proofs.lemmas.Map.Text.{is_eq-slice_cmp}
use Rattle.std.proofs.lemmas.Slice.Eq.{bytes_eq-Decides}
use Rattle.std.specs.BTreeMap.{is_at}
use Rattle.std.specs.declared.cmp.Ordering.{Ordering}
use Rattle.std.specs.declared.cmp.Ordering.TheVariants.{Less, Equal, Greater}
use Rattle.std.proofs.lemmas.Bool.Decides.{nat_tests}
use Rattle.std.proofs.lemmas.Cmp.{int_cmp_total}
use Rattle.tcap_record.specs.declared.entry.End.TheVariants as sides
use Rattle.tcap_model.specs.World.{is_side}
use Rattle.tcap_search.specs.InvocationMap.{half_number, key_cmp, key_of}

pub and_and : (a b c : Bool) → (a && b && c) ≡ (a && (b && c))
and_and true b c = refl
and_and false b c = refl

pub and_false : (b : Bool) → (b && false) ≡ false
and_false true = refl
and_false false = refl

pub and_true : (b : Bool) → (b && true) ≡ b
and_true true = refl
and_true false = refl

pub and_swap : (a b : Bool) → (a && b) ≡ (b && a)
and_swap true b = rw (and_true b) refl
and_swap false b = rw (and_false b) refl

pub or_false : (b : Bool) → (b || false) ≡ b
or_false true = refl
or_false false = refl

-- ---- whether two entries are from one end, or from both

-- from one end
pub one_end : (e f : Entry) (side : Side) → e.side ≡ Some side → are_of_one_end e f ≡ is_entry_of side f.side
one_end e f side is = rw is refl

pub one_end_none : (e f : Entry) → e.side ≡ None → are_of_one_end e f ≡ false
one_end_none e f is = rw is refl

-- from both ends
pub of_peer : (e f : Entry) (side : Side) → e.side ≡ Some side → is_of_peer e f ≡ is_entry_of (other side) f.side
of_peer e f side is = rw is refl

pub of_peer_none : (e f : Entry) → e.side ≡ None → is_of_peer e f ≡ false
of_peer_none e f is = rw is refl

-- ---- transaction IDs as keys

-- Equality of IDs is symmetric.
pub turned : (a b : List ℕ) → bytes_eq a b ≡ bytes_eq b a
turned a b = by (bytes_eq a b) (bytes_eq b a) refl refl
  where
    by : (c d : Bool) → bytes_eq a b ≡ c → bytes_eq b a ≡ d → c ≡ d
    by true true is is_turned = refl
    by false false is is_turned = refl
    by true false is is_turned =
        let same : a ≡ b = (bytes_eq-Decides a b).0 is in
        sym ((bytes_eq-Decides b a).1 (sym same)) ∙ is_turned
    by false true is is_turned =
        let same : b ≡ a = (bytes_eq-Decides b a).0 is_turned in
        sym is ∙ (bytes_eq-Decides a b).1 (sym same)

-- Keys are equal if their octets are.
pub same_id : (a b : List ℕ) → is_eq (slice_cmp nat_cmp a b) ≡ bytes_eq b a
same_id a b = is_eq-slice_cmp a b ∙ turned a b

-- ---- keys of a transaction, an end and an invoke ID

pub then_equal : (o p : Ordering) → is_eq (ordering_then o p) ≡ (is_eq o && is_eq p)
then_equal Less p = refl
then_equal Equal p = refl
then_equal Greater p = refl

numbers_equal : (m n : ℕ) → is_eq (nat_cmp m n) ≡ (n == m)
numbers_equal m n = grind (arith, nat_tests)

level_turned : (o : Ordering) → is_eq (ordering_reverse o) ≡ is_eq o
level_turned Less = refl
level_turned Equal = refl
level_turned Greater = refl

ids_equal : (i j : ℤ) → is_at (int_cmp i) j ≡ is_at (int_cmp j) i
ids_equal i j = ap is_eq (int_cmp_total.antisymm i j) ∙ level_turned (int_cmp j i)

halves_equal : (t u : ℕ) (s r : Side) → (half_number t s == half_number u r) ≡ ((t == u) && is_side s r)
halves_equal t u sides.A sides.A = grind (arith, nat_tests)
halves_equal t u sides.B sides.B = grind (arith, nat_tests)
halves_equal t u sides.A sides.B = grind (arith, nat_tests)
halves_equal t u sides.B sides.A = grind (arith, nat_tests)

-- Keys are equal if their parts are.
pub same_key : (t u : ℕ) (s r : Side) (i j : ℤ)
    → is_at (key_cmp (key_of u r j)) (key_of t s i) ≡ ((t == u) && is_side s r && is_at (int_cmp i) j)
same_key t u s r i j =
    then_equal (nat_cmp (half_number u r) (half_number t s)) (int_cmp j i)
    ∙ ap₂ (λ (a b : Bool). a && b) (numbers_equal (half_number u r) (half_number t s) ∙ halves_equal t u s r)
    (ids_equal j i)
