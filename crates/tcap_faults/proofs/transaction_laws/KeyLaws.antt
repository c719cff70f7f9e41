-- Transaction IDs as keys.
use Rattle.std.proofs.Common.{◌≡◌, ℕ, Bool, true, false, cond, ◌||◌, List, Some, bytes_eq, refl, ap, ◌∙◌, arith}
use Rattle.std.specs.BTreeMap.{is_at}
use Rattle.std.specs.BTreeSet.{BTreeSet}
use Rattle.std.specs.BTreeSet as set
use Rattle.std.specs.Cmp.Lexicographic.{nat_list_cmp_total}
use Rattle.std.proofs.lemmas.Cmp.{eq_by_cmp_equiv}
use Rattle.std.proofs.lemmas.Map.Text.{is_eq-slice_cmp}
use Rattle.tcap_end.specs.End.{is_id}
use Rattle.tcap_end.specs.Table.{octets_cmp}

pub at_id : (a b : List ℕ) → is_at (octets_cmp a) b ≡ bytes_eq a b
at_id a b = is_eq-slice_cmp a b

pub at_other : (a b : List ℕ) → is_at (octets_cmp a) b ≡ bytes_eq b a
at_other a b = (eq_by_cmp_equiv nat_list_cmp_total).symm a b ∙ at_id b a

-- A set with one more ID.
pub set_more : (id : List ℕ) (old new : BTreeSet (List ℕ))
    → ((key : List ℕ) → set.contains octets_cmp new key
    ≡ cond (is_at (octets_cmp id) key) true (set.contains octets_cmp old key))
    → (other : List ℕ) → set.contains octets_cmp new other
    ≡ (set.contains octets_cmp old other || is_id other (Some id))
set_more id old new puts other =
    puts other ∙ ap (λ b. cond b true (set.contains octets_cmp old other)) (at_other id other)
    ∙ by (set.contains octets_cmp old other) (bytes_eq other id)
  where
    by : (was is : Bool) → cond is true was ≡ (was || is)
    by was is = grind arith
