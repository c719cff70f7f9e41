-- What a test finds among linked Invokes, by their linked IDs, after one more.
use Rattle.std.proofs.Common.{◌≡◌, ℤ, Bool, true, false, cond, ◌||◌, List, [], ◌∷◌, Some, None, Ordering, Less, Equal, Greater, int_cmp, refl, sym, ap, ◌∙◌, arith}
use Rattle.std.specs.BTreeMap.{BTreeMap, WritesThrough, insert_entry, is_at}
use Rattle.std.specs.List.{list_any}
use Rattle.std.specs.Map.{lookup, set_value}
use Rattle.std.specs.Ordering.{match_ordering}
use Rattle.std.proofs.lemmas.Bool.{or_left, or_right}
use Rattle.std.proofs.lemmas.Map.Lookups.{exact_signed}
use Rattle.std.proofs.lemmas.Map.Views.{tells_apart}
use Rattle.tcap_parts.specs.declared.code.Code.{Code}
use Rattle.tcap_parts.specs.declared.code.CodeView.{CodeView}
use Rattle.tcap_parts.specs.Meaning.{code_of}
use Rattle.tcap_end.specs.Table.{Table}
use Rattle.tcap_refute.proofs.TestLaws.{or_none}
use Rattle.tcap_faults.specs.declared.component.code_counts.CodeCounts.{CodeCounts}
use Rattle.tcap_faults.specs.declared.component.link_problem.LinkProblem.{LinkProblem}
use Rattle.tcap_faults.specs.declared.component.link_problem.LinkProblem.TheVariants as problems
use Rattle.tcap_faults.specs.LinkProblems.{linkable_by, links_as, names_so}
use Rattle.tcap_faults.specs.InvokeCounts.{Tallied}
use Rattle.tcap_faults.specs.TallyMeaning.{codes_any, links_at}

first : (a b p : Bool) → ((a || p) || b) ≡ ((a || b) || p)
first a b p = grind arith

later : (a b p : Bool) → (a || (b || p)) ≡ ((a || b) || p)
later a b p = grind arith

before : (a p : Bool) → (p || a) ≡ (a || p)
before a p = grind arith

module _ {K X : Type 0} (finds : K × X → Bool) where
  -- If a value replaces an old one, the test finds what it found before or what the value adds.
  pub any_set : (test : K → Bool) (was now : X) (p : Bool)
      → ((k : K) → test k ≡ true → finds (k, now) ≡ (finds (k, was) || p)) → (es : List (K × X))
      → Some was ≡ lookup test es → list_any finds (set_value test es now) ≡ (list_any finds es || p)
  any_set test was now p gains [] there = cc
  any_set test was now p gains ((k, x) ∷ es) there = grind (arith, any_set test was now p gains es)

  -- If a value is new, the test finds what it found before or what the value has.
  pub any_inserted : (cmp : K → K → Ordering) (k : K) (x : X) (es : List (K × X)) → None ≡ lookup (is_at (cmp k)) es
      → list_any finds (insert_entry cmp es k x) ≡ (list_any finds es || finds (k, x))
  any_inserted cmp k x [] none = sym (or_none _)
  any_inserted cmp k x (e ∷ es) none = grind (arith, any_inserted cmp k x es)

module _ (linked : ℤ) (code : Code) (old new : BTreeMap ℤ CodeCounts) (s : CodeCounts) where
  -- If something was kept of the linked ID.
  pub link_written : (was : CodeCounts) → Some was ≡ lookup (is_at (int_cmp linked)) old.entries
      → WritesThrough int_cmp (int_cmp linked) old s new
      → ((passes : Code → Bool) → codes_any passes s ≡ (codes_any passes was || passes code))
      → (passes : ℤ → Code → Bool)
      → list_any (links_at passes) new.entries ≡ (list_any (links_at passes) old.entries || passes linked code)
  link_written was there writes gains passes =
      ap (list_any (links_at passes)) writes.0
      ∙ any_set (links_at passes) (is_at (int_cmp linked)) was s (passes linked code)
      (λ k same. gains (passes k)
      ∙ ap (λ q. codes_any (passes k) was || passes q code) (sym (tells_apart exact_signed linked k same)))
      old.entries there

  -- If nothing was kept of the linked ID.
  pub link_made : (fresh : CodeCounts) → None ≡ lookup (is_at (int_cmp linked)) old.entries
      → new.entries ≡ insert_entry int_cmp old.entries linked s
      → ((passes : Code → Bool) → codes_any passes fresh ≡ false)
      → ((passes : Code → Bool) → codes_any passes s ≡ (codes_any passes fresh || passes code))
      → (passes : ℤ → Code → Bool)
      → list_any (links_at passes) new.entries ≡ (list_any (links_at passes) old.entries || passes linked code)
  link_made fresh none puts nothing gains passes =
      ap (list_any (links_at passes)) puts
      ∙ any_inserted (links_at passes) int_cmp linked s old.entries none
      ∙ ap (λ b. list_any (links_at passes) old.entries || b)
      (gains (passes linked) ∙ ap (λ b. b || passes linked code) (nothing (passes linked)))

-- ---- a loop over linked IDs

module _ (passes : ℤ → Code → Bool) (linked : ℤ) (counts : CodeCounts) (left more all : List (ℤ × CodeCounts))
    (steps : left ≡ (linked, counts) ∷ more)
    (so_far : list_any (links_at passes) left ≡ list_any (links_at passes) all) where
  here : (codes_any (passes linked) counts || list_any (links_at passes) more) ≡ list_any (links_at passes) all
  here = sym (ap (list_any (links_at passes)) steps) ∙ so_far

  -- If the next one passes, one of all passes.
  pub link_found : codes_any (passes linked) counts ≡ true → true ≡ list_any (links_at passes) all
  link_found so = sym (ap (λ b. b || list_any (links_at passes) more) so) ∙ here

  -- If the next one does not pass, those that are left decide.
  pub link_passed : codes_any (passes linked) counts ≡ false
      → list_any (links_at passes) more ≡ list_any (links_at passes) all
  link_passed none = sym (ap (λ b. b || list_any (links_at passes) more) none) ∙ here

-- ---- a remembered linked ID

-- If what is kept of a linked ID passes, one of all passes.
pub link_there : (passes : ℤ → Code → Bool) (linked : ℤ) (counts : CodeCounts) (es : List (ℤ × CodeCounts))
    → Some counts ≡ lookup (is_at (int_cmp linked)) es → codes_any (passes linked) counts ≡ true
    → list_any (links_at passes) es ≡ true
link_there passes linked counts [] there so = cc
link_there passes linked counts ((k, x) ∷ es) there so = grind (arith, link_there passes linked counts es)

-- An operation that meets the condition of a problem shows that the linked Invoke has the problem.
pub names_as : (table : Table) (invoked : Tallied) (problem : LinkProblem) (linked : ℤ) (code : CodeView)
    → invoked.has_operation linked (links_as table (linkable_by problem code)) ≡ true
    → names_so table invoked problem linked (code_of code) ≡ true
names_as table invoked problem linked code so = grind (arith, so)
