-- The facts about invoke IDs after one more component.
use Rattle.std.proofs.Common.{◌≡◌, ℤ, Bool, true, false, ◌&&◌, ◌||◌, Some, None, int_cmp, refl, ap, ◌∙◌, arith}
use Rattle.std.specs.BTreeMap.{BTreeMap, WritesThrough, is_at}
use Rattle.std.specs.Map.{lookup}
use Rattle.std.specs.Ordering.{is_eq}
use Rattle.std.proofs.lemmas.Cmp.{eq_by_cmp_equiv, int_cmp_total, tied_itself}
use Rattle.std.proofs.lemmas.Map.Lookups.{exact_signed}
use Rattle.tcap_parts.specs.declared.component.Component.{Component}
use Rattle.tcap_parts.specs.declared.component.Component.TheVariants.{Invoke, ReturnResult, ReturnError, Reject}
use Rattle.tcap_end.specs.Component.{class_reports, names}
use Rattle.tcap_end.specs.Table.{Table}
use Rattle.tcap_refute.specs.declared.sent_with_invoke_id.ById.{ById}
use Rattle.tcap_refute.specs.Facts.{IdFact, Invoked, Answered, Succeeds, Fails, noted_id, shows}
use Rattle.tcap_refute.specs.KeptFacts.{id_fact_noted}
use Rattle.tcap_refute.proofs.TestLaws.{and_false, and_true}
use Rattle.tcap_refute.proofs.SetLaws.{Puts, made, told_at, written}

-- ---- a component adds facts about its own ID alone

of_invoke : (a r n : Bool) → (a && (true && r && n)) ≡ (a && r && n)
of_invoke a r n = grind arith

-- Adding one part of the facts, and then the rest, adds all.
pub one_more : (old part rest now all : Bool) → now ≡ (old || part) → (old || (part || rest)) ≡ all
    → (now || rest) ≡ all
one_more true part rest now all is told = rw is told
one_more false part rest now all is told = rw is told

module _ (table : Table) (id other : ℤ) where
  it : is_at (int_cmp id) id ≡ true
  it = ap is_eq (tied_itself int_cmp_total id)

  turned : is_at (int_cmp other) id ≡ is_at (int_cmp id) other
  turned = (eq_by_cmp_equiv int_cmp_total).symm other id

  pub of_that_id : (c : Component) (f : IdFact) → noted_id c ≡ Some id
      → (is_at (int_cmp id) other && shows table id f c) ≡ shows table other f c
  of_that_id (Invoke n linked code parameter) Invoked e = let same : n ≡ id = cc in rw (same, it, turned) (and_true _)
  of_that_id (Invoke n linked code parameter) (Answered true) e = and_false _
  of_that_id (Invoke n linked code parameter) (Answered false) e = and_false _
  of_that_id (Invoke n linked code parameter) (Succeeds named) e =
      let same : n ≡ id = cc in
      rw (same, it, turned) (of_invoke (is_at (int_cmp id) other) (class_reports table true code) (names named code))
  of_that_id (Invoke n linked code parameter) Fails e =
      let same : n ≡ id = cc in
      rw (same, it, turned) (of_invoke (is_at (int_cmp id) other) (class_reports table false code) true)
  of_that_id (ReturnResult last n body) (Answered true) e = let same : n ≡ id = cc in rw (same, it, turned) (and_true _)
  of_that_id (ReturnError n code parameter) (Answered false) e =
      let same : n ≡ id = cc in rw (same, it, turned) (and_true _)
  of_that_id (Reject n problem) f e = cc
  of_that_id c fact e = and_false _

-- ---- after one more component

module _ (table : Table) (id : ℤ) (component : Component) (its : noted_id component ≡ Some id)
    (old new : BTreeMap ℤ ById) (s : ById) where
  -- If something was kept of the ID.
  pub id_written : (was : ById) → Some was ≡ lookup (is_at (int_cmp id)) old.entries
      → WritesThrough int_cmp (int_cmp id) old s new
      → ((f : IdFact) → id_fact_noted f s ≡ (id_fact_noted f was || shows table id f component)) → (other : ℤ) (f : IdFact)
      → told_at exact_signed id_fact_noted new.entries other f
      ≡ (told_at exact_signed id_fact_noted old.entries other f || shows table other f component)
  id_written was there writes told other f =
      written exact_signed id_fact_noted (λ f. shows table id f component) old new id was s there writes told other f
      ∙ ap (λ b. told_at exact_signed id_fact_noted old.entries other f || b) (of_that_id table id other component f its)

  -- If nothing was kept of the ID.
  pub id_made : (fresh : ById) → None ≡ lookup (is_at (int_cmp id)) old.entries
      → Puts exact_signed id_fact_noted old.entries new.entries id s → ((f : IdFact) → id_fact_noted f fresh ≡ false)
      → ((f : IdFact) → id_fact_noted f s ≡ (id_fact_noted f fresh || shows table id f component))
      → (other : ℤ) (f : IdFact) → told_at exact_signed id_fact_noted new.entries other f
      ≡ (told_at exact_signed id_fact_noted old.entries other f || shows table other f component)
  id_made fresh none puts nothing told other f =
      made exact_signed id_fact_noted (λ f. shows table id f component) old new id fresh s none puts nothing told other f
      ∙ ap (λ b. told_at exact_signed id_fact_noted old.entries other f || b) (of_that_id table id other component f its)
