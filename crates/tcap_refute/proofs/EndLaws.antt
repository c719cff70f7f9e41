-- The facts about an end after one more message.
use Rattle.std.proofs.Common.{◌≡◌, ℕ, Bool, true, false, ◌&&◌, ◌||◌, List, Some, None, bytes_eq, refl, sym, ap, ◌∙◌, arith}
use Rattle.std.specs.BTreeMap.{BTreeMap, WritesThrough, is_at}
use Rattle.std.specs.BTreeSet.{BTreeSet, insert_key}
use Rattle.std.specs.BTreeSet as set
use Rattle.std.specs.Cmp.Lexicographic.{nat_list_cmp_total}
use Rattle.std.specs.Map.{lookup}
use Rattle.std.specs.Ordering.{is_eq}
use Rattle.std.proofs.lemmas.Cmp.{eq_by_cmp_equiv, tied_itself}
use Rattle.std.proofs.lemmas.Map.Lookups.{exact_bytes}
use Rattle.std.proofs.lemmas.Map.Views.{tells_apart}
use Rattle.std.proofs.lemmas.Slice.Eq.{bytes_eq-Decides}
use Rattle.tcap_msg.specs.declared.message.Message.{Message}
use Rattle.tcap_end.specs.End.{is_id}
use Rattle.tcap_end.specs.Table.{Table, octets_cmp}
use Rattle.tcap_model.specs.SinceMark.{ended_by}
use Rattle.tcap_refute.specs.declared.sent_from_id.FromId.{FromId}
use Rattle.tcap_refute.specs.declared.notes.EndNotes.{EndNotes}
use Rattle.tcap_refute.specs.Facts.{FromFact, EndFact, From, Ended, shows_end, shows_from}
use Rattle.tcap_refute.specs.KeptFacts.{end_fact_noted, from_fact_noted}
use Rattle.tcap_refute.proofs.SetLaws.{Puts, any_inserted, made, told_at, written}

-- ---- transaction IDs

pub at_id : (a b : List ℕ) → is_at (octets_cmp a) b ≡ is_id a (Some b)
at_id a b = by (is_at (octets_cmp a) b) (bytes_eq a b) refl refl
  where
    by : (p q : Bool) → is_at (octets_cmp a) b ≡ p → bytes_eq a b ≡ q → p ≡ q
    by true true e f = refl
    by false false e f = refl
    by true false e f = sym ((bytes_eq-Decides a b).1 (tells_apart exact_bytes a b e)) ∙ f
    by false true e f =
        let same : a ≡ b = (bytes_eq-Decides a b).0 f in
        sym e ∙ (rw same (ap is_eq (tied_itself nat_list_cmp_total b)))

at_other : (a b : List ℕ) → is_at (octets_cmp a) b ≡ is_id b (Some a)
at_other a b = (eq_by_cmp_equiv nat_list_cmp_total).symm a b ∙ at_id b a

-- ---- one more message from an ID

module _ (table : Table) (id : List ℕ) (m : Message) (old new : BTreeMap (List ℕ) FromId) (s : FromId) where
  -- If something was kept of the ID.
  pub from_written : (was : FromId) → Some was ≡ lookup (is_at (octets_cmp id)) old.entries
      → WritesThrough octets_cmp (octets_cmp id) old s new
      → ((f : FromFact) → from_fact_noted f s ≡ (from_fact_noted f was || shows_from table f m)) → (other : List ℕ) (f : FromFact)
      → told_at exact_bytes from_fact_noted new.entries other f
      ≡ (told_at exact_bytes from_fact_noted old.entries other f || (is_id other (Some id) && shows_from table f m))
  from_written was there writes told other f =
      written exact_bytes from_fact_noted (λ f. shows_from table f m) old new id was s there writes told other f
      ∙ ap (λ b. told_at exact_bytes from_fact_noted old.entries other f || (b && shows_from table f m)) (at_other id other)

  -- If nothing was kept of the ID.
  pub from_made : (fresh : FromId) → None ≡ lookup (is_at (octets_cmp id)) old.entries
      → Puts exact_bytes from_fact_noted old.entries new.entries id s
      → ((f : FromFact) → from_fact_noted f fresh ≡ false)
      → ((f : FromFact) → from_fact_noted f s ≡ (from_fact_noted f fresh || shows_from table f m))
      → (other : List ℕ) (f : FromFact)
      → told_at exact_bytes from_fact_noted new.entries other f
      ≡ (told_at exact_bytes from_fact_noted old.entries other f || (is_id other (Some id) && shows_from table f m))
  from_made fresh none puts nothing told other f =
      made exact_bytes from_fact_noted (λ f. shows_from table f m) old new id fresh s none puts nothing told other f
      ∙ ap (λ b. told_at exact_bytes from_fact_noted old.entries other f || (b && shows_from table f m)) (at_other id other)

-- ---- one more message

pub end_noted : (table : Table) (m : Message) (old headed new : EndNotes)
    → ((id : List ℕ) (f : FromFact)
    → end_fact_noted (From id f) headed ≡ (end_fact_noted (From id f) old || shows_end table (From id f) m))
    → headed.ended ≡ old.ended
    → ((id : List ℕ) → end_fact_noted (Ended id) new ≡ (end_fact_noted (Ended id) headed || is_id id (ended_by m)))
    → new.from ≡ headed.from
    → (fact : EndFact) → end_fact_noted fact new ≡ (end_fact_noted fact old || shows_end table fact m)
end_noted table m old headed new from same ended kept (From id f) = rw kept (from id f)
end_noted table m old headed new from same ended kept (Ended id) = rw (ended id, same) refl

pub ended_more : (id : List ℕ) (old new : BTreeSet (List ℕ)) → new.keys ≡ insert_key octets_cmp old.keys id
    → (other : List ℕ)
    → set.contains octets_cmp new other ≡ (set.contains octets_cmp old other || is_id other (Some id))
ended_more id old new is other =
    ap (λ keys. set.contains_by (octets_cmp other) (record { keys = keys })) is
    ∙ any_inserted octets_cmp (is_at (octets_cmp other)) (λ x y e. rw (exact_bytes x y e) refl) old.keys id
    ∙ ap (λ b. set.contains octets_cmp old other || b) (at_id other id)
