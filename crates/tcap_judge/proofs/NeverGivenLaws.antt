-- No certificate gives a run for an end on which an entry is blamed.
use Rattle.std.proofs.Common.{◌≡◌, inl, inr, ℕ, zero, suc, List, [], ◌∷◌, Option, Some, None, Ok, map, slice_get, sym, ◌∙◌}
use Rattle.tcap_ber.specs.declared.fault.Fault.{Fault}
use Rattle.tcap_record.specs.declared.entry.Body.TheVariants.{Bad}
use Rattle.tcap_record.specs.declared.entry.End.{End as Side}
use Rattle.tcap_record.specs.declared.entry.Entry.{Entry}
use Rattle.tcap_end.specs.Table.{Table}
use Rattle.tcap_model.specs.World.{Item, Sent, World}
use Rattle.tcap_model.specs.Run.{Event, KeepsRules, Runs}
use Rattle.tcap_certificate.specs.Certificate.{Certificate}
use Rattle.tcap_model.specs.Entries.{item_by, item_of}
use Rattle.tcap_certificate.specs.Replay.{replayed_by}
use Rattle.tcap_check.proofs.one_end_lemmas.AloneRuns.{gives_for}
use Rattle.tcap_refute.specs.declared.kind.Refutation.{Refutation}
use Rattle.tcap_refute.proofs.RefutedLaws.{are_oks, oks, split_oks}
use Rattle.tcap_faults.specs.BlameMeaning.{IsAtFaultOf}
use Rattle.tcap_faults.specs.Fault.{blamed}
use Rattle.tcap_faults.proofs.kind_laws.BlamedLaws.{blamed_at_fault}

-- An entry that is no message is no item.
bad_is_none : (entry : Entry) (fault : Fault) → entry.body ≡ Bad fault → (item : Item) → item_of entry ≡ Ok item → ⊥
bad_is_none entry fault is item are = by entry.side (rw is at are)
  where
    by : (sender : Option Side) → item_by sender (Bad fault) ≡ Ok item → ⊥
    by None none = cc
    by (Some side) none = cc

none_bad : (entries : List Entry) (items : List Item) (number : ℕ) (entry : Entry) (fault : Fault)
    → map item_of entries ≡ oks items → slice_get entries number ≡ Some entry → entry.body ≡ Bad fault → ⊥
none_bad [] items number entry fault are there is = cc
none_bad (e ∷ entries) [] number entry fault are there is = cc
none_bad (e ∷ entries) (item ∷ items) zero entry fault are there is =
    let same : e ≡ entry = cc in
    bad_is_none e fault (rw same is) item cc
none_bad (e ∷ entries) (item ∷ items) (suc number) entry fault are there is =
    let rest : map item_of entries ≡ oks items = cc in
    none_bad entries items number entry fault rest there is

-- No run in which the end keeps the rules has its entry at fault.
not_in_a_run : (table : Table) (side : Side) (entries : List Entry) (items : List Item) (r : Refutation) (events : List Event)
    (w : World) → map item_of entries ≡ oks items → Runs table events w → w.sent ≡ items → KeepsRules side events
    → IsAtFaultOf table side entries r → ⊥
not_in_a_run table side entries items r events w are runs sent keeps (inl (bad, entry)) =
    none_bad entries items r.entry entry.entry entry.fault are entry.there entry.body_is
not_in_a_run table side entries items r events w are runs sent keeps (inr (inl named)) =
    let (behind, all) = split_oks items named.before (Sent side named.message) named.more (sym are ∙ named.are) in
    named.unsendable events w behind runs keeps (sent ∙ all)
not_in_a_run table side entries items r events w are runs sent keeps (inr (inr mark)) =
    let (behind, all) = split_oks items mark.before Item.Quiet mark.more (sym are ∙ mark.are) in
    mark.none events w behind runs keeps (sent ∙ all)

pub never_given : (table : Table) (side : Side) (c : Certificate) (entries : List Entry) (r : Refutation) (events : List Event)
    → blamed table side entries ≡ Some r → replayed_by (Some side) table c entries ≡ Ok events → ⊥
never_given table side c entries r events is given =
    let g = gives_for side table c entries events given in
    let (w, runs, sent) = g.run in
    not_in_a_run table side entries g.items r events w (are_oks entries g.items g.are) runs sent g.keeps
    (blamed_at_fault table side entries r is)
