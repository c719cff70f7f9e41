-- An entry that is blamed on an end is that end's or a quiet mark.
use Rattle.tcap_evidence.proofs.Common.{◌≡◌, ℕ, true, ◌||◌, List, [], ◌∷◌, ◌++◌, length, map, Option, Some, None, Result, Ok, refl, ap, slice_get, Message, Body, Good, Bad, Quiet, Side, Entry, Table, Reason, Item, Sent, item_by, item_of, Refutation}
use Rattle.std.proofs.Common.{inl, inr, zero, suc}
use Rattle.tcap_model.proofs.WorldLaws.{itself}
use Rattle.tcap_faults.specs.BlameMeaning.{IsAtFaultOf}
use Rattle.tcap_faults.specs.Fault.{blamed}
use Rattle.tcap_faults.proofs.kind_laws.BlamedLaws.{blamed_at_fault}
use Rattle.tcap_evidence.specs.EvidenceWords.{is_for}

-- ---- the kinds of entries

pub entry_at : (entries : List Entry) (n : ℕ) (x : Result Item Reason) → slice_get (map item_of entries) n ≡ Some x
    → (e : Entry) × (slice_get entries n ≡ Some e) × (item_of e ≡ x)
entry_at [] n x is = cc
entry_at (e ∷ entries) zero x is = (e, refl, let same : item_of e ≡ x = cc in same)
entry_at (e ∷ entries) (suc n) x is = entry_at entries n x is

-- the item after others
pub item_at : (before : List Item) (x : Result Item Reason) (more : List (Result Item Reason))
    → slice_get (map (λ item. Ok item) before ++ x ∷ more) (length before) ≡ Some x
item_at [] x more = refl
item_at (item ∷ before) x more = item_at before x more

sent_side : (side : Option Side) (body : Body) (sender : Side) (m : Message) → item_by side body ≡ Ok (Sent sender m)
    → side ≡ Some sender
sent_side side (Bad fault) sender m is = cc
sent_side (Some s) (Good message) sender m is = let same : s ≡ sender = cc in ap (λ (x : Side). Some x) same
sent_side None (Good message) sender m is = cc
sent_side (Some s) Quiet sender m is = cc
sent_side None Quiet sender m is = cc

mark_side : (side : Option Side) (body : Body) → item_by side body ≡ Ok Item.Quiet → side ≡ None
mark_side side (Bad fault) is = cc
mark_side (Some s) (Good message) is = cc
mark_side None (Good message) is = cc
mark_side (Some s) Quiet is = cc
mark_side None Quiet is = refl

-- ---- blame

pub blamed_for : (table : Table) (side : Side) (entries : List Entry) (r : Refutation) → blamed table side entries ≡ Some r
    → is_for side (slice_get entries r.entry) ≡ true
blamed_for table side entries r is = by (blamed_at_fault table side entries r is)
  where
    by : IsAtFaultOf table side entries r → is_for side (slice_get entries r.entry) ≡ true
    by (inl (kind, bad)) = rw (bad.there, bad.side_is) (itself side)
    by (inr (inl f)) =
        let (e, there, item) =
        entry_at entries r.entry (Ok (Sent side f.message)) (rw (f.are, ← f.counted) (item_at f.before (Ok (Sent side f.message)) f.more)) in
        rw (there, sent_side e.side e.body side f.message item) (itself side)
    by (inr (inr f)) =
        let (e, there, item) =
        entry_at entries r.entry (Ok Item.Quiet) (rw (f.are, ← f.counted) (item_at f.before (Ok Item.Quiet) f.more)) in
        rw (there, mark_side e.side e.body item) refl
