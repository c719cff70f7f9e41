-- An end at fault in a dialogue is at fault in its trace.
use Rattle.std.proofs.Common.{◌≡◌, inl, inr, ℕ, zero, suc, ◌+◌, false, true, List, [], ◌∷◌, ◌++◌, length, map, take, Some, Result, Ok, refl, sym, ap, subst, ◌∙◌, add-one}
use Rattle.std.specs.Prelude.{Contains, slice_get}
use Rattle.std.proofs.lemmas.List.{take-map}
use Rattle.tcap_ber.specs.declared.fault.Fault.{Fault}
use Rattle.tcap_record.specs.declared.entry.Body.TheVariants.{Bad}
use Rattle.tcap_record.specs.declared.entry.End.{End as Side}
use Rattle.tcap_record.specs.declared.entry.Entry.{Entry}
use Rattle.tcap_end.specs.Table.{Table}
use Rattle.tcap_model.specs.declared.reason.Reason.{Reason}
use Rattle.tcap_model.specs.World.{Item, Sent, has_quiet}
use Rattle.tcap_model.specs.Run.{IsLawfulFor}
use Rattle.tcap_model.specs.Entries.{AreItems, item_of}
use Rattle.tcap_dialogues.specs.Course.{Course, Heading, bare, courses_of, has_entry, headings_of}
use Rattle.tcap_dialogues.specs.declared.reuse.Reuse.{Reuse}
use Rattle.tcap_dialogues.specs.Part.{part_of}
use Rattle.tcap_dialogues.proofs.CourseEnds.{course_keeps}
use Rattle.tcap_dialogues.proofs.StretchLaws.{segment_keeps}
use Rattle.tcap_refute.specs.declared.kind.Refutation.{Refutation}
use Rattle.tcap_refute.proofs.RefutedLaws.{are_oks, oks}
use Rattle.tcap_faults.specs.BlameMeaning.{IsAtFaultOf}
use Rattle.tcap_traces.specs.ResultMeaning.{IsFaultOfTrace}

-- the first items, with the next one
up_to : (before : List Item) (item : Item) (more : List (Result Item Reason)) (n : ℕ) → length before ≡ n
    → take (suc n) (oks before ++ (Ok item ∷ more)) ≡ oks (before ++ item ∷ [])
up_to [] item more zero is = refl
up_to [] item more (suc n) is = cc
up_to (first ∷ before) item more zero is = cc
up_to (first ∷ before) item more (suc n) is =
    let fewer : length before ≡ n = cc in ap (λ (xs : List (Result Item Reason)). Ok first ∷ xs) (up_to before item more n fewer)

same_items : (items others : List Item) → oks items ≡ oks others → items ≡ others
same_items [] [] is = refl
same_items [] (other ∷ others) is = cc
same_items (item ∷ items) [] is = cc
same_items (item ∷ items) (other ∷ others) is =
    let first : item ≡ other = cc in
    let tail : oks items ≡ oks others = cc in
    let rest : items ≡ others = same_items items others tail in
    cc

-- The entries up to the first after these items are the items and this one.
items_up_to : (entries : List Entry) (items before : List Item) (item : Item) (more : List (Result Item Reason)) (n : ℕ)
    → AreItems (take (suc n) entries) items → map item_of entries ≡ oks before ++ (Ok item ∷ more) → length before ≡ n
    → items ≡ before ++ item ∷ []
items_up_to entries items before item more n are is counted =
    same_items items (before ++ item ∷ [])
    (sym (are_oks (take (suc n) entries) items are) ∙ sym (take-map item_of (suc n) entries)
    ∙ ap (take (suc n)) is ∙ up_to before item more n counted)

-- An entry that is no message is no item.
bad_is_none : (entries : List Entry) (items : List Item) (entry : Entry) (fault : Fault) (n : ℕ)
    → AreItems (take (suc n) entries) items → slice_get entries n ≡ Some entry → entry.body ≡ Bad fault → ⊥
bad_is_none [] items entry fault n are there bad = cc
bad_is_none (first ∷ entries) [] entry fault zero are there bad = absurd are
bad_is_none (first ∷ entries) [] entry fault (suc n) are there bad = absurd are
bad_is_none (first ∷ entries) (Sent side message ∷ items) entry fault zero are there bad =
    let same : first ≡ entry = cc in cc
bad_is_none (first ∷ entries) (Item.Quiet ∷ items) entry fault zero are there bad =
    let same : first ≡ entry = cc in cc
bad_is_none (first ∷ entries) (item ∷ items) entry fault (suc n) are there bad =
    bad_is_none entries items entry fault n are.1 there bad

-- A lawful end does not send the items up to the entry at fault.
not_sent : (table : Table) (side : Side) (entries : List Entry) (items : List Item) (r : Refutation)
    → AreItems (take (suc r.entry) entries) items → IsAtFaultOf table side entries r → IsLawfulFor side items table → ⊥
not_sent table side entries items r are (inl (kind, bad)) lawful =
    bad_is_none entries items bad.entry bad.fault r.entry are bad.there bad.body_is
not_sent table side entries items r are (inr (inl f)) (events, (w, runs, sent), keeps) =
    f.unsendable events w [] runs keeps
    (sent ∙ items_up_to entries items f.before (Sent side f.message) f.more r.entry are f.are f.counted)
not_sent table side entries items r are (inr (inr f)) (events, (w, runs, sent), keeps) =
    f.none events w [] runs keeps
    (sent ∙ items_up_to entries items f.before Item.Quiet f.more r.entry are f.are f.counted)

pub fault_of_trace : (table : Table) (side : Side) (reuse : Reuse) (items : List Item) (headings : List Heading) (d : Course) (n : ℕ)
    (entries : List Entry) (r : Refutation) → has_quiet items ≡ false → map bare headings ≡ headings_of items
    → Contains (courses_of reuse headings) d → d.again ≡ false → has_entry d n ≡ true
    → AreItems (take (r.entry + 1) entries) (part_of (has_entry d) 0 (take (n + 1) items)) → IsAtFaultOf table side entries r
    → IsFaultOfTrace table side (take (n + 1) items)
fault_of_trace table side reuse items headings d n entries r unmarked bares has anew of_it are fault =
    let up_to_it : AreItems (take (suc r.entry) entries) (part_of (has_entry d) 0 (take (n + 1) items)) =
    subst (λ (k : ℕ). AreItems (take k entries) (part_of (has_entry d) 0 (take (n + 1) items))) (add-one r.entry) are in
    let none : IsLawfulFor side (take (n + 1) items) table → ⊥ = λ lawful. not_sent table side entries
    (part_of (has_entry d) 0 (take (n + 1) items)) r up_to_it fault
    (course_keeps side reuse items headings table d n unmarked bares has anew of_it lawful) in
    (none, λ earlier lawful. none (segment_keeps table side earlier (take (n + 1) items) lawful))
