-- The given entries are the listed ones; and a component at fault belongs to a message over a half.
use Rattle.tcap_evidence_laws.proofs.Common.{◌≡◌, ◌≢◌, inr, ℕ, Bool, true, false, not, ◌&&◌, List, ◌∷◌, [], map, Option, Some, Result, Ok, refl, sym, ap, ◌∙◌, Contains, slice_get, and_parts, Message, components_in, dtid_in, Side, Entry, Table, Reason, Item, Sent, item_of, Kind, Refutation, Nowhere, Subject, is_fault, is_of_half_kind, is_wrong_half, HalfMessages, half_of, subject, subject_by, subject_of, ShownFact, component_at, grounds_in, grounds_of, mark_scene, scene_of, shows, Scene, shown, items_before, scene_at}
use Rattle.tcap_refute.specs.declared.kind.Kind.TheVariants as kinds
use Rattle.tcap_evidence.specs.declared.shown_facts.ShownFact.TheVariants as facts
use Rattle.tcap_evidence.specs.EvidenceWords.{is_of_half}
use Rattle.tcap_evidence_laws.specs.ListedEntries.{is_of_component}
use Rattle.tcap_evidence_laws.proofs.HasKindLaws.{half_so}
use Rattle.tcap_evidence_laws.proofs.NumberedLists.{map_is}
use Rattle.tcap_evidence_laws.proofs.SoLaws.{speaks_half}

-- ---- the given entries

outgoing_so : (s : Scene) (ws : List ShownFact) (fact : ShownFact) (numbers : List ℕ) → Contains (grounds_in s ws) (fact, numbers)
    → numbers ≡ shown s fact
outgoing_so s ws fact numbers has =
    let (w, among, same) = map_is (λ (w : ShownFact). (w, shown s w)) ws (fact, numbers) has in
    let it : w ≡ fact = ap (λ (p : ShownFact × List ℕ). p.0) same in
    let list : shown s w ≡ numbers = ap (λ (p : ShownFact × List ℕ). p.1) same in sym list ∙ ap (shown s) it

module _ (of_one : Bool) (table : Table) (side : Side) (entries : List Entry) (r : Refutation) (fact : ShownFact)
    (numbers : List ℕ) where
  pub of_message : (sender : Side) (m : Message) → slice_get (map item_of entries) r.entry ≡ Some (Ok (Sent sender m))
      → Contains (grounds_of of_one table side entries r) (fact, numbers)
      → numbers ≡ shown (scene_at of_one table side entries r.entry m r.kind) fact
  of_message sender m is has =
      outgoing_so (scene_of table side entries r.entry m r.kind about)
      (shows (dtid_in m) about.origin (component_at about.component (components_in m)) r.kind) fact numbers (rw is at has)
      ∙ ap (λ (a : Subject). shown (scene_of table side entries r.entry m r.kind a) fact) about_is
    where
      about : Subject
      about = subject_of of_one table side entries r

      about_is : about ≡ subject of_one table side (items_before entries r.entry) m r.kind
      about_is =
          ap (λ (o : Option (Result Item Reason)). subject_by of_one table side (items_before entries r.entry) o r.kind) is

  pub of_mark : slice_get (map item_of entries) r.entry ≡ Some (Ok Item.Quiet)
      → Contains (grounds_of of_one table side entries r) (fact, numbers)
      → numbers ≡ shown (mark_scene table side entries r.entry) fact
  of_mark is has =
      outgoing_so (mark_scene table side entries r.entry) (facts.Open ∷ []) fact numbers (rw is at has)

-- ---- a component at fault

module _ (table : Table) (side : Side) (items : List Item) (m : Message) (id : List ℕ) where
  -- A message with one of these kinds has a half that may send.
  first : (h : HalfMessages) (more : Bool) → (not (is_wrong_half side items m h) && more) ≡ true → h.origin ≢ Nowhere
  first h more both = speaks_half side items m h (and_parts (not (is_wrong_half side items m h)) more both).0

  speaks : (h : HalfMessages) (kind : Kind) → is_of_component kind ≡ true
      → is_of_half_kind table side id items m h kind ≡ true → h.origin ≢ Nowhere
  speaks h kinds.InvokeIdBusy is so = first h _ so
  speaks h kinds.BadLink is so = first h _ so
  speaks h kinds.AnsweredAlready is so = first h _ so
  speaks h kinds.RejectNotAllowed is so = first h _ so
  speaks h kind is so = let bad : false ≡ true = is in cc

  of_a_half : (kind : Kind) → is_of_component kind ≡ true → is_of_half kind ≡ true
  of_a_half kinds.InvokeIdBusy is = refl
  of_a_half kind is = cc

  pub has_half : (kind : Kind) → dtid_in m ≡ Some id → is_of_component kind ≡ true
      → is_fault table side items m kind ≡ true → (half_of side items id).origin ≢ Nowhere
  has_half kind to is so =
      speaks (half_of side items id) kind is (half_so table side items m id to kind (of_a_half kind is) (inr so))
