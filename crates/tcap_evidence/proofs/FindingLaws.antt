-- The evidence that is found for an entry is the evidence that is defined.
use Rattle.tcap_evidence.proofs.Common.{◌≡◌, ℕ, List, [], ◌∷◌, map, take, Bool, Option, Some, None, Ok, Err, refl, sym, ap, ◌∙◌, slice_get, Component, Message, components_in, dtid_in, Body, Good, Bad, Quiet, Side, Entry, other, Table, Reason, item_by, item_of, Item, Sent, Kind, Refutation, since_quiet, items_among, MessagesByEnd, invocations_of, component_at, grounds_in, invoke_id_in, mark_scene, scene_of, shows, IsScene, numbered_of, sent_before}
use Rattle.std.proofs.Common.{ℤ, subst}
use Rattle.std.proofs.lemmas.Option.{slice_get-map}
use Rattle.tcap_model.specs.declared.reason.Reason.TheVariants.{BadMessage, NoItem}
use Rattle.tcap_faults.specs.declared.verdict.fault_subject.Subject.{Subject}
use Rattle.tcap_faults.specs.FaultSubject.{subject_by, subject_of}
use Rattle.tcap_evidence.specs.declared.scene.Scene.{Scene as SceneKept}
use Rattle.tcap_evidence.specs.declared.shown_facts.ShownFact.{ShownFact}
use Rattle.tcap_evidence.specs.declared.shown_facts.ShownFact.TheVariants as facts
use Rattle.tcap_evidence.specs.declared.operations.Invocation.{Invocation}
use Rattle.tcap_evidence.specs.Operations.{invocations_at}
use Rattle.tcap_evidence.specs.Evidence.{components_before, grounds_of, invoke_id_at}
use Rattle.tcap_evidence.specs.StoredScene.{scene_by}

-- The stored scene is the message's scene, if the messages before it, the components before the one at fault and the
-- invoke ID are stored correctly.
pub scene_is : (table : Table) (side : Side) (entries : List Entry) (number : ℕ) (m : Message) (kind : Kind) (about : Subject)
    (sent : MessagesByEnd) (all earlier : List Component) (id : Option ℤ) (kept : SceneKept)
    → IsScene (scene_by table side (since_quiet (items_among (map item_of (take number entries)))) sent m number about all earlier id) kept
    → numbered_of sent.own.items ≡ sent_before side entries number
    → numbered_of sent.peer.items ≡ sent_before (other side) entries number
    → all ≡ components_in m → earlier ≡ components_before about.component (components_in m)
    → id ≡ invoke_id_in kind (component_at about.component (components_in m))
    → IsScene (scene_of table side entries number m kind about) kept
scene_is table side entries number m kind about sent all earlier id kept is own peer whole before asked =
    rw (← own, ← peer, ← before, ← asked, ← whole) is

-- ---- the entry

-- the item with a number is that of the entry with this number
item_at : (entries : List Entry) (number : ℕ) (e : Entry) → slice_get entries number ≡ Some e
    → slice_get (map item_of entries) number ≡ Some (item_of e)
item_at entries number e is = rw (slice_get-map item_of entries number, is) refl

-- an entry that is neither a message nor a quiet mark is not an item
odd_message : (body : Body) (sender : Side) → ((m : Message) → body ≡ Good m → ⊥)
    → (reason : Reason) × (item_by (Some sender) body ≡ Err reason)
odd_message (Good m) sender n = absurd (n m refl)
odd_message (Bad fault) sender n = (BadMessage fault, refl)
odd_message Quiet sender n = (NoItem, refl)

odd_mark : (body : Body) → (body ≡ Quiet → ⊥) → (reason : Reason) × (item_by None body ≡ Err reason)
odd_mark (Good m) n = (NoItem, refl)
odd_mark (Bad fault) n = (BadMessage fault, refl)
odd_mark Quiet n = absurd (n refl)

module _ (of_one : Bool) (table : Table) (side : Side) (entries : List Entry) (r : Refutation) where
  -- the evidence for a message, by the subject of its fault
  abbrev grounds_by : Message → Subject → List (ShownFact × List ℕ)
  grounds_by m about =
      grounds_in (scene_of table side entries r.entry m r.kind about)
      (shows (dtid_in m) about.origin (component_at about.component (components_in m)) r.kind)

  abbrev invocations_by : Message → Subject → List Invocation
  invocations_by m about =
      invocations_of (scene_of table side entries r.entry m r.kind about) r.kind (component_at about.component (components_in m))

  abbrev id_by : Message → Subject → Option ℤ
  id_by m about = invoke_id_in r.kind (component_at about.component (components_in m))

  abbrev pub IsOf : Message → Subject → Type 0
  IsOf m about = (grounds_by m about ≡ grounds_of of_one table side entries r)
      × (invocations_by m about ≡ invocations_at of_one table side entries r)
      × (id_by m about ≡ invoke_id_at of_one table side entries r)

  good_of : (sender : Side) (m : Message) → slice_get (map item_of entries) r.entry ≡ Some (Ok (Sent sender m))
      → IsOf m (subject_of of_one table side entries r)
  good_of sender m is = (sym grounds, sym invocations, sym id)
    where
      about : subject_of of_one table side entries r
          ≡ subject_by of_one table side (since_quiet (items_among (map item_of (take r.entry entries)))) (Some (Ok (Sent sender m))) r.kind
      about = ap (λ x. subject_by of_one table side (since_quiet (items_among (map item_of (take r.entry entries)))) x r.kind) is

      grounds : grounds_of of_one table side entries r ≡ grounds_by m (subject_of of_one table side entries r)
      grounds = rw is (ap (grounds_by m) about)

      invocations : invocations_at of_one table side entries r ≡ invocations_by m (subject_of of_one table side entries r)
      invocations = rw is (ap (invocations_by m) about)

      id : invoke_id_at of_one table side entries r ≡ id_by m (subject_of of_one table side entries r)
      id = rw is (ap (id_by m) about)

  pub good : (e : Entry) (sender : Side) (m : Message) (about : Subject) → about ≡ subject_of of_one table side entries r
      → slice_get entries r.entry ≡ Some e → e.side ≡ Some sender → e.body ≡ Good m → IsOf m about
  good e sender m about about_is is s b =
      subst (IsOf m) (sym about_is) (good_of sender m (item_at entries r.entry e is ∙ ap (λ i. Some i) (rw (s, b) refl)))

  -- the evidence for a quiet mark
  pub mark : (e : Entry) → slice_get entries r.entry ≡ Some e → e.side ≡ None → e.body ≡ Quiet
      → (grounds_in (mark_scene table side entries r.entry) (facts.Open ∷ []) ≡ grounds_of of_one table side entries r)
      × ([] ≡ invocations_at of_one table side entries r) × (None ≡ invoke_id_at of_one table side entries r)
  mark e is s b =
      let item : slice_get (map item_of entries) r.entry ≡ Some (Ok Item.Quiet) =
      item_at entries r.entry e is ∙ ap (λ i. Some i) (rw (s, b) refl) in (rw item refl, rw item refl, rw item refl)

  -- no evidence, for an entry that is not an item or does not exist
  abbrev pub NoneOf : Type 0
  NoneOf = ([] ≡ grounds_of of_one table side entries r) × ([] ≡ invocations_at of_one table side entries r)
      × (None ≡ invoke_id_at of_one table side entries r)

  bad_none : (reason : Reason) → slice_get (map item_of entries) r.entry ≡ Some (Err reason) → NoneOf
  bad_none reason is = (rw is refl, rw is refl, rw is refl)

  pub not_there : slice_get entries r.entry ≡ None → NoneOf
  not_there is =
      let none : slice_get (map item_of entries) r.entry ≡ None = rw (slice_get-map item_of entries r.entry, is) refl in
      (rw none refl, rw none refl, rw none refl)

  pub not_good : (e : Entry) (sender : Side) → slice_get entries r.entry ≡ Some e → e.side ≡ Some sender
      → ((m : Message) → e.body ≡ Good m → ⊥) → NoneOf
  not_good e sender is s n =
      let bad = odd_message e.body sender n in
      bad_none bad.0 (item_at entries r.entry e is ∙ ap (λ i. Some i) (rw s bad.1))

  pub not_quiet : (e : Entry) → slice_get entries r.entry ≡ Some e → e.side ≡ None → (e.body ≡ Quiet → ⊥) → NoneOf
  not_quiet e is s n =
      let bad = odd_mark e.body n in
      bad_none bad.0 (item_at entries r.entry e is ∙ ap (λ i. Some i) (rw s bad.1))
