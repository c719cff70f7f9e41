-- The subject of a fault is read from the history before it.
use Rattle.std.proofs.Common.{◌≡◌, ℕ, arith, Bool, List, [], ◌∷◌, ◌++◌, Option, Some, None, Result, Ok, length-append, refl, sym, ap, ap₂, ◌∙◌}
use Rattle.std.specs.Prelude.{option_map, slice_get}
use Rattle.std.specs.Option.{option_or}
use Rattle.std.specs.Result.{IfOk}
use Rattle.std.specs.declared.alloc.AllocError.{AllocError}
use Rattle.std.proofs.lemmas.Option.{same_Some, slice_get-map}
use Rattle.tcap_msg.specs.declared.message.Message.{Message}
use Rattle.tcap_msg.specs.declared.message.Message.TheVariants.{Unidirectional, Begin, Continue, End as EndMessage, Abort}
use Rattle.tcap_msg.specs.Parts.{components_in, dtid_in}
use Rattle.tcap_record.specs.declared.entry.End.{End as Side}
use Rattle.tcap_record.specs.declared.entry.Body.TheVariants.{Good, Quiet}
use Rattle.tcap_record.specs.declared.entry.Entry.{Entry}
use Rattle.tcap_end.specs.Table.{Table}
use Rattle.tcap_model.specs.World.{Item, Sent}
use Rattle.tcap_model.specs.Entries.{item_of}
use Rattle.tcap_refute.specs.declared.kind.Kind.{Kind}
use Rattle.tcap_refute.specs.declared.kind.Refutation.{Refutation}
use Rattle.tcap_refute.specs.EarlierMessages.{since_quiet}
use Rattle.tcap_refute.specs.FirstComponent.{first_component}
use Rattle.tcap_faults.specs.declared.dialogue.half_origin.HalfOrigin.{HalfOrigin}
use Rattle.tcap_faults.specs.declared.dialogue.half_origin.HalfOrigin.TheVariants.{Nowhere}
use Rattle.tcap_faults.specs.declared.transaction.history.Facts.{Facts}
use Rattle.tcap_faults.specs.declared.verdict.fault_subject.Subject.{Subject}
use Rattle.tcap_faults.specs.HalfByPeerId.{half_of}
use Rattle.tcap_faults.specs.Replay.{items_up_to}
use Rattle.tcap_faults.specs.SearchState.{AreRoomy, IsHalfKey}
use Rattle.tcap_faults.specs.FaultSubject.{alone_component, half_component, items_among, no_subject, subject, subject_by, subject_of}
use Rattle.tcap_faults.proofs.component_laws.FewComponentsLaws.{all_more}

-- ---- a message

module _ (of_one : Bool) (table : Table) (side : Side) (items : List Item) (kind : Kind) where
  pub alone_is : (m : Message) → None ≡ dtid_in m
      → record {
        origin = Nowhere;
        own = None;
        component = option_or (first_component of_one table side items m kind) (alone_component (components_in m) kind);
      } ≡ subject of_one table side items m kind
  alone_is m none = grind (arith, none)

  pub half_is : (m : Message) (id : List ℕ) → Some id ≡ dtid_in m
      → record {
        origin = (half_of side items id).origin;
        own = (half_of side items id).own;
        component = option_or (first_component of_one table side items m kind)
            (half_component table (half_of side items id) (components_in m) kind);
      } ≡ subject of_one table side items m kind
  half_is (Continue otid dtid dialogue components) id to = rw (same_Some id dtid to) refl
  half_is (EndMessage dtid dialogue components) id to = rw (same_Some id dtid to) refl
  half_is (Abort dtid reason) id to = rw (same_Some id dtid to) refl
  half_is m id to = cc

  module _ (m : Message) (first rest : Option ℕ) (is_first : first ≡ first_component of_one table side items m kind) where
    -- A message without destination ID.
    pub alone_subject : None ≡ dtid_in m → rest ≡ alone_component (components_in m) kind
        → record { origin = Nowhere; own = None; component = option_or first rest } ≡ subject of_one table side items m kind
    alone_subject none is_rest =
        (λ i. record {
          origin = Nowhere;
          own = None;
          component = ap₂ option_or is_first is_rest i;
        })
        ∙ alone_is m none

    -- A message over a half.
    pub half_subject : (id : List ℕ) (origin : HalfOrigin) (own : Option (List ℕ)) → Some id ≡ dtid_in m
        → origin ≡ (half_of side items id).origin → own ≡ (half_of side items id).own
        → rest ≡ half_component table (half_of side items id) (components_in m) kind
        → record { origin = origin; own = own; component = option_or first rest } ≡ subject of_one table side items m kind
    half_subject id origin own to is_how is_own is_rest =
        (λ i. record {
          origin = is_how i;
          own = is_own i;
          component = ap₂ option_or is_first is_rest i;
        })
        ∙ half_is m id to

-- ---- an entry

-- The end that is asked about need not be the sender.
pub roomy_of : (items : List Item) (sender side : Side) (m : Message) → AreRoomy (items ++ Sent sender m ∷ [])
    → AreRoomy (items ++ Sent side m ∷ [])
roomy_of items sender side m roomy =
    let a = length-append items (Sent sender m ∷ []) in
    let b = length-append items (Sent side m ∷ []) in
    let c = all_more items sender m in
    let d = all_more items side m in
    let e = roomy.few in
    let f = roomy.components in
    record { few = omega (arith, a, b, e); components = omega (arith, c, d, f) }

-- The subject of a message is that of its entry.
pub sent_subject : (of_one : Bool) (table : Table) (side : Side) (items : List Item) (entry : Entry) (sender : Side)
    (m : Message) (kind : Kind) (r : Result Subject AllocError) → entry.side ≡ Some sender → entry.body ≡ Good m
    → ((item : Item) → item_of entry ≡ Ok item → AreRoomy (items ++ item ∷ []))
    → (AreRoomy (items ++ Sent side m ∷ []) → IfOk r (λ s. s ≡ subject of_one table side (since_quiet items) m kind))
    → IfOk r (λ s. s ≡ subject_by of_one table side (since_quiet items) (Some (item_of entry)) kind)
sent_subject of_one table side items entry sender m kind r from is roomy so =
    rw (from, is) (so (roomy_of items sender side m (roomy (Sent sender m) (rw (from, is) refl))))

-- A quiet mark is one more item.
pub mark_noted : (table : Table) (items : List Item) (entry : Entry) (kept : Facts) → entry.side ≡ None → entry.body ≡ Quiet
    → IsHalfKey table (items ++ Item.Quiet ∷ []) kept → IsHalfKey table (items ++ items_among (item_of entry ∷ [])) kept
mark_noted table items entry kept from is are = rw (from, is) are

-- ---- an entry of a record

module _ (of_one : Bool) (table : Table) (side : Side) (entries : List Entry) (r : Refutation) where
  -- The entry exists.
  pub subject_there : (entry : Entry) → slice_get entries r.entry ≡ Some entry
      → subject_by of_one table side (since_quiet (items_up_to entries r.entry)) (Some (item_of entry)) r.kind
      ≡ subject_of of_one table side entries r
  subject_there entry there =
      sym (ap (λ e. subject_by of_one table side (since_quiet (items_up_to entries r.entry)) e r.kind)
      (slice_get-map item_of entries r.entry ∙ ap (option_map item_of) there))

  -- The entry does not exist.
  pub subject_nowhere : slice_get entries r.entry ≡ None → no_subject ≡ subject_of of_one table side entries r
  subject_nowhere none =
      sym (ap (λ e. subject_by of_one table side (since_quiet (items_up_to entries r.entry)) e r.kind)
      (slice_get-map item_of entries r.entry ∙ ap (option_map item_of) none))
