-- What is a fault of an end about: over which half does the message go, and which component has the kind (Q.774 3.2,
-- 3.3)?
use Rattle.std.specs.Prelude.{ℕ, ◌+◌, Bool, List, [], ◌∷◌, ◌++◌, map, slice_get, take, Option, Some, None, Result, Ok, Err, cond}
use Rattle.std.specs.Option.{option_or}
use Rattle.tcap_parts.specs.declared.component.Component.{Component}
use Rattle.tcap_msg.specs.declared.message.Message.{Message}
use Rattle.tcap_msg.specs.Parts.{components_in, dtid_in}
use Rattle.tcap_record.specs.declared.entry.End.{End as Side}
use Rattle.tcap_record.specs.declared.entry.Entry.{Entry}
use Rattle.tcap_end.specs.Table.{Table}
use Rattle.tcap_model.specs.declared.reason.Reason.{Reason}
use Rattle.tcap_model.specs.World.{Item, Sent}
use Rattle.tcap_model.specs.Entries.{item_of}
use Rattle.tcap_refute.specs.declared.kind.Kind.{Kind}
use Rattle.tcap_refute.specs.declared.kind.Kind.TheVariants as kinds
use Rattle.tcap_refute.specs.declared.kind.Refutation.{Refutation}
use Rattle.tcap_refute.specs.EarlierMessages.{since_quiet}
use Rattle.tcap_faults.specs.Components.{invokes_again, is_linked}
use Rattle.tcap_refute.specs.FirstComponent.{first_component, first_where}
use Rattle.tcap_faults.specs.declared.dialogue.half_origin.HalfOrigin.TheVariants.{Nowhere}
use Rattle.tcap_faults.specs.declared.verdict.fault_subject.Subject.{Subject}
use Rattle.tcap_faults.specs.ComponentKinds.{answers_again, invokes_busy, links_badly, rejects_wrongly}
use Rattle.tcap_faults.specs.HalfByPeerId.{HalfMessages, half_of}

-- ---- the component

-- The number of the first component that passes a test, counted from `number`. The test gets the components before it
-- in the message, and all that were sent before it.
abbrev pub first_component_where : (List Component → List Component → Component → Bool) → ℕ → List Component
    → List Component
    → List Component → Option ℕ
first_component_where is_so number own before [] = None
first_component_where is_so number own before (c ∷ more) =
    cond (is_so own before c) (Some number)
    (first_component_where is_so (number + 1) (own ++ c ∷ []) (before ++ c ∷ []) more)

-- The component that gives a message over a half this kind.
abbrev pub half_component : Table → HalfMessages → List Component → Kind → Option ℕ
half_component table h cs kinds.InvokeIdBusy =
    first_component_where (invokes_busy table h (h.outgoing ++ cs)) 0 [] h.outgoing cs
half_component table h cs kinds.BadLink = first_component_where (links_badly table h) 0 [] h.outgoing cs
half_component table h cs kinds.AnsweredAlready = first_component_where (answers_again table h) 0 [] h.outgoing cs
half_component table h cs kinds.RejectNotAllowed = first_component_where (rejects_wrongly table h) 0 [] h.outgoing cs
half_component table h cs kind = None

-- The component that gives a message without destination ID this kind.
abbrev pub alone_component : List Component → Kind → Option ℕ
alone_component cs kinds.InvokeIdBusy = first_component_where invokes_again 0 [] [] cs
alone_component cs kinds.BadLink = first_where is_linked 0 cs
alone_component cs kind = None

-- The component that gives a message this kind: F5, F6, or one of F10 to F13. `of_one` is whether F5 was asked of one
-- end alone.
abbrev pub component_of : Bool → Table → Side → List Item → Message → Kind → Option ℕ
component_of of_one table side items m kind =
    option_or (first_component of_one table side items m kind) (by (dtid_in m))
  where
    by : Option (List ℕ) → Option ℕ
    by None = alone_component (components_in m) kind
    by (Some id) = half_component table (half_of side items id) (components_in m) kind

-- ---- the subject

-- The subject of an entry that is no message.
abbrev pub no_subject : Subject
no_subject = record { origin = Nowhere; own = None; component = None }

-- The subject of a message after these items since the last quiet mark.
abbrev pub subject : Bool → Table → Side → List Item → Message → Kind → Subject
subject of_one table side items m kind = by (dtid_in m)
  where
    by : Option (List ℕ) → Subject
    by None = record { origin = Nowhere; own = None; component = component_of of_one table side items m kind }
    by (Some id) = record {
      origin = (half_of side items id).origin;
      own = (half_of side items id).own;
      component = component_of of_one table side items m kind;
    }

-- The items among these entries.
abbrev pub items_among : List (Result Item Reason) → List Item
items_among [] = []
items_among (Ok item ∷ more) = item ∷ items_among more
items_among (Err reason ∷ more) = items_among more

-- The subject of an entry after these items; only a message has one.
abbrev pub subject_by : Bool → Table → Side → List Item → Option (Result Item Reason) → Kind → Subject
subject_by of_one table side items (Some (Ok (Sent sender m))) kind = subject of_one table side items m kind
subject_by of_one table side items entry kind = no_subject

-- The subject of the entry that a refutation reports for an end. `of_one` is whether its kind was asked of one end
-- alone.
abbrev pub subject_of : Bool → Table → Side → List Entry → Refutation → Subject
subject_of of_one table side entries r =
    subject_by of_one table side (since_quiet (items_among (map item_of (take r.entry entries))))
    (slice_get (map item_of entries) r.entry) r.kind
