-- On which invocations' operations and links a fault depends: the Invokes of the invoke ID in question, in the
-- messages that the kind compares (Q.771 3.1, Q.774 3.2).
use Rattle.std.specs.Prelude.{ℕ, ℤ, Bool, true, false, List, [], ◌∷◌, slice_get, map, Option, Some, None, Result, Ok, cond}
use Rattle.std.specs.List.{flat_map}
use Rattle.tcap_parts.specs.declared.component.Component.{Component}
use Rattle.tcap_parts.specs.declared.component.Component.TheVariants.{Invoke, ReturnResult, ReturnError, Reject}
use Rattle.tcap_parts.specs.declared.problem.Problem.TheVariants as problems
use Rattle.tcap_msg.specs.Parts.{components_in}
use Rattle.tcap_record.specs.declared.entry.End.{End as Side}
use Rattle.tcap_record.specs.declared.entry.Entry.{Entry}
use Rattle.tcap_end.specs.Table.{Table}
use Rattle.tcap_model.specs.declared.reason.Reason.{Reason}
use Rattle.tcap_model.specs.World.{Item, Sent}
use Rattle.tcap_model.specs.Entries.{item_of}
use Rattle.tcap_refute.specs.declared.kind.Kind.{Kind}
use Rattle.tcap_refute.specs.declared.kind.Kind.TheVariants as kinds
use Rattle.tcap_refute.specs.declared.kind.Refutation.{Refutation}
use Rattle.tcap_refute.specs.EarlierMessages.{is_invoke_id}
use Rattle.tcap_faults.specs.declared.verdict.fault_subject.Subject.{Subject}
use Rattle.tcap_faults.specs.FaultSubject.{subject_of}
use Rattle.tcap_evidence.specs.declared.operations.Invocation.{Invocation}
use Rattle.tcap_evidence.specs.NumberedMessages.{Numbered, in_order}
use Rattle.tcap_evidence.specs.Scene.{Scene, incoming_by, invoked_by, peer_from_dtid}
use Rattle.tcap_evidence.specs.Evidence.{component_at, scene_of}

-- ---- the Invokes of an ID

-- the component of entry `number`, if it is an Invoke of this ID
abbrev pub invocation_in : ℤ → ℕ → Component → List Invocation
invocation_in id number (Invoke other linked code parameter) =
    cond (is_invoke_id id other) (record { entry = number; code = code; linked = linked } ∷ []) []
invocation_in id number c = []

-- the Invokes of this ID in messages, in order
abbrev pub invocations_in : Option ℤ → List Numbered → List Invocation
invocations_in None sent = []
invocations_in (Some id) sent = flat_map (λ n. flat_map (invocation_in id n.0) (components_in n.1)) sent

-- ---- the messages that a kind compares

-- whether a component is an answer
abbrev pub answers : Option Component → Bool
answers (Some (ReturnResult last id body)) = true
answers (Some (ReturnError id code parameter)) = true
answers c = false

-- whether a component is a Reject of an answer
abbrev pub rejects_answer : Option Component → Bool
rejects_answer (Some (Reject id (problems.ReturnResult n))) = true
rejects_answer (Some (Reject id (problems.ReturnError n))) = true
rejects_answer c = false

-- The messages, in order, whose Invokes a kind compares by operation or link. F6 of an answer: the peer's messages
-- from the destination ID. F11, F12, and F13 of a Reject of an Invoke: the messages that the half heard. F10, and F13
-- of a Reject of an answer: the messages that carry the half's own invocations.
abbrev pub compared : Scene → Kind → Option Component → List Numbered
compared s kinds.WrongOperation c = cond (answers c) (peer_from_dtid s) []
compared s kinds.InvokeIdBusy c = in_order (invoked_by s s.origin)
compared s kinds.BadLink c = in_order (incoming_by s s.origin)
compared s kinds.AnsweredAlready c = in_order (incoming_by s s.origin)
compared s kinds.RejectNotAllowed c =
    in_order (cond (rejects_answer c) (invoked_by s s.origin) (incoming_by s s.origin))
compared s kind c = []

-- the invocations on which the fault of a message depends
abbrev pub invocations_of : Scene → Kind → Option Component → List Invocation
invocations_of s kind c = invocations_in s.id (compared s kind c)

-- The invocations for an entry at fault, by its kind and the component at fault; none if the entry is not a message.
abbrev pub invocations_at : Bool → Table → Side → List Entry → Refutation → List Invocation
invocations_at of_one table side entries r = by (slice_get (map item_of entries) r.entry)
  where
    about : Subject
    about = subject_of of_one table side entries r

    by : Option (Result Item Reason) → List Invocation
    by (Some (Ok (Sent sender m))) =
        invocations_of (scene_of table side entries r.entry m r.kind about) r.kind
        (component_at about.component (components_in m))
    by entry = []
