-- Which entries show the fault of an end: for each kind, the entries that it compares (Q.771, Q.773, Q.774).
use Rattle.std.specs.Prelude.{ℕ, ℤ, Bool, List, [], ◌∷◌, ◌++◌, map, take, slice_get, Option, Some, None, Result, Ok, Err, ◌==◌, cond}
use Rattle.tcap_parts.specs.declared.component.Component.{Component}
use Rattle.tcap_parts.specs.declared.component.Component.TheVariants.{Invoke, ReturnResult, ReturnError, Reject}
use Rattle.tcap_parts.specs.declared.problem.Problem.{Problem}
use Rattle.tcap_parts.specs.declared.problem.Problem.TheVariants as problems
use Rattle.tcap_msg.specs.declared.message.Message.{Message}
use Rattle.tcap_msg.specs.Parts.{components_in, dtid_in, otid_in}
use Rattle.tcap_record.specs.declared.entry.End.{End as Side}
use Rattle.tcap_record.specs.declared.entry.Entry.{Entry}
use Rattle.tcap_record.specs.Ends.{other}
use Rattle.tcap_end.specs.Table.{Table}
use Rattle.tcap_model.specs.declared.reason.Reason.{Reason}
use Rattle.tcap_model.specs.World.{Item, Sent}
use Rattle.tcap_model.specs.Entries.{item_of}
use Rattle.tcap_refute.specs.declared.kind.Kind.{Kind}
use Rattle.tcap_refute.specs.declared.kind.Kind.TheVariants as kinds
use Rattle.tcap_refute.specs.declared.kind.Refutation.{Refutation}
use Rattle.tcap_refute.specs.EarlierMessages.{since_quiet}
use Rattle.tcap_faults.specs.declared.dialogue.half_origin.HalfOrigin.{HalfOrigin}
use Rattle.tcap_faults.specs.declared.dialogue.half_origin.HalfOrigin.TheVariants as origins
use Rattle.tcap_faults.specs.declared.component.component_sort.Class.TheVariants.{Any, One, Two, Three}
use Rattle.tcap_faults.specs.declared.component.component_sort.Sort.{Sort}
use Rattle.tcap_faults.specs.declared.component.component_sort.Sort.TheVariants as sorts
use Rattle.tcap_faults.specs.declared.verdict.fault_subject.Subject.{Subject}
use Rattle.tcap_faults.specs.Components.{is_of_link}
use Rattle.tcap_faults.specs.FaultSubject.{items_among, no_subject, subject_of}
use Rattle.tcap_evidence.specs.declared.shown_facts.ShownFact.{ShownFact}
use Rattle.tcap_evidence.specs.declared.shown_facts.ShownFact.TheVariants as facts
use Rattle.tcap_evidence.specs.NumberedMessages.{sent_before}
use Rattle.tcap_evidence.specs.Scene.{Scene, shown}

-- ---- the things that show a kind

-- Invokes in such a place: all, and those of class 1, 2 and 3
abbrev pub by_class : (Sort → ShownFact) → List ShownFact
by_class at =
    at (sorts.Invokes Any) ∷ at (sorts.Invokes One) ∷ at (sorts.Invokes Two) ∷ at (sorts.Invokes Three) ∷ []

-- components that end invocations: last Return Results, Return Errors, and Rejects with an invoke problem
abbrev pub takings : (Sort → ShownFact) → List ShownFact
takings at = at sorts.LastResults ∷ at sorts.Errors ∷ at sorts.InvokeRejects ∷ []

-- F5: the components that could be answered or rejected. There is no list for a Reject without ID or with a general
-- problem, which may reject something that could not be read.
abbrev pub answered_by : Option Component → List ShownFact
answered_by (Some (Reject (Some id) (problems.ReturnResult n))) = facts.PeerComponents sorts.Results ∷ []
answered_by (Some (Reject (Some id) (problems.ReturnError n))) = facts.PeerComponents sorts.Errors ∷ []
answered_by (Some (Reject (Some id) (problems.Invoke n))) = facts.PeerComponents (sorts.Invokes Any) ∷ []
answered_by (Some (ReturnResult last id body)) = facts.PeerComponents (sorts.Invokes Any) ∷ []
answered_by (Some (ReturnError id code parameter)) = facts.PeerComponents (sorts.Invokes Any) ∷ []
answered_by c = []

-- F6: the Invokes that would have to allow an answer
abbrev pub allowed_by : Option Component → List ShownFact
allowed_by (Some (ReturnResult last id body)) = by_class facts.PeerComponents
allowed_by (Some (ReturnError id code parameter)) = by_class facts.PeerComponents
allowed_by c = []

-- F9: the Begins and Continues that determine the dialogue state
abbrev pub dialogue_of : HalfOrigin → List ShownFact
dialogue_of origins.Begun = facts.Begun ∷ facts.OwnRequests ∷ []
dialogue_of origin = facts.PeerBegins ∷ facts.PeerRequests ∷ facts.OutgoingContinues ∷ []

-- F10: the own invocations of the ID, and the components that may have ended them
abbrev pub in_use : List ShownFact
in_use =
    facts.Whole (sorts.Invokes Any) ∷ facts.Invoked (sorts.Lasting Any) ∷ facts.Invoked (sorts.Lasting One)
    ∷ facts.Invoked (sorts.Lasting Three) ∷ facts.IncomingComponents sorts.LastResults
    ∷ facts.IncomingComponents sorts.NotLasts
    ∷ facts.IncomingComponents sorts.Errors ∷ facts.IncomingComponents sorts.InvokeRejects
    ∷ facts.IncomingComponents sorts.GeneralRejects
    ∷ facts.Whole sorts.ResultRejects ∷ facts.Whole sorts.GeneralRejects ∷ []

-- F13 of a Reject with an invoke problem: duplicateInvokeID (0), or a link problem (5 to 7)
abbrev pub problem_of_invoke : ℕ → List ShownFact
problem_of_invoke n =
    cond (n == 0) (facts.IncomingComponents (sorts.Invokes Any) ∷ facts.Before sorts.DuplicateRejects ∷ [])
    (cond (is_of_link n) (facts.IncomingComponents sorts.Linked ∷ facts.Before sorts.LinkRejects ∷ []) [])

-- F13: the components that could be rejected, and those by which the problem is judged
abbrev pub rejected_by : Option Component → List ShownFact
rejected_by (Some (Reject id (problems.ReturnResult n))) =
    (facts.IncomingComponents sorts.Results ∷ facts.IncomingComponents sorts.Errors ∷ facts.Before sorts.ResultRejects
    ∷ []) ++ by_class facts.Invoked
rejected_by (Some (Reject id (problems.ReturnError n))) =
    (facts.IncomingComponents sorts.Errors ∷ facts.IncomingComponents sorts.Results ∷ facts.Before sorts.ErrorRejects
    ∷ []) ++ by_class facts.Invoked
rejected_by (Some (Reject id (problems.Invoke n))) = problem_of_invoke n
rejected_by c = []

-- the things that show a kind, for a message with a destination ID
abbrev pub facts_with_id : HalfOrigin → Option Component → Kind → List ShownFact
facts_with_id origin c kinds.BadMessage = []
facts_with_id origin c kinds.UnknownTransaction = facts.PeerBegins ∷ facts.PeerContinues ∷ []
facts_with_id origin c kinds.ReusedId = facts.WentElsewhere ∷ []
facts_with_id origin c kinds.AfterEnd = facts.Ended ∷ []
facts_with_id origin c kinds.AnswersNothing = answered_by c
facts_with_id origin c kinds.WrongOperation = allowed_by c
facts_with_id origin c kinds.MisplacedDialogue = facts.PeerBegins ∷ facts.PeerRequests ∷ []
facts_with_id origin c kinds.WrongHalf =
    facts.PeerBegins ∷ facts.Refused ∷ facts.PeerContinues ∷ facts.Begun ∷ facts.OutgoingContinues ∷ facts.Unknown
    ∷ []
facts_with_id origin c kinds.WrongDialogue = dialogue_of origin
facts_with_id origin c kinds.InvokeIdBusy = in_use
facts_with_id origin c kinds.BadLink = facts.IncomingComponents (sorts.Invokes Any) ∷ takings facts.Before
facts_with_id origin c kinds.AnsweredAlready = by_class facts.IncomingComponents ++ takings facts.Before
facts_with_id origin c kinds.RejectNotAllowed = rejected_by c
facts_with_id origin c kinds.WrongReply =
    facts.PeerBegins ∷ facts.PeerContinues ∷ facts.Refused ∷ facts.Unknown ∷ facts.OutgoingComponents ∷ []
facts_with_id origin c kinds.OpenAtMark = []

-- the things that show a kind, for a message without a destination ID
abbrev pub facts_without_id : Kind → List ShownFact
facts_without_id kinds.ReusedId = facts.Used ∷ []
facts_without_id kinds.InvokeIdBusy = facts.Before (sorts.Invokes Any) ∷ []
facts_without_id kind = []

-- the things that show a kind, with or without a destination ID
abbrev pub shows : Option (List ℕ) → HalfOrigin → Option Component → Kind → List ShownFact
shows None origin c kind = facts_without_id kind
shows (Some id) origin c kind = facts_with_id origin c kind

-- ---- the evidence for an entry

-- the invoke ID in question: for F11 (BadLink) the linked ID of the Invoke, else the ID of the component
abbrev pub invoke_id_of : Kind → Component → Option ℤ
invoke_id_of kinds.BadLink (Invoke id linked code parameter) = linked
invoke_id_of kind (Invoke id linked code parameter) = Some id
invoke_id_of kind (ReturnResult last id body) = Some id
invoke_id_of kind (ReturnError id code parameter) = Some id
invoke_id_of kind (Reject id problem) = id

-- the invoke ID in question, or None without a component
abbrev pub invoke_id_in : Kind → Option Component → Option ℤ
invoke_id_in kind None = None
invoke_id_in kind (Some c) = invoke_id_of kind c

-- the component with this number, and the components before it
abbrev pub component_at : Option ℕ → List Component → Option Component
component_at None cs = None
component_at (Some n) cs = slice_get cs n

-- the components before the one with this number; none without a number
abbrev pub components_before : Option ℕ → List Component → List Component
components_before None cs = []
components_before (Some n) cs = take n cs

-- what is known of message `m` of entry `number`, from the subject of its fault
abbrev pub scene_of : Table → Side → List Entry → ℕ → Message → Kind → Subject → Scene
scene_of table side entries number m kind about = record {
  table = table;
  side = side;
  items = since_quiet (items_among (map item_of (take number entries)));
  own = sent_before side entries number;
  peer = sent_before (other side) entries number;
  number = number;
  to = dtid_in m;
  from = otid_in m;
  origin = about.origin;
  half = about.own;
  all = components_in m;
  earlier = components_before about.component (components_in m);
  id = invoke_id_in kind (component_at about.component (components_in m));
}

-- each of these things, with the entries that show it
abbrev pub grounds_in : Scene → List ShownFact → List (ShownFact × List ℕ)
grounds_in s ws = map (λ w. (w, shown s w)) ws

-- each of these things about the message of an entry, with the entries that show it, without a subject; empty if the
-- entry is not a message
abbrev pub grounds_at : Table → Side → List Entry → ℕ → List ShownFact → List (ShownFact × List ℕ)
grounds_at table side entries number ws = by (slice_get (map item_of entries) number)
  where
    by : Option (Result Item Reason) → List (ShownFact × List ℕ)
    by (Some (Ok (Sent sender m))) = grounds_in (scene_of table side entries number m kinds.BadMessage no_subject) ws
    by entry = []

-- what is known of a quiet mark: only the messages that were sent
abbrev pub mark_scene : Table → Side → List Entry → ℕ → Scene
mark_scene table side entries number = record {
  table = table;
  side = side;
  items = since_quiet (items_among (map item_of (take number entries)));
  own = sent_before side entries number;
  peer = sent_before (other side) entries number;
  number = number;
  to = None;
  from = None;
  origin = origins.Nowhere;
  half = None;
  all = [];
  earlier = [];
  id = None;
}

-- The things that show the kind of an entry for that end, each with its entries. For a quiet mark, these are the
-- Continues from IDs whose halves are open. Octets that are not a message need no evidence.
abbrev pub grounds_of : Bool → Table → Side → List Entry → Refutation → List (ShownFact × List ℕ)
grounds_of of_one table side entries r = by (slice_get (map item_of entries) r.entry)
  where
    about : Subject
    about = subject_of of_one table side entries r

    by : Option (Result Item Reason) → List (ShownFact × List ℕ)
    by (Some (Ok (Sent sender m))) =
        grounds_in (scene_of table side entries r.entry m r.kind about)
        (shows (dtid_in m) about.origin (component_at about.component (components_in m)) r.kind)
    by (Some (Ok Item.Quiet)) = grounds_in (mark_scene table side entries r.entry) (facts.Open ∷ [])
    by entry = []

-- the invoke ID whose components are counted for an entry
abbrev pub invoke_id_at : Bool → Table → Side → List Entry → Refutation → Option ℤ
invoke_id_at of_one table side entries r = by (slice_get (map item_of entries) r.entry)
  where
    by : Option (Result Item Reason) → Option ℤ
    by (Some (Ok (Sent sender m))) =
        invoke_id_in r.kind
        (component_at (subject_of of_one table side entries r).component (components_in m))
    by entry = None
