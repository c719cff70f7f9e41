-- Which lists are given for a kind: each list that the laws use, and the invocations. An exception is F8: the list of
-- the end's Begins with an AARQ is not given, though `ShowsWrongHalf` uses it.
use Rattle.std.specs.Prelude.{◌≡◌, ◌≤◌, ℕ, ℤ, ⊤, List, [], ◌∷◌, Contains, Option, Some, None, ◌==◌, cond}
use Rattle.tcap_parts.specs.declared.component.Component.{Component}
use Rattle.tcap_parts.specs.declared.component.Component.TheVariants.{Invoke, ReturnResult, ReturnError, Reject}
use Rattle.tcap_parts.specs.declared.problem.Problem.TheVariants as problems
use Rattle.tcap_msg.specs.declared.message.Message.{Message}
use Rattle.tcap_msg.specs.Parts.{components_in}
use Rattle.tcap_record.specs.declared.entry.End.{End as Side}
use Rattle.tcap_record.specs.declared.entry.Entry.{Entry}
use Rattle.tcap_refute.specs.declared.kind.Kind.{Kind}
use Rattle.tcap_refute.specs.declared.kind.Kind.TheVariants as kinds
use Rattle.tcap_faults.specs.Components.{is_of_link}
use Rattle.tcap_faults.specs.declared.dialogue.half_origin.HalfOrigin.{HalfOrigin}
use Rattle.tcap_faults.specs.declared.dialogue.half_origin.HalfOrigin.TheVariants.{Accepted, Begun}
use Rattle.tcap_faults.specs.declared.component.component_sort.Class.TheVariants.{Any, One, Two, Three}
use Rattle.tcap_faults.specs.declared.component.component_sort.Sort.TheVariants as sorts
use Rattle.tcap_evidence.specs.declared.operations.Invocation.{Invocation}
use Rattle.tcap_evidence.specs.declared.shown_facts.ShownFact.{ShownFact}
use Rattle.tcap_evidence.specs.declared.shown_facts.ShownFact.TheVariants as facts
use Rattle.tcap_evidence.specs.Operations.{answers, rejects_answer}
use Rattle.tcap_evidence.specs.Scene.{Scene, shown}
use Rattle.tcap_evidence_laws.specs.ListedEntries.{IsSentBefore}

-- Each of these things is given, with the entries that show it.
abbrev pub AreAllGiven : Scene → List (ShownFact × List ℕ) → List ShownFact → Type 0
AreAllGiven s grounds [] = ⊤
AreAllGiven s grounds (fact ∷ more) = Contains grounds (fact, shown s fact) × AreAllGiven s grounds more

-- No number is lower than an earlier one.
abbrev pub IsAscending : List ℕ → Type 0
IsAscending [] = ⊤
IsAscending (n ∷ more) = ((k : ℕ) → Contains more k → n ≤ k) × IsAscending more

-- ---- the lists that the laws use

-- F5, `ShowsUnasked`
abbrev pub listed_for_unasked : Option Component → List ShownFact
listed_for_unasked (Some (ReturnResult last id body)) = facts.PeerComponents (sorts.Invokes Any) ∷ []
listed_for_unasked (Some (ReturnError id code parameter)) = facts.PeerComponents (sorts.Invokes Any) ∷ []
listed_for_unasked (Some (Reject (Some id) (problems.Invoke n))) = facts.PeerComponents (sorts.Invokes Any) ∷ []
listed_for_unasked (Some (Reject (Some id) (problems.ReturnResult n))) = facts.PeerComponents sorts.Results ∷ []
listed_for_unasked (Some (Reject (Some id) (problems.ReturnError n))) = facts.PeerComponents sorts.Errors ∷ []
listed_for_unasked c = []

-- F6, `ShowsWrongOperation`
abbrev pub listed_for_operation : Option Component → List ShownFact
listed_for_operation (Some (ReturnResult last id body)) =
    facts.PeerComponents (sorts.Invokes One) ∷ facts.PeerComponents (sorts.Invokes Three) ∷ []
listed_for_operation (Some (ReturnError id code parameter)) =
    facts.PeerComponents (sorts.Invokes One) ∷ facts.PeerComponents (sorts.Invokes Two) ∷ []
listed_for_operation c = []

-- F9, `ShowsWrongDialogue`
abbrev pub listed_for_dialogue : HalfOrigin → List ShownFact
listed_for_dialogue Accepted = facts.PeerBegins ∷ facts.OutgoingContinues ∷ facts.PeerRequests ∷ []
listed_for_dialogue Begun = facts.Begun ∷ facts.OwnRequests ∷ []
listed_for_dialogue origin = []

-- F10, `ShowsBusy`
abbrev pub listed_for_busy : List ShownFact
listed_for_busy =
    facts.Whole (sorts.Invokes Any) ∷ facts.IncomingComponents sorts.LastResults ∷ facts.IncomingComponents sorts.Errors
    ∷ facts.IncomingComponents sorts.InvokeRejects ∷ facts.IncomingComponents sorts.GeneralRejects
    ∷ facts.Whole sorts.ResultRejects
    ∷ facts.Whole sorts.GeneralRejects ∷ facts.Invoked (sorts.Lasting One) ∷ facts.Invoked (sorts.Lasting Three)
    ∷ facts.IncomingComponents sorts.NotLasts ∷ facts.Invoked (sorts.Lasting Any) ∷ []

-- F12, `ShowsAnswered`
abbrev pub listed_for_answered : List ShownFact
listed_for_answered =
    facts.IncomingComponents (sorts.Invokes Any) ∷ facts.IncomingComponents (sorts.Invokes One)
    ∷ facts.IncomingComponents (sorts.Invokes Two)
    ∷ facts.IncomingComponents (sorts.Invokes Three) ∷ facts.Before sorts.LastResults ∷ facts.Before sorts.Errors
    ∷ facts.Before sorts.InvokeRejects ∷ []

-- F13, `ShowsInvokeRejected`, by the problem
abbrev pub listed_for_invoke : ℕ → List ShownFact
listed_for_invoke n =
    cond (n == 0) (facts.IncomingComponents (sorts.Invokes Any) ∷ facts.Before sorts.DuplicateRejects ∷ [])
    (cond (is_of_link n) (facts.IncomingComponents sorts.Linked ∷ facts.Before sorts.LinkRejects ∷ []) [])

-- F13, `ShowsRejected`
abbrev pub listed_for_rejected : Option Component → List ShownFact
listed_for_rejected (Some (Reject (Some id) (problems.Invoke n))) = listed_for_invoke n
listed_for_rejected (Some (Reject (Some id) (problems.ReturnResult n))) =
    facts.IncomingComponents sorts.Results ∷ facts.IncomingComponents sorts.Errors ∷ facts.Before sorts.ResultRejects
    ∷ facts.Invoked (sorts.Invokes Any) ∷ facts.Invoked (sorts.Invokes One) ∷ facts.Invoked (sorts.Invokes Three) ∷ []
listed_for_rejected (Some (Reject (Some id) (problems.ReturnError n))) =
    facts.IncomingComponents sorts.Results ∷ facts.IncomingComponents sorts.Errors ∷ facts.Before sorts.ErrorRejects
    ∷ facts.Invoked (sorts.Invokes Any) ∷ facts.Invoked (sorts.Invokes One) ∷ facts.Invoked (sorts.Invokes Two) ∷ []
listed_for_rejected c = []

-- the lists for a message with a destination ID
abbrev pub listed_with_id : HalfOrigin → Option Component → Kind → List ShownFact
listed_with_id origin c kinds.UnknownTransaction = facts.PeerBegins ∷ facts.PeerContinues ∷ []
listed_with_id origin c kinds.ReusedId = facts.WentElsewhere ∷ []
listed_with_id origin c kinds.AfterEnd = facts.Ended ∷ []
listed_with_id origin c kinds.AnswersNothing = listed_for_unasked c
listed_with_id origin c kinds.WrongOperation = listed_for_operation c
listed_with_id origin c kinds.MisplacedDialogue = facts.PeerRequests ∷ []
listed_with_id origin c kinds.WrongHalf =
    facts.PeerBegins ∷ facts.Refused ∷ facts.Begun ∷ facts.PeerContinues ∷ facts.OutgoingContinues ∷ facts.Unknown
    ∷ []
listed_with_id origin c kinds.WrongDialogue = listed_for_dialogue origin
listed_with_id origin c kinds.InvokeIdBusy = listed_for_busy
listed_with_id origin c kinds.BadLink =
    facts.IncomingComponents (sorts.Invokes Any) ∷ facts.Before sorts.LastResults ∷ facts.Before sorts.Errors
    ∷ facts.Before sorts.InvokeRejects ∷ []
listed_with_id origin c kinds.AnsweredAlready = listed_for_answered
listed_with_id origin c kinds.RejectNotAllowed = listed_for_rejected c
listed_with_id origin c kinds.WrongReply =
    facts.PeerContinues ∷ facts.Unknown ∷ facts.OutgoingComponents ∷ facts.PeerBegins ∷ facts.Refused ∷ []
listed_with_id origin c kind = []

-- The lists for a message without a destination ID. Lists of the peer's messages from that ID would be empty, so they
-- are not given.
abbrev pub listed_without_id : Kind → List ShownFact
listed_without_id kinds.ReusedId = facts.Used ∷ []
listed_without_id kinds.InvokeIdBusy = facts.Before (sorts.Invokes Any) ∷ []
listed_without_id kind = []

-- the lists for a message, with or without a destination ID
abbrev pub listed_facts : Option (List ℕ) → HalfOrigin → Option Component → Kind → List ShownFact
listed_facts None origin c kind = listed_without_id kind
listed_facts (Some id) origin c kind = listed_with_id origin c kind

-- ---- invocations

-- the list of Invokes in the messages whose invocations are given for a kind
abbrev pub invokes_listed : Kind → Option Component → Option ShownFact
invokes_listed kinds.WrongOperation c = cond (answers c) (Some (facts.PeerComponents (sorts.Invokes Any))) None
invokes_listed kinds.InvokeIdBusy c = Some (facts.Invoked (sorts.Invokes Any))
invokes_listed kinds.BadLink c = Some (facts.IncomingComponents (sorts.Invokes Any))
invokes_listed kinds.AnsweredAlready c = Some (facts.IncomingComponents (sorts.Invokes Any))
invokes_listed kinds.RejectNotAllowed c =
    Some (cond (rejects_answer c) (facts.Invoked (sorts.Invokes Any)) (facts.IncomingComponents (sorts.Invokes Any)))
invokes_listed kind c = None

-- The invocation is an Invoke of the ID in its entry, with its operation and its linked ID. This end sent the entry,
-- before the one at fault.
pub record IsInvoke (entries : List Entry) (number : ℕ) (sender : Side) (asked : Option ℤ) (i : Invocation) : Type
    0 where
  pub message : Message
  pub id : ℤ
  pub parameter : Option (List ℕ)
  pub sent : IsSentBefore entries number sender i.entry message
  pub of : asked ≡ Some id
  pub has : Contains (components_in message) (Invoke id i.linked i.code parameter)
