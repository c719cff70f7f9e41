-- Which lines `explain` prints after REFUTED and BLAMED. They say what the fault depends on.
use Rattle.std.specs.Prelude.{ℕ, ℤ, ◌-◌, Bool, true, false, List, [], ◌∷◌, ◌++◌, slice_get, take, length, Option, Some, None, is_none, ◌&&◌, ◌||◌, not, cond, nat_lt, codes}
use Rattle.std.specs.List.{flat_map}
use Rattle.std.specs.Fmt.{decimal, signed_decimal}
use Rattle.hex.specs.Hex.{encode_lower}
use Rattle.tcap_parts.specs.declared.component.Component.{Component}
use Rattle.tcap_parts.specs.declared.component.Component.TheVariants.{Invoke}
use Rattle.tcap_msg.specs.declared.message.Message.{Message}
use Rattle.tcap_msg.specs.Parts.{components_in, dtid_in}
use Rattle.tcap_record.specs.declared.entry.End.{End as Side}
use Rattle.tcap_record.specs.declared.entry.Body.{Body}
use Rattle.tcap_record.specs.declared.entry.Body.TheVariants.{Good, Bad, Quiet}
use Rattle.tcap_record.specs.declared.entry.Entry.{Entry}
use Rattle.tcap_record.specs.Ends.{letter, other, is_entry_of}
use Rattle.tcap_record.specs.Lines.{code_text, component_line, head_text, line_end}
use Rattle.tcap_end.specs.Table.{Table, class_of}
use Rattle.tcap_refute.specs.declared.kind.Kind.{Kind}
use Rattle.tcap_refute.specs.declared.kind.Kind.TheVariants as kinds
use Rattle.tcap_refute.specs.declared.kind.Refutation.{Refutation}
use Rattle.tcap_refute.specs.Kind.{is_unknown_operation}
use Rattle.tcap_faults.specs.declared.dialogue.half_origin.HalfOrigin.{HalfOrigin}
use Rattle.tcap_faults.specs.declared.dialogue.half_origin.HalfOrigin.TheVariants.{Accepted, Refused, Begun, Unanswered, Nowhere}
use Rattle.tcap_faults.specs.declared.component.component_sort.Class.{Class}
use Rattle.tcap_faults.specs.declared.component.component_sort.Class.TheVariants.{Any, One, Two, Three}
use Rattle.tcap_faults.specs.declared.component.component_sort.Sort.{Sort}
use Rattle.tcap_faults.specs.declared.component.component_sort.Sort.TheVariants as sorts
use Rattle.tcap_faults.specs.declared.verdict.fault_subject.Subject.{Subject}
use Rattle.tcap_evidence.specs.declared.operations.Invocation.{Invocation}
use Rattle.tcap_evidence.specs.declared.shown_facts.ShownFact.{ShownFact}
use Rattle.tcap_evidence.specs.declared.shown_facts.ShownFact.TheVariants as facts
use Rattle.tcap_faults.specs.Counts.{is_nothing}
use Rattle.tcap_faults.specs.FaultSubject.{subject_of}
use Rattle.tcap_evidence.specs.Evidence.{component_at, grounds_of, invoke_id_at}
use Rattle.tcap_evidence.specs.Operations.{invocations_at}

-- ---- the words for a kind

-- the words for what a kind says of a message or a quiet mark
unfoldable pub kind_words : Kind → List ℕ
kind_words kinds.BadMessage = codes "its octets are no message"
kind_words kinds.UnknownTransaction = codes "its peer sent nothing from the destination ID that it could answer"
kind_words kinds.ReusedId = codes "its end has used the originating ID"
kind_words kinds.AfterEnd = codes "its end has ended this dialogue"
kind_words kinds.AnswersNothing = codes "it answers or rejects what its peer never sent"
kind_words kinds.WrongOperation = codes "it invokes or answers an operation as the table does not allow"
kind_words kinds.MisplacedDialogue = codes "its dialogue portion is one that it may not carry"
kind_words kinds.WrongHalf = codes "its end has no transaction over which it may send it"
kind_words kinds.WrongDialogue = codes "its dialogue portion does not fit how the dialogue stands"
kind_words kinds.InvokeIdBusy = codes "it invokes an ID that is in use"
kind_words kinds.BadLink =
    codes "it is linked to an invocation that its end did not receive, has answered, or may not link it to"
kind_words kinds.AnsweredAlready = codes "it answers an invocation that was answered already"
kind_words kinds.RejectNotAllowed = codes "it rejects with a problem that nothing received has"
kind_words kinds.WrongReply = codes "it is an Abort of the provider that answers nothing which is left"
kind_words kinds.OpenAtMark = codes "a transaction of its end is open at this quiet mark"

-- ---- the entry

-- whether an entry is that end's; a quiet mark, which no end sends, counts for both
abbrev pub is_for : Side → Option Entry → Bool
is_for side None = false
is_for side (Some e) = is_none e.side || is_entry_of side e.side

-- the number of a component, if there is one
abbrev pub component_words : Option ℕ → List ℕ
component_words None = []
component_words (Some n) = codes ", component " ++ decimal n

-- the line of an entry at fault, with its component if one is at fault
abbrev pub entry_line : Side → Refutation → Option ℕ → List ℕ
entry_line side r component =
    codes "  entry " ++ decimal r.entry ++ codes " of " ++ letter side ++ component_words component ++ codes ": "
    ++ kind_words r.kind ++ line_end

-- the words for a quiet mark at which a transaction of an end is open
abbrev pub open_words : Side → List ℕ
open_words side = codes "a transaction of " ++ letter side ++ codes " is open at this quiet mark"

-- a fault of an end in one sentence
abbrev pub sentence_words : Side → Kind → List ℕ
sentence_words side kinds.OpenAtMark = open_words side
sentence_words side kind = kind_words kind

-- the line of a quiet mark, which names the end whose transaction is open
abbrev pub mark_line : Side → Refutation → List ℕ
mark_line side r = codes "  entry " ++ decimal r.entry ++ codes ": " ++ open_words side ++ line_end

-- the line of a component, if there is one
abbrev pub component_shown : Option Component → List ℕ
component_shown None = []
component_shown (Some c) = codes "    " ++ component_line c

-- the lines of a message and its component at fault
abbrev pub message_lines : Message → Option ℕ → List ℕ
message_lines m component =
    codes "    " ++ head_text m ++ line_end ++ component_shown (component_at component (components_in m))

-- ---- the half

-- the words for how a half began
unfoldable pub origin_words : HalfOrigin → List ℕ
origin_words Accepted = codes "began by the peer's Begin"
origin_words Refused = codes "the peer's Begin was refused"
origin_words Begun = codes "began by its own Begin, which the peer answered"
origin_words Unanswered = codes "began by its own Begin, which no Continue with an AARE answers"
origin_words Nowhere = codes "none"

abbrev pub own_words : Option (List ℕ) → List ℕ
own_words None = []
own_words (Some id) = codes ", own ID " ++ encode_lower id

-- whether a kind compares the half over which a message would go
abbrev pub is_of_half : Kind → Bool
is_of_half kinds.WrongHalf = true
is_of_half kinds.WrongDialogue = true
is_of_half kinds.InvokeIdBusy = true
is_of_half kinds.BadLink = true
is_of_half kinds.AnsweredAlready = true
is_of_half kinds.RejectNotAllowed = true
is_of_half kind = false

-- the line of the half over which a message would go, if the kind compares it
abbrev pub half_line : Side → Kind → Option (List ℕ) → Subject → List ℕ
half_line side kind None about = []
half_line side kind (Some id) about = cond (is_of_half kind)
    (codes "  the transaction of " ++ letter side ++ codes ": " ++ origin_words about.origin ++ own_words about.own
    ++ line_end) []

-- ---- the things that entries show

unfoldable pub class_words : Class → List ℕ
class_words Any = []
class_words One = codes " of class 1"
class_words Two = codes " of class 2"
class_words Three = codes " of class 3"

-- the words for a sort of components
unfoldable pub sort_words : Sort → List ℕ
sort_words (sorts.Invokes class) = codes "Invokes"
sort_words (sorts.Lasting class) = codes "not expiring Invokes"
sort_words sorts.Linked = codes "linked Invokes"
sort_words sorts.Results = codes "Return Results"
sort_words sorts.LastResults = codes "Return Results Last"
sort_words sorts.NotLasts = codes "Return Results Not Last"
sort_words sorts.Errors = codes "Return Errors"
sort_words sorts.GeneralRejects = codes "Rejects with a general problem"
sort_words sorts.InvokeRejects = codes "Rejects with an invoke problem"
sort_words sorts.DuplicateRejects = codes "Rejects with duplicateInvokeID"
sort_words sorts.LinkRejects = codes "Rejects with a problem of a link"
sort_words sorts.ResultRejects = codes "Rejects with a return result problem"
sort_words sorts.ErrorRejects = codes "Rejects with a return error problem"

abbrev pub class_of_sort : Sort → Class
class_of_sort (sorts.Invokes class) = class
class_of_sort (sorts.Lasting class) = class
class_of_sort sort = Any

abbrev pub id_words : Option ℤ → List ℕ
id_words None = []
id_words (Some id) = codes " of " ++ signed_decimal id

abbrev pub sorted : Sort → Option ℤ → List ℕ
sorted sort id = sort_words sort ++ id_words id ++ class_words (class_of_sort sort)

-- the end that sent the entries
abbrev pub sender_of : Side → ShownFact → Side
sender_of side facts.PeerBegins = other side
sender_of side facts.PeerRequests = other side
sender_of side facts.PeerContinues = other side
sender_of side (facts.PeerComponents sort) = other side
sender_of side (facts.IncomingComponents sort) = other side
sender_of side fact = side

-- the words for messages and their IDs, or for the place of components
unfoldable pub place_words : ShownFact → List ℕ
place_words facts.PeerBegins = codes "Begins from its destination ID"
place_words facts.PeerRequests = codes "Begins with AARQ from its destination ID"
place_words facts.PeerContinues = codes "Continues from its destination ID"
place_words facts.Used = codes "messages from its originating ID before it"
place_words facts.WentElsewhere = codes "Continues from its originating ID to another ID before it"
place_words facts.Begun = codes "Begins from the own ID"
place_words facts.OwnRequests = codes "Begins with AARQ from the own ID"
place_words facts.OutgoingComponents = codes "messages to its destination ID before it"
place_words facts.OutgoingContinues = codes "Continues to its destination ID before it"
place_words facts.Ended = codes "Ends and user Aborts to its destination ID before it"
place_words facts.Unknown = codes "Aborts with cause 1 to its destination ID before it"
place_words facts.Refused = codes "Aborts with cause 4 to its destination ID before it"
place_words (facts.PeerComponents sort) = codes " from its destination ID"
place_words (facts.IncomingComponents sort) = codes " in this transaction"
place_words (facts.Before sort) = codes " before it"
place_words (facts.Whole sort) = codes " in its messages to its destination ID and in this one"
place_words (facts.Invoked sort) = codes " in this transaction"
place_words facts.Open = codes "Continues of transactions that are open"

-- the sort of components that is counted, if any
abbrev pub sort_in : ShownFact → Option Sort
sort_in (facts.PeerComponents sort) = Some sort
sort_in (facts.IncomingComponents sort) = Some sort
sort_in (facts.Before sort) = Some sort
sort_in (facts.Whole sort) = Some sort
sort_in (facts.Invoked sort) = Some sort
sort_in fact = None

abbrev pub sorted_in : Option Sort → Option ℤ → List ℕ
sorted_in None id = []
sorted_in (Some sort) id = sorted sort id

-- ---- entries

-- the most entries that a line names
abbrev pub most : ℕ
most = 8

-- a number after a comma and a space
abbrev pub number_after : ℕ → List ℕ
number_after n = codes ", " ++ decimal n

-- the number of entries that are not named, if any
abbrev pub more_words : ℕ → List ℕ
more_words n = cond (nat_lt most n) (codes " and " ++ decimal (n - most) ++ codes " more") []

-- the words for a list of entries
abbrev pub entries_words : List ℕ → List ℕ
entries_words [] = codes "none"
entries_words (n ∷ []) = codes "entry " ++ decimal n
entries_words (n ∷ more) =
    codes "entries " ++ decimal n ++ flat_map number_after (take (most - 1) more) ++ more_words (length (n ∷ more))

-- whether a line is printed even if there are no entries
abbrev pub is_listed_if_empty : ShownFact → Bool
is_listed_if_empty facts.PeerBegins = true
is_listed_if_empty facts.PeerRequests = true
is_listed_if_empty facts.PeerContinues = true
is_listed_if_empty facts.Begun = true
is_listed_if_empty facts.OwnRequests = true
is_listed_if_empty (facts.PeerComponents (sorts.Invokes Any)) = true
is_listed_if_empty (facts.PeerComponents sorts.Results) = true
is_listed_if_empty (facts.PeerComponents sorts.Errors) = true
is_listed_if_empty (facts.IncomingComponents (sorts.Invokes Any)) = true
is_listed_if_empty (facts.IncomingComponents sorts.Linked) = true
is_listed_if_empty (facts.IncomingComponents sorts.Results) = true
is_listed_if_empty (facts.IncomingComponents sorts.Errors) = true
is_listed_if_empty fact = false

-- the words for what entries show, with the end that sent them
abbrev pub fact_words : Side → Option ℤ → ShownFact → List ℕ
fact_words side id fact =
    letter (sender_of side fact) ++ codes ": " ++ sorted_in (sort_in fact) id ++ place_words fact

-- the line for a thing and the entries that show it
abbrev pub ground_line : Side → Option ℤ → ShownFact × List ℕ → List ℕ
ground_line side id g = cond (is_nothing g.1 && not (is_listed_if_empty g.0)) []
    (codes "  " ++ fact_words side id g.0 ++ codes ": " ++ entries_words g.1 ++ line_end)

-- ---- invocations

abbrev pub class_text : Option ℕ → List ℕ
class_text None = codes ", which the table lacks"
class_text (Some class) = codes ", of class " ++ decimal class

abbrev pub link_text : Option ℤ → List ℕ
link_text None = []
link_text (Some id) = codes ", linked to " ++ signed_decimal id

-- the line of an invocation: its ID, its entry, its operation and class, and the ID to which it is linked
abbrev pub invocation_line : Table → ℤ → Invocation → List ℕ
invocation_line table id i =
    codes "  invocation " ++ signed_decimal id ++ codes " in entry " ++ decimal i.entry ++ codes " is of "
    ++ code_text i.code
    ++ class_text (class_of table i.code) ++ link_text i.linked ++ line_end

-- the line with the number of invocations that are not named, if any
abbrev pub more_invocations : ℕ → List ℕ
more_invocations n = cond (nat_lt most n) (codes " " ++ more_words n ++ codes " invocations of it\n") []

abbrev pub invocation_lines : Table → Option ℤ → List Invocation → List ℕ
invocation_lines table None invocations = []
invocation_lines table (Some id) invocations =
    flat_map (invocation_line table id) (take most invocations) ++ more_invocations (length invocations)

-- ---- other possible explanations

-- the line with another possible explanation, if the kind has one
unfoldable pub doubt_words : Kind → List ℕ
doubt_words kinds.BadMessage = codes "  `tcapjudge show --why RECORD` says what is wrong with its octets\n"
doubt_words kinds.UnknownTransaction = codes "  it may be, too, that a message of the peer is missing from the record\n"
doubt_words kinds.ReusedId =
    codes "  it may be, too, that a quiet mark is missing, behind which IDs are free again, or a message\n"
doubt_words kinds.OpenAtMark =
    codes "  it may be, too, that the mark was set too early, or that an End is missing from the record\n"
doubt_words kind = []

-- whether a component is an Invoke of an operation that the table does not have
abbrev pub lacks : Table → Option Component → Bool
lacks table None = false
lacks table (Some c) = is_unknown_operation table c

unfoldable pub lacks_words : Bool → List ℕ
lacks_words true = codes "  the table lacks this operation\n"
lacks_words false = []

abbrev pub doubt_lines : Table → Kind → Option Component → List ℕ
doubt_lines table kinds.WrongOperation c = lacks_words (lacks table c)
doubt_lines table kind c = doubt_words kind

-- ---- all lines

-- the lines for a message at fault
abbrev pub message_text : Table → Side → Refutation → Message → Subject → Option ℤ → List (ShownFact × List ℕ) → List ℕ
message_text table side r m about id grounds =
    entry_line side r about.component ++ message_lines m about.component ++ half_line side r.kind (dtid_in m) about
    ++ flat_map (ground_line side id) grounds
    ++ doubt_lines table r.kind (component_at about.component (components_in m))

-- the lines for a quiet mark
abbrev pub mark_text : Side → Refutation → List (ShownFact × List ℕ) → List ℕ
mark_text side r grounds = mark_line side r ++ flat_map (ground_line side None) grounds ++ doubt_words r.kind

-- the lines for octets that are not a message
abbrev pub bad_text : Side → Refutation → List ℕ
bad_text side r = entry_line side r None ++ doubt_words r.kind

-- the lines for an entry at fault, without its invocations
abbrev pub fault_text : Table → Side → Option Entry → Refutation → Subject → Option ℤ → List (ShownFact × List ℕ)
    → List ℕ
fault_text table side entry r about id grounds = by entry
  where
    by_body : Option Side → Body → List ℕ
    by_body (Some sender) (Good m) = message_text table side r m about id grounds
    by_body None Quiet = mark_text side r grounds
    by_body sender body = bad_text side r

    by : Option Entry → List ℕ
    by None = bad_text side r
    by (Some e) = by_body e.side e.body

-- the lines for an entry at fault, with the invocations on whose operations and links the fault depends
abbrev pub evidence_text : Table → Side → Option Entry → Refutation → Subject → Option ℤ → List (ShownFact × List ℕ)
    → List Invocation → List ℕ
evidence_text table side entry r about id grounds invocations =
    fault_text table side entry r about id grounds ++ invocation_lines table id invocations

-- the lines for an entry of a record; `of_one` says whether its kind was found for one end alone
abbrev pub refutation_text : Bool → Table → Side → List Entry → Refutation → List ℕ
refutation_text of_one table side entries r =
    evidence_text table side (slice_get entries r.entry) r (subject_of of_one table side entries r)
    (invoke_id_at of_one table side entries r) (grounds_of of_one table side entries r)
    (invocations_at of_one table side entries r)
