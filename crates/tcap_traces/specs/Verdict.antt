-- Which verdict a dialogue gets, in the words of TTCN-3 (ES 201 873-1). The dialogue is judged as a separate record.
-- Each judged end has a result, which says whether a blame depends on the bench's statements as well as on the end.
use Rattle.std.specs.Prelude.{ℕ, ℤ, Bool, true, false, List, [], ◌∷◌, length, map, take, drop, slice_get, Option, Some, None, is_none, Result, Ok, ◌==◌, ◌&&◌, ◌||◌, not, nat_le, nat_lt, cond, codes}
use Rattle.std.specs.List.{list_any}
use Rattle.tcap_parts.specs.declared.component.Component.{Component}
use Rattle.tcap_parts.specs.declared.component.Component.TheVariants.{Invoke, ReturnResult, ReturnError, Reject}
use Rattle.tcap_parts.specs.declared.problem.Problem.TheVariants as problems
use Rattle.tcap_msg.specs.declared.kind.Kind.TheVariants as forms
use Rattle.tcap_msg.specs.declared.message.Message.{Message}
use Rattle.tcap_msg.specs.Parts.{components_in, dtid_in, otid_in}
use Rattle.tcap_record.specs.declared.entry.End.{End as Side}
use Rattle.tcap_record.specs.declared.entry.End.TheVariants as sides
use Rattle.tcap_record.specs.declared.entry.Entry.{Entry}
use Rattle.tcap_record.specs.Ends.{other, is_entry_of}
use Rattle.tcap_end.specs.End.{is_id}
use Rattle.tcap_end.specs.Table.{Table, operation_of}
use Rattle.tcap_model.specs.declared.reason.Reason.{Reason}
use Rattle.tcap_model.specs.World.{Item, Sent, is_side}
use Rattle.tcap_model.specs.Entries.{item_of}
use Rattle.tcap_refute.specs.declared.kind.Kind.{Kind}
use Rattle.tcap_refute.specs.declared.kind.Kind.TheVariants as kinds
use Rattle.tcap_refute.specs.declared.kind.Refutation.{Refutation}
use Rattle.tcap_refute.specs.EarlierMessages.{is_a}
use Rattle.tcap_refute.specs.Kind.{is_unknown_operation}
use Rattle.tcap_faults.specs.Counts.{invokes_where}
use Rattle.tcap_faults.specs.FaultSubject.{subject_of}
use Rattle.tcap_evidence.specs.Evidence.{component_at}
use Rattle.tcap_judge.specs.declared.findings.Finding.{Finding}
use Rattle.tcap_judge.specs.declared.findings.Finding.TheVariants as findings
use Rattle.tcap_judge.specs.BlameOutcome.{finding}
use Rattle.tcap_traces.specs.declared.verdict.Verdict.{Verdict}
use Rattle.tcap_traces.specs.declared.verdict.Verdict.TheVariants as verdicts
use Rattle.tcap_traces.specs.declared.end_result.Doubt.{Doubt}
use Rattle.tcap_traces.specs.declared.end_result.Doubt.TheVariants as doubts
use Rattle.tcap_traces.specs.declared.end_result.EndResult.{EndResult}
use Rattle.tcap_traces.specs.declared.end_result.EndResult.TheVariants as end_results
use Rattle.tcap_traces.specs.declared.end_result.Circumstances.{Circumstances}

-- ---- what a blame may depend on besides the end

-- the message of an entry, if it is one
abbrev pub message_in : Result Item Reason → Option Message
message_in (Ok (Sent sender m)) = Some m
message_in item = None

abbrev pub message_of : Option Entry → Option Message
message_of None = None
message_of (Some entry) = message_in (item_of entry)

abbrev pub message_at : List Entry → ℕ → Option Message
message_at entries number = message_of (slice_get entries number)

-- the entries before this number, as items or the reasons why they are none
abbrev pub read_before : List Entry → ℕ → List (Result Item Reason)
read_before entries number = map item_of (take number entries)

-- the component at fault, if there is one
abbrev pub component_in : Option ℕ → Option Message → Option Component
component_in number None = None
component_in number (Some m) = component_at number (components_in m)

-- the component at fault in an entry that is blamed on an end, if there is one
abbrev pub faulty_component : Table → Side → List Entry → Refutation → Option Component
faulty_component table side entries r =
    component_in (subject_of true table side entries r).component (message_at entries r.entry)

-- the ID of an Invoke of the peer that the component answers, rejects or wrongly links to
abbrev pub peer_invoke_id : Kind → Component → Option ℤ
peer_invoke_id kinds.BadLink (Invoke id linked code parameter) = linked
peer_invoke_id kind (ReturnResult last id body) = Some id
peer_invoke_id kind (ReturnError id code parameter) = Some id
peer_invoke_id kind (Reject id (problems.Invoke n)) = id
peer_invoke_id kind c = None

-- whether the component is an Invoke with this ID of an operation that is not in the table
abbrev pub invokes_lacking : Table → ℤ → Component → Bool
invokes_lacking table id c = invokes_where id (λ code. is_none (operation_of table code)) c

-- whether the end sent such an Invoke in this entry
abbrev pub sends_lacking : Table → Side → ℤ → Result Item Reason → Bool
sends_lacking table side id (Ok (Sent sender m)) =
    is_side side sender && list_any (invokes_lacking table id) (components_in m)
sends_lacking table side id item = false

-- whether the peer sent such an Invoke in these entries
abbrev pub peer_sent_lacking : Table → Side → Option ℤ → List (Result Item Reason) → Bool
peer_sent_lacking table side None items = false
peer_sent_lacking table side (Some id) items = list_any (sends_lacking table (other side) id) items

-- whether the blame depends on an operation that is not in the table: the component at fault invokes such an operation,
-- or answers an earlier Invoke of one
abbrev pub depends_by : Table → Side → List (Result Item Reason) → Kind → Option Component → Bool
depends_by table side items kind None = false
depends_by table side items kind (Some c) =
    is_unknown_operation table c || peer_sent_lacking table side (peer_invoke_id kind c) items

abbrev pub depends_on_lack : Table → Side → List Entry → Refutation → Bool
depends_on_lack table side entries r =
    depends_by table side (read_before entries r.entry) r.kind (faulty_component table side entries r)

-- Whether the peer has sent a message to this ID since the end's last Begin from the ID, or at all if there was no such
-- Begin. The first function goes over one entry, the second over all. `so` is the answer before them.
abbrev pub is_addressed_with : Side → List ℕ → Bool → Result Item Reason → Bool
is_addressed_with side id so (Ok (Sent sender m)) =
    cond (is_side side sender) (so && not (is_a forms.Begin m && is_id id (otid_in m))) (so || is_id id (dtid_in m))
is_addressed_with side id so item = so

abbrev pub is_addressed : Side → List ℕ → Bool → List (Result Item Reason) → Bool
is_addressed side id so [] = so
is_addressed side id so (item ∷ items) = is_addressed side id (is_addressed_with side id so item) items

-- whether there is an ID to which the peer sent no message
abbrev pub is_silent : Side → Option (List ℕ) → List (Result Item Reason) → Bool
is_silent side None items = false
is_silent side (Some id) items = not (is_addressed side id false items)

-- whether a Begin reuses an ID (F3) whose transaction may be over without a message: the peer sent nothing to it, or
-- the table has prearranged end
abbrev pub may_be_over_by : Table → Side → List (Result Item Reason) → Kind → Option Message → Bool
may_be_over_by table side items kinds.ReusedId (Some m) =
    is_a forms.Begin m && (table.prearranged || is_silent side (otid_in m) items)
may_be_over_by table side items kind m = false

-- whether the entry at fault is such a Begin
abbrev pub may_be_over : Table → Side → List Entry → Refutation → Bool
may_be_over table side entries r =
    may_be_over_by table side (read_before entries r.entry) r.kind (message_at entries r.entry)

-- whether the kind is that of a quiet mark (F15)
abbrev pub is_of_mark : Kind → Bool
is_of_mark kinds.OpenAtMark = true
is_of_mark kind = false

-- whether a blame of this kind depends on the row of an operation in the table: on its class, on whether it expires, or
-- on its linked operations
abbrev pub depends_on_table : Kind → Bool
depends_on_table kinds.WrongOperation = true
depends_on_table kinds.InvokeIdBusy = true
depends_on_table kinds.BadLink = true
depends_on_table kinds.AnsweredAlready = true
depends_on_table kinds.RejectNotAllowed = true
depends_on_table kind = false

-- whether an entry is the first of these or a later one
abbrev pub is_from : Option ℕ → ℕ → Bool
is_from None number = false
is_from (Some first) number = nat_le first number

-- whether the peer of this end began the dialogue, given the end whose Begin began it
abbrev pub is_begun_by_peer : Option Side → Side → Bool
is_begun_by_peer None side = false
is_begun_by_peer (Some began) side = is_side (other side) began

-- The first doubt that makes a blame inconclusive, if there is one. The first two come before all others: while one of
-- them is open, a bench cannot make the blame certain by removing another.
abbrev pub doubt_of : Table → Circumstances → Side → List Entry → Refutation → Option Doubt
doubt_of table c side entries r =
    -- The dialogue may have begun before its trace, or before a quiet mark that came too early.
    cond c.under_way (Some doubts.UnderWay)
    (cond c.early_mark (Some doubts.EarlyMark)
    -- The blame is about a quiet mark, an operation that is not in the table, or an ID whose transaction may be over.
    (cond (is_of_mark r.kind) (Some doubts.AtMark)
    (cond (depends_on_lack table side entries r) (Some doubts.LackingOperation)
    (cond (may_be_over table side entries r) (Some doubts.MaybeOver)
    -- The blame depends on the table, which may not be the dialogue's.
    (cond (c.unsure && depends_on_table r.kind) (Some doubts.UnsureTable)
    -- An earlier dialogue had an ID of this one; or the peer began this dialogue, and may have used its ID just before
    -- the trace.
    (cond c.again (Some doubts.CameAgain)
    (cond (is_begun_by_peer c.began side) (Some doubts.UsedBefore)
    -- An unreadable entry comes before the entry at fault, and may belong to the dialogue.
    (cond (is_from c.unread_from r.entry) (Some doubts.Unread) None))))))))

-- ---- the result for an end

-- whether the end sent this entry
abbrev pub is_of : Side → Entry → Bool
is_of side entry = is_entry_of side entry.side

-- the result for an end that may have sent its part: it passes, or is inconclusive for the first of these circumstances
abbrev pub passes : Circumstances → ℕ → EndResult
passes c unheard =
    cond c.under_way end_results.UnderWay
    (cond c.early_mark end_results.EarlyMark
    (cond c.cut end_results.TooLong
    (cond c.unsure end_results.UnsureTable
    (cond c.open end_results.Open
    (cond (c.heard && nat_lt 0 unheard) (end_results.Unheard unheard) (end_results.Pass unheard))))))

-- the result for an end that is blamed: it fails, or is doubtful
abbrev pub fails : Refutation → Option Doubt → EndResult
fails r None = end_results.Fail r
fails r (Some doubt) = end_results.Doubtful r doubt

-- The result for an end on which nothing is blamed, by the finding on the entries before the first that is no message.
-- The end passes only if it sent no entry from that one on.
abbrev pub result_before : Circumstances → Side → List Entry → ℕ → Option Finding → EndResult
result_before c side entries number (Some (findings.Lawful count unheard)) =
    cond (list_any (is_of side) (drop number entries)) (end_results.AfterBadEntry number) (passes c unheard)
result_before c side entries number found = end_results.Undecided

-- the result by the finding on all entries, and by that on the entries before the first that is no message
abbrev pub result_by : Table → Circumstances → Side → List Entry → Finding → Option Finding → EndResult
result_by table c side entries (findings.Blamed r) earlier = fails r (doubt_of table c side entries r)
result_by table c side entries (findings.Lawful count unheard) earlier = passes c unheard
result_by table c side entries (findings.NotBlamed count) earlier = result_before c side entries count earlier

-- the number of the first entry that is no message, if there is one and the end is not blamed
abbrev pub no_message_at : Finding → ℕ → Option ℕ
no_message_at (findings.NotBlamed count) all = cond (count == all) None (Some count)
no_message_at found all = None

-- the finding on the entries before this number, if there is one
abbrev pub found_before : Table → List Entry → Side → Option ℕ → Option Finding
found_before table entries side None = None
found_before table entries side (Some number) = Some (finding table (take number entries) side)

-- the result for an end of a dialogue, by the finding on its entries
abbrev pub result_of : Table → Circumstances → List Entry → Side → EndResult
result_of table c entries side =
    result_by table c side entries (finding table entries side)
    (found_before table entries side (no_message_at (finding table entries side) (length entries)))

-- ---- verdicts

-- the verdict on an end: pass, fail, or inconclusive
abbrev pub verdict_of : EndResult → Verdict
verdict_of (end_results.Pass unheard) = verdicts.Pass
verdict_of (end_results.PassBy taken unheard) = verdicts.Pass
verdict_of (end_results.Fail r) = verdicts.Fail
verdict_of (end_results.FailBy fault) = verdicts.Fail
verdict_of said = verdicts.Inconclusive

-- the rank of a verdict, from best to worst
abbrev pub rank : Verdict → ℕ
rank verdicts.Pass = 0
rank verdicts.Inconclusive = 1
rank verdicts.Fail = 2
rank verdicts.Error = 3

-- the worse of two verdicts
abbrev pub worse : Verdict → Verdict → Verdict
worse a b = cond (nat_le (rank a) (rank b)) b a

-- the verdict on a dialogue: the worse of its two ends, or that of the judged end
abbrev pub verdict_asked : Option Side → EndResult → EndResult → Verdict
verdict_asked None a b = worse (verdict_of a) (verdict_of b)
verdict_asked (Some sides.A) a b = verdict_of a
verdict_asked (Some sides.B) a b = verdict_of b

-- The verdict on a trace, by the worst of its dialogues and the number of entries with a readable tag. It is an error
-- if the trace has a fault of form, or no such entry.
abbrev pub trace_verdict : Bool → ℕ → Verdict → Verdict
trace_verdict is_faulty readable worst = cond (is_faulty || readable == 0) verdicts.Error worst

-- the exit status of a run whose worst verdict this is
abbrev pub status_of : Verdict → ℕ
status_of verdicts.Pass = 0
status_of verdicts.Fail = 1
status_of verdicts.Inconclusive = 2
status_of verdicts.Error = 3

-- the word for a verdict
abbrev pub word_of : Verdict → List ℕ
word_of verdicts.Pass = codes "pass"
word_of verdicts.Inconclusive = codes "inconc"
word_of verdicts.Fail = codes "fail"
word_of verdicts.Error = codes "error"
