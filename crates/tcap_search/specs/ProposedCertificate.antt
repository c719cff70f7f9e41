-- The certificate that the search proposes for a record. It has five rules, which apply to each segment between quiet
-- marks alone, and are given by "last", "earlier" and "later" in the list of its entries. There is no backtracking, and
-- the result is not trusted.
--
-- A certificate is proposed for both ends, or for one end alone, the judged end, whose peer may break the rules. For
-- one end, rule 2 is milder, and there is one more rule after it.
use Rattle.std.specs.Prelude.{ℕ, ℤ, ◌+◌, max, Bool, true, false, List, [], ◌∷◌, ◌++◌, map, length, reverse, slice_get, Option, Some, None, is_some, is_none, ◌==◌, ◌&&◌, not, nat_lt, nat_le, cond, option_map}
use Rattle.std.specs.List.{list_any}
use Rattle.std.specs.Ordering.{int_cmp}
use Rattle.std.specs.BTreeMap.{is_at}
use Rattle.tcap_parts.specs.declared.component.Component.{Component}
use Rattle.tcap_parts.specs.declared.component.Component.TheVariants.{Invoke, ReturnResult, ReturnError, Reject}
use Rattle.tcap_parts.specs.declared.problem.Problem.TheVariants as problems
use Rattle.tcap_msg.specs.declared.message.AbortReason.TheVariants.{Cause}
use Rattle.tcap_msg.specs.declared.message.Message.{Message}
use Rattle.tcap_msg.specs.declared.message.Message.TheVariants.{Begin, Continue, End as EndMessage, Abort}
use Rattle.tcap_msg.specs.Parts.{cause_in, components_in, dtid_in}
use Rattle.tcap_record.specs.declared.entry.Body.{Body}
use Rattle.tcap_record.specs.declared.entry.Body.TheVariants.{Quiet}
use Rattle.tcap_record.specs.declared.entry.End.{End as Side}
use Rattle.tcap_record.specs.declared.entry.Entry.{Entry}
use Rattle.tcap_end.specs.End.{is_id}
use Rattle.tcap_record.specs.Ends.{other, is_entry_of}
use Rattle.tcap_model.specs.World.{is_side}
use Rattle.tcap_model.specs.Run.{option_then, only_if}
use Rattle.tcap_certificate.specs.Certificate.{Certificate}
use Rattle.tcap_certificate.specs.declared.certificate.Closing.{Closing}
use Rattle.tcap_certificate.specs.declared.certificate.Expiry.{Expiry}
use Rattle.tcap_certificate.specs.declared.certificate.Fate.{Fate}
use Rattle.tcap_certificate.specs.declared.certificate.Fate.TheVariants.{Gap, Lost, By}
use Rattle.tcap_certificate.specs.Replay.{is_later, time_of}
use Rattle.tcap_search.specs.declared.tie.Tie.{Tie}
use Rattle.tcap_search.specs.SegmentEntries.{Line, are_of_one_end, is_peer_message_from, is_from, is_of_peer, last, lines_of, message_of, share_transaction}

-- ---- 1. Ties: the messages that providers' Aborts answer (Q.774 3.3)

-- whether a provider answers the message with an Abort of this cause: cause 1 for a Continue, cause 4 for a Begin
abbrev pub is_answered_by : ℕ → Option Message → Bool
is_answered_by cause (Some (Continue otid dtid dialogue components)) = cause == 1
is_answered_by cause (Some (Begin otid dialogue components)) = cause == 4
is_answered_by cause _ = false

-- whether a line is tied to an Abort
abbrev pub is_tied : List Tie → Line → Bool
is_tied ties x = list_any (λ t. t.entry == x.number) ties

-- the last earlier untied entry of the peer from this ID that an Abort of this cause answers
abbrev pub answered_line : List Line → List Tie → Entry → List ℕ → ℕ → Option Line
answered_line earlier ties abort id cause =
    last (λ x. is_peer_message_from abort id x.entry && is_answered_by cause (message_of x.entry)
    && not (is_tied ties x))
    earlier

-- the ties with that of this Abort, if it has a cause and answers an entry
abbrev pub with_tie_by : List Line → List Tie → Line → Option Message → List Tie
with_tie_by earlier ties x (Some (Abort id (Some (Cause cause)))) = by (answered_line earlier ties x.entry id cause)
  where
    by : Option Line → List Tie
    by None = ties
    by (Some answered) = record { entry = answered.number; reply = x.number } ∷ ties
with_tie_by earlier ties x _ = ties

-- the ties with that of a line, if it is an Abort that answers an entry
abbrev pub with_tie : List Line → List Tie → Line → List Tie
with_tie earlier ties x = with_tie_by earlier ties x (message_of x.entry)

-- The Aborts are taken from the last to the first: these lines are in newest-first order. So the ties are in the order
-- of the Aborts.
abbrev pub ties_from : List Line → List Tie → List Tie
ties_from [] ties = ties
ties_from (x ∷ earlier) ties = ties_from earlier (with_tie (reverse earlier) ties x)

-- the ties of a segment
abbrev pub ties_of : List Line → List Tie
ties_of lines = ties_from (reverse lines) []

-- the Abort to which an entry is tied, if there is one
abbrev pub reply_of : List Tie → ℕ → Option ℕ
reply_of ties number = option_map (λ t. t.reply) (last (λ t. t.entry == number) ties)

-- ---- 2. Gaps

-- whether the message is a provider's Abort (Q.774 3.3)
abbrev pub is_provider_abort : Option Message → Bool
is_provider_abort None = false
is_provider_abort (Some message) = is_some (cause_in message)

-- Whether an End or an Abort is delivered only after such an entry of its receiver, whose half was still there. A
-- provider's Abort does not hold it back if one end is judged alone.
abbrev pub holds_back : Option Side → Option Message → Bool
holds_back None message = true
holds_back (Some judged) message = not (is_provider_abort message)

-- the last later entry of the receiver in the transaction that holds back
abbrev pub last_of_receiver : Option Side → List Line → Line → Option Line
last_of_receiver judged lines x =
    last
    (λ y. nat_lt x.number y.number && is_of_peer x.entry y.entry && share_transaction x y
    && holds_back judged (message_of y.entry))
    lines

-- the gap after the entry y, or after x itself if there is none
abbrev pub gap_after : Line → Option Line → ℕ
gap_after x None = x.number + 1
gap_after x (Some y) = y.number + 1

-- An End or an Abort is delivered after the last later entry of its receiver in the transaction, any other message at
-- once.
abbrev pub first_gap_by : Option Side → List Line → Line → Option Message → ℕ
first_gap_by judged lines x (Some (EndMessage dtid dialogue components)) =
    gap_after x (last_of_receiver judged lines x)
first_gap_by judged lines x (Some (Abort dtid reason)) = gap_after x (last_of_receiver judged lines x)
first_gap_by judged lines x _ = x.number + 1

-- the first gap in which the message of a line can be delivered, by its form
abbrev pub first_gap : Option Side → List Line → Line → ℕ
first_gap judged lines x = first_gap_by judged lines x (message_of x.entry)

-- the gap after a reply, or 0 if there is none
abbrev pub gap_after_reply : Option ℕ → ℕ
gap_after_reply None = 0
gap_after_reply (Some reply) = reply + 1

-- For each earlier entry of the same end that is tied to an Abort, the gap is raised to that after the Abort.
abbrev pub raised : List Line → List Tie → Line → ℕ → ℕ
raised [] ties x gap = gap
raised (y ∷ lines) ties x gap =
    raised lines ties x
    (cond (nat_lt y.number x.number && are_of_one_end x.entry y.entry)
    (max gap (gap_after_reply (reply_of ties y.number))) gap)

-- A tied message is taken by its Abort. An entry that is no message has the gap after it, which no rule changes.
abbrev pub fate_by : Option Side → List Line → List Tie → Line → Option ℕ → Option Message → Fate
fate_by judged lines ties x (Some reply) message = By reply
fate_by judged lines ties x None None = Gap (x.number + 1)
fate_by judged lines ties x None (Some message) = Gap (raised lines ties x (first_gap judged lines x))

-- the first fate of a line
abbrev pub fate_of : Option Side → List Line → List Tie → Line → Fate
fate_of judged lines ties x = fate_by judged lines ties x (reply_of ties x.number) (message_of x.entry)

-- the first fates of the lines of a segment
abbrev pub first_fates : Option Side → List Line → List Tie → List Fate
first_fates judged lines ties = map (fate_of judged lines ties) lines

-- a line and its fate
pub record Fated : Type 0 where
  pub line : Line
  pub fate : Fate

-- the lines with their fates
abbrev pub fated : List Line → List Fate → List Fated
fated (line ∷ lines) (fate ∷ fates) = record { line = line; fate = fate } ∷ fated lines fates
fated _ _ = []

-- whether a fate is a delivery
abbrev pub is_gap : Fate → Bool
is_gap (Gap gap) = true
is_gap _ = false

-- ---- between 2 and 3, for one end judged alone: it did not receive what it did not answer before a mark

-- whether a message is a Continue
abbrev pub is_continue : Option Message → Bool
is_continue (Some (Continue otid dtid dialogue components)) = true
is_continue _ = false

-- whether the entry is a message to this destination ID
abbrev pub is_to : List ℕ → Entry → Bool
is_to id e = by (message_of e)
  where
    by : Option Message → Bool
    by None = false
    by (Some message) = is_id id (dtid_in message)

-- whether the entry is a message of this end to this ID
abbrev pub is_sent_to_id : Side → List ℕ → Entry → Bool
is_sent_to_id side id e = is_entry_of side e.side && is_to id e

-- whether the entry is a Continue of this end from this ID
abbrev pub goes_on_from : Side → List ℕ → Entry → Bool
goes_on_from side id e = is_entry_of side e.side && is_continue (message_of e) && is_from id e

-- Whether this end sent nothing to the message's originating ID and, if the message is a Continue, no Continue from its
-- destination ID. Then this end did not close a half of this dialogue, so a half that received the message might still
-- be open at the mark.
abbrev pub is_unanswered : Side → List Line → Option Message → Bool
is_unanswered side lines (Some (Begin otid dialogue components)) =
    not (list_any (λ y. is_sent_to_id side otid y.entry) lines)
is_unanswered side lines (Some (Continue otid dtid dialogue components)) =
    not (list_any (λ y. is_sent_to_id side otid y.entry) lines)
    && not (list_any (λ y. goes_on_from side dtid y.entry) lines)
is_unanswered side lines _ = false

-- Such a message of the peer is lost, unless an Abort takes it.
abbrev pub fate_unanswered : Side → List Line → Fated → Fate
fate_unanswered side lines x =
    cond (is_gap x.fate && is_entry_of (other side) x.line.entry.side
    && is_unanswered side lines (message_of x.line.entry))
    Lost x.fate

-- This rule applies if one end is judged alone and a mark follows the segment.
abbrev pub without_unanswered : Option Side → Bool → List Line → List Fated → List Fated
without_unanswered (Some side) true lines all =
    map (λ (x : Fated). record x { fate = fate_unanswered side lines x }) all
without_unanswered judged marked lines all = all

-- ---- 3. Losses

-- whether x is delivered after y, which its end sent later
abbrev pub is_overtaken : Fated → Fated → Bool
is_overtaken x y = are_of_one_end x.line.entry y.line.entry && is_later (time_of y.fate) (time_of x.fate)

-- A delivered message is lost if it would come after a later entry of the same end that is not lost. Such a later entry
-- need not be a message.
abbrev pub fate_before : List Fated → Fated → Fate
fate_before later x =
    cond (is_gap x.fate && is_some (message_of x.line.entry) && list_any (is_overtaken x) later) Lost x.fate

-- the losses, from the last entry to the first
abbrev pub with_losses : List Fated → List Fated
with_losses [] = []
with_losses (x ∷ more) = by (with_losses more)
  where
    by : List Fated → List Fated
    by later = record x { fate = fate_before later x } ∷ later

-- ---- 4. Expiries: an invocation whose answer is rejected as unrecognized had ended before (Q.774 3.2)

-- whether the component is a Return Result (if true), or a Return Error, with this invoke ID
abbrev pub is_answer_of : Bool → ℤ → Component → Bool
is_answer_of true id (ReturnResult last other body) = is_at (int_cmp id) other
is_answer_of false id (ReturnError other code parameter) = is_at (int_cmp id) other
is_answer_of is_result id _ = false

-- whether a component is an Invoke with this invoke ID
abbrev pub is_invoke_of : ℤ → Component → Bool
is_invoke_of id (Invoke other linked code parameter) = is_at (int_cmp id) other
is_invoke_of id _ = false

-- the invoke ID that a Reject with problem unrecognizedInvokeID (0) names, and whether it rejects a Return Result
abbrev pub unrecognized : Component → Option (Bool × ℤ)
unrecognized (Reject (Some id) (problems.ReturnResult n)) = only_if (n == 0) (Some (true, id))
unrecognized (Reject (Some id) (problems.ReturnError n)) = only_if (n == 0) (Some (false, id))
unrecognized _ = None

-- the components of a line's message
abbrev pub components_at : Line → List Component
components_at x = by (message_of x.entry)
  where
    by : Option Message → List Component
    by None = []
    by (Some message) = components_in message

-- the gap of a fate, if it is a delivery
abbrev pub gap_in : Fate → Option ℕ
gap_in (Gap gap) = Some gap
gap_in _ = None

-- whether the message is delivered in this gap or before
abbrev pub is_delivered_by : ℕ → Fate → Bool
is_delivered_by gap (Gap g) = nat_le g gap
is_delivered_by gap _ = false

-- the last earlier entry of the peer in the transaction that has such an answer and is delivered before x
abbrev pub rejected_line : List Fated → Line → Bool × ℤ → Option Fated
rejected_line all x (is_result, id) =
    last
    (λ y. is_of_peer x.entry y.line.entry && share_transaction x y.line && is_delivered_by x.number y.fate
    && list_any (is_answer_of is_result id) (components_at y.line))
    all

-- whether a message is a Begin or a Continue, whose Invokes an expiry may name
abbrev pub may_invoke : Option Message → Bool
may_invoke (Some (Begin otid dialogue components)) = true
may_invoke (Some (Continue otid dtid dialogue components)) = true
may_invoke _ = false

-- the greatest number in a certificate; no message that is read has as many components
abbrev pub number_limit : ℕ
number_limit = 100000

-- the place of the last Invoke of an ID among components, the first of which is at `place`
abbrev pub last_invoke : ℤ → ℕ → List Component → Option ℕ
last_invoke id place [] = None
last_invoke id place (c ∷ more) = by (last_invoke id (place + 1) more)
  where
    by : Option ℕ → Option ℕ
    by (Some later) = Some later
    by None = only_if (is_invoke_of id c && nat_le place number_limit) (Some place)

-- the invocation of an ID by a line: the line's number, and the place of its last Invoke of the ID
abbrev pub invocation_at : ℤ → Line → Option (ℕ × ℕ)
invocation_at id x = cond (may_invoke (message_of x.entry))
    (option_map (λ place. (x.number, place)) (last_invoke id 0 (components_at x))) None

-- the last Invoke of the ID in a Begin or a Continue of the same end in the transaction, before this number
abbrev pub last_invocation : List Line → Line → ℤ → ℕ → Option (ℕ × ℕ)
last_invocation lines x id number =
    option_then
    (last
    (λ y. nat_lt y.number number && are_of_one_end x.entry y.entry && share_transaction x y
    && is_some (invocation_at id y))
    lines)
    (invocation_at id)

-- whether an expiry is that of this invocation
abbrev pub is_expiry_of : ℕ × ℕ → Expiry → Bool
is_expiry_of (entry, component) x = (x.entry == entry) && (x.component == component)

-- the list with this expiry, unless its invocation is listed
abbrev pub with_expiry : List Expiry → Option Side → ℕ → Option (ℕ × ℕ) → List Expiry
with_expiry listed (Some side) gap (Some (entry, component)) =
    cond (list_any (is_expiry_of (entry, component)) listed) listed
    (listed ++ record { gap = gap; component = component; side = side; entry = entry } ∷ [])
with_expiry listed _ gap _ = listed

-- the list with the expiry of the last invocation of the ID in this gap
abbrev pub expiry_in : List Line → Line → List Expiry → ℤ → Option ℕ → List Expiry
expiry_in lines x listed id None = listed
expiry_in lines x listed id (Some gap) = with_expiry listed x.entry.side gap (last_invocation lines x id gap)

-- The list after one component of a line. If it rejects an answer as unrecognized, the invocation ended in the gap in
-- which the answer was delivered.
abbrev pub expiry_by : List Fated → List Line → Line → List Expiry → Option (Bool × ℤ) → List Expiry
expiry_by all lines x listed None = listed
expiry_by all lines x listed (Some (is_result, id)) =
    expiry_in lines x listed id (option_then (rejected_line all x (is_result, id)) (λ y. gap_in y.fate))

-- the list after these components of a line, in order
abbrev pub expiries_by : List Fated → List Line → Line → List Expiry → List Component → List Expiry
expiries_by all lines x listed [] = listed
expiries_by all lines x listed (c ∷ more) =
    expiries_by all lines x (expiry_by all lines x listed (unrecognized c)) more

-- the list after the components of these lines, in order
abbrev pub expiries_from : List Fated → List Line → List Line → List Expiry → List Expiry
expiries_from all lines [] listed = listed
expiries_from all lines (x ∷ more) listed =
    expiries_from all lines more (expiries_by all lines x listed (components_at x))

-- the expiries of a segment
abbrev pub expiries_of : List Fated → List Line → List Expiry
expiries_of all lines = expiries_from all lines lines []

-- ---- 5. Closings: a Continue that is answered with cause 1 came to a half that had closed (Q.774 3.3)

-- whether the message ends a dialogue: an End, or an Abort without cause
abbrev pub ends : Option Message → Bool
ends (Some (EndMessage dtid dialogue components)) = true
ends (Some (Abort dtid reason)) = is_none (cause_in (Abort dtid reason))
ends _ = false

-- whether the message is an End or any Abort
abbrev pub is_end_or_abort : Option Message → Bool
is_end_or_abort (Some (EndMessage dtid dialogue components)) = true
is_end_or_abort (Some (Abort dtid reason)) = true
is_end_or_abort _ = false

-- whether the receiver of the Continue ended the transaction before its provider's Abort
abbrev pub was_ended : List Line → Line → ℕ → Bool
was_ended lines x reply =
    list_any
    (λ y. nat_lt y.number reply && is_of_peer x.entry y.entry && share_transaction x y && ends (message_of y.entry))
    lines

-- whether an End or an Abort from the sender of the Continue was delivered before
abbrev pub was_end_delivered : List Fated → Line → ℕ → Bool
was_end_delivered all x reply =
    list_any
    (λ y. are_of_one_end x.entry y.line.entry && share_transaction x y.line && is_end_or_abort (message_of y.line.entry)
    && is_delivered_by reply y.fate)
    all

-- whether a closing is that of this end in this transaction
abbrev pub is_closing_of : Side → ℕ → Closing → Bool
is_closing_of side transaction x = is_side side x.side && (x.entry == transaction)

-- the list with this closing, unless it is listed
abbrev pub with_closing : List Closing → Option Side → ℕ → Option ℕ → List Closing
with_closing listed (Some side) gap (Some transaction) =
    cond (list_any (is_closing_of side transaction) listed) listed
    (listed ++ record { gap = gap; side = side; entry = transaction } ∷ [])
with_closing listed _ gap _ = listed

-- The list after the tie of a Continue. If nothing in the segment had closed the half of its receiver, the half closed
-- in the gap before the Abort.
abbrev pub closing_by : List Fated → List Line → List Closing → ℕ → Option Line → List Closing
closing_by all lines listed reply None = listed
closing_by all lines listed reply (Some x) =
    cond (is_continue (message_of x.entry) && not (was_ended lines x reply) && not (was_end_delivered all x reply))
    (with_closing listed (option_map other x.entry.side) reply x.transaction)
    listed

-- the list after these ties, in order
abbrev pub closings_from : List Fated → List Line → List Tie → List Closing → List Closing
closings_from all lines [] listed = listed
closings_from all lines (t ∷ ties) listed =
    closings_from all lines ties (closing_by all lines listed t.reply (slice_get lines t.entry))

-- the closings of a segment
abbrev pub closings_of : List Fated → List Line → List Tie → List Closing
closings_of all lines ties = closings_from all lines ties []

-- ---- the certificate

-- the fates of a segment after all rules, for the judged end or both, and with a mark after the segment or not
abbrev pub all_fated : Option Side → Bool → List Line → List Fated
all_fated judged marked lines =
    with_losses (without_unanswered judged marked lines (fated lines (first_fates judged lines (ties_of lines))))

-- the certificate of a segment alone
abbrev pub of_lines : Option Side → Bool → List Line → Certificate
of_lines judged marked lines = record {
  fates = map (λ x. x.fate) (all_fated judged marked lines);
  expire = expiries_of (all_fated judged marked lines) lines;
  close = closings_of (all_fated judged marked lines) lines (ties_of lines);
}

-- the certificate of the entries of a segment alone
abbrev pub of_segment : Option Side → Bool → List Entry → Certificate
of_segment judged marked entries = of_lines judged marked (lines_of entries)

-- the same parts if `first` entries come before the segment
abbrev pub fate_after : ℕ → Fate → Fate
fate_after first (Gap gap) = Gap (first + gap)
fate_after first (By reply) = By (first + reply)
fate_after first Lost = Lost

-- an expiry, if `first` entries come before the segment
abbrev pub expiry_after : ℕ → Expiry → Expiry
expiry_after first x = record x { gap = first + x.gap; entry = first + x.entry }

-- a closing, if `first` entries come before the segment
abbrev pub closing_after : ℕ → Closing → Closing
closing_after first x = record x { gap = first + x.gap; entry = first + x.entry }

-- a certificate, if `first` entries come before the segment
abbrev pub behind : ℕ → Certificate → Certificate
behind first c = record {
  fates = map (fate_after first) c.fates;
  expire = map (expiry_after first) c.expire;
  close = map (closing_after first) c.close;
}

-- one certificate, followed by another
abbrev pub then_certificate : Certificate → Certificate → Certificate
then_certificate c d = record { fates = c.fates ++ d.fates; expire = c.expire ++ d.expire; close = c.close ++ d.close }

-- the fate of a quiet mark is the next gap
abbrev pub of_mark : ℕ → Certificate
of_mark number = record { fates = Gap (number + 1) ∷ []; expire = []; close = [] }

-- whether an entry is a quiet mark
abbrev pub is_mark : Body → Bool
is_mark Quiet = true
is_mark _ = false

-- the segments with this entry at the front of the first
abbrev pub with_entry : Entry → List (List Entry) → List (List Entry)
with_entry e [] = (e ∷ []) ∷ []
with_entry e (segment ∷ more) = (e ∷ segment) ∷ more

-- the segments before, between and after the quiet marks
abbrev pub segments : List Entry → List (List Entry)
segments [] = [] ∷ []
segments (e ∷ entries) = cond (is_mark e.body) ([] ∷ segments entries) (with_entry e (segments entries))

-- The certificate of these segments, after `first` entries. A quiet mark follows each segment but the last.
abbrev pub of_segments : Option Side → ℕ → List (List Entry) → Certificate
of_segments judged first [] = record { fates = []; expire = []; close = [] }
of_segments judged first (segment ∷ []) = behind first (of_segment judged false segment)
of_segments judged first (segment ∷ next ∷ more) =
    then_certificate (behind first (of_segment judged true segment))
    (then_certificate (of_mark (first + length segment))
    (of_segments judged (first + length segment + 1) (next ∷ more)))

-- the certificate proposed for both ends, or for one alone
abbrev pub proposed_by : Option Side → List Entry → Certificate
proposed_by judged entries = of_segments judged 0 (segments entries)

-- the certificate proposed for both ends
abbrev pub proposed : List Entry → Certificate
proposed entries = proposed_by None entries

-- the certificate proposed for this end alone
abbrev pub proposed_for : Side → List Entry → Certificate
proposed_for side entries = proposed_by (Some side) entries
