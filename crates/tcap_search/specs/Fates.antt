-- What the search keeps to find fates: for each end and transaction, the gap after the last entry that holds back
-- messages to the end; the gap after the last reply so far; and the least time of later messages.
use Rattle.std.specs.Prelude.{ℕ, ◌+◌, max, min, Bool, false, List, [], ◌∷◌, slice_get, Option, Some, None, is_some, ◌==◌, ◌&&◌, cond}
use Rattle.tcap_msg.specs.declared.message.Message.{Message}
use Rattle.tcap_msg.specs.declared.message.Message.TheVariants.{End as EndMessage, Abort}
use Rattle.tcap_record.specs.declared.entry.End.{End as Side}
use Rattle.tcap_record.specs.declared.entry.Entry.{Entry}
use Rattle.tcap_record.specs.Ends.{other, is_entry_of}
use Rattle.tcap_certificate.specs.declared.certificate.Fate.{Fate}
use Rattle.tcap_certificate.specs.declared.certificate.Fate.TheVariants.{Gap, Lost, By}
use Rattle.tcap_certificate.specs.Replay.{is_later, time_of}
use Rattle.tcap_search.specs.declared.end_values.PerEnd.{PerEnd}
use Rattle.tcap_search.specs.declared.tie.Tie.{Tie}
use Rattle.tcap_search.specs.SegmentEntries.{Line, last, message_of}
use Rattle.tcap_search.specs.ProposedCertificate.{Fated, gap_after_reply, holds_back, is_gap, reply_of}
use Rattle.tcap_search.specs.EndValues.{at_end}

-- ---- the last entry of each end in each transaction

-- whether an entry is from this end and in this transaction
abbrev pub is_of : Side → ℕ → Entry → Option ℕ → Bool
is_of side transaction e None = false
is_of side transaction e (Some t) = is_entry_of side e.side && (transaction == t)

-- whether a line is from this end and in this transaction
abbrev pub is_line_of : Side → ℕ → Line → Bool
is_line_of side transaction x = is_of side transaction x.entry x.transaction

-- the gap after a line, or 0 if there is none
abbrev pub gap_after_line : Option Line → ℕ
gap_after_line None = 0
gap_after_line (Some x) = x.number + 1

-- whether a line is from this end and in this transaction, and holds back an End or an Abort to its end
abbrev pub holds_back_in : Option Side → Side → ℕ → Line → Bool
holds_back_in judged side transaction x = holds_back judged (message_of x.entry) && is_line_of side transaction x

-- the gap after the last of these lines that holds back, or 0 if there is none
abbrev pub gap_after_last : Option Side → Side → ℕ → List Line → ℕ
gap_after_last judged side transaction lines = gap_after_line (last (holds_back_in judged side transaction) lines)

-- the gap kept for an end, or 0 if there is none
abbrev pub gap_of_end : Side → Option (PerEnd ℕ) → ℕ
gap_of_end side None = 0
gap_of_end side (Some gaps) = at_end side gaps

-- the gap kept for an end in a transaction
abbrev pub gap_kept : Side → ℕ → List (PerEnd ℕ) → ℕ
gap_kept side transaction gaps = gap_of_end side (slice_get gaps transaction)

-- the gap kept for the receiver of an entry, or 0 if there is none
abbrev pub receiver_gap : List (PerEnd ℕ) → Option Side → Option ℕ → ℕ
receiver_gap gaps (Some side) (Some transaction) = gap_kept (other side) transaction gaps
receiver_gap gaps _ _ = 0

-- ---- the last reply

-- the gap to which later fates of an end are raised, or 0 if it has no end
abbrev pub gap_raised : PerEnd ℕ → Option Side → ℕ
gap_raised raised None = 0
gap_raised raised (Some side) = at_end side raised

-- the last gap after a reply to one of these lines of this end
abbrev pub highest : Side → List Line → List Tie → ℕ
highest side [] ties = 0
highest side (x ∷ lines) ties =
    max (cond (is_entry_of side x.entry.side) (gap_after_reply (reply_of ties x.number)) 0) (highest side lines ties)

-- ---- first fates

-- the first gap in which a message can be delivered: an End or an Abort not before `behind`, any other message at once
abbrev pub earliest : ℕ → Message → ℕ → ℕ
earliest number (EndMessage dtid dialogue components) behind = max (number + 1) behind
earliest number (Abort dtid reason) behind = max (number + 1) behind
earliest number _ behind = number + 1

-- the first fate of an entry without a reply; an entry that is no message has the gap after it
abbrev pub untied_fate : ℕ → Option Message → ℕ → ℕ → Fate
untied_fate number None behind raised = Gap (number + 1)
untied_fate number (Some message) behind raised = Gap (max (earliest number message behind) raised)

-- The first fate of an entry: its reply, or a gap. The gap depends on the entry's number, on the gap `behind` the last
-- entry of its receiver, and on the gap to which it is `raised`.
abbrev pub fate_from : ℕ → Entry → Option ℕ → ℕ → ℕ → Fate
fate_from number e (Some reply) behind raised = By reply
fate_from number e None behind raised = untied_fate number (message_of e) behind raised

-- ---- losses

-- the lesser of two times, if there are any
abbrev pub sooner : Option ℕ → Option ℕ → Option ℕ
sooner None time = time
sooner (Some time) None = Some time
sooner (Some time) (Some other) = Some (min time other)

-- the least time of these entries of this end
abbrev pub least_time : Side → List Fated → Option ℕ
least_time side [] = None
least_time side (x ∷ later) =
    cond (is_entry_of side x.line.entry.side) (sooner (time_of x.fate) (least_time side later)) (least_time side later)

-- the least time kept for an end, if there is one
abbrev pub time_kept : PerEnd (Option ℕ) → Option Side → Option ℕ
time_kept least None = None
time_kept least (Some side) = at_end side least

-- A message is lost if it would be delivered after a later message of its end.
abbrev pub fate_after_least : Entry → Fate → Option ℕ → Fate
fate_after_least e fate least = cond (is_gap fate && is_some (message_of e) && is_later least (time_of fate)) Lost fate
