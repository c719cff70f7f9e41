-- What does `test` report for a trace with given octets?
use Rattle.std.specs.Prelude.{ℕ, suc, ◌+◌, Bool, true, false, List, [], ◌∷◌, ◌++◌, filter, length, map, ◌||◌, not, Option, Some, None, is_some}
use Rattle.std.specs.List.{count_by, list_any}
use Rattle.tcap_books.specs.Book.{NamedTable}
use Rattle.tcap_dialogues.specs.declared.reuse.Reuse.{Reuse}
use Rattle.tcap_dialogues.specs.Course.{Course, Courses}
use Rattle.tcap_traces.specs.declared.judging.Ends.{Ends}
use Rattle.tcap_traces.specs.declared.verdict.Verdict.{Verdict}
use Rattle.tcap_traces.specs.declared.verdict.Verdict.TheVariants as verdicts
use Rattle.tcap_traces.specs.Verdict.{trace_verdict, worse}
use Rattle.tcap_traces.specs.Directive.{BrokenOff}
use Rattle.tcap_traces.specs.Pieces.{Piece, Pieces, Stated, pieces_of}
use Rattle.tcap_traces.specs.declared.pieces.FormRule.{FormRule}
use Rattle.tcap_traces.specs.Dialogue.{After, Dialogue, EndAfter, FaultAfter, Question, ends_on, heading_in, verdict_by}
use Rattle.tcap_traces.specs.Segments.{Before, Segment, before_next, courses_in, dialogue_of, nothing_before, segments_of}

-- The question about a trace: the question about each of its dialogues, the rule for using transaction IDs again, and
-- the operation tables.
pub record Asked : Type 0 where
  pub question : Question
  pub reuse : Reuse
  pub tables : List NamedTable

-- A judged dialogue: the number of its first entry in the trace, counted from 0, quiet marks included; what the trace
-- shows about it; and the result for each end, or None if it has no table.
pub record JudgedDialogue : Type 0 where
  pub number : ℕ
  pub dialogue : Dialogue
  pub ends : Option Ends

-- the verdict on it
abbrev pub verdict_on : Asked → JudgedDialogue → Verdict
verdict_on asked j = verdict_by asked.question.of j.ends

-- ---- the dialogues that are judged

-- the number in a segment of a dialogue's first entry
abbrev pub first_number : List ℕ → ℕ
first_number [] = 0
first_number (number ∷ numbers) = number

-- a dialogue, judged; `count` entries and quiet marks come before its segment
abbrev pub judged : Asked → ℕ → Dialogue → JudgedDialogue
judged asked count d = record {
  number = count + first_number d.numbers;
  dialogue = d;
  ends = ends_on asked.tables asked.question d;
}

-- whether a fault of the trace's form comes after a dialogue
abbrev pub is_broken : After → Bool
is_broken FaultAfter = true
is_broken after = false

abbrev pub is_fail : Verdict → Bool
is_fail verdicts.Fail = true
is_fail verdict = false

-- Whether a judged dialogue is reported and counted. One that is not over at a fault of the trace's form may lack
-- entries, so it counts only if it fails by those that it has.
abbrev pub is_reported : Asked → JudgedDialogue → Bool
is_reported asked j = not (is_broken j.dialogue.after) || is_fail (verdict_on asked j)

-- all dialogues of a segment
abbrev pub all_in : Courses → List Course
all_in s = s.done ++ s.live

-- the judged dialogues of a segment that are reported
abbrev pub reported_in : Asked → Before → ℕ → Segment → List JudgedDialogue
reported_in asked before count s =
    filter (is_reported asked)
    (map (λ d. judged asked count (dialogue_of before s d)) (all_in (courses_in asked.reuse before s)))

-- the judged dialogues of these segments that are reported
abbrev pub reported_from : Asked → Before → ℕ → List Segment → List JudgedDialogue
reported_from asked before count [] = []
reported_from asked before count (s ∷ segments) =
    reported_in asked before count s
    ++ reported_from asked (before_next before s (all_in (courses_in asked.reuse before s)))
    (count + suc (length s.entries)) segments

-- ---- the trace

-- what comes after the last segment
abbrev pub end_of : Option FormRule → After
end_of None = EndAfter
end_of (Some rule) = FaultAfter

-- whether a piece says that the trace was broken off
abbrev pub breaks_off : Piece → Bool
breaks_off (Stated line (BrokenOff missing)) = true
breaks_off piece = false

-- the number of entries, and of those whose kind can be read
abbrev pub messages_in : List Segment → ℕ
messages_in [] = 0
messages_in (s ∷ segments) = length s.entries + messages_in segments

abbrev pub readable_in : List Segment → ℕ
readable_in [] = 0
readable_in (s ∷ segments) = count_by (λ entry. is_some (heading_in entry).kind) s.entries + readable_in segments

-- the worst of these verdicts
abbrev pub worst : List Verdict → Verdict
worst [] = verdicts.Pass
worst (verdict ∷ more) = worse verdict (worst more)

-- The report of `test` on a trace: the verdict, the dialogues that are reported, and the number of entries.
pub record JudgedTrace : Type 0 where
  pub verdict : Verdict
  pub dialogues : List JudgedDialogue
  pub messages : ℕ

-- The verdict is the worst of the dialogues. It is an error if the form of the trace has a fault, if the trace says
-- that it was broken off, or if no entry has a kind that can be read.
abbrev pub judged_by : Asked → Pieces → List Segment → List JudgedDialogue → JudgedTrace
judged_by asked p segments dialogues = record {
  verdict = trace_verdict (is_some p.fault || list_any breaks_off p.pieces) (readable_in segments)
      (worst (map (verdict_on asked) dialogues));
  dialogues = dialogues;
  messages = messages_in segments;
}

abbrev pub judged_pieces : Asked → Pieces → JudgedTrace
judged_pieces asked p =
    judged_by asked p (segments_of (end_of p.fault) p.pieces)
    (reported_from asked nothing_before 0 (segments_of (end_of p.fault) p.pieces))

-- the report of `test` on a trace with these octets
unfoldable pub judged_trace : Asked → List ℕ → JudgedTrace
judged_trace asked octets = judged_pieces asked (pieces_of octets)
