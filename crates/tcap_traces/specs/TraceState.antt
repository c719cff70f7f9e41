-- What is known of a trace after some of its pieces, and what is the report once they are all read?
use Rattle.std.specs.Prelude.{ℕ, suc, ◌+◌, Bool, true, false, List, [], ◌∷◌, ◌++◌, length, map, ◌||◌, Option, is_some}
use Rattle.std.specs.List.{count_by}
use Rattle.tcap_traces.specs.declared.pieces.FormRule.{FormRule}
use Rattle.tcap_traces.specs.Verdict.{trace_verdict}
use Rattle.tcap_traces.specs.Directive.{BrokenOff, UnderWay}
use Rattle.tcap_traces.specs.Pieces.{Entry, Mark, Piece, Stated}
use Rattle.tcap_traces.specs.Dialogue.{After, EndAfter, MarkAfter, heading_in}
use Rattle.tcap_traces.specs.Segments.{Before, Segment, before_next, courses_in, empty, nothing_before, with_one, with_under_way}
use Rattle.tcap_traces.specs.JudgedTrace.{Asked, JudgedDialogue, JudgedTrace, all_in, end_of, reported_in, verdict_on, worst}

-- The state of a trace. `before` is known of earlier segments, which have `count` entries and quiet marks; `segment` is
-- the segment so far. `reported`, `messages` and `readable` are the reported dialogues of earlier segments, the number
-- of their entries, and the number of those whose kind can be read.
pub record State : Type 0 where
  pub before : Before
  pub count : ℕ
  pub segment : Segment
  pub reported : List JudgedDialogue
  pub messages : ℕ
  pub readable : ℕ
  pub broken_off : Bool

-- before the first piece
abbrev pub start : State
start = record {
  before = nothing_before;
  count = 0;
  segment = empty EndAfter;
  reported = [];
  messages = 0;
  readable = 0;
  broken_off = false;
}

-- the number of entries of a segment whose kind can be read
abbrev pub readable_of : Segment → ℕ
readable_of s = count_by (λ entry. is_some (heading_in entry).kind) s.entries

-- the state after the segment, given what comes after it
abbrev pub ended_with : Asked → State → Segment → State
ended_with asked s segment = record {
  before = before_next s.before segment (all_in (courses_in asked.reuse s.before segment));
  count = s.count + suc (length segment.entries);
  segment = empty EndAfter;
  reported = s.reported ++ reported_in asked s.before s.count segment;
  messages = s.messages + length segment.entries;
  readable = s.readable + readable_of segment;
  broken_off = s.broken_off;
}

abbrev pub ended : Asked → After → State → State
ended asked end s = ended_with asked s (record s.segment { end = end })

-- the state after one more piece
abbrev pub after_piece : Asked → State → Piece → State
after_piece asked s (Entry entry) = record s { segment = with_one entry s.segment }
after_piece asked s (Mark line) = ended asked MarkAfter s
after_piece asked s (Stated line UnderWay) = record s { segment = with_under_way s.segment }
after_piece asked s (Stated line (BrokenOff missing)) = record s { broken_off = true }
after_piece asked s (Stated line statement) = s

-- the state after several
abbrev pub after_pieces : Asked → State → List Piece → State
after_pieces asked s [] = s
after_pieces asked s (piece ∷ pieces) = after_pieces asked (after_piece asked s piece) pieces

-- the report on a trace whose last segment has ended, given the fault of its form, if there is one
abbrev pub answer_of : Asked → Option FormRule → State → JudgedTrace
answer_of asked fault s = record {
  verdict = trace_verdict (is_some fault || s.broken_off) s.readable (worst (map (verdict_on asked) s.reported));
  dialogues = s.reported;
  messages = s.messages;
}

abbrev pub answer : Asked → Option FormRule → State → JudgedTrace
answer asked fault s = answer_of asked fault (ended asked (end_of fault) s)
