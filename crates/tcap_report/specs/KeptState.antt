-- What does the program keep of a trace after some of its pieces?
use Rattle.std.specs.Prelude.{◌≡◌, ◌⊎◌, ℕ, Bool, true, false, List, ◌++◌, filter, length, map, Contains, is_some, slice_get}
use Rattle.std.specs.BTreeMap as tree
use Rattle.std.specs.List.{list_any}
use Rattle.std.specs.Ordering.{nat_cmp}
use Rattle.tcap_dialogues.specs.Course.{Course, Courses, Heading, courses_so_far, has_entry}
use Rattle.tcap_dialogues.specs.DialoguesOfList.{IdOf}
use Rattle.tcap_dialogues.specs.CutDialogues.{AreCompleteDialogues}
use Rattle.tcap_dialogues.specs.CutState.{IsCut}
use Rattle.tcap_dialogues.specs.declared.complete_dialogue.CompleteDialogue.{CompleteDialogue}
use Rattle.tcap_traces.specs.declared.verdict.Verdict.{Verdict}
use Rattle.tcap_traces.specs.Pieces.{Entry, TraceEntry}
use Rattle.tcap_traces.specs.Dialogue.{After, Dialogue}
use Rattle.tcap_traces.specs.Segments.{dialogue_of, headings_in, may_go_on}
use Rattle.tcap_traces.specs.UnreadableEntries.{notes_in}
use Rattle.tcap_traces.specs.JudgedTrace.{Asked, JudgedDialogue, all_in, is_reported, judged, verdict_on}
use Rattle.tcap_traces.specs.TraceState.{State, after_piece, readable_of}
use Rattle.tcap_traces.specs.TraceProgress.{AllDiffer, AreMarked, AreNoted, AreTracked}
use Rattle.tcap_traces.specs.Case.{after_of}
use Rattle.tcap_traces.specs.declared.case.NextItem.{NextItem}
use Rattle.tcap_report.specs.declared.sum.Counts.{Counts}
use Rattle.tcap_report.specs.declared.trace.Trace.{Trace}
use Rattle.tcap_report.specs.declared.trace.TraceOptions.{TraceOptions}
use Rattle.tcap_report.specs.Counts.{more, no_counts, with_each}

-- what the options ask of a trace
abbrev pub asked_of : TraceOptions → Asked
asked_of options = record {
  question = record { of = options.of; settled = options.settled; complete = options.complete; heard = options.heard };
  reuse = options.reuse;
  tables = options.book.now;
}

-- the number of verdicts of each kind, and the worst
abbrev pub counts_of : List Verdict → Counts
counts_of verdicts = with_each verdicts no_counts

-- ---- a segment

-- the headings of the segment so far
abbrev pub headings_of : State → List Heading
headings_of s = headings_in s.before s.segment

-- the dialogues of the segment so far
abbrev pub courses_at : TraceOptions → State → Courses
courses_at options s = courses_so_far options.reuse (headings_of s)

-- a dialogue of the segment, with what the trace shows about it
abbrev pub dialogue_at : State → Course → Dialogue
dialogue_at s d = dialogue_of s.before s.segment d

-- these dialogues, judged, without those that are not reported
abbrev pub reported_of : TraceOptions → State → List Course → List JudgedDialogue
reported_of options s ds =
    filter (is_reported (asked_of options)) (map (λ d. judged (asked_of options) s.count (dialogue_at s d)) ds)

-- the state of a trace if this comes after its segment
abbrev pub before_item : After → State → State
before_item end s = record s { segment = record s.segment { end = end } }

-- No ID is noted.
abbrev pub no_id : IdOf → Bool
no_id id = false

-- ---- what is kept

-- What is kept of a trace in state `s`. Of the segment, the dialogues `done` were judged, and the entries of those in
-- `waiting` are held. `names` is true for the IDs that are noted as sent from in this segment by their owner.
pub record Keeps (options : TraceOptions) (s : State) (done waiting : List Course) (names : IdOf → Bool)
    (t : Trace) : Type 0 where
  pub asks : t.options ≡ options
  -- The verdicts so far are counted.
  pub counts : t.dialogues ≡ counts_of (map (verdict_on (asked_of options)) (s.reported ++ reported_of options s done))
  pub messages : t.messages ≡ more s.messages (length s.segment.entries)
  pub readable : t.readable ≡ more s.readable (readable_of s.segment)
  pub broken_off : is_some t.broken_off ≡ s.broken_off
  pub under_way : t.under_way ≡ s.segment.under_way
  -- The entries of the dialogues that wait are held by their numbers.
  pub held : (n : ℕ) → list_any (λ d. has_entry d n) waiting ≡ true
      → tree.get nat_cmp t.held n ≡ slice_get s.segment.entries n
  -- The notes on IDs are those of the earlier segments and of the dialogues `done`.
  pub marks : AreMarked s.before.sent s.before.open (λ d. may_go_on (dialogue_at s d)) names done t.marks
  -- The unreadable entries are noted. `begun` is true for the number of an entry that began a dialogue with IDs.
  pub begun : ℕ → Bool
  pub noted : AreNoted (headings_of s) begun (notes_in t.unread)
  pub tracked : AreTracked options.reuse (headings_of s) begun

-- What is kept between two pieces: the dialogues that are done were judged, and the live ones wait.
pub record IsAt (options : TraceOptions) (s : State) (names : IdOf → Bool) (t : Trace) : Type 0 where
  pub keeps : Keeps options s (courses_at options s).done (courses_at options s).live names t
  pub cut : IsCut options.reuse (headings_of s) t.cut
  pub count : t.count ≡ length s.segment.entries

-- The trace is kept between two pieces, and no ID of the segment is noted as sent from.
abbrev pub IsReading : TraceOptions → State → Trace → Type 0
IsReading options s t = IsAt options s no_id t

-- ---- one more entry

-- the state after an entry
abbrev pub with_next : TraceOptions → State → TraceEntry → State
with_next options s e = after_piece (asked_of options) s (Entry e)

-- An entry was taken. The dialogues whose IDs are free after it are `given`; they and the live dialogues wait.
pub record HoldsEntry (options : TraceOptions) (s : State) (e : TraceEntry) (given : List CompleteDialogue)
    (t : Trace) : Type 0 where
  pub freed : List Course
  pub done : (courses_at options (with_next options s e)).done ≡ (courses_at options s).done ++ freed
  pub over : (d : Course) → Contains freed d → is_some d.over ≡ true
  pub are : AreCompleteDialogues freed given
  pub keeps : Keeps options (with_next options s e) (courses_at options s).done
      (freed ++ (courses_at options (with_next options s e)).live) no_id t
  pub cut : IsCut options.reuse (headings_of (with_next options s e)) t.cut
  pub count : t.count ≡ length (with_next options s e).segment.entries

-- ---- after the last segment

-- The verdicts of all segments are counted.
pub record IsOver (options : TraceOptions) (s : State) (t : Trace) : Type 0 where
  pub counts : t.dialogues ≡ counts_of (map (verdict_on (asked_of options)) s.reported)
  pub messages : t.messages ≡ more s.messages 0
  pub readable : t.readable ≡ more s.readable 0
  pub broken_off : is_some t.broken_off ≡ s.broken_off

-- ---- dialogues that are judged

-- These are dialogues of the segment, and no two are the same.
pub record AreSeparate (options : TraceOptions) (s : State) (ds : List Course) : Type 0 where
  pub inside : (d : Course) → Contains ds d → Contains (all_in (courses_at options s)) d
  pub differ : AllDiffer ds

-- This item comes after a dialogue, or the dialogue is over.
abbrev pub IsBefore : NextItem → State → Course → Type 0
IsBefore next s d = (is_some d.over ≡ true) ⊎ (s.segment.end ≡ after_of next)
