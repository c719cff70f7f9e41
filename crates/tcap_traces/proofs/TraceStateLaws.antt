-- The report on pieces is the report after the state that they lead to.
use Rattle.std.proofs.Common.{arith, ◌≡◌, ℕ, ◌+◌, Bool, true, false, List, [], ◌∷◌, ◌++◌, map, refl, sym, ap, ◌∙◌}
use Rattle.std.specs.Prelude.{◌||◌, is_some}
use Rattle.std.specs.List.{list_any}
use Rattle.std.proofs.lemmas.List.{append_assoc, append-nil}
use Rattle.tcap_traces.specs.Verdict.{trace_verdict}
use Rattle.tcap_traces.specs.Directive.{About, BrokenOff, UnderWay, Unknown}
use Rattle.tcap_traces.specs.Pieces.{Entry, Mark, Piece, Pieces, Stated}
use Rattle.tcap_traces.specs.Dialogue.{After, EndAfter, MarkAfter}
use Rattle.tcap_traces.specs.Segments.{Segment, empty, segments_after, segments_of, with_one, with_under_way}
use Rattle.tcap_traces.specs.JudgedTrace.{Asked, JudgedDialogue, JudgedTrace, breaks_off, end_of, judged_pieces, messages_in, readable_in, reported_from, reported_in, verdict_on, worst}
use Rattle.tcap_traces.specs.TraceState.{State, after_piece, after_pieces, answer, ended, start}

-- What comes after a segment that is not at its end yet does not matter.
same_segments : (s : Segment) (x end : After) (ps : List Piece) → segments_after (record s { end = x }) end ps ≡ segments_after s end ps
same_segments s x end [] = refl
same_segments s x end (Entry entry ∷ ps) = same_segments (with_one entry s) x end ps
same_segments s x end (Mark line ∷ ps) = refl
same_segments s x end (Stated line UnderWay ∷ ps) = same_segments (with_under_way s) x end ps
same_segments s x end (Stated line (BrokenOff missing) ∷ ps) = same_segments s x end ps
same_segments s x end (Stated line (About side text) ∷ ps) = same_segments s x end ps
same_segments s x end (Stated line Unknown ∷ ps) = same_segments s x end ps

module _ (asked : Asked) (end : After) where
  -- the state after these pieces and the end of the last segment
  abbrev last : State → List Piece → State
  last s ps = ended asked end (after_pieces asked s ps)

  abbrev those : State → List Piece → List Segment
  those s ps = segments_after s.segment end ps

  reported_are : (s : State) (ps : List Piece) → (last s ps).reported ≡ s.reported ++ reported_from asked s.before s.count (those s ps)
  reported_are s [] = ap (λ l. s.reported ++ l) (sym (append-nil (reported_in asked s.before s.count (record s.segment { end = end }))))
  reported_are s (Entry entry ∷ ps) = reported_are (after_piece asked s (Entry entry)) ps
  reported_are s (Mark line ∷ ps) =
      let next = after_piece asked s (Mark line) in
      let here = reported_in asked s.before s.count (record s.segment { end = MarkAfter }) in
      reported_are next ps
      ∙ ap (λ l. next.reported ++ reported_from asked next.before next.count l) (sym (same_segments (empty EndAfter) end end ps))
      ∙ append_assoc s.reported here (reported_from asked next.before next.count (segments_after (empty end) end ps))
  reported_are s (Stated line UnderWay ∷ ps) = reported_are (after_piece asked s (Stated line UnderWay)) ps
  reported_are s (Stated line (BrokenOff missing) ∷ ps) = reported_are (after_piece asked s (Stated line (BrokenOff missing))) ps
  reported_are s (Stated line (About side text) ∷ ps) = reported_are s ps
  reported_are s (Stated line Unknown ∷ ps) = reported_are s ps

  messages_are : (s : State) (ps : List Piece) → (last s ps).messages ≡ s.messages + messages_in (those s ps)
  messages_are s [] = omega arith
  messages_are s (Entry entry ∷ ps) = messages_are (after_piece asked s (Entry entry)) ps
  messages_are s (Mark line ∷ ps) =
      let next = after_piece asked s (Mark line) in
      messages_are next ps ∙ ap (λ l. next.messages + messages_in l) (sym (same_segments (empty EndAfter) end end ps)) ∙ omega arith
  messages_are s (Stated line UnderWay ∷ ps) = messages_are (after_piece asked s (Stated line UnderWay)) ps
  messages_are s (Stated line (BrokenOff missing) ∷ ps) = messages_are (after_piece asked s (Stated line (BrokenOff missing))) ps
  messages_are s (Stated line (About side text) ∷ ps) = messages_are s ps
  messages_are s (Stated line Unknown ∷ ps) = messages_are s ps

  readable_are : (s : State) (ps : List Piece) → (last s ps).readable ≡ s.readable + readable_in (those s ps)
  readable_are s [] = omega arith
  readable_are s (Entry entry ∷ ps) = readable_are (after_piece asked s (Entry entry)) ps
  readable_are s (Mark line ∷ ps) =
      let next = after_piece asked s (Mark line) in
      readable_are next ps ∙ ap (λ l. next.readable + readable_in l) (sym (same_segments (empty EndAfter) end end ps)) ∙ omega arith
  readable_are s (Stated line UnderWay ∷ ps) = readable_are (after_piece asked s (Stated line UnderWay)) ps
  readable_are s (Stated line (BrokenOff missing) ∷ ps) = readable_are (after_piece asked s (Stated line (BrokenOff missing))) ps
  readable_are s (Stated line (About side text) ∷ ps) = readable_are s ps
  readable_are s (Stated line Unknown ∷ ps) = readable_are s ps

  broken_is : (s : State) (ps : List Piece) → (last s ps).broken_off ≡ (s.broken_off || list_any breaks_off ps)
  broken_is s [] = or_none s.broken_off
    where
      or_none : (b : Bool) → b ≡ (b || false)
      or_none true = refl
      or_none false = refl
  broken_is s (Entry entry ∷ ps) = broken_is (after_piece asked s (Entry entry)) ps
  broken_is s (Mark line ∷ ps) = broken_is (after_piece asked s (Mark line)) ps
  broken_is s (Stated line UnderWay ∷ ps) = broken_is (after_piece asked s (Stated line UnderWay)) ps
  broken_is s (Stated line (BrokenOff missing) ∷ ps) = broken_is (after_piece asked s (Stated line (BrokenOff missing))) ps ∙ or_all s.broken_off
    where
      or_all : (b : Bool) → true ≡ (b || true)
      or_all true = refl
      or_all false = refl
  broken_is s (Stated line (About side text) ∷ ps) = broken_is s ps
  broken_is s (Stated line Unknown ∷ ps) = broken_is s ps

from_zero : (n : ℕ) → 0 + n ≡ n
from_zero n = omega arith

-- The answer after all pieces is the definition's.
pub answer_is : (asked : Asked) (p : Pieces) → answer asked p.fault (after_pieces asked start p.pieces) ≡ judged_pieces asked p
answer_is asked p =
    let end = end_of p.fault in
    let segments = segments_of end p.pieces in
    let state = last asked end start p.pieces in
    let same = sym (same_segments (empty EndAfter) end end p.pieces) in
    let reported = reported_are asked end start p.pieces ∙ ap (λ l. reported_from asked start.before 0 l) same in
    let messages = messages_are asked end start p.pieces ∙ from_zero (messages_in (those asked end start p.pieces)) ∙ ap messages_in same in
    let readable = readable_are asked end start p.pieces ∙ from_zero (readable_in (those asked end start p.pieces)) ∙ ap readable_in same in
    ap (λ b. made b state.readable state.reported state.messages) (broken_is asked end start p.pieces)
    ∙ ap (λ n. made (list_any breaks_off p.pieces) n state.reported state.messages) readable
    ∙ ap (λ l. made (list_any breaks_off p.pieces) (readable_in segments) l state.messages) reported
    ∙ ap (made (list_any breaks_off p.pieces) (readable_in segments) (reported_from asked start.before 0 segments)) messages
  where
    made : Bool → ℕ → List JudgedDialogue → ℕ → JudgedTrace
    made broken readable dialogues messages = record {
      verdict = trace_verdict (is_some p.fault || broken) readable (worst (map (verdict_on asked) dialogues));
      dialogues = dialogues;
      messages = messages;
    }
