-- The pieces that were read are the first ones of the trace, and the report is the definition's.
use Rattle.std.proofs.Common.{arith, ◌≡◌, ◌⊎◌, inl, inr, ℕ, zero, suc, ◌-◌, ◌^◌, ◌≤◌, Bool, true, false, cond, List, [], ◌∷◌, ◌++◌, length, map, refl, sym, ap, subst, ◌∙◌}
use Rattle.std.specs.Prelude.{IfOk, None, Option, Result, Ok, Err, Some, is_some, ◌||◌, ◌==◌, take}
use Rattle.std.specs.Io.KnownBytes.{Consumes, IsAtEnd}
use Rattle.std.specs.List.{list_any}
use Rattle.std.proofs.lemmas.Bool.{eqb-true, false≢true}
use Rattle.std.proofs.lemmas.List.{append_assoc, append-nil, length-append}
use Rattle.tcap_ber.specs.Device.{one_more}
use Rattle.tcap_traces.specs.declared.pieces.FormRule.{FormRule}
use Rattle.tcap_traces.specs.declared.pieces.FormRule.TheVariants.{NoEnd}
use Rattle.tcap_traces.specs.declared.pieces.Piece.{Piece as APiece}
use Rattle.tcap_traces.specs.declared.pieces.PieceReader.{PieceReader}
use Rattle.tcap_traces.specs.declared.verdict.Verdict.{Verdict}
use Rattle.tcap_traces.specs.declared.verdict.Verdict.TheVariants as verdicts
use Rattle.tcap_traces.specs.Dialogue.{EndAfter, FaultAfter}
use Rattle.tcap_traces.specs.JudgedTrace.{Asked, JudgedTrace, all_in, breaks_off, end_of, judged_pieces, judged_trace, readable_in, verdict_on, worst}
use Rattle.tcap_traces.specs.PieceReader.{NoMatterWhat, pieces_left, piece_as}
use Rattle.tcap_traces.specs.Pieces.{Piece, Pieces, after, is_nothing, no_more, pieces_of, stopped}
use Rattle.tcap_traces.specs.Segments.{segments_of}
use Rattle.tcap_traces.specs.TraceState.{State, after_piece, after_pieces, ended, start}
use Rattle.tcap_traces.specs.Verdict.{trace_verdict}
use Rattle.tcap_traces.proofs.TraceStateLaws.{answer_is}
use Rattle.tcap_report.specs.declared.sum.Counts.{Counts}
use Rattle.tcap_report.specs.declared.sum.Sum.{Sum}
use Rattle.tcap_report.specs.declared.trace.Trace.{Trace}
use Rattle.tcap_report.specs.declared.trace.TraceOptions.{TraceOptions}
use Rattle.tcap_report.specs.declared.fault.FormFault.{FormFault}
use Rattle.tcap_report.specs.declared.fault.Halt.{Halt}
use Rattle.tcap_report.specs.declared.fault.Halt.TheVariants as halts
use Rattle.tcap_report.specs.Answer.{Answers, AnswersEarly, AnswersFaulty, AnswersWhole, HasFault, IsCutShort, IsReported, WhateverFollows, with_front}
use Rattle.tcap_report.specs.Counts.{HasJudged, more, with_read, with_verdict}
use Rattle.tcap_report.specs.KeptState.{IsOver, IsReading, Keeps, asked_of, before_item, counts_of, courses_at, no_id}
use Rattle.tcap_report.specs.TraceReading.{HasRead, IsFormHalt, Reads, ReadsOn, Returns}
use Rattle.tcap_report.proofs.CountsLaws.{worst_counted}
use Rattle.tcap_report.proofs.KeptLaws.{trace_over}

-- ---- pieces

-- The state after one more piece.
pub after_push : (options : TraceOptions) (s : State) (ps : List Piece) (p : Piece)
    → after_pieces (asked_of options) s (ps ++ p ∷ []) ≡ after_piece (asked_of options) (after_pieces (asked_of options) s ps) p
after_push options s [] p = refl
after_push options s (q ∷ ps) p = after_push options (after_piece (asked_of options) s q) ps p

-- these pieces, and the fault after them, if there is one
abbrev pub made : Option FormRule → List Piece → Pieces
made fault ps = record { pieces = ps; fault = fault }

front_push : (ps : List Piece) (p : Piece) (rest : Pieces) → with_front ps (after p rest) ≡ with_front (ps ++ p ∷ []) rest
front_push ps p rest = ap (made rest.fault) (sym (append_assoc ps (p ∷ []) rest.pieces))

pub front_all : (ps : List Piece) (rest : Pieces) → rest.pieces ≡ [] → with_front ps rest ≡ made rest.fault ps
front_all ps rest none = ap (λ l. made rest.fault (ps ++ l)) none ∙ ap (made rest.fault) (append-nil ps)

-- A piece is read.
pub piece_read : (read : List ℕ) (ps : List Piece) (piece : APiece) (old new : PieceReader) → new.ended ≡ old.ended → HasRead read ps old
    → Returns old (Ok (Some piece)) new → HasRead read (ps ++ piece_as piece ∷ []) new
piece_read read ps piece old new same has returns = λ more closed.
    let was = λ (is : old.ended ≡ true). closed (same ∙ is) in
    has more was ∙ ap (with_front ps) (returns more was) ∙ front_push ps (piece_as piece) (pieces_left new more)

-- No piece is read, since more octets are needed, or there are no more.
pub none_read : (read : List ℕ) (ps : List Piece) (old new : PieceReader) → new.ended ≡ old.ended → HasRead read ps old
    → NoMatterWhat old (λ more. pieces_left old more ≡ pieces_left new more) → HasRead read ps new
none_read read ps old new same has stays = λ more closed.
    let was = λ (is : old.ended ≡ true). closed (same ∙ is) in
    has more was ∙ ap (with_front ps) (stays more was)

-- More octets come.
pub octets_read : (read octets : List ℕ) (ps : List Piece) (old new : PieceReader) → old.ended ≡ false → HasRead read ps old
    → ((more : List ℕ) → pieces_left new more ≡ pieces_left old (octets ++ more)) → HasRead (read ++ octets) ps new
octets_read read octets ps old new unended has left = λ more closed.
    ap pieces_of (append_assoc read octets more)
    ∙ has (octets ++ more) (λ is. absurd (false≢true (sym unended ∙ is)))
    ∙ ap (with_front ps) (sym (left more))

-- All pieces were read.
pub all_read : (read : List ℕ) (ps : List Piece) (r : PieceReader) → HasRead read ps r → pieces_left r [] ≡ no_more → pieces_of read ≡ made None ps
all_read read ps r has none =
    sym (ap pieces_of (append-nil read)) ∙ has [] (λ is. refl) ∙ ap (with_front ps) none ∙ front_all ps no_more refl

-- A fact that holds no matter which octets follow holds for the octets that the source may still return.
pub whatever : (r : PieceReader) (remaining : Option (List ℕ)) (P : List ℕ → Type 0) → (r.ended ≡ true → IsAtEnd remaining) → NoMatterWhat r P
    → WhateverFollows remaining P
whatever r remaining P ends holds = λ more closed. holds more (λ is. closed (ends is))

-- ---- the report

-- A count of at most 2 ^ 64 - 1 is 0 exactly if what it counts is.
none_counted : (n : ℕ) → (more n 0 == 0) ≡ (n == 0)
none_counted zero = let none : more 0 0 ≡ 0 = omega arith in ap (λ k. k == 0) none
none_counted (suc n) =
    let one : 1 ≤ more (suc n) 0 = omega arith in
    let other : 1 ≤ suc n = omega arith in
    not_none (more (suc n) 0) one ∙ sym (not_none (suc n) other)
  where
    by : (k : ℕ) (b : Bool) → (k == 0) ≡ b → 1 ≤ k → (k == 0) ≡ false
    by k true is least = let none = eqb-true k 0 is in absurd (omega (none, least, arith))
    by k false is least = is

    not_none : (k : ℕ) → 1 ≤ k → (k == 0) ≡ false
    not_none k least = by k (k == 0) refl least

added_once : (a n : ℕ) → more a (more n 0) ≡ more a n
added_once a n = omega arith

-- A trace that is over, given the fault after its pieces, if there is one.
pub report_is : (options : TraceOptions) (p : Pieces) (t : Trace) (broken : Bool) (verdict : Verdict) (before after : Sum)
    → IsOver options (ended (asked_of options) (end_of p.fault) (after_pieces (asked_of options) start p.pieces)) t
    → broken ≡ (is_some p.fault || is_some t.broken_off)
    → verdict ≡ trace_verdict broken t.readable t.dialogues.worst
    → after ≡ with_verdict verdict (with_read t.dialogues t.messages t.unheard before)
    → IsReported options (judged_pieces (asked_of options) p) verdict before after
report_is options p t broken verdict before after over is_broken is sum =
    subst (λ report. IsReported options report verdict before after) (answer_is asked p) (record {
      unheard = t.unheard;
      is = is ∙ ap (λ b. trace_verdict b t.readable t.dialogues.worst) (is_broken ∙ ap (λ b. is_some p.fault || b) over.broken_off)
          ∙ ap (λ n. trace_verdict (is_some p.fault || s.broken_off) n t.dialogues.worst) over.readable
          ∙ ap (λ b. cond ((is_some p.fault || s.broken_off) || b) verdicts.Error t.dialogues.worst) (none_counted s.readable)
          ∙ ap (λ (c : Counts). trace_verdict (is_some p.fault || s.broken_off) s.readable c.worst) over.counts
          ∙ ap (trace_verdict (is_some p.fault || s.broken_off) s.readable) (worst_counted (map (verdict_on asked) s.reported));
      sum = sum ∙ ap (λ c. with_verdict verdict (with_read c t.messages t.unheard before)) over.counts
          ∙ ap (λ n. with_verdict verdict (with_read counted n t.unheard before)) over.messages
          ∙ ap (λ n. with_verdict verdict (record (with_read counted s.messages t.unheard before) { messages = n })) (added_once before.messages s.messages);
    })
  where
    asked : Asked
    asked = asked_of options

    s : State
    s = ended asked (end_of p.fault) (after_pieces asked start p.pieces)

    counted : Counts
    counted = counts_of (map (verdict_on asked) s.reported)

-- The report on the octets is that on their pieces.
pub trace_is : (options : TraceOptions) (read : List ℕ) (p : Pieces) (verdict : Verdict) (before after : Sum) → pieces_of read ≡ p
    → IsReported options (judged_pieces (asked_of options) p) verdict before after
    → IsReported options (judged_trace (asked_of options) read) verdict before after
unfolding judged_trace
trace_is options read p verdict before after is reported =
    subst (λ q. IsReported options (judged_pieces (asked_of options) q) verdict before after) (sym is) reported

-- ---- the pieces of the octets so far

-- A piece is taken.
pub piece_taken : (options : TraceOptions) (read : List ℕ) (those : List Piece) (piece : APiece) (old new : PieceReader) (t : Trace) (n : ℕ)
    → new.ended ≡ old.ended → HasRead read those old → Returns old (Ok (Some piece)) new
    → IsReading options (after_piece (asked_of options) (after_pieces (asked_of options) start those) (piece_as piece)) t → n ≤ length those
    → (ps : List Piece) × HasRead read ps new × IsReading options (after_pieces (asked_of options) start ps) t × (suc n ≤ length ps)
piece_taken options read those piece old new t n same has returns reading few = (
  those ++ piece_as piece ∷ [],
  piece_read read those piece old new same has returns,
  subst (λ s. IsReading options s t) (sym (after_push options start those (piece_as piece))) reading,
  let longer : length (those ++ piece_as piece ∷ []) ≡ suc (length those) = length-append those (piece_as piece ∷ []) ∙ omega arith in
      omega (longer, few, arith),
)

-- The form has a fault after the pieces so far, or the run stops.
pub fault_met : (options : TraceOptions) (read : List ℕ) (those : List Piece) (halt : Halt) (old new : PieceReader) (t : Trace) → new.ended ≡ old.ended
    → HasRead read those old → IsReading options (after_pieces (asked_of options) start those) t → Returns old (Err halt) new
    → ReadsOn options read (Err halt) new t
fault_met options read those (halts.Form fault) old new t same has reading (rule, stops) = (
  those,
  reading,
  inl (
    rule,
    λ more closed.
        let was = λ (is : old.ended ≡ true). closed (same ∙ is) in has more was ∙ ap (with_front those) (stops more was),
  ),
)
fault_met options read those (halts.Stop stop) old new t same has reading returns = tt

-- There are too many pieces.
pub too_many : (options : TraceOptions) (read : List ℕ) (those : List Piece) (halt : Halt) (r : PieceReader) (t : Trace) → IsFormHalt halt
    → HasRead read those r → IsReading options (after_pieces (asked_of options) start those) t → 2 ^ 64 - 1 ≤ length those
    → ReadsOn options read (Err halt) r t
too_many options read those (halts.Form fault) r t is has reading many =
    (those, reading, inr (many, λ more closed. (pieces_left r more, has more closed)))
too_many options read those (halts.Stop stop) r t is has reading many = absurd is

-- ---- octets that a reader returns

-- Of some octets none are taken exactly if their number is 0.
pub none_taken : (n : ℕ) (xs : List ℕ) → n ≤ length xs → is_nothing (take n xs) ≡ true → n ≡ 0
none_taken zero xs most is = refl
none_taken (suc n) [] most is = absurd (omega (most, arith))
none_taken (suc n) (x ∷ xs) most is = absurd (false≢true is)

pub some_taken : (n : ℕ) (xs : List ℕ) → 1 ≤ n → n ≤ length xs → is_nothing (take n xs) ≡ false
some_taken zero xs least most = absurd (omega (least, arith))
some_taken (suc n) [] least most = absurd (omega (most, arith))
some_taken (suc n) (x ∷ xs) least most = refl

-- ---- the trace

-- All pieces were taken, and the trace has ended.
pub whole_read : (options : TraceOptions) (read : List ℕ) (ps : List Piece) (r : PieceReader) (t : Trace) → HasRead read ps r → pieces_left r [] ≡ no_more
    → Keeps options (before_item EndAfter (after_pieces (asked_of options) start ps))
    (all_in (courses_at options (after_pieces (asked_of options) start ps))) [] no_id t
    → ((pieces_of read).fault ≡ None)
    × IsOver options (ended (asked_of options) EndAfter (after_pieces (asked_of options) start (pieces_of read).pieces)) t
whole_read options read ps r t has none keeps =
    let is = all_read read ps r has none in (
      ap (λ (p : Pieces). p.fault) is,
      subst (λ l. IsOver options (ended (asked_of options) EndAfter (after_pieces (asked_of options) start l)) t) (sym (ap (λ (p : Pieces). p.pieces) is))
          (trace_over options (after_pieces (asked_of options) start ps) EndAfter no_id t keeps),
    )

-- The reader failed, or there are too many octets.
pub cut_short : (options : TraceOptions) (remaining remaining' : Option (List ℕ)) (failures failures' : ℕ) (read : List ℕ) (ps : List Piece) (r : PieceReader)
    (halt : Halt) (t : Trace) → IsFormHalt halt → Consumes remaining remaining' read → HasRead read ps r → r.ended ≡ false
    → IsReading options (after_pieces (asked_of options) start ps) t
    → (failures' ≡ one_more failures) ⊎ (2 ^ 64 - 1 ≤ length read) ⊎ (2 ^ 64 - 1 ≤ length ps)
    → Reads options remaining remaining' failures failures' (Err halt) t
cut_short options remaining remaining' failures failures' read ps r (halts.Form fault) t is those has unended reading why =
    (read, those, ps, reading, inr (why, λ more closed. (pieces_left r more, has more (λ is. absurd (false≢true (sym unended ∙ is))))))
cut_short options remaining remaining' failures failures' read ps r (halts.Stop stop) t is those has unended reading why = absurd is

-- The trace is read no further.
pub reading_stopped : (options : TraceOptions) (remaining remaining' : Option (List ℕ)) (failures failures' : ℕ) (read : List ℕ) (r : PieceReader)
    (halt : Halt) (t : Trace) → Consumes remaining remaining' read → (r.ended ≡ true → IsAtEnd remaining')
    → ReadsOn options read (Err halt) r t → Reads options remaining remaining' failures failures' (Err halt) t
reading_stopped options remaining remaining' failures failures' read r (halts.Form fault) t those ends (ps, reading, inl (rule, stops)) =
    (read, those, ps, reading, inl (rule, whatever r remaining' _ ends stops))
reading_stopped options remaining remaining' failures failures' read r (halts.Form fault) t those ends (ps, reading, inr (many, begins)) =
    (read, those, ps, reading, inr (inr (inr many), whatever r remaining' _ ends begins))
reading_stopped options remaining remaining' failures failures' read r (halts.Stop stop) t those ends reads = tt

-- ---- the answer

pub both_ok : {T E : Type 0} (r : Result T E) (P Q R : T → Type 0) → ((x : T) → P x → Q x → R x) → IfOk r P → IfOk r Q → IfOk r R
both_ok (Ok x) P Q R joins p q = joins x p q
both_ok (Err e) P Q R joins p q = p

module _ (options : TraceOptions) (remaining remaining' : Option (List ℕ)) (failures failures' : ℕ) (verdict : Verdict) (before after : Sum) (t : Trace)
    (sum : after ≡ with_verdict verdict (with_read t.dialogues t.messages t.unheard before)) where
  pub answers_whole : Reads options remaining remaining' failures failures' (Ok tt) t
      → verdict ≡ trace_verdict (is_some t.broken_off) t.readable t.dialogues.worst
      → Answers options remaining remaining' failures failures' verdict before after
  answers_whole (read, those, at_end, same, none, over) is = record {
    read = read;
    returned = those;
    answer = inl (
      at_end,
      same,
      none,
      trace_is options read (pieces_of read) verdict before after refl
          (report_is options (pieces_of read) t (is_some t.broken_off) verdict before after
          (subst (λ f. IsOver options (ended (asked_of options) (end_of f) (after_pieces (asked_of options) start (pieces_of read).pieces)) t) (sym none) over)
          (ap (λ (f : Option FormRule). is_some f || is_some t.broken_off) (sym none)) is sum),
    );
  }

  pub answers_broken : (fault : FormFault) (old : Trace) → Reads options remaining remaining' failures failures' (Err (halts.Form fault)) old
      → ((s : State) → IsReading options s old → Keeps options (before_item FaultAfter s) (all_in (courses_at options s)) [] no_id t)
      → verdict ≡ trace_verdict true t.readable t.dialogues.worst
      → Answers options remaining remaining' failures failures' verdict before after
  answers_broken fault old (read, those, ps, reading, why) judged is = record {
    read = read;
    returned = those;
    answer = inr (by why);
  }
    where
      reported : (rule : FormRule) → IsReported options (judged_pieces (asked_of options) (made (Some rule) ps)) verdict before after
      reported rule =
          let s = after_pieces (asked_of options) start ps in
          report_is options (made (Some rule) ps) t true verdict before after (trace_over options s FaultAfter no_id t (judged s reading)) refl is sum

      by : HasFault remaining' read ps ⊎ IsCutShort remaining' failures failures' read ps
          → AnswersFaulty options remaining' read verdict before after ⊎ AnswersEarly options remaining' failures failures' read verdict before after
      by (inl (rule, breaks)) =
          inl (
            ps,
            (rule, breaks),
            λ more closed.
                trace_is options (read ++ more) (made (Some rule) ps) verdict before after (breaks more closed ∙ front_all ps (stopped rule) refl) (reported rule),
          )
      by (inr short) = inr (ps, short, NoEnd 0, reported (NoEnd 0))

-- ---- what the answer gives

-- A fault of the form makes a trace an error.
broken_is_error : (options : TraceOptions) (p : Pieces) → is_some p.fault ≡ true → (judged_pieces (asked_of options) p).verdict ≡ verdicts.Error
broken_is_error options p is =
    let report = judged_pieces (asked_of options) p in
    ap (λ b. cond ((b || list_any breaks_off p.pieces) || (readable_in (segments_of (end_of p.fault) p.pieces) == 0)) verdicts.Error
    (worst (map (verdict_on (asked_of options)) report.dialogues))) is

broken_trace_is_error : (options : TraceOptions) (read : List ℕ) (p : Pieces) → pieces_of read ≡ p → is_some p.fault ≡ true
    → (judged_trace (asked_of options) read).verdict ≡ verdicts.Error
unfolding judged_trace
broken_trace_is_error options read p is broken =
    ap (λ q. (judged_pieces (asked_of options) q).verdict) is ∙ broken_is_error options p broken

-- A trace without octets is an error.
nothing_is_error : (options : TraceOptions) (read : List ℕ) → read ≡ [] → (judged_trace (asked_of options) read).verdict ≡ verdicts.Error
unfolding judged_trace
nothing_is_error options read none = ap (λ l. (judged_trace (asked_of options) l).verdict) none

-- the octets that a reader returned up to its end
all_returned : (octets : List ℕ) (remaining : Option (List ℕ)) (read : List ℕ) → Consumes (Some octets) remaining read → IsAtEnd remaining
    → octets ≡ read
all_returned octets None read consumes at_end = absurd consumes
all_returned octets (Some rest) read consumes at_end = consumes ∙ ap (λ l. read ++ l) at_end ∙ append-nil read

module _ (options : TraceOptions) (remaining remaining' : Option (List ℕ)) (failures failures' : ℕ) (verdict : Verdict) (before after : Sum)
    (answers : Answers options remaining remaining' failures failures' verdict before after) where
  -- The verdict on the trace is counted.
  pub counted_once : HasJudged (verdict ∷ []) before after
  counted_once = by answers.answer
    where
      reported : (report : JudgedTrace) → IsReported options report verdict before after → HasJudged (verdict ∷ []) before after
      reported report is = ap (λ (s : Sum). s.traces) is.sum

      by : AnswersWhole options remaining' failures failures' answers.read verdict before after
          ⊎ AnswersFaulty options remaining' answers.read verdict before after
          ⊎ AnswersEarly options remaining' failures failures' answers.read verdict before after → HasJudged (verdict ∷ []) before after
      by (inl (at_end, same, none, is)) = reported _ is
      by (inr (inl (ps, faulty, is))) = reported _ (is [] (λ end. refl))
      by (inr (inr (ps, short, rule, is))) = reported _ is

  -- A trace that is no error is whole.
  whole_or_error : (verdict ≡ verdicts.Error) ⊎ AnswersWhole options remaining' failures failures' answers.read verdict before after
  whole_or_error = by answers.answer
    where
      by : AnswersWhole options remaining' failures failures' answers.read verdict before after
          ⊎ AnswersFaulty options remaining' answers.read verdict before after
          ⊎ AnswersEarly options remaining' failures failures' answers.read verdict before after
          → (verdict ≡ verdicts.Error) ⊎ AnswersWhole options remaining' failures failures' answers.read verdict before after
      by (inl whole) = inr whole
      by (inr (inl (ps, (rule, faulty), is))) =
          let all = is [] (λ end. refl) in
          inl (all.is ∙ broken_trace_is_error options (answers.read ++ []) (with_front ps (stopped rule)) (faulty [] (λ end. refl)) refl)
      by (inr (inr (ps, short, rule, is))) = inl (is.is ∙ broken_is_error options (record { pieces = ps; fault = Some rule }) refl)

  -- A trace that is no error was read to its end.
  pub read_whole : (verdict ≡ verdicts.Error) ⊎ (IsAtEnd remaining' × (failures' ≡ failures))
  read_whole = by whole_or_error
    where
      by : (verdict ≡ verdicts.Error) ⊎ AnswersWhole options remaining' failures failures' answers.read verdict before after
          → (verdict ≡ verdicts.Error) ⊎ (IsAtEnd remaining' × (failures' ≡ failures))
      by (inl error) = inl error
      by (inr (at_end, same, none, is)) = inr (at_end, same)

  -- The verdict on a trace with these octets is an error, or that of `judged_trace`.
  pub verdict_defined : (octets : List ℕ) → remaining ≡ Some octets
      → (verdict ≡ verdicts.Error) ⊎ (verdict ≡ (judged_trace (asked_of options) octets).verdict)
  verdict_defined octets known = by whole_or_error
    where
      by : (verdict ≡ verdicts.Error) ⊎ AnswersWhole options remaining' failures failures' answers.read verdict before after
          → (verdict ≡ verdicts.Error) ⊎ (verdict ≡ (judged_trace (asked_of options) octets).verdict)
      by (inl error) = inl error
      by (inr (at_end, same, none, is)) =
          let consumes = subst (λ left. Consumes left remaining' answers.read) known answers.returned in
          inr (is.is ∙ ap (λ l. (judged_trace (asked_of options) l).verdict) (sym (all_returned octets remaining' answers.read consumes at_end)))

  -- A reader that has nothing gives an error.
  pub nothing_read : remaining ≡ Some [] → verdict ≡ verdicts.Error
  nothing_read none = by (verdict_defined [] none)
    where
      by : (verdict ≡ verdicts.Error) ⊎ (verdict ≡ (judged_trace (asked_of options) []).verdict) → verdict ≡ verdicts.Error
      by (inl error) = error
      by (inr is) = is ∙ nothing_is_error options [] refl
