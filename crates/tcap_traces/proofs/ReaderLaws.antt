-- What a reader of lines still returns, before and after a line.
use Rattle.std.proofs.Common.{◌≡◌, ℕ, ◌+◌, ◌≤◌, ◌<◌, arith, Bool, true, false, cond, List, [], ◌∷◌, ◌++◌, drop, length, take, ◌-◌, map, Option, Some, None, Result, Ok, Err, refl, sym, ap, subst, ◌∙◌}
use Rattle.std.specs.Prelude.{nat_lt}
use Rattle.std.proofs.lemmas.Bool.{le-ltb, lt-ltb, ltb-false, ltb-true}
use Rattle.std.proofs.lemmas.List.{append-nil, length-append, length-take-le}
use Rattle.tcap_record.specs.HexLines.{HasNoNewline, line_limit}
use Rattle.tcap_traces.specs.declared.pieces.FormRule.{FormRule}
use Rattle.tcap_traces.specs.declared.pieces.LineRule.{LineRule}
use Rattle.tcap_traces.specs.declared.pieces.PieceFault.{PieceFault}
use Rattle.tcap_traces.specs.declared.pieces.PieceFault.TheVariants as faults
use Rattle.tcap_traces.specs.declared.pieces.Step.{Step}
use Rattle.tcap_traces.specs.declared.pieces.Step.TheVariants as steps
use Rattle.tcap_traces.specs.declared.pieces.Form.TheVariants as forms
use Rattle.tcap_traces.specs.declared.pieces.FormRule.TheVariants.{InLine}
use Rattle.tcap_traces.specs.declared.pieces.LineRule.TheVariants.{TooLong}
use Rattle.tcap_traces.specs.declared.pieces.Piece.{Piece as APiece}
use Rattle.tcap_traces.specs.declared.pieces.PieceReader.{PieceReader}
use Rattle.tcap_traces.specs.declared.pieces.Progress.{Progress}
use Rattle.tcap_traces.specs.Directive.{Statement}
use Rattle.tcap_traces.specs.Pieces.{Line, LineMeaning, Pieces, directive_fault, unless_at, without_return, frames_from, further, goes_on, lines_of, meaning_of, pieces_in, stopped, without_end}
use Rattle.tcap_traces.specs.PieceReader.{NoMatterWhat, Returns, Steps, Takes, is_record_as, pieces_left, rest}
use Rattle.tcap_traces.proofs.PieceLaws.{first_begins}

-- a length that is not over the limit
not_over : (n : ℕ) → n ≤ line_limit → nat_lt line_limit n ≡ false
not_over n short = le-ltb line_limit n short

over : (n : ℕ) → line_limit < n → nat_lt line_limit n ≡ true
over n long = lt-ltb line_limit n long

pub left_lines : (r : PieceReader) (more : List ℕ) → r.form ≡ forms.Lines
    → pieces_left r more ≡ pieces_in r.progress r.line r.comment.items (lines_of (rest r ++ more))
left_lines r more is =
    ap (λ f. cond (is_record_as f (rest r ++ more)) (frames_from (length (rest r ++ more)) r.place (rest r ++ more))
    (pieces_in r.progress r.line r.comment.items (lines_of (rest r ++ more)))) is

-- The pieces before a line that is not too long.
pub step_line : (r : PieceReader) (more : List ℕ) (line : Line) (count : ℕ) (m : LineMeaning) → r.form ≡ forms.Lines
    → lines_of (rest r ++ more) ≡ line ∷ lines_of (drop count (rest r) ++ more)
    → length line.content ≤ line_limit → meaning_of line.content ≡ m
    → pieces_left r more
    ≡ goes_on (λ progress above. pieces_in progress (further r.line 1) above (lines_of (drop count (rest r) ++ more))) r.progress r.line
    r.comment.items line m
step_line r more line count m is lines short means =
    let lines' = lines_of (drop count (rest r) ++ more) in
    let goes = goes_on (λ progress above. pieces_in progress (further r.line 1) above lines') r.progress r.line r.comment.items line in
    left_lines r more is ∙ ap (pieces_in r.progress r.line r.comment.items) lines
    ∙ ap (λ b. cond b (stopped (InLine r.line TooLong)) (goes (meaning_of line.content))) (not_over (length line.content) short)
    ∙ ap goes means

-- A line that is too long.
pub long_line : (r : PieceReader) (more : List ℕ) (line : Line) (lines : List Line) → r.form ≡ forms.Lines
    → lines_of (rest r ++ more) ≡ line ∷ lines → line_limit < length line.content
    → pieces_left r more ≡ stopped (InLine r.line TooLong)
long_line r more line lines is found long =
    let goes = goes_on (λ progress above. pieces_in progress (further r.line 1) above lines) r.progress r.line r.comment.items line in
    left_lines r more is ∙ ap (pieces_in r.progress r.line r.comment.items) found
    ∙ ap (λ b. cond b (stopped (InLine r.line TooLong)) (goes (meaning_of line.content))) (over (length line.content) long)

-- The pieces after a line.
pub left_after : (r new : PieceReader) (more : List ℕ) (count : ℕ) (progress : Progress) (comment : List ℕ) → new.form ≡ forms.Lines
    → rest new ≡ drop count (rest r) → new.line ≡ further r.line 1 → new.progress ≡ progress → new.comment.items ≡ comment
    → pieces_in progress (further r.line 1) comment (lines_of (drop count (rest r) ++ more)) ≡ pieces_left new more
left_after r new more count progress comment is left line same_seen same_comment =
    sym (left_lines new more is
    ∙ ap (λ octets. pieces_in new.progress new.line new.comment.items (lines_of (octets ++ more))) left
    ∙ ap (λ n. pieces_in new.progress n new.comment.items (lines_of (drop count (rest r) ++ more))) line
    ∙ ap (λ s. pieces_in s (further r.line 1) new.comment.items (lines_of (drop count (rest r) ++ more))) same_seen
    ∙ ap (λ a. pieces_in progress (further r.line 1) a (lines_of (drop count (rest r) ++ more))) same_comment)

-- ---- a line that may not come

-- A fault of the line is returned.
pub refused : (r : PieceReader) (found : Option LineRule) (broken : LineRule) (rule : FormRule) (others : List ℕ → Pieces)
    → found ≡ Some broken → rule ≡ InLine r.line broken
    → NoMatterWhat r (λ more. pieces_left r more ≡ unless_at r.line found (others more))
    → NoMatterWhat r (λ more. pieces_left r more ≡ stopped rule)
refused r found broken rule others is rule_is same = λ more ended.
    same more ended ∙ ap (λ f. unless_at r.line f (others more)) is ∙ ap stopped (sym rule_is)

-- A piece is returned.
pub taken : (r : PieceReader) (found : Option LineRule) (others left : List ℕ → Pieces) → found ≡ None
    → NoMatterWhat r (λ more. pieces_left r more ≡ unless_at r.line found (others more))
    → ((more : List ℕ) → others more ≡ left more)
    → NoMatterWhat r (λ more. pieces_left r more ≡ left more)
taken r found others left is same joins = λ more ended.
    same more ended ∙ ap (λ f. unless_at r.line f (others more)) is ∙ joins more

-- ---- a line that needs more octets

-- A line loses at most one octet, a carriage return.
short_return : (octets : List ℕ) (b : Bool) → length octets ≤ length (cond b (take (length octets - 1) octets) octets) + 1
short_return octets true = omega (length-take-le (length octets - 1) octets (omega arith), arith)
short_return octets false = omega arith

without_one : (line : Line) → length line.content ≤ length (without_end line).content + 1
without_one line = by line.ended
  where
    by : (b : Bool) → length line.content ≤ length (cond b (without_return line.content) line.content) + 1
    by true = short_return line.content _
    by false = omega arith

-- Octets without a line feed that are over the limit begin a line that is too long.
too_long : (r : PieceReader) (octets : List ℕ) → r.form ≡ forms.Lines → rest r ≡ octets → HasNoNewline octets
    → line_limit + 1 < length octets
    → (more : List ℕ) → pieces_left r more ≡ stopped (InLine r.line TooLong)
too_long r [] lines is none long more = absurd (omega (long, arith))
too_long r (octet ∷ octets) lines is none long more =
    let b = first_begins octet octets more none in
    long_line r more (without_end b.first) (map without_end b.others) lines
    (ap (λ l. lines_of (l ++ more)) is ∙ ap (map without_end) b.is)
    (omega (without_one b.first, ap length b.content, length-append (octet ∷ octets) b.back, long, arith))

pub unfinished_steps : (r : PieceReader) (result : Result Step PieceFault) → r.form ≡ forms.Lines → HasNoNewline (rest r)
    → (r.ended ≡ true → rest r ≡ [])
    → (length (rest r) ≤ line_limit + 1 → result ≡ Ok steps.NeedsMore)
    → (line_limit + 1 < length (rest r) → result ≡ Err (faults.Form (InLine r.line TooLong)))
    → Steps r result r
unfinished_steps r result lines none nothing short long = by (nat_lt (line_limit + 1) (length (rest r))) refl
  where
    by : (b : Bool) → nat_lt (line_limit + 1) (length (rest r)) ≡ b → Steps r result r
    by true is =
        let over = ltb-true (line_limit + 1) (length (rest r)) is in
        subst (λ x. Steps r x r) (sym (long over)) (λ more ended. too_long r (rest r) lines refl none over more)
    by false is =
        subst (λ x. Steps r x r) (sym (short (ltb-false (line_limit + 1) (length (rest r)) is))) (
          (λ more ended. refl),
          (λ ended. left_lines r [] lines
              ∙ ap (λ l. pieces_in r.progress r.line r.comment.items (lines_of l)) (append-nil (rest r) ∙ nothing ended)),
        )

-- ---- a reader before its form was decided

pub returns_before : (old mid : PieceReader) (result : Result (Option APiece) PieceFault) (new : PieceReader)
    → NoMatterWhat old (λ more. pieces_left mid more ≡ pieces_left old more) → mid.ended ≡ old.ended
    → Returns mid result new → Returns old result new
returns_before old mid (Ok (Some piece)) new same ended is = λ more none.
    sym (same more none) ∙ is more (λ e. none (sym ended ∙ e))
returns_before old mid (Ok None) new same ended is =
    ((λ more none. sym (same more none) ∙ is.0 more (λ e. none (sym ended ∙ e))), λ e. is.1 (ended ∙ e))
returns_before old mid (Err (faults.Form rule)) new same ended is = λ more none.
    sym (same more none) ∙ is more (λ e. none (sym ended ∙ e))
returns_before old mid (Err faults.Memory) new same ended is = tt

-- A directive that may not come: its fault is returned.
pub directive_refused : (r : PieceReader) (statement : Statement) (others : List ℕ → Pieces) (fault : PieceFault)
    → Takes r.progress r.line statement (Err fault)
    → NoMatterWhat r (λ more. pieces_left r more ≡ unless_at r.line (directive_fault r.progress statement) (others more))
    → Returns r (Err fault) r
directive_refused r statement others (faults.Form rule) (broken, is, rule_is) same =
    refused r (directive_fault r.progress statement) broken rule others is rule_is same
directive_refused r statement others faults.Memory takes same = tt
