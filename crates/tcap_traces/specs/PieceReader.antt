-- Which pieces does a reader still return?
use Rattle.std.specs.Prelude.{◌≡◌, ℕ, suc, Bool, true, false, cond, List, [], ◌∷◌, ◌++◌, ◌<◌, ◌≤◌, drop, length, take, Option, Some, None, Result, Ok, Err}
use Rattle.tcap_traces.specs.declared.pieces.Form.{Form}
use Rattle.tcap_traces.specs.declared.pieces.Form.TheVariants as forms
use Rattle.tcap_traces.specs.declared.pieces.FormRule.{FormRule}
use Rattle.tcap_traces.specs.declared.pieces.Piece.{Piece as APiece}
use Rattle.tcap_traces.specs.declared.pieces.Piece.TheVariants as pieces
use Rattle.tcap_traces.specs.declared.pieces.PieceFault.{PieceFault}
use Rattle.tcap_traces.specs.declared.pieces.PieceFault.TheVariants as faults
use Rattle.tcap_traces.specs.declared.pieces.PieceReader.{PieceReader}
use Rattle.tcap_traces.specs.declared.pieces.FormRule.TheVariants.{InLine}
use Rattle.tcap_traces.specs.declared.pieces.LineRule.{LineRule}
use Rattle.tcap_traces.specs.declared.pieces.FrontLine.{FrontLine}
use Rattle.tcap_traces.specs.declared.pieces.Frame.{Frame}
use Rattle.tcap_traces.specs.declared.pieces.Frame.TheVariants as frames
use Rattle.tcap_traces.specs.declared.pieces.Progress.{Progress}
use Rattle.tcap_traces.specs.declared.pieces.Step.{Step}
use Rattle.tcap_traces.specs.declared.pieces.Step.TheVariants as steps
use Rattle.tcap_record.specs.HexLines.{HasNoNewline}
use Rattle.tcap_traces.specs.declared.trace_line.TraceLine.{TraceLine}
use Rattle.tcap_traces.specs.declared.trace_line.TraceLine.TheVariants as lines
use Rattle.tcap_traces.specs.Directive.{About, BrokenOff, Statement, UnderWay, statement_of}
use Rattle.tcap_traces.specs.Pieces.{Comment, Directive, Empty, Entry, LineMeaning, Line, Mark, Message, Nothing, Piece, Pieces, QuietMark, Stated, after, directive_fault, framed, frames_from, further, is_record, lines_of, no_more, pieces_in, stopped, with_directive}

-- ---- values of the code

-- the meaning of a line
abbrev pub line_as : TraceLine → LineMeaning
line_as lines.Empty = Empty
line_as (lines.Comment text) = Comment text.now
line_as (lines.Directive directive) = Directive (statement_of directive)
line_as lines.Mark = QuietMark
line_as (lines.Message sender octets) = Message sender octets.items
line_as lines.Invalid = Nothing

-- a piece
abbrev pub piece_as : APiece → Piece
piece_as (pieces.Entry entry) = Entry entry
piece_as (pieces.Mark line) = Mark line
piece_as (pieces.UnderWay line) = Stated line UnderWay
piece_as (pieces.BrokenOff line missing) = Stated line (BrokenOff missing.items)
piece_as (pieces.About line end text) = Stated line (About end text.items)

-- ---- the pieces to come

-- the octets that belong to no piece yet
abbrev pub rest : PieceReader → List ℕ
rest r = drop r.from r.held.items

-- whether octets from the beginning of a trace are a record, given what is known of its form
abbrev pub is_record_as : Form → List ℕ → Bool
is_record_as forms.Unknown octets = is_record octets
is_record_as forms.Lines octets = false
is_record_as forms.Record octets = true

-- the pieces of these octets, from the place of the reader on
abbrev pub pieces_by : PieceReader → List ℕ → Pieces
pieces_by r octets =
    cond (is_record_as r.form octets) (frames_from (length octets) r.place octets)
    (pieces_in r.progress r.line r.comment.items (lines_of octets))

-- the pieces to come, if these octets follow those that the reader holds
abbrev pub pieces_left : PieceReader → List ℕ → Pieces
pieces_left r more = pieces_by r (rest r ++ more)

-- P holds no matter which octets follow. None follow if all octets were read.
abbrev pub NoMatterWhat : PieceReader → (List ℕ → Type 0) → Type 0
NoMatterWhat r P = (more : List ℕ) → (r.ended ≡ true → more ≡ []) → P more

-- A piece is returned: it is the next one. None is returned: more octets are needed, or there are no more pieces. A
-- fault of the form is returned: it is there, and no piece comes before it.
abbrev pub Returns : PieceReader → Result (Option APiece) PieceFault → PieceReader → Type 0
Returns old (Ok (Some piece)) new =
    NoMatterWhat old (λ more. pieces_left old more ≡ after (piece_as piece) (pieces_left new more))
Returns old (Ok None) new =
    NoMatterWhat old (λ more. pieces_left old more ≡ pieces_left new more)
    × (old.ended ≡ true → pieces_left new [] ≡ no_more)
Returns old (Err (faults.Form rule)) new = NoMatterWhat old (λ more. pieces_left old more ≡ stopped rule)
Returns old (Err faults.Memory) new = Unit {0}

-- ---- steps

-- a line was found at the front, with this many octets, or none
abbrev pub line_found : FrontLine → Line × ℕ
line_found front = (record { content = front.content.now; ended = front.ended }, front.count)

-- A line was found at the front of these octets, no matter which octets follow. Or there is no whole line yet: the
-- octets have no line feed, and more may follow, or there are no octets.
abbrev pub IsFrontLine : List ℕ → Bool → Option (Line × ℕ) → Type 0
IsFrontLine octets ended (Some (line, count)) =
    (0 < count) × (count ≤ length octets)
    × ((more : List ℕ) → (ended ≡ true → more ≡ [])
    → lines_of (octets ++ more) ≡ line ∷ lines_of (drop count octets ++ more))
IsFrontLine octets ended None = HasNoNewline octets × (ended ≡ true → octets ≡ [])

-- an entry or a quiet mark in this line, with this fault if any, comes after what was read
abbrev pub Begins : Option LineRule → Progress → ℕ → Result Progress PieceFault → Type 0
Begins found progress line (Ok new) = (found ≡ None) × (new ≡ record progress { begun = true })
Begins found progress line (Err (faults.Form rule)) =
    (broken : LineRule) × (found ≡ Some broken) × (rule ≡ InLine line broken)
Begins found progress line (Err faults.Memory) = Unit {0}

-- A directive in this line comes after what was read. Its piece and the progress after it, or its fault, are as
-- defined.
abbrev pub Takes : Progress → ℕ → Statement → Result (APiece × Progress) PieceFault → Type 0
Takes progress line statement (Ok (piece, new)) =
    (directive_fault progress statement ≡ None) × (piece_as piece ≡ Stated line statement)
    × (new ≡ with_directive statement progress)
Takes progress line statement (Err (faults.Form rule)) =
    (broken : LineRule) × (directive_fault progress statement ≡ Some broken) × (rule ≡ InLine line broken)
Takes progress line statement (Err faults.Memory) = Unit {0}

-- A step over a line found a piece; or it passed over a line without one; or it needs more octets.
abbrev pub Steps : PieceReader → Result Step PieceFault → PieceReader → Type 0
Steps old (Ok (steps.Found piece)) new = Returns old (Ok (Some piece)) new
Steps old (Ok steps.Skipped) new =
    NoMatterWhat old (λ more. pieces_left old more ≡ pieces_left new more) × (length (rest new) < length (rest old))
Steps old (Ok steps.NeedsMore) new = Returns old (Ok None) new
Steps old (Err fault) new = Returns old (Err fault) new

-- the pieces of a record with these octets; the first octet has this offset
abbrev pub framed_from : ℕ → List ℕ → Pieces
framed_from place octets = frames_from (length octets) place octets

-- What is at the front of a record's octets, no matter which follow. Nothing is: more are needed, or there are none.
abbrev pub IsFront : List ℕ → ℕ → Bool → Result (Option Frame) FormRule → Type 0
IsFront octets place ended (Ok (Some frames.Mark)) =
    (0 < length octets)
    × ((more : List ℕ)
    → framed_from place (octets ++ more) ≡ after (Mark 0) (framed_from (further place 1) (drop 1 octets ++ more)))
IsFront octets place ended (Ok (Some (frames.Entry sender len))) =
    (len < length octets)
    × ((more : List ℕ) → framed_from place (octets ++ more)
    ≡ after (framed sender (take len (drop 1 octets)))
    (framed_from (further place (suc len)) (drop (suc len) octets ++ more)))
IsFront octets place ended (Ok None) = ended ≡ true → octets ≡ []
IsFront octets place ended (Err rule) =
    (more : List ℕ) → (ended ≡ true → more ≡ []) → framed_from place (octets ++ more) ≡ stopped rule
