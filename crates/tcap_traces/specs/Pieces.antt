-- Which pieces does a trace have: entries, quiet marks and directives? Its first octets decide its form: lines of
-- hexadecimal digits, or a record.
use Rattle.std.specs.Prelude.{ℕ, zero, suc, ◌+◌, ◌-◌, ◌^◌, min, Bool, true, false, cond, List, [], ◌∷◌, drop, length, map, slice_index_or, take, ◌&&◌, ◌||◌, not, nat_eq, nat_le, nat_lt, Option, Some, None, is_some, Result, Ok, Err}
use Rattle.hex.specs.Hex.{decode_of}
use Rattle.hex.specs.declared.error.FromHexError.{FromHexError}
use Rattle.tcap_ber.specs.declared.fault.Fault.{Fault}
use Rattle.tcap_ber.specs.declared.element.Outer.{Outer}
use Rattle.tcap_ber.specs.declared.element.Outer.TheVariants as outers
use Rattle.tcap_ber.specs.WalkResult.{outer_at}
use Rattle.tcap_record.specs.declared.entry.End.{End as Side}
use Rattle.tcap_record.specs.declared.entry.End.TheVariants as sides
use Rattle.tcap_record.specs.FramingResult.{end_in}
use Rattle.tcap_record.specs.HexLines.{line_limit}
use Rattle.tcap_record.specs.RecordOctets.{quiet_octet}
use Rattle.tcap_traces.specs.declared.pieces.FormRule.{FormRule}
use Rattle.tcap_traces.specs.declared.pieces.FormRule.TheVariants.{InLine, NoEnd, CutEntry, BadElement}
use Rattle.tcap_traces.specs.declared.pieces.LineRule.{LineRule}
use Rattle.tcap_traces.specs.declared.pieces.LineRule.TheVariants.{TooLong, NoLine, AfterBreak, DirectiveAfterBreak, UnknownDirective, LateDirective, SecondDirective, CutLine}
use Rattle.tcap_traces.specs.declared.pieces.Progress.{Progress}
use Rattle.tcap_traces.specs.Directive.{Statement, UnderWay, BrokenOff, About, Unknown, directive_of, is_blank}

-- An entry of a trace: its sender and its octets. In a trace of lines, also the number of its line, counted from 1, and
-- the comment in the line above it.
pub record TraceEntry : Type 0 where
  pub sender : Side
  pub octets : List ℕ
  pub line : ℕ
  pub comment : List ℕ

-- a piece of a trace: an entry, a quiet mark, or a directive; the last two with the number of their line, which is 0 in
-- a record
pub data Piece : Type 0 where
  Entry : TraceEntry → Piece
  Mark : ℕ → Piece
  Stated : ℕ → Statement → Piece

-- the pieces before the first fault of the form, and that fault, if there is one
pub record Pieces : Type 0 where
  pub pieces : List Piece
  pub fault : Option FormRule

-- these pieces begin with this one
abbrev pub after : Piece → Pieces → Pieces
after piece rest = record { pieces = piece ∷ rest.pieces; fault = rest.fault }

abbrev pub no_more : Pieces
no_more = record { pieces = []; fault = None }

abbrev pub stopped : FormRule → Pieces
stopped rule = record { pieces = []; fault = Some rule }

-- a line number or an offset that is this much further, at most 2 ^ 64 - 1
abbrev pub further : ℕ → ℕ → ℕ
further place count = min (place + count) (2 ^ 64 - 1)

-- ---- the lines of a text

-- a line, and whether a line feed (10) ends it
pub record Line : Type 0 where
  pub content : List ℕ
  pub ended : Bool

-- these lines with an octet before them
abbrev pub before_lines : ℕ → List Line → List Line
before_lines octet [] = record { content = octet ∷ []; ended = false } ∷ []
before_lines octet (line ∷ lines) = record line { content = octet ∷ line.content } ∷ lines

-- the lines of octets, without their line feeds
abbrev pub lines_in : List ℕ → List Line
lines_in [] = []
lines_in (octet ∷ octets) =
    cond (nat_eq octet 10) (record { content = []; ended = true } ∷ lines_in octets)
    (before_lines octet (lines_in octets))

-- octets without a carriage return (13) at their end
abbrev pub without_return : List ℕ → List ℕ
without_return octets =
    cond (nat_eq (slice_index_or octets (length octets - 1) 0) 13) (take (length octets - 1) octets) octets

-- a line without the carriage return that belongs to its end
abbrev pub without_end : Line → Line
without_end line = record line { content = cond line.ended (without_return line.content) line.content }

-- the lines of octets, without their ends
abbrev pub lines_of : List ℕ → List Line
lines_of octets = map without_end (lines_in octets)

-- the content of the first of these lines, if there is one
abbrev pub first_content : List Line → List ℕ
first_content [] = []
first_content (line ∷ lines) = line.content

-- ---- the meaning of a line

-- an empty line; a comment, with its text; a directive; a quiet mark; a message, with its sender and octets; or none
pub data LineMeaning : Type 0 where
  Empty : LineMeaning
  Comment : List ℕ → LineMeaning
  Directive : Statement → LineMeaning
  QuietMark : LineMeaning
  Message : Side → List ℕ → LineMeaning
  Nothing : LineMeaning

-- the text of a comment, without a space at its front
abbrev pub text_of : List ℕ → List ℕ
text_of [] = []
text_of (first ∷ text) = cond (nat_eq first 32) text (first ∷ text)

-- the message of a sender's digits: an even number of them, at least two
abbrev pub message_of : Option Side → List ℕ → LineMeaning
message_of None digits = Nothing
message_of (Some sender) [] = Nothing
message_of (Some sender) (digit ∷ digits) = by (decode_of (digit ∷ digits))
  where
    by : Result (List ℕ) FromHexError → LineMeaning
    by (Ok octets) = Message sender octets
    by (Err error) = Nothing

-- a message, by the letter of its sender and what comes after the letter: a space and digits
abbrev pub lettered : ℕ → List ℕ → LineMeaning
lettered letter [] = Nothing
lettered letter (blank ∷ digits) = cond (nat_eq blank 32) (message_of (end_in letter) digits) Nothing

-- whether there are no octets
abbrev pub is_nothing : List ℕ → Bool
is_nothing [] = true
is_nothing (octet ∷ octets) = false

-- the meaning of a line that is no directive: `#` (35) begins a comment, and `Q` (81) is a quiet mark
abbrev pub plain_meaning : List ℕ → LineMeaning
plain_meaning [] = Empty
plain_meaning (first ∷ more) =
    cond (nat_eq first 35) (Comment (text_of more))
    (cond (nat_eq first 81 && is_nothing more) QuietMark (lettered first more))

-- the meaning of a line
abbrev pub meaning_of : List ℕ → LineMeaning
meaning_of line = by (directive_of line)
  where
    by : Option Statement → LineMeaning
    by (Some statement) = Directive statement
    by None = plain_meaning line

-- ---- the pieces of lines

-- nothing was read
abbrev pub no_progress : Progress
no_progress = record { begun = false; a = false; b = false; broken_off = false }

abbrev pub has_named : Side → Progress → Bool
has_named sides.A progress = progress.a
has_named sides.B progress = progress.b

abbrev pub with_named : Side → Progress → Progress
with_named sides.A progress = record progress { a = true }
with_named sides.B progress = record progress { b = true }

-- what is wrong with a directive after what was read, if anything is
abbrev pub directive_fault : Progress → Statement → Option LineRule
directive_fault progress statement = cond progress.broken_off (Some DirectiveAfterBreak) (by statement)
  where
    by : Statement → Option LineRule
    by UnderWay = None
    by (BrokenOff missing) = None
    by (About end text) =
        cond progress.begun (Some LateDirective) (cond (has_named end progress) (Some SecondDirective) None)
    by Unknown = Some UnknownDirective

abbrev pub with_directive : Statement → Progress → Progress
with_directive UnderWay progress = progress
with_directive (BrokenOff missing) progress = record progress { broken_off = true }
with_directive (About end text) progress = with_named end progress
with_directive Unknown progress = progress

-- what is wrong with an entry or a quiet mark after what was read, if anything is
abbrev pub entry_fault : Progress → Option LineRule
entry_fault progress = cond progress.broken_off (Some AfterBreak) None

-- whether these octets end within an element
abbrev pub is_cut : List ℕ → Bool
is_cut octets = by (outer_at octets)
  where
    by : Result Outer Fault → Bool
    by (Ok (outers.Need count)) = true
    by found = false

-- what is wrong with a message in this line after what was read, if anything is
abbrev pub message_fault : Progress → Line → List ℕ → Option LineRule
message_fault progress line octets = cond (not line.ended && is_cut octets) (Some CutLine) (entry_fault progress)

-- this piece and the rest, or the fault of the line with this number
abbrev pub unless_at : ℕ → Option LineRule → Pieces → Pieces
unless_at number None rest = rest
unless_at number (Some rule) rest = stopped (InLine number rule)

-- The pieces of a line with this meaning and number, and of the lines after it. `rest` gives the pieces of those lines
-- by what was read before them and by the comment above the first. `progress` was read before the line, and `above` is
-- the comment above it.
abbrev pub goes_on : (Progress → List ℕ → Pieces) → Progress → ℕ → List ℕ → Line → LineMeaning → Pieces
goes_on rest progress number above line Empty = rest progress []
goes_on rest progress number above line (Comment text) = rest progress text
goes_on rest progress number above line (Directive statement) =
    unless_at number (directive_fault progress statement)
    (after (Stated number statement) (rest (with_directive statement progress) []))
goes_on rest progress number above line QuietMark =
    unless_at number (entry_fault progress) (after (Mark number) (rest (record progress { begun = true }) []))
goes_on rest progress number above line (Message sender octets) =
    unless_at number (message_fault progress line octets)
    (after (Entry (record { sender = sender; octets = octets; line = number; comment = above }))
    (rest (record progress { begun = true }) []))
goes_on rest progress number above line Nothing = stopped (InLine number NoLine)

-- The pieces of these lines. `progress` was read before them, the first has this number, and `above` is the text of the
-- line above it if that is a comment.
abbrev pub pieces_in : Progress → ℕ → List ℕ → List Line → Pieces
pieces_in progress number above [] = no_more
pieces_in progress number above (line ∷ lines) =
    cond (nat_lt line_limit (length line.content)) (stopped (InLine number TooLong))
    (goes_on (λ progress above. pieces_in progress (further number 1) above lines) progress number above line
    (meaning_of line.content))

-- ---- the pieces of a record

-- an entry of a record
abbrev pub framed : Side → List ℕ → Piece
framed sender octets = Entry (record { sender = sender; octets = octets; line = 0; comment = [] })

-- The pieces of an entry, given its sender and the length of its element, if these can be read, and the pieces of the
-- octets after it. `octets` are those after the sender's octet, which has this offset.
abbrev pub framed_by : (ℕ → List ℕ → Pieces) → ℕ → List ℕ → Option Side → Result Outer Fault → Pieces
framed_by rest place octets None found = stopped (NoEnd place)
framed_by rest place octets (Some sender) (Ok (outers.Whole len)) =
    after (framed sender (take len octets)) (rest (further place (suc len)) (drop len octets))
framed_by rest place octets (Some sender) (Ok (outers.Need count)) = stopped (CutEntry place)
framed_by rest place octets (Some sender) (Err fault) =
    stopped (BadElement fault.reason (further place (1 + fault.place)))

-- The pieces of these octets of a record; the first octet has this offset. Each piece has an octet or more, so there
-- are at most as many pieces as octets (`most`).
abbrev pub frames_from : ℕ → ℕ → List ℕ → Pieces
frames_from zero place octets = no_more
frames_from (suc most) place [] = no_more
frames_from (suc most) place (octet ∷ octets) =
    cond (nat_eq octet quiet_octet) (after (Mark 0) (frames_from most (further place 1) octets))
    (framed_by (frames_from most) place octets (end_in octet) (outer_at octets))

-- ---- the form of a trace

-- a space, a tab or a decimal digit; no element has one of them as its tag in a message
abbrev pub is_blank_or_digit : ℕ → Bool
is_blank_or_digit octet = is_blank octet || (nat_le 48 octet && nat_le octet 57)

-- a line feed, a carriage return or a space
abbrev pub ends_a_mark : ℕ → Bool
ends_a_mark octet = nat_eq octet 10 || nat_eq octet 13 || nat_eq octet 32

-- Whether the trace is a record: it begins with `A` or `B` and no blank or digit after it, or with `Q` and nothing that
-- ends a line after it.
abbrev pub is_record : List ℕ → Bool
is_record [] = false
is_record (first ∷ []) = is_some (end_in first) || nat_eq first quiet_octet
is_record (first ∷ second ∷ more) =
    cond (is_some (end_in first)) (not (is_blank_or_digit second))
    (nat_eq first quiet_octet && not (ends_a_mark second))

-- the pieces of a trace with these octets
abbrev pub pieces_of : List ℕ → Pieces
pieces_of octets =
    cond (is_record octets) (frames_from (length octets) 0 octets) (pieces_in no_progress 1 [] (lines_of octets))
