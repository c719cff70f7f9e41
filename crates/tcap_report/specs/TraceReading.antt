-- Which pieces of a trace were read, and which are still to be read?
use Rattle.std.specs.Prelude.{◌≡◌, ◌⊎◌, ◌≤◌, ◌-◌, ◌^◌, ℕ, true, List, [], ◌++◌, length, None, Option, Result, Ok, Err}
use Rattle.std.specs.Io.KnownBytes.{Consumes, IsAtEnd}
use Rattle.tcap_traces.specs.declared.pieces.FormRule.{FormRule}
use Rattle.tcap_traces.specs.declared.pieces.Piece.{Piece as APiece}
use Rattle.tcap_traces.specs.declared.pieces.PieceReader.{PieceReader}
use Rattle.tcap_traces.specs.Dialogue.{EndAfter}
use Rattle.tcap_traces.specs.Pieces.{Piece, Pieces, no_more, pieces_of, stopped}
use Rattle.tcap_traces.specs.PieceReader.{NoMatterWhat, Returns as ReaderReturns, pieces_left}
use Rattle.tcap_traces.specs.TraceState.{after_pieces, ended, start}
use Rattle.tcap_report.specs.declared.fault.Halt.{Halt}
use Rattle.tcap_report.specs.declared.fault.Halt.TheVariants as halts
use Rattle.tcap_report.specs.declared.trace.Trace.{Trace}
use Rattle.tcap_report.specs.declared.trace.TraceOptions.{TraceOptions}
use Rattle.tcap_report.specs.Answer.{HasFault, IsCutShort, with_front}
use Rattle.tcap_report.specs.KeptState.{IsOver, IsReading, asked_of}

-- A piece is returned: it is the next one. None is returned: more octets are needed, or there are no more pieces. The
-- form of the trace has a fault, and no piece comes before it. Or the run stops.
abbrev pub Returns : PieceReader → Result (Option APiece) Halt → PieceReader → Type 0
Returns old (Ok piece) new = ReaderReturns old (Ok piece) new
Returns old (Err (halts.Form fault)) new =
    (rule : FormRule) × NoMatterWhat old (λ more. pieces_left old more ≡ stopped rule)
Returns old (Err (halts.Stop stop)) new = Unit {0}

-- The trace begins with the octets `read`. Its first pieces are `ps`, and those that the reader of pieces still returns
-- come after them, no matter which octets follow.
abbrev pub HasRead : List ℕ → List Piece → PieceReader → Type 0
HasRead read ps r = NoMatterWhat r (λ more. pieces_of (read ++ more) ≡ with_front ps (pieces_left r more))

-- Each piece so far was taken. Or the pieces `ps` were taken, and the form of the trace has a fault after them, or they
-- are 2 ^ 64 - 1 or more. Or the run stops.
abbrev pub ReadsOn : TraceOptions → List ℕ → Result (Unit {0}) Halt → PieceReader → Trace → Type 0
ReadsOn options read (Ok _) r t =
    (ps : List Piece) × HasRead read ps r × IsReading options (after_pieces (asked_of options) start ps) t
    × (r.ended ≡ true → pieces_left r [] ≡ no_more)
ReadsOn options read (Err (halts.Form fault)) r t =
    (ps : List Piece) × IsReading options (after_pieces (asked_of options) start ps) t
    × (((rule : FormRule) × NoMatterWhat r (λ more. pieces_of (read ++ more) ≡ with_front ps (stopped rule)))
    ⊎ ((2 ^ 64 - 1 ≤ length ps)
    × NoMatterWhat r (λ more. (rest : Pieces) × (pieces_of (read ++ more) ≡ with_front ps rest))))
ReadsOn options read (Err (halts.Stop stop)) r t = Unit {0}

-- All octets were read, all pieces were taken, and the last segment was judged. Or the trace is read no further. Or the
-- run stops.
abbrev pub Reads : TraceOptions → Option (List ℕ) → Option (List ℕ) → ℕ → ℕ → Result (Unit {0}) Halt → Trace → Type 0
Reads options remaining remaining' failures failures' (Ok _) t =
    (read : List ℕ) × Consumes remaining remaining' read × IsAtEnd remaining' × (failures' ≡ failures)
    × ((pieces_of read).fault ≡ None)
    × IsOver options (ended (asked_of options) EndAfter (after_pieces (asked_of options) start (pieces_of read).pieces))
    t
Reads options remaining remaining' failures failures' (Err (halts.Form fault)) t =
    (read : List ℕ) × Consumes remaining remaining' read × (ps : List Piece)
    × IsReading options (after_pieces (asked_of options) start ps) t
    × (HasFault remaining' read ps ⊎ IsCutShort remaining' failures failures' read ps)
Reads options remaining remaining' failures failures' (Err (halts.Stop stop)) t = Unit {0}

-- A fault of the form or of the reader, or too many octets.
abbrev pub IsFormHalt : Halt → Type 0
IsFormHalt (halts.Form fault) = Unit {0}
IsFormHalt (halts.Stop stop) = ⊥
