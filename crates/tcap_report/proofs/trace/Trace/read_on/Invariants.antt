-- The pieces so far are the first ones of the trace, and each was taken.
use Rattle.std.proofs.Common.{◌≡◌, ℕ, ◌≤◌, List, length}
use Rattle.tcap_traces.specs.Pieces.{Piece}
use Rattle.tcap_traces.specs.TraceState.{after_pieces, start}
use Rattle.tcap_report.specs.declared.trace.TraceOptions.{TraceOptions}
use Rattle.tcap_report.specs.KeptState.{IsReading, asked_of}
use Rattle.tcap_report.specs.TraceReading.{HasRead}
use Rattle.tcap_report.proofs.trace.Trace.read_on.Given as goal

abbrev pub invariant-loop : goal.invariant-loop
invariant-loop g l = record {
  reads : (options : TraceOptions) (read : List ℕ) (ps : List Piece) → HasRead read ps l.fn.octets.pieces
      → IsReading options (after_pieces (asked_of options) start ps) l.fn.self
      → (those : List Piece) × HasRead read those l.octets.pieces × IsReading options (after_pieces (asked_of options) start those) l.self
      × (l.counter ≤ length those);
  ended : l.octets.pieces.ended ≡ l.fn.octets.pieces.ended;
  same_sum : l.sinks.sum ≡ l.fn.sinks.sum;
}
