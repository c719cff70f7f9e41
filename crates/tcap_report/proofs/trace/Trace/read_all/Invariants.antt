-- The pieces of the octets so far were taken, and there may be more octets.
use Rattle.std.proofs.Common.{◌≡◌, ℕ, ◌≤◌, false, List, length}
use Rattle.std.specs.Io.KnownBytes.{Consumes}
use Rattle.tcap_traces.specs.Pieces.{Piece}
use Rattle.tcap_traces.specs.TraceState.{after_pieces, start}
use Rattle.tcap_report.specs.declared.trace.TraceOptions.{TraceOptions}
use Rattle.tcap_report.specs.KeptState.{IsReading, asked_of}
use Rattle.tcap_report.specs.TraceReading.{HasRead}
use Rattle.tcap_report.proofs.trace.Trace.read_all.Given as goal

abbrev pub invariant-loop : goal.invariant-loop
invariant-loop g l = record {
  reads : (options : TraceOptions) → IsReading options start l.fn.self
      → (read : List ℕ) × Consumes (g.R.Read.remaining l.fn.reader) (g.R.Read.remaining l.reader) read
      × (ps : List Piece) × HasRead read ps l.octets.pieces × IsReading options (after_pieces (asked_of options) start ps) l.self
      × (l.counter ≤ length read);
  unended : l.octets.pieces.ended ≡ false;
  none_failed : g.R.Read.failures l.reader ≡ g.R.Read.failures l.fn.reader;
  same_sum : l.sinks.sum ≡ l.fn.sinks.sum;
}
