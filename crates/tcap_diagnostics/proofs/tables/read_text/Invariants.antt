use Rattle.std.specs.Io.KnownBytes.{Consumes}
use Rattle.tcap_diagnostics.proofs.tables.read_text.Given as goal

-- The text so far is what the reader returned.
abbrev pub invariant-loop : goal.invariant-loop
invariant-loop g l = Consumes (g.R.Read.remaining l.fn.reader) (g.R.Read.remaining l.reader) l.text.items
