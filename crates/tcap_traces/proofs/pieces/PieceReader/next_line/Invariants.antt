-- The lines so far had no piece, so the pieces are those of the rest.
use Rattle.std.proofs.Common.{◌≡◌, ◌+◌, ◌≤◌, length}
use Rattle.tcap_traces.specs.declared.pieces.Form.TheVariants as forms
use Rattle.tcap_traces.specs.PieceReader.{NoMatterWhat, pieces_left, rest}
use Rattle.tcap_traces.proofs.pieces.PieceReader.next_line.Given as goal

abbrev pub invariant-loop : goal.invariant-loop
invariant-loop l = record {
  lines : l.self.form ≡ forms.Lines;
  ended : l.self.ended ≡ l.fn.self.ended;
  same : NoMatterWhat l.fn.self (λ more. pieces_left l.fn.self more ≡ pieces_left l.self more);
  shorter : length (rest l.self) + l.counter ≤ length (rest l.fn.self);
}
