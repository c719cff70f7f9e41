use Rattle.std.proofs.Common.{refl}
use Rattle.tcap_traces.proofs.pieces.PieceReader.new.Goals as goal

pub returns-clause-left : goal.returns-clause-left
returns-clause-left c = λ more. rw (c.new.ensures.items, c.new-2.ensures.items) refl
