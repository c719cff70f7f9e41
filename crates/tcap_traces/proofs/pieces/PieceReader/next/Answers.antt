use Rattle.tcap_traces.proofs.ReaderLaws.{returns_before}
use Rattle.tcap_traces.proofs.pieces.PieceReader.next.Goals as goal

pub returns-in-Lines-clause-returns : goal.returns-in-Lines-clause-returns
returns-in-Lines-clause-returns c =
    returns_before c.args.self.now c.decide.new.self c.next_line.result c.next_line.new.self c.decide.ensures.left c.decide.ensures.ended
    c.next_line.ensures.returns

pub returns-in-Record-clause-returns : goal.returns-in-Record-clause-returns
returns-in-Record-clause-returns c =
    returns_before c.args.self.now c.decide.new.self c.next_entry.result c.next_entry.new.self c.decide.ensures.left c.decide.ensures.ended
    c.next_entry.ensures.returns
