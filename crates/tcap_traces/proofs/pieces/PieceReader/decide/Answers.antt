use Rattle.std.proofs.Common.{◌++◌, cond, length, sym, ap, ◌∙◌}
use Rattle.tcap_traces.specs.Pieces.{frames_from, lines_of, pieces_in}
use Rattle.tcap_traces.specs.PieceReader.{is_record_as, rest}
use Rattle.tcap_traces.proofs.pieces.PieceReader.decide.Goals as goal

pub returns-in-Unknown-clause-left : goal.returns-in-Unknown-clause-left
returns-in-Unknown-clause-left c = λ more ended.
    let r = c.args.self.now in
    let octets = rest r ++ more in
    ap (λ b. cond b (frames_from (length octets) r.place octets) (pieces_in r.progress r.line r.comment.items (lines_of octets)))
    (rw c.rest.ensures at (c.form_of-self.ensures.«record» more ended) ∙ ap (λ f. is_record_as f octets) (sym c.in-Unknown.is))
