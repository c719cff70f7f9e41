use Rattle.std.proofs.Common.{[], ◌++◌, drop, refl, sym, ap, ◌∙◌}
use Rattle.tcap_traces.specs.Pieces.{Line, first_content, lines_of}
use Rattle.tcap_traces.proofs.PieceLaws.{first_is, unended}
use Rattle.tcap_traces.proofs.pieces.PieceReader.line.Goals as goal

pub returns-in-Some : goal.returns-in-Some
returns-in-Some c =
    let octets = c.rest-octets.result.now in
    let front = c.in-Some.line in
    let line : Line = record { content = front.content.now; ended = front.ended } in
    sym (first_is octets line (lines_of (drop front.count octets ++ [])) (c.in-Some.ensures.2 [] (λ ended. refl)))
    ∙ ap (λ l. first_content (lines_of l)) c.rest-octets.ensures

pub returns-in-None : goal.returns-in-None
returns-in-None c =
    sym (unended c.rest-octets.result.now c.in-None.ensures.0) ∙ ap (λ l. first_content (lines_of l)) c.rest-octets.ensures
