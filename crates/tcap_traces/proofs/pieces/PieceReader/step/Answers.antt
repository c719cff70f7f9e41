use Rattle.std.proofs.Common.{◌≡◌, [], ◌++◌, arith, drop, length, sym, ap, ◌∙◌}
use Rattle.std.proofs.lemmas.List.{length-drop}
use Rattle.std.proofs.lemmas.Result.{err_from_is_err_and}
use Rattle.tcap_traces.specs.Directive.{statement_of}
use Rattle.tcap_traces.specs.Pieces.{Comment, Directive, Line, Stated, after, further, lines_of, meaning_of, pieces_in, with_directive}
use Rattle.tcap_traces.specs.PieceReader.{line_as, rest}
use Rattle.tcap_traces.proofs.ReaderLaws.{directive_refused, left_after, step_line, unfinished_steps}
use Rattle.tcap_traces.proofs.pieces.PieceReader.step.Goals as goal

pub returns-in_default-clause-steps : goal.returns-in_default-clause-steps
returns-in_default-clause-steps c =
    unfinished_steps c.args.self.now c.unfinished.result c.requires.lines c.in_default.ensures.0 c.in_default.ensures.1
    c.unfinished.ensures.short c.unfinished.ensures.long

pub returns-in_ok-comment-in-Comment-clause-steps : goal.returns-in_ok-comment-in-Comment-clause-steps
returns-in_ok-comment-in-Comment-clause-steps c =
    let r = c.args.self.now in
    let new = c.pass-in-Comment.new.self in
    let front = c.in-Some.line in
    let line : Line = record { content = front.content.now; ended = front.ended } in
    let found = c.in-Some.ensures in
    let text = c.in-Comment.text.now in
    let means : meaning_of line.content ≡ Comment text =
    sym c.in_ok-read_trace_line.ensures ∙ ap line_as c.in-Comment.is in
    let same = c.pass-in-Comment.ensures.same in
    rw c.pass-in-Comment.ensures.skipped (
      λ more ended.
          step_line r more line front.count (Comment text) c.requires.lines (found.2 more ended) (omega (c.if-line-gt-LINE_LIMIT.false, arith)) means
          ∙ left_after r new more front.count r.progress text (ap (λ s. s.form) same ∙ c.requires.lines) c.pass-in-Comment.ensures.rest
          c.pass-in-Comment.ensures.line (ap (λ s. s.progress) same) (ap (λ s. s.comment.items) same ∙ c.in_ok-comment-in-Comment.ensures),
      omega (ap length c.pass-in-Comment.ensures.rest, length-drop front.count (rest r), found.0, found.1, arith),
    )

pub returns-in_err-piece-in-Directive-clause-steps : goal.returns-in_err-piece-in-Directive-clause-steps
returns-in_err-piece-in-Directive-clause-steps c =
    let r = c.args.self.now in
    let front = c.in-Some.line in
    let line : Line = record { content = front.content.now; ended = front.ended } in
    let found = c.in-Some.ensures in
    let statement = statement_of c.in-Directive.stated in
    let means : meaning_of line.content ≡ Directive statement =
    sym c.in_ok-read_trace_line.ensures ∙ ap line_as c.in-Directive.is in
    let p = err_from_is_err_and c.from_residual-in_err-piece-in-Directive.result c.from_residual-in_err-piece-in-Directive.ensures.1 in
    rw (p.1, p.2) (directive_refused r statement
    (λ more. after (Stated r.line statement)
    (pieces_in (with_directive statement r.progress) (further r.line 1) [] (lines_of (drop front.count (rest r) ++ more))))
    c.in_err-piece-in-Directive.field-0.0 c.in_err-piece-in-Directive.ensures
    (λ more ended. step_line r more line front.count (Directive statement) c.requires.lines (found.2 more ended)
    (omega (c.if-line-gt-LINE_LIMIT.false, arith)) means))
