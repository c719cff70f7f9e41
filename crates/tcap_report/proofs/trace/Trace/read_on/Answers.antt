use Rattle.std.proofs.Common.{arith, Ok, Option, sym, subst, ◌∙◌}
use Rattle.std.proofs.lemmas.Result.{err_from_is_err_and}
use Rattle.tcap_traces.specs.declared.pieces.Piece.{Piece}
use Rattle.tcap_report.specs.TraceReading.{Returns}
use Rattle.tcap_report.proofs.ReadLaws.{fault_met, none_read, piece_taken, too_many}
use Rattle.tcap_report.proofs.trace.Trace.read_on.Goals as goal

pub returns-in_err-piece-clause-reads : goal.returns-in_err-piece-clause-reads
returns-in_err-piece-clause-reads g c = λ options read ps has reading.
    let (those, front, at, few) = c.loop.invariant.reads options read ps has reading in
    let p = err_from_is_err_and c.from_residual.result c.from_residual.ensures.1 in
    rw (p.1, p.2) (fault_met options read those c.in_err-piece.field-0.0 c.loop.octets.pieces c.next.new.self.pieces c.loop.self
    c.in_err-piece.ensures.ended front at c.in_err-piece.ensures.returns)

pub returns-in-None-clause-reads : goal.returns-in-None-clause-reads
returns-in-None-clause-reads g c = λ options read ps has reading.
    let (those, front, at, few) = c.loop.invariant.reads options read ps has reading in
    let (stays, none) = subst (λ (x : Option Piece). Returns c.loop.octets.pieces (Ok x) c.next.new.self.pieces) c.in-None.is c.in_ok-piece.ensures.returns in (
      those,
      none_read read those c.loop.octets.pieces c.next.new.self.pieces c.in_ok-piece.ensures.ended front stays,
      at,
      λ is. none (sym c.in_ok-piece.ensures.ended ∙ is),
    )

pub loop-preserved : goal.loop-preserved
loop-preserved g c = record {
  reads = λ options read ps has reading.
      let (those, front, at, few) = c.loop.invariant.reads options read ps has reading in
      let returns = subst (λ (x : Option Piece). Returns c.loop.octets.pieces (Ok x) c.next.new.self.pieces) c.in-Some.is c.in_ok-piece.ensures.returns in
      let (more, next, then, longer) =
      piece_taken options read those c.in-Some.piece c.loop.octets.pieces c.next.new.self.pieces c.take_piece.new.self c.loop.counter
      c.in_ok-piece.ensures.ended front returns (c.in_default.ensures.reading options _ at) few in
      (more, next, then, omega (longer, arith));
  ended = c.in_ok-piece.ensures.ended ∙ c.loop.invariant.ended;
  same_sum = c.in_default.ensures.same_sum ∙ c.loop.invariant.same_sum;
}

pub returns-in_err-unreadable-clause-reads : goal.returns-in_err-unreadable-clause-reads
returns-in_err-unreadable-clause-reads g c = λ options read ps has reading.
    let p = err_from_is_err_and c.from_residual-in_err-unreadable.result c.from_residual-in_err-unreadable.ensures.1 in
    rw (p.1, p.2) tt

pub returns-clause-reads : goal.returns-clause-reads
returns-clause-reads g c = λ options read ps has reading.
    let (those, front, at, few) = c.loop.invariant.reads options read ps has reading in
    too_many options read those c.in_ok-unreadable.field-0 c.loop.octets.pieces c.loop.self c.in_ok-unreadable.ensures front at
    (omega (few, c.loop-test.false, arith))
