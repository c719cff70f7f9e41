use Rattle.std.proofs.Common.{rules, arith, ◌≡◌, inl, inr, ◌++◌, true, take, sym, ap, ◌∙◌}
use Rattle.std.specs.Io.KnownBytes.{IsAtEnd}
use Rattle.std.proofs.KnownBytes.{Consumes-kept, Consumes-trans}
use Rattle.std.proofs.lemmas.Result.{err_from_is_err_and}
use Rattle.std.proofs.lemmas.List.{length-append, length-take}
use Rattle.tcap_ber.specs.Device.{one_more}
use Rattle.tcap_traces.specs.Pieces.{is_nothing}
use Rattle.tcap_report.specs.KeptState.{no_id}
use Rattle.tcap_report.proofs.ReadLaws.{cut_short, none_taken, octets_read, reading_stopped, some_taken, whole_read}
use Rattle.tcap_report.proofs.trace.Trace.read_all.Goals as goal

pub returns-in_err-unreadable-in-Err-clause-reads : goal.returns-in_err-unreadable-in-Err-clause-reads
returns-in_err-unreadable-in-Err-clause-reads g c = λ options reading.
    let p = err_from_is_err_and c.from_residual.result c.from_residual.ensures.1 in rw (p.1, p.2) tt

pub returns-in-Err-clause-reads : goal.returns-in-Err-clause-reads
returns-in-Err-clause-reads g c = λ options reading.
    let (read, those, ps, front, at, few) = c.loop.invariant.reads options reading in
    cut_short options _ _ _ _ read ps c.loop.octets.pieces c.in_ok-unreadable-in-Err.field-0 c.loop.self c.in_ok-unreadable-in-Err.ensures
    (Consumes-kept _ _ _ read those c.in-Err.ensures.tells) front c.loop.invariant.unended at
    (inl (c.in-Err.ensures.counts ∙ ap one_more c.loop.invariant.none_failed))

pub returns-in_err-feed-clause-reads : goal.returns-in_err-feed-clause-reads
returns-in_err-feed-clause-reads g c = λ options reading.
    let p = err_from_is_err_and c.from_residual-in_err-feed.result c.from_residual-in_err-feed.ensures.1 in rw (p.1, p.2) tt

pub returns-in_err-read_on-clause-reads : goal.returns-in_err-read_on-clause-reads
returns-in_err-read_on-clause-reads g c = λ options reading.
    let (read, those, ps, front, at, few) = c.loop.invariant.reads options reading in
    let p = err_from_is_err_and c.from_residual-in_err-read_on.result c.from_residual-in_err-read_on.ensures.1 in
    let octets = take c.in-Ok.returned c.read.new.buffer in
    let end : c.read_on.new.octets.pieces.ended ≡ true → IsAtEnd (g.R.Read.remaining c.read.new.self) = λ is.
    c.in-Ok.ensures.end (none_taken c.in-Ok.returned c.read.new.buffer c.in-Ok.ensures.within
    (sym c.in_ok-feed.ensures.ended ∙ sym c.in_err-read_on.ensures.ended ∙ is)) (search rules) in
    rw (p.1, p.2) (reading_stopped options _ _ _ _ (read ++ octets) c.read_on.new.octets.pieces c.in_err-read_on.field-0.0 c.read_on.new.self
    (Consumes-trans _ _ _ read octets those c.in-Ok.ensures.tells) end
    (c.in_err-read_on.ensures.reads options (read ++ octets) ps
    (octets_read read octets ps c.loop.octets.pieces c.feed.new.self.pieces c.loop.invariant.unended front c.in_ok-feed.ensures.left) at))

pub returns-in_err-flush-clause-reads : goal.returns-in_err-flush-clause-reads
returns-in_err-flush-clause-reads g c = λ options reading.
    let p = err_from_is_err_and c.from_residual-in_err-flush.result c.from_residual-in_err-flush.ensures.1 in rw (p.1, p.2) tt

pub returns-in-Ok-judge_live-clause-reads : goal.returns-in-Ok-judge_live-clause-reads
returns-in-Ok-judge_live-clause-reads g c = λ options reading.
    let (read, those, ps, front, at, few) = c.loop.invariant.reads options reading in
    let octets = take c.in-Ok.returned c.read.new.buffer in
    let none : c.in-Ok.returned ≡ 0 = omega (c.if-returned-eq0.true, arith) in
    let ended = c.in_ok-read_on.ensures.ended ∙ c.in_ok-feed.ensures.ended ∙ ap (λ n. is_nothing (take n c.read.new.buffer)) none in
    let (more, next, then, last) = c.in_ok-read_on.ensures.reads options (read ++ octets) ps
    (octets_read read octets ps c.loop.octets.pieces c.feed.new.self.pieces c.loop.invariant.unended front c.in_ok-feed.ensures.left) at in
    let (no_fault, over) = whole_read options (read ++ octets) more c.read_on.new.octets.pieces c.judge_live.new.self next (last ended)
    (c.in-Ok-judge_live.ensures.keeps options _ no_id then) in (
      read ++ octets,
      Consumes-trans _ _ _ read octets those c.in-Ok.ensures.tells,
      c.in-Ok.ensures.end none (search rules),
      c.in-Ok.ensures.counts ∙ c.loop.invariant.none_failed,
      no_fault,
      over,
    )

pub loop-preserved : goal.loop-preserved
loop-preserved g c = record {
  reads = λ options reading.
      let (read, those, ps, front, at, few) = c.loop.invariant.reads options reading in
      let octets = take c.in-Ok.returned c.read.new.buffer in
      let (more, next, then, last) = c.in_ok-read_on.ensures.reads options (read ++ octets) ps
      (octets_read read octets ps c.loop.octets.pieces c.feed.new.self.pieces c.loop.invariant.unended front c.in_ok-feed.ensures.left) at in (
        read ++ octets,
        Consumes-trans _ _ _ read octets those c.in-Ok.ensures.tells,
        more,
        next,
        then,
        let joined = length-append read octets in
            let some = length-take c.in-Ok.returned c.read.new.buffer in
            omega (joined, some, c.in-Ok.ensures.within, c.if-returned-eq0.false, few, arith),
      );
  unended = c.in_ok-read_on.ensures.ended ∙ c.in_ok-feed.ensures.ended
      ∙ some_taken c.in-Ok.returned c.read.new.buffer (omega (c.if-returned-eq0.false, arith)) c.in-Ok.ensures.within;
  none_failed = c.in-Ok.ensures.counts ∙ c.loop.invariant.none_failed;
  same_sum = search rules;
}

pub returns-in_err-unreadable-clause-reads : goal.returns-in_err-unreadable-clause-reads
returns-in_err-unreadable-clause-reads g c = λ options reading.
    let p = err_from_is_err_and c.from_residual-in_err-unreadable.result c.from_residual-in_err-unreadable.ensures.1 in rw (p.1, p.2) tt

pub returns-clause-reads : goal.returns-clause-reads
returns-clause-reads g c = λ options reading.
    let (read, those, ps, front, at, few) = c.loop.invariant.reads options reading in
    cut_short options _ _ _ _ read ps c.loop.octets.pieces c.in_ok-unreadable.field-0 c.loop.self c.in_ok-unreadable.ensures those front
    c.loop.invariant.unended at (inr (inl (omega (few, c.loop-test.false, arith))))
