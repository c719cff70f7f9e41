-- One more component.
use Rattle.std.proofs.Common.{◌==◌, ◌&&◌, ◌+◌, drop, ap, ◌∙◌}
use Rattle.tcap_model.specs.World.{is_side}
use Rattle.tcap_search.specs.ProposedCertificate.{last_invoke}
use Rattle.tcap_search.specs.InvocationMap.{kept_at}
use Rattle.tcap_search.proofs.SweepLaws.{invoke_end, invoke_step, kept_behind}
use Rattle.tcap_search.proofs.sweep.Sweep.note_invokes.Goals as goal

pub loop-place-preserved : goal.loop-place-preserved
loop-place-preserved c = record {
  noted = λ t s id.
      ap (kept_behind (t == c.args.transaction && is_side s c.args.side) c.args.number
      (last_invoke id (c.loop-place.place + 1) (drop (c.loop-place.place + 1) c.args.components.now)))
      (c.in_ok-note_invoke.ensures.noted t s id)
      ∙ invoke_step (t == c.args.transaction && is_side s c.args.side) c.args.number id c.args.components.now
      c.loop-place.place c.index-components-place.result (kept_at t s id c.loop-place.self.invokes)
      c.loop-place-test.true c.index-components-place.is
      ∙ c.loop-place.invariant.noted t s id;
  results = c.note_invoke.ensures.results ∙ c.loop-place.invariant.results;
  errors = c.note_invoke.ensures.errors ∙ c.loop-place.invariant.errors;
}

pub returns-clause-noted : goal.returns-clause-noted
returns-clause-noted c = λ t s id.
    invoke_end (t == c.args.transaction && is_side s c.args.side) c.args.number id c.args.components.now
    c.loop-place.place
    (kept_at t s id c.loop-place.self.invokes) c.loop-place-test.false
    ∙ c.loop-place.invariant.noted t s id
