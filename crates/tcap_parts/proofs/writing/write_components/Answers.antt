use Rattle.std.proofs.Common.{◌∙◌}
use Rattle.tcap_parts.proofs.WritingLaws.{wrote_next}
use Rattle.tcap_parts.proofs.writing.write_components.Goals as goal

pub loop-component-preserved : goal.loop-component-preserved
loop-component-preserved g c = record {
  wrote = wrote_next _ _ _ _ _ _ _ c.loop-component.invariant.wrote c.in-Some.ensures.steps c.in_ok-write_component.ensures.ok;
  count = c.in_ok-write_component.ensures.counts ∙ c.loop-component.invariant.count;
}
