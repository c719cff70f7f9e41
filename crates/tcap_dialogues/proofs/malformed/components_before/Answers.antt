use Rattle.std.proofs.Common.{◌≡◌, ◌++◌, ◌∷◌, [], sym, ap, ◌∙◌}
use Rattle.tcap_ber.specs.Reading.{span}
use Rattle.tcap_parts.specs.Meaning.{component_of}
use Rattle.tcap_dialogues.proofs.SoundLaws.{component_shorter, read_step, with_read}
use Rattle.tcap_dialogues.proofs.malformed.components_before.Goals as goal

pub loop-component-smaller : goal.loop-component-smaller
loop-component-smaller c =
    component_shorter (span c.loop-component.rest) (component_of c.in-Ok.component, span c.in-Ok.behind) c.in-Ok.ensures.exact

pub loop-component-preserved : goal.loop-component-preserved
loop-component-preserved c = record {
  read = c.loop-component.invariant.read
      ∙ read_step c.loop-component.components.items (span c.loop-component.rest) (component_of c.in-Ok.component, span c.in-Ok.behind) c.in-Ok.ensures.exact
      ∙ ap (λ item. with_read (c.loop-component.components.items ++ item ∷ []) (span c.in-Ok.behind)) (sym c.in_ok-to_component.ensures.made)
      ∙ ap (λ items. with_read items (span c.in-Ok.behind)) (sym c.in_ok-push.ensures.items);
}
