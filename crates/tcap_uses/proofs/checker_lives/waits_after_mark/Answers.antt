use Rattle.std.proofs.Common.{[], ◌∷◌, Ok, refl, ◌∙◌}
use Rattle.tcap_model.specs.World.{Item}
use Rattle.tcap_uses.proofs.MarkLaws.{is_kept, none_ahead}
use Rattle.tcap_uses.proofs.checker_lives.waits_after_mark.Goals as goal

pub returns-in-Ok-marked : goal.returns-in-Ok-marked
returns-in-Ok-marked c =
    let s = c.mark-marked.new.self in (
      c.pending-waiting.ensures.ahead (Ok Item.Quiet ∷ []) (c.in-Ok-marked.ensures.took [] c.in-Ok.ensures.took.0 (λ e. cc))
          (is_kept s.so_far c.in-Ok-marked.ensures.answers)
          ∙ none_ahead s.judged s.certificate.fates,
      refl,
    )
