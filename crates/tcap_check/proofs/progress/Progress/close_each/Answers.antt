use Rattle.std.proofs.Common.{◌∷◌, ap, sym, drop, ◌+◌, ◌∙◌, arith}
use Rattle.tcap_end.specs.Step.{◌>>=◌}
use Rattle.tcap_check.specs.ReplaySteps.{halves_shut}
use Rattle.tcap_check.specs.RefusedReplay.{halves_left}
use Rattle.tcap_check.proofs.progress_laws.KeptLeft.{going_next, left_behind, same_next}
use Rattle.tcap_check.proofs.progress.Progress.close_each.Goals as goal

pub loop-name-preserved : goal.loop-name-preserved
loop-name-preserved c =
    let table = c.args.table.now in
    let side = c.args.side in
    let number = c.args.number in
    let names = c.args.names.now in
    let now = c.loop-name.self in
    let next = c.close_half.new.self in
    let left = drop (c.loop-name.name-index + 1) names in
    let grows = c.in_ok-close_half.ensures.grows in
    record {
      going = going_next (halves_shut side table number) c.args.self.now names now next c.loop-name.name-index c.name-item.result
          c.loop-name.invariant.going c.loop-name-test.true
          (ap (λ name. halves_shut side table number (name ∷ left) now) (sym (c.copy_name.ensures ∙ c.name-item.is))
          ∙ ap (λ o. o >>= halves_shut side table number left) c.in_ok-close_half.ensures.closed) (omega (arith, grows));
      left = same_next (halves_left side table number) c.args.self.now names now next c.loop-name.name-index c.name-item.result
          c.loop-name.invariant.left c.loop-name-test.true
          (ap (λ name. halves_left side table number (name ∷ left) now) (sym (c.copy_name.ensures ∙ c.name-item.is))
          ∙ left_behind _ now next (halves_left side table number left) c.in_ok-close_half.ensures.closed);
    }
