use Rattle.std.proofs.Common.{length, sym, ap, ◌∙◌, arith}
use Rattle.tcap_ber.specs.WalkResult.{stopped}
use Rattle.tcap_ber.proofs.WalkLaws.{goes_sound, left_shorter, stops, stops_goes, stops_there}
use Rattle.tcap_ber.proofs.innermost.stopped.Goals as goal

pub loop-next-preserved : goal.loop-next-preserved
loop-next-preserved c =
    let g = goes_sound c.loop-next.progress c.in-Some.next c.loop-next.rest.now (sym c.in-Some.ensures.exact) in (
      c.loop-next.invariant.0 ∙ stops_goes c.loop-next.progress c.in-Some.next c.loop-next.rest.now g ∙ ap (stops c.in-Some.next) (sym c.left-rest.ensures),
      c.in-Some.ensures.placed.0,
      λ none. absurd (omega (arith, none, c.in-Some.ensures.placed.1)),
      omega (arith, ap length c.left-rest.ensures, left_shorter c.loop-next.progress c.in-Some.next c.loop-next.rest.now g, g.some, c.loop-next.invariant.3),
    )

pub returns : goal.returns
unfolding stopped
returns c = record { exact = sym (c.loop-next.invariant.0 ∙ stops_there c.loop-next.progress c.loop-next.rest.now (sym c.in_default.ensures.exact)) }
