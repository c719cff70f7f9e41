use Rattle.std.proofs.Common.{ℕ, length, sym, ap, ◌∙◌, arith}
use Rattle.tcap_ber.specs.WalkResult.{last_opened}
use Rattle.tcap_ber.proofs.WalkLaws.{goes_sound, left, left_shorter, notes, notes_goes, notes_there}
use Rattle.tcap_ber.proofs.innermost.last_opened.Goals as goal

pub loop-next-preserved : goal.loop-next-preserved
loop-next-preserved c =
    let g = goes_sound c.loop-next.progress c.in-Some.next c.loop-next.rest.now (sym c.in-Some.ensures.exact) in (
      c.loop-next.invariant.0 ∙ notes_goes c.args.depth c.loop-next.noted c.loop-next.progress c.in-Some.next c.loop-next.rest.now g
          ∙ ap (λ (n : ℕ). notes c.args.depth n c.in-Some.next (left c.loop-next.progress c.in-Some.next c.loop-next.rest.now)) (sym c.note-noted.ensures)
          ∙ ap (notes c.args.depth c.note-noted.result c.in-Some.next) (sym c.left-rest.ensures),
      c.in-Some.ensures.placed.0,
      λ none. absurd (omega (arith, none, c.in-Some.ensures.placed.1)),
      omega (arith, ap length c.left-rest.ensures, left_shorter c.loop-next.progress c.in-Some.next c.loop-next.rest.now g, g.some, c.loop-next.invariant.3),
    )

pub returns : goal.returns
unfolding last_opened
returns c = record { exact = sym (c.loop-next.invariant.0 ∙ notes_there c.args.depth c.loop-next.noted c.loop-next.progress c.loop-next.rest.now (sym c.in_default.ensures.exact)) }
