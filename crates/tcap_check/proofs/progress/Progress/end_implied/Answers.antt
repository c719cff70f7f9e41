use Rattle.std.proofs.Common.{arith, ap, length, ◌≡◌, suc, zero}
use Rattle.tcap_parts.specs.Meaning.{components_left}
use Rattle.tcap_msg.specs.Parts.{components_in}
use Rattle.tcap_certificate.specs.DescribedRun.{invoking_half}
use Rattle.tcap_check.proofs.checker_laws.SendingLaws.{ends_all, ends_more, ends_none}
use Rattle.tcap_check.proofs.progress.Progress.end_implied.Goals as goal

pub loop-component-init : goal.loop-component-init
loop-component-init g c =
    let message = g.M.MessageParts.meaning c.args.message.now in
    rw (c.into_iter-component-iterator.ensures.into_iter_gives, c.components-component-items.ensures)
    (ends_all c.args.table.now c.args.side (invoking_half message) (components_in message) c.args.self.now)

pub end_invoked-requires : goal.end_invoked-requires
end_invoked-requires g c =
    let left : length (components_left c.loop-component.component-iterator) ≡ suc (length (components_left c.next.new.self)) =
    ap length c.in-Some.ensures.steps in
    record { no_overflow = omega (arith, left, c.loop-component.invariant.room, c.requires.no_overflow) }

pub loop-component-preserved : goal.loop-component-preserved
loop-component-preserved g c =
    rw (c.in_ok-end_invoked.ensures.ended) (ends_more c.loop-component.invariant c.in-Some.ensures.steps)

pub returns : goal.returns
returns g c =
    let left : length (components_left c.loop-component.component-iterator) ≡ zero = ap length c.in-None.ensures.steps.0 in
    record {
      ended = ends_none c.loop-component.invariant c.in-None.ensures.steps.0;
      memory = tt;
      grows = omega (arith, left, c.loop-component.invariant.room);
      still = c.loop-component.invariant.still;
    }
