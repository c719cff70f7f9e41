use Rattle.tcap_evidence.proofs.Common.{to_z-of_z}
use Rattle.tcap_evidence.proofs.ListingLaws.{with_all, with_more}
use Rattle.tcap_evidence.proofs.operations.invocations_in.Goals as goal

pub loop-one-preserved : goal.loop-one-preserved
loop-one-preserved c =
    with_more c.args.sent.now c.loop-one.one-index c.one-item.result c.loop-one-test.true c.one-item.is _ c.loop-one.invocations.items _
    c.in_ok-push_invokes.ensures c.loop-one.invariant

pub returns : goal.returns
returns c =
    rw (to_z-of_z c.ranges.id) at
    (with_all c.args.sent.now c.loop-one.one-index _ c.loop-one.invocations.items c.loop-one-test.false c.loop-one.invariant)
