use Rattle.tcap_evidence.proofs.Common.{to_z-of_z, string_bytes, invocation_line}
use Rattle.std.proofs.Common.{of_z, to_z, w8}
use Rattle.tcap_evidence.proofs.TextLaws.{lines_all, lines_more}
use Rattle.tcap_evidence.proofs.operation_lines.push_first.Goals as goal

pub loop-invocation-preserved : goal.loop-invocation-preserved
loop-invocation-preserved c =
    lines_more (invocation_line c.args.table.now (to_z w8 (of_z w8 c.args.id))) c.args.invocations.now
    c.loop-invocation.invocation-index c.invocation-item.result c.loop-invocation-test.true c.invocation-item.is
    (string_bytes c.loop-invocation.text) (string_bytes c.push_invocation.new.text) c.in_ok-push_invocation.ensures
    c.loop-invocation.invariant

pub returns : goal.returns
returns c =
    rw (to_z-of_z c.ranges.id) at
    (lines_all (invocation_line c.args.table.now (to_z w8 (of_z w8 c.args.id))) c.args.invocations.now
    c.loop-invocation.invocation-index (string_bytes c.loop-invocation.text) c.loop-invocation-test.false c.loop-invocation.invariant)
