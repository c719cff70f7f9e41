use Rattle.std.proofs.Common.{to_z-of_z}
use Rattle.tcap_faults.proofs.component.linked_invokes.one_has.Goals as goal

pub returns-in-Response : goal.returns-in-Response
returns-in-Response c = rw c.in-Response.is (rw (to_z-of_z c.ranges.id) at c.one_is_none.ensures)

pub returns-in-Operation : goal.returns-in-Operation
returns-in-Operation c = rw c.in-Operation.is (rw (to_z-of_z c.ranges.id) at c.one_is_other.ensures)
