use Rattle.std.proofs.Common.{to_z-of_z}
use Rattle.tcap_refute.proofs.components.sent_with_id.Goals as goal

pub returns : goal.returns
returns c = rw c.in_ok-from.was (rw (to_z-of_z c.ranges.id) at c.get.ensures.value)
