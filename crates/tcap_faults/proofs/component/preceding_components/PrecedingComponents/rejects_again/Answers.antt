use Rattle.std.proofs.Common.{to_z-of_z}
use Rattle.tcap_faults.proofs.component.preceding_components.PrecedingComponents.rejects_again.Goals as goal

pub returns-in-Invoke : goal.returns-in-Invoke
returns-in-Invoke c = rw c.in-Invoke.is (rw (to_z-of_z c.ranges.id) at c.is_overspent.ensures)
