use Rattle.std.proofs.Common.{to_z-of_z}
use Rattle.tcap_faults.proofs.component.preceding_components.PrecedingComponents.is_overspent.Goals as goal

pub returns : goal.returns
returns c =
    rw (
      c.more.ensures,
      c.more-2.ensures,
      c.more-3.ensures,
      c.outgoing.ensures,
      c.outgoing-2.ensures,
      c.outgoing-3.ensures,
      to_z-of_z c.ranges.id,
    ) at c.is_more_answered.ensures
