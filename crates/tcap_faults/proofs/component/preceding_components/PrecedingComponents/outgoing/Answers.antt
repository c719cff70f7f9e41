use Rattle.std.proofs.Common.{to_z-of_z, ◌∙◌, ap₂}
use Rattle.tcap_faults.specs.InvokeCounts.{sum}
use Rattle.tcap_faults.proofs.component.preceding_components.PrecedingComponents.outgoing.Goals as goal

pub returns : goal.returns
returns c =
    let same = to_z-of_z c.ranges.id in
    c.more.ensures ∙ ap₂ sum (rw (c.deref.ensures.value, same) at c.count.ensures) (rw same at c.count-2.ensures)
