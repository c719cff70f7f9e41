use Rattle.std.proofs.Common.{to_z-of_z}
use Rattle.tcap_faults.proofs.component_laws.CountTests.{some_last}
use Rattle.tcap_faults.proofs.component.preceding_components.PrecedingComponents.is_busy.Goals as goal

pub returns : goal.returns
returns c =
    let same = to_z-of_z c.ranges.id in
    some_last c.is_less.result _ _ _ _ _ _ _ _ _ _ _ _ _ _ c.if-all-eq0.false c.is_less.ensures
    (rw same at c.invoked-all.ensures) (rw same at c.invoked-of_1.ensures) (rw same at c.invoked-of_3.ensures)
    (rw same at c.ends.ensures) (rw same at c.all_outgoing.ensures) (rw same at c.all_outgoing-2.ensures)
    (rw same at c.incoming.ensures)
