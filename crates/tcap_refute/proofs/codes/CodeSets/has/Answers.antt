use Rattle.std.proofs.Common.{to_z-of_z, SFits, w32, rules}
use Rattle.tcap_refute.proofs.codes.CodeSets.has.Goals as goal

pub returns-in-Local : goal.returns-in-Local
returns-in-Local c =
    let fits : SFits w32 c.in-Local.local = search rules in
    rw c.in-Local.is (rw (to_z-of_z fits) at c.contains.ensures)
