use Rattle.std.proofs.Common.{refl}
use Rattle.tcap_refute.proofs.SetLaws.{global_added}
use Rattle.tcap_refute.proofs.codes.CodeSets.add.Goals as goal

pub returns-in_ok-insert-in-Global : goal.returns-in_ok-insert-in-Global
returns-in_ok-insert-in-Global c = rw c.in-Global.is
    (global_added c.args.self.now _ c.in-Global.id.octets.now c.in_ok-from_slice-in-Global.field-0
    c.in_ok-from_slice-in-Global.ensures.items c.in_ok-insert-in-Global.ensures.keys refl)
