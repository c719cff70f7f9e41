use mir.Syntax.{w8}
use Rattle.std.proofs.Common.{sym}
use Rattle.std.proofs.lemmas.Int.{to_z-of_z}
use Rattle.tcap_lists.proofs.ListLaws.{got_none, got_row}
use Rattle.tcap_lists.proofs.lists.Lists.get.Goals as goal

pub returns-in-Some : goal.returns-in-Some
returns-in-Some g c =
    rw c.deref.ensures (sym (got_row c.args.id c.args.self.now c.in-Some.row.now (rw (to_z-of_z w8 c.args.id c.ranges.id) at c.in-Some.ensures.value)))

pub returns-in-None : goal.returns-in-None
returns-in-None g c = got_none c.args.id c.args.self.now (rw (to_z-of_z w8 c.args.id c.ranges.id) at c.in-None.ensures.value)
