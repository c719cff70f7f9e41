use mir.Syntax.{w8}
use Rattle.std.proofs.Common.{sym, ap}
use Rattle.std.proofs.lemmas.Int.{to_z-of_z}
use Rattle.std.specs.Prelude.{is_some}
use Rattle.tcap_lists.proofs.ListLaws.{made_keeps_kinds, made_keeps_rows, made_same}
use Rattle.tcap_lists.proofs.lists.Lists.make.Goals as goal

pub returns-clause-rows : goal.returns-clause-rows
returns-clause-rows g c =
    made_same c.args.id c.args.self.now c.insert.new.self.entries c.in_ok-row.row
    (rw (to_z-of_z w8 c.args.id c.ranges.id) at c.in_default.ensures.value)
    (rw (to_z-of_z w8 c.args.id c.ranges.id) at c.in_ok-insert.ensures.entries)
    (rw c.in_ok-row.ensures.ok c.new.ensures)

pub returns-clause-keeps : goal.returns-clause-keeps
returns-clause-keeps g c =
    let none = rw (to_z-of_z w8 c.args.id c.ranges.id) at c.in_default.ensures.value in
    let given = rw (to_z-of_z w8 c.args.id c.ranges.id) at c.in_ok-insert.ensures.entries in
    record {
      rows = made_keeps_rows c.args.id c.args.self.now c.insert.new.self.entries c.in_ok-row.row none given;
      kinds = made_keeps_kinds c.args.id c.args.self.now c.insert.new.self.entries c.in_ok-row.row none given;
    }

pub returns-in-Some-clause-made : goal.returns-in-Some-clause-made
returns-in-Some-clause-made g c = sym (ap is_some (rw (to_z-of_z w8 c.args.id c.ranges.id) at c.in-Some.ensures.value))
