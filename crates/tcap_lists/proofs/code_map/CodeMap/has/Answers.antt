use Rattle.std.proofs.Common.{is_some, ap, ◌∙◌}
use Rattle.tcap_lists.proofs.CodeMapLaws.{local_lookup, global_lookup}
use Rattle.tcap_lists.proofs.code_map.CodeMap.has.Goals as goal

pub returns-in-Local : goal.returns-in-Local
returns-in-Local g c =
    rw c.in-Local.is (c.contains_key.ensures
    ∙ ap is_some (local_lookup c.in-Local.local c.args.self.now.locals.entries c.args.self.now.globals.entries))

pub returns-in-Global : goal.returns-in-Global
returns-in-Global g c = rw c.in-Global.is ((rw c.as_slice.ensures.value at c.contains_key-in-Global.ensures)
    ∙ ap is_some (global_lookup c.in-Global.octets.items c.args.self.now.locals.entries c.args.self.now.globals.entries))
