use Rattle.std.proofs.Common.{◌∙◌, to_z-of_z, SFits, w32, rules}
use Rattle.tcap_lists.proofs.CodeMapLaws.{local_lookup, global_lookup}
use Rattle.tcap_lists.proofs.code_map.CodeMap.get.Goals as goal

pub returns-in-Local : goal.returns-in-Local
returns-in-Local g c =
    let fits : SFits w32 c.in-Local.local = search rules in
    rw c.in-Local.is ((rw (to_z-of_z fits) at c.get.ensures.value)
    ∙ local_lookup c.in-Local.local c.args.self.now.locals.entries c.args.self.now.globals.entries)

pub returns-in-Global : goal.returns-in-Global
returns-in-Global g c =
    rw c.in-Global.is (c.get-in-Global.ensures.value
    ∙ global_lookup c.in-Global.id.octets.now c.args.self.now.locals.entries c.args.self.now.globals.entries)
