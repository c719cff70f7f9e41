use Rattle.std.proofs.Common.{ap, ◌∙◌, ◌++◌, to_z-of_z, SFits, w32, rules}
use Rattle.tcap_lists.proofs.CodeMapLaws.{local_insert, global_insert, locals, globals}
use Rattle.tcap_lists.proofs.code_map.CodeMap.insert.Goals as goal

pub returns-in_ok-insert-in-Local : goal.returns-in_ok-insert-in-Local
returns-in_ok-insert-in-Local g c =
    let fits : SFits w32 c.in-Local.local = search rules in
    rw c.in-Local.is (ap (λ ls. locals ls ++ globals c.args.self.now.globals.entries)
    (rw (to_z-of_z fits) at c.in_ok-insert-in-Local.ensures.entries)
    ∙ local_insert c.in-Local.local c.args.value c.args.self.now.locals.entries c.args.self.now.globals.entries)

pub returns-in_ok-insert-in-Global : goal.returns-in_ok-insert-in-Global
returns-in_ok-insert-in-Global g c =
    rw c.in-Global.is (ap (λ gs. locals c.args.self.now.locals.entries ++ globals gs) c.in_ok-insert-in-Global.ensures.entries
    ∙ global_insert c.in-Global.octets c.args.value c.args.self.now.locals.entries c.args.self.now.globals.entries)
