use Rattle.tcap_lists.proofs.CodeMapLaws.{something_left}
use Rattle.tcap_lists.proofs.code_map.CodeMap.is_empty.Goals as goal

pub returns-else-is_empty : goal.returns-else-is_empty
returns-else-is_empty g c =
    something_left c.is_empty.result c.args.self.now.locals.entries c.args.self.now.globals.entries c.is_empty.ensures c.if-is_empty.false
