use Rattle.std.proofs.Common.{map}
use Rattle.tcap_model.specs.Entries.{item_of}
use Rattle.tcap_refute.proofs.RefutedLaws.{named_by_kind}
use Rattle.tcap_refute.proofs.refuting.refute.Goals as goal

pub returns-clause-bad : goal.returns-clause-bad
returns-clause-bad c =
    named_by_kind c.args.table.now (map item_of c.args.«record».now.entries.items) c.first_refuted.result c.first_refuted.ensures
