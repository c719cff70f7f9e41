use Rattle.std.proofs.Common.{true, ◌∙◌}
use Rattle.tcap_refute.proofs.AskLaws.{kind_kept}
use Rattle.tcap_refute.proofs.first_kinds.first_kind.Goals as goal

pub returns : goal.returns
returns g c = λ side items are. c.kind_by.ensures
    ∙ kind_kept true c.args.table.now items side (g.M.MessageParts.meaning c.args.message.now) _ _ _ are
