use Rattle.std.proofs.Common.{◌∙◌}
use Rattle.tcap_refute.proofs.AskLaws.{component_kept}
use Rattle.tcap_refute.proofs.first_kinds.faulty_component.Goals as goal

pub returns : goal.returns
returns g c = λ side items told. c.component_of.ensures
    ∙ component_kept c.args.of_one c.args.table.now items side (g.M.MessageParts.meaning c.args.message.now) c.args.kind _ told
