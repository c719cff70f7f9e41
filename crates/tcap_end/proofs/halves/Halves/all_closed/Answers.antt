use Rattle.std.proofs.Common.{◌∙◌}
use Rattle.tcap_end.proofs.AllPlacedLaws.{closed_where_empty}
use Rattle.tcap_end.proofs.halves.Halves.all_closed.Goals as goal

pub returns : goal.returns
returns c = c.is_empty.ensures ∙ closed_where_empty c.args.self.now c.requires.held c.requires.placed
