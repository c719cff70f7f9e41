use Rattle.std.proofs.Common.{ap}
use Rattle.std.specs.Prelude.{is_some}
use Rattle.tcap_lists.specs.Lists.{row_kinds}
use Rattle.tcap_lists.proofs.ItemLaws.{get_within}
use Rattle.tcap_end.proofs.places.join_invocation.Goals as goal

pub join-requires : goal.join-requires
join-requires c =
    get_within (row_kinds c.args.row.now) c.in-Some.kind (ap is_some (c.kind_of_invocation.ensures c.in-Some.kind c.in-Some.is))
