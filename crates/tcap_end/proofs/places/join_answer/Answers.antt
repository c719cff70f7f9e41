use Rattle.std.proofs.Common.{◌<◌, length, arith, ap}
use Rattle.std.specs.Prelude.{is_some}
use Rattle.tcap_lists.proofs.ItemLaws.{get_within}
use Rattle.tcap_end.proofs.places.join_answer.Goals as goal

pub join-requires : goal.join-requires
join-requires c =
    let count = c.kinds.ensures.count in
    let below : c.in-Some.kind < length c.kinds.result.now =
    get_within c.kinds.result.now c.in-Some.kind (ap is_some (c.kind_of_answer.ensures c.in-Some.kind c.in-Some.is)) in
    omega (arith, below, count)
