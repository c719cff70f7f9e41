use Rattle.std.proofs.Common.{◌≡◌, None, length, rules}
use Rattle.tcap_lists.proofs.RowLaws.{set_behind}
use Rattle.tcap_lists.proofs.row.Row.join.Goals as goal

pub returns-clause-joined : goal.returns-clause-joined
returns-clause-joined g c =
    let behind : c.len-at.result ≡ length c.args.self.now.places.items = search rules in
    rw (c.put_back.ensures.put, c.in_ok-grow.ensures.more, c.follow.ensures.places) (set_behind c.args.self.now.places.items None _ c.len-at.result behind)
