use Rattle.tcap_refute.specs.EarlierMessages.{since_quiet}
use Rattle.tcap_faults.proofs.transaction.lookup.MessageIds.first_kind.Goals as goal

pub returns : goal.returns
returns g c = λ side items is.
    let table = c.args.table.now in
    let m = g.M.MessageParts.meaning c.args.message.now in
    let xs = since_quiet items in
    c.first_kind.ensures side items (record {
      from_own = λ fact. c.first_own-own.ensures table side xs m fact is;
      from_peers = λ fact. c.first_from_peer-peers.ensures table side xs m fact is;
      has_ended = c.has_ended.ensures table side xs m is;
    })
