use Rattle.std.proofs.Common.{sym}
use Rattle.tcap_msg.proofs.IdOrder.{keys_ordered}
use Rattle.tcap_msg.proofs.transaction_id.TransactionIdOrd.cmp.Goals as goal

pub returns : goal.returns
returns c =
    let a = c.key.ensures.octets in
    let b = c.key-2.ensures.octets in
    rw (keys_ordered c.args.self.now c.args.other.now a.0 b.0 a.1 b.1)
    (rw (sym c.key.ensures.value, sym c.key-2.ensures.value) c.cmp.ensures)
