use Rattle.tcap_msg.proofs.IdOrder.{keys_equal}
use Rattle.tcap_msg.proofs.transaction_id.TransactionIdPartialEq.eq.Goals as goal

pub returns : goal.returns
returns c =
    let a = c.key.ensures.octets in
    let b = c.key-2.ensures.octets in
    rw (c.key.ensures.value, c.key-2.ensures.value)
    (keys_equal c.args.self.now c.args.other.now a.0 b.0 a.1 b.1)
