use Rattle.tcap_faults.proofs.transaction_laws.JoinedIdsLaws.{has_if}
use Rattle.tcap_faults.proofs.transaction.history_update.insert_if.Goals as goal

pub returns-in_ok-insert : goal.returns-in_ok-insert
returns-in_ok-insert c =
    has_if c.args.id.octets.now c.args.so c.if-so.true c.args.set.now c.insert.new.self
    (rw c.to_transaction_id.ensures at c.in_ok-insert.ensures.updates.0)
