use Rattle.tcap_faults.proofs.transaction_laws.KeyLaws.{set_more}
use Rattle.tcap_faults.proofs.transaction.history_update.insert_some.Goals as goal

pub returns-in_ok-insert : goal.returns-in_ok-insert
returns-in_ok-insert c = rw c.in-Some.is
    (set_more c.in-Some.id c.args.set.now c.insert.new.self c.in_ok-insert.ensures.updates.0)
