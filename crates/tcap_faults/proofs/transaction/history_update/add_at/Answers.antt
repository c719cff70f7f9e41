use Rattle.std.proofs.Common.{[]}
use Rattle.std.proofs.lemmas.Result.{on_ok_weaker}
use Rattle.tcap_faults.proofs.transaction_laws.JoinedIdsLaws.{gets_made, gets_written}
use Rattle.tcap_faults.proofs.transaction_laws.JoinStepLaws.{on_ok_each}
use Rattle.tcap_faults.proofs.transaction.history_update.add_at.Goals as goal

pub returns-in-Some : goal.returns-in-Some
returns-in-Some c =
    on_ok_weaker c.add.result
    (gets_written c.args.id.octets.now c.args.key.octets.now c.args.map.now (c.get_mut.follows.lender c.add.new.self)
    c.in-Some.ids.now c.add.new.self (rw c.to_transaction_id-key.ensures at c.in-Some.ensures.value)
    (rw c.to_transaction_id-key.ensures at (c.get_mut.follows.holds c.add.new.self)))
    (on_ok_each c.add.result _ (λ those. on_ok_each c.add.result _ (c.add.ensures those)))

pub returns : goal.returns
returns c =
    gets_made c.args.id.octets.now c.args.key.octets.now c.args.map.now c.insert.new.self c.add-2.new.self
    (rw c.to_transaction_id-key.ensures at c.in_default.ensures.value)
    (rw (c.get_mut.follows.holds-at-none, c.to_transaction_id-key.ensures) at c.in_ok-insert.ensures.updates.0)
    (c.in_ok-add.ensures [] c.new-ids.ensures)
