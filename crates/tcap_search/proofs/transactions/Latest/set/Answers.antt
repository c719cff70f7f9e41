use Rattle.std.proofs.Common.{refl}
use Rattle.tcap_record.specs.declared.entry.End.TheVariants as sides
use Rattle.tcap_search.proofs.LatestLaws.{put_is}
use Rattle.tcap_search.proofs.transactions.Latest.set.Goals as goal

pub returns-in_ok-insert-in-A : goal.returns-in_ok-insert-in-A
returns-in_ok-insert-in-A c =
    rw c.in-A.is (put_is sides.A c.args.id.octets.now c.args.transaction c.args.self.now _
    (rw c.to_transaction_id-key.ensures at c.in_ok-insert-in-A.ensures.updates.0) refl)

pub returns-in_ok-insert-in-B : goal.returns-in_ok-insert-in-B
returns-in_ok-insert-in-B c =
    rw c.in-B.is (put_is sides.B c.args.id.octets.now c.args.transaction c.args.self.now _
    (rw c.to_transaction_id-key.ensures at c.in_ok-insert-in-B.ensures.updates.0) refl)
