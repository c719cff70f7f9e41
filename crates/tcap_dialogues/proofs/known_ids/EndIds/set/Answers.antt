use Rattle.std.proofs.Common.{refl}
use Rattle.tcap_dialogues.proofs.KnownLaws.{set_in}
use Rattle.tcap_dialogues.proofs.known_ids.EndIds.set.Goals as goal

pub returns : goal.returns
returns c =
    set_in c.args.self.now (record c.args.self.now { live = c.insert.new.self }) c.args.id.octets.now c.args.known
    (rw c.to_transaction_id.ensures at c.in_ok-insert.ensures.updates.0) refl
