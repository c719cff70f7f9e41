use Rattle.tcap_dialogues.proofs.KnownLaws.{freed_known, known_done, known_live}
use Rattle.tcap_dialogues.proofs.known_ids.EndIds.free.Goals as goal
use Rattle.tcap_dialogues.proofs.known_ids.EndIds.free.Goals.{in-None, in-Some}

pub returns : goal.returns
returns c =
    let self = c.args.self.now in
    let key = c.args.id.octets.now in
    freed_known self (record { live = c.remove.new.self; done = c.insert.new.self }) key c.args.first c.args.early c.match-remove.known
    (elim c.match-remove.branch [
      | in-Some w ↦ rw w.known-is (known_live self key w.in-Some.known (rw c.to_transaction_id.ensures at w.in-Some.ensures.value))
      | in-None w ↦ rw w.known-is
          (known_done self key w.get_done-known.result (rw c.to_transaction_id.ensures at w.in-None.ensures.value) w.get_done-known.ensures)
    ])
    (rw (c.to_transaction_id-2.ensures, c.free_state.ensures) at c.in_ok-insert.ensures.updates.0)
    (rw c.to_transaction_id.ensures at c.remove.ensures.updates.0)
