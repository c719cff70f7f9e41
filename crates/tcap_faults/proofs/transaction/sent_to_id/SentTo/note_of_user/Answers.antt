use Rattle.std.proofs.Common.{inl, inr, rules}
use Rattle.std.proofs.lemmas.Result.{on_ok_weaker}
use Rattle.tcap_refute.specs.EarlierMessages.{components_of}
use Rattle.tcap_faults.specs.History.{of_user, otids_of}
use Rattle.tcap_faults.proofs.transaction_laws.SentToLaws.{HasSpoken, spoke_from, spoke_only, outgoing}
use Rattle.tcap_faults.proofs.transaction.sent_to_id.SentTo.note_of_user.Goals as goal
use Rattle.tcap_faults.proofs.transaction.sent_to_id.SentTo.note_of_user.Goals.{in-Continue-Some+in_ok-add, in-Continue+in-None-1, in-Unidirectional-1}

pub returns : goal.returns
returns g c = λ ms none from components.
    let table = c.args.table.now in
    let m = g.M.MessageParts.meaning c.args.message.now in
    let old = c.args.self.now in
    let spoke : HasSpoken table ms m old c.match-kind.self = elim c.match-kind.branch [
      | in-Continue-Some+in_ok-add w ↦ rw w.self-is
          (spoke_from table ms m old _ w.add.new.self (search rules) (search rules)
          (w.in_ok-add.ensures (otids_of ms) from))
      | in-Continue+in-None-1 w ↦ rw w.self-is (spoke_only table ms m old (inr (search rules)) from)
      | in-Unidirectional-1 w ↦ rw w.self-is (spoke_only table ms m old (inl (search rules)) from)
    ] in
    on_ok_weaker c.note_all.result (outgoing table ms m old c.match-kind.self c.note_all.new.self none spoke)
    (rw c.components.ensures at (c.note_all.ensures (components_of (of_user ms)) (rw spoke.components components)))
