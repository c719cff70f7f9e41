use Rattle.std.proofs.Common.{◌≡◌, rules, sym}
use Rattle.std.specs.Prelude.{filter}
use Rattle.std.proofs.lemmas.Result.{on_ok_weaker}
use Rattle.tcap_msg.specs.Parts.{dtid_in}
use Rattle.tcap_faults.specs.SentToId.{is_continue_to}
use Rattle.tcap_faults.specs.History.{dtids_of}
use Rattle.tcap_faults.specs.InvokeCounts.{sum}
use Rattle.tcap_faults.proofs.transaction_laws.SentFromLaws.{IsContinued, continued_nowhere, continued_to, from_continue}
use Rattle.tcap_faults.proofs.transaction.sent_from_id.SentFrom.note_continue.Goals as goal
use Rattle.tcap_faults.proofs.transaction.sent_from_id.SentFrom.note_continue.Goals.{in-Some+in_ok-add, in_default}

pub returns-clause-from : goal.returns-clause-from
returns-clause-from g c = λ ms it was.
    let table = c.args.table.now in
    let m = g.M.MessageParts.meaning c.args.message.now in
    let old = c.args.self.now in
    let counted : c.saturating_add-self.result ≡ sum old.continues 1 = search rules in
    let noted : IsContinued table ms m old was it c.match-dtid.self = elim c.match-dtid.branch [
      | in-Some+in_ok-add w ↦ rw w.self-is
          (continued_to table ms m old was it _ _ w.add.new.self counted (sym w.in-Some.ensures)
          (w.in_ok-add.ensures (dtids_of ms) was.to))
      | in_default w ↦ rw w.self-is (continued_nowhere table ms m old was it _ counted (sym w.in_default.ensures))
    ] in
    on_ok_weaker c.note_at.result
    (from_continue table ms m old was it c.match-dtid.self c.note_at.new.map noted)
    (c.note_at.ensures dtid_in (λ own. filter (is_continue_to own) ms) c.dtid-2.ensures (rw noted.came was.came))
