use Rattle.std.proofs.lemmas.Result.{on_ok_weaker}
use Rattle.tcap_msg.specs.Parts.{dtid_in, otid_in}
use Rattle.tcap_faults.specs.History.{sent_from, sent_to}
use Rattle.tcap_faults.proofs.transaction_laws.HistoryUpdateLaws.{from_was, own_sent, peer_sent, to_was}
use Rattle.tcap_faults.proofs.transaction.history_update.note_sent.Goals as goal

pub returns : goal.returns
returns g c = λ side items was their are.
    let m = g.M.MessageParts.meaning c.args.message.now in
    let table = c.args.table.now in
    let joined = c.in_ok-note_joined.ensures table side items was their are in
    let own = c.args.own.now in
    let peer = c.args.peer.now in
    let one = c.note_joined.new.own in
    let there = c.note_joined.new.peer in
    on_ok_weaker c.note_at-2.result
    (λ tos. (
      own_sent table side items m own peer was their one there joined c.note_at.new.map c.note_at-2.new.map
          c.note_guessed.new.guessed c.insert_some.new.set c.args.effects.again c.closed_by-closed.result
          (c.in_ok-note_at.ensures otid_in (sent_from side items) c.otid.ensures (from_was table side items m own peer was their one there joined))
          tos are.again (λ id. c.closed_by-closed.ensures table side items id was their) c.in_ok-insert_some.ensures
          (c.in_ok-note_guessed.ensures table side items are),
      peer_sent table side items m own peer was their one there joined,
    ))
    (c.note_at-2.ensures dtid_in (sent_to side items) c.dtid.ensures (to_was table side items m own peer was their one there joined))
