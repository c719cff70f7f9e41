use Rattle.std.proofs.Common.{◌≡◌, [], Some, sym}
use Rattle.std.proofs.lemmas.Result.{on_ok_weaker}
use Rattle.tcap_faults.proofs.transaction_laws.IdMapLaws.{noted_made, noted_written, was_kept}
use Rattle.tcap_faults.proofs.transaction.messages_at_id.note_at.Goals as goal

pub returns-in-Some-get_mut : goal.returns-in-Some-get_mut
returns-in-Some-get_mut g c = λ id_in lists it are.
    let of = g.N.MessageSummary.of c.args.table.now in
    let m = g.M.MessageParts.meaning c.args.message.now in
    let id = c.in-Some.id.octets.now in
    let named : id_in m ≡ Some id = rw c.in-Some.is at (sym it) in
    let there = rw c.to_transaction_id-key.ensures at c.in-Some-get_mut.ensures.value in
    on_ok_weaker c.note.result
    (noted_written of id_in m lists id named c.args.map.now (c.get_mut.follows.lender c.note.new.self)
    c.in-Some-get_mut.kept.now c.note.new.self there
    (rw c.to_transaction_id-key.ensures at (c.get_mut.follows.holds c.note.new.self)) are)
    (c.note.ensures (lists id) (was_kept of id_in m lists id named c.args.map.now.entries c.in-Some-get_mut.kept.now there are))

pub returns : goal.returns
returns g c = λ id_in lists it are.
    let of = g.N.MessageSummary.of c.args.table.now in
    let m = g.M.MessageParts.meaning c.args.message.now in
    let id = c.in-Some.id.octets.now in
    let named : id_in m ≡ Some id = rw c.in-Some.is at (sym it) in
    noted_made of id_in m lists id named c.args.map.now c.insert.new.self c.note-2.new.self
    (rw c.to_transaction_id-key.ensures at c.in_default-get_mut.ensures.value)
    (rw (c.get_mut.follows.holds-at-none, c.to_transaction_id-key.ensures) at c.in_ok-insert.ensures.updates.0) are
    (c.in_ok-note.ensures [] (c.new-kept.ensures c.args.table.now))
