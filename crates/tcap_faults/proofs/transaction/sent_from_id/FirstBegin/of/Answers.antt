use Rattle.std.proofs.Common.{[], refl}
use Rattle.tcap_faults.proofs.transaction_laws.SentFromLaws.{begin_only}
use Rattle.tcap_faults.proofs.transaction.sent_from_id.FirstBegin.of.Goals as goal

pub returns : goal.returns
returns g c = λ it. (
  rw (c.is_request.ensures, c.dialogue.ensures, (begin_only (g.M.MessageParts.meaning c.args.message.now) it).1) refl,
  rw c.components.ensures at (c.in_ok-note_all.ensures [] (c.new-components.ensures c.args.table.now)),
)
