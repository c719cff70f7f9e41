use Rattle.std.proofs.Common.{sym}
use Rattle.tcap_msg.proofs.IdOrder.{padded_key, four_octets, id_octets}
use Rattle.tcap_msg.proofs.transaction_id.TransactionId.key.Goals as goal

pub returns-clause-value : goal.returns-clause-value
returns-clause-value c =
    let kept = c.self.invariant in
    rw (c.number.ensures.value, c.from.ensures, sym c.self.view_is)
    (padded_key c.self.inside.octets c.self.inside.len kept.0 (kept.1, kept.2, kept.3))

pub returns-clause-octets : goal.returns-clause-octets
returns-clause-octets c =
    let kept = c.self.invariant in
    rw (sym c.self.view_is)
    (id_octets c.self.inside.octets c.self.inside.len kept.0 (kept.1, kept.2)
    (four_octets c.self.inside.octets kept.0 c.number.ensures.octets))
