use Rattle.std.proofs.Common.{sym, ◌∙◌}
use Rattle.tcap_record.specs.Ends.{other}
use Rattle.tcap_refute.specs.EarlierMessages.{peer_sent_from}
use Rattle.tcap_faults.specs.SentToId.{has_used}
use Rattle.tcap_faults.proofs.transaction_laws.ShownClosedLaws.{closed_first_none, closed_none, closed_several, closed_unused, closed_used}
use Rattle.tcap_faults.proofs.transaction.history_update.closed_at.Goals as goal

pub returns-in_default : goal.returns-in_default
returns-in_default c = λ table side items id was their.
    closed_none id (peer_sent_from side c.args.dtid.now items) (has_used side items)
    (c.in_default.ensures table (other side) items their)

pub returns-then-differ : goal.returns-then-differ
returns-then-differ c = λ table side items id was their.
    closed_several id (peer_sent_from side c.args.dtid.now items) (has_used side items) c.in-Some.ids.now
    (c.in-Some.ensures table (other side) items their) c.if-differ.ensures

pub returns-in_err-first : goal.returns-in_err-first
returns-in_err-first c = λ table side items id was their.
    rw c.from_residual.ensures
    (closed_first_none id (peer_sent_from side c.args.dtid.now items) (has_used side items) c.in-Some.ids.now
    (c.in-Some.ensures table (other side) items their) c.in_err-first.ensures)

pub returns-then-has_used : goal.returns-then-has_used
returns-then-has_used c = λ table side items id was their.
    rw c.to_transaction_id-first.ensures
    (closed_used id (peer_sent_from side c.args.dtid.now items) (has_used side items) c.in-Some.ids.now
    (c.in-Some.ensures table (other side) items their) c.in_ok-first.field-0.octets.now c.if-differ.ensures
    c.in_ok-first.ensures
    (rw c.to_transaction_id-first.ensures at (sym c.if-has_used.true ∙ c.has_used.ensures table side items was)))

pub returns-else-has_used : goal.returns-else-has_used
returns-else-has_used c = λ table side items id was their.
    closed_unused id (peer_sent_from side c.args.dtid.now items) (has_used side items) c.in-Some.ids.now
    (c.in-Some.ensures table (other side) items their) c.in_ok-first.field-0.octets.now c.if-differ.ensures
    c.in_ok-first.ensures
    (rw c.to_transaction_id-first.ensures at (sym c.if-has_used.false ∙ c.has_used.ensures table side items was))
