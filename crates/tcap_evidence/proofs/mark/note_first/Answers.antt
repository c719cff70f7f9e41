use Rattle.tcap_evidence.proofs.Common.{sym, ◌∙◌}
use Rattle.tcap_evidence.proofs.MarkLaws.{first_noted}
use Rattle.tcap_evidence.proofs.mark.note_first.Goals as goal

pub returns-in_ok-insert : goal.returns-in_ok-insert
returns-in_ok-insert c = λ id.
    rw c.in-Continue.is
    (first_noted c.args.first.now.entries c.in-Continue.otid c.in-Continue.dtid c.insert.new.self.entries
    (sym c.contains_key.ensures ∙ c.if-not-contains_key.true)
    (rw (c.to_transaction_id.ensures, c.view.ensures, c.to_transaction_id-then-not-contains_key.ensures, c.view-then-not-contains_key.ensures) at c.in_ok-insert.ensures.updates.0) id)
