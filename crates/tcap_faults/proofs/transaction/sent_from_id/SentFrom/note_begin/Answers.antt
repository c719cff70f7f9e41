use Rattle.std.proofs.Common.{sym, ◌∙◌}
use Rattle.tcap_faults.proofs.transaction_laws.SentFromLaws.{from_begin, from_begun}
use Rattle.tcap_faults.proofs.transaction.sent_from_id.SentFrom.note_begin.Goals as goal

pub returns-then-is_some-clause-from : goal.returns-then-is_some-clause-from
returns-then-is_some-clause-from g c = λ ms it was.
    from_begun c.args.table.now ms (g.M.MessageParts.meaning c.args.message.now) c.args.self.now was it
    (sym c.is_some.ensures ∙ c.if-is_some.true)

pub returns-clause-from : goal.returns-clause-from
returns-clause-from g c = λ ms it was.
    from_begin c.args.table.now ms (g.M.MessageParts.meaning c.args.message.now) c.args.self.now was it
    (sym c.is_some.ensures ∙ c.if-is_some.false) _ (c.in_ok-of.ensures it)
