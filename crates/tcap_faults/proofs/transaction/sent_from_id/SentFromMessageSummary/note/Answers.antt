use Rattle.std.proofs.Common.{ap, sym, ◌∙◌}
use Rattle.std.proofs.lemmas.Result.{on_ok_weaker}
use Rattle.tcap_msg.specs.declared.kind.Kind.TheVariants as forms
use Rattle.tcap_refute.specs.KeptFacts.{from_fact_noted}
use Rattle.tcap_refute.specs.EarlierMessages.{is_form}
use Rattle.tcap_faults.proofs.transaction_laws.SentFromLaws.{first_noted, from_neither, from_same, neither}
use Rattle.tcap_faults.proofs.transaction.sent_from_id.SentFromMessageSummary.note.Goals as goal

pub returns-in-Begin : goal.returns-in-Begin
returns-in-Begin g c = λ ms was.
    let table = c.args.table.now in
    let m = g.M.MessageParts.meaning c.args.message.now in
    on_ok_weaker c.note_begin.result
    (λ kept. record {
      from = kept;
      first = λ fact. ap (from_fact_noted fact) c.note_begin.ensures.first
          ∙ first_noted table ms m c.args.self.now.first c.note.new.self was.first c.in_ok-note.ensures fact;
    })
    (c.note_begin.ensures.from ms (ap (is_form forms.Begin) (sym c.kind.ensures ∙ c.in-Begin.is))
    (from_same table ms c.args.self.now was.from c.note.new.self))

pub returns-in-Continue : goal.returns-in-Continue
returns-in-Continue g c = λ ms was.
    let table = c.args.table.now in
    let m = g.M.MessageParts.meaning c.args.message.now in
    on_ok_weaker c.note_continue.result
    (λ kept. record {
      from = kept;
      first = λ fact. ap (from_fact_noted fact) c.note_continue.ensures.first
          ∙ first_noted table ms m c.args.self.now.first c.note.new.self was.first c.in_ok-note.ensures fact;
    })
    (c.note_continue.ensures.from ms (ap (is_form forms.Continue) (sym c.kind.ensures ∙ c.in-Continue.is))
    (from_same table ms c.args.self.now was.from c.note.new.self))

pub returns-in_default : goal.returns-in_default
returns-in_default g c = λ ms was.
    let table = c.args.table.now in
    let m = g.M.MessageParts.meaning c.args.message.now in
    record {
      from = from_neither table ms m _ (from_same table ms c.args.self.now was.from c.note.new.self)
          (neither c.kind.result m c.kind.ensures c.in_default.not-Begin c.in_default.not-Continue);
      first = first_noted table ms m c.args.self.now.first c.note.new.self was.first c.in_ok-note.ensures;
    }
