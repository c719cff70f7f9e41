use Rattle.std.proofs.Common.{sym, ap, ◌∙◌}
use Rattle.tcap_end.specs.Dialogue.{may_be_uni}
use Rattle.tcap_end.proofs.KindLaws.{uni_sent, uni_wrong}
use Rattle.tcap_end.proofs.end_sending.check_unidirectional.Goals as goal

pub returns-then-not-may_be_uni : goal.returns-then-not-may_be_uni
returns-then-not-may_be_uni g c = record {
  step = λ e _. uni_wrong c.args.table.now e (g.M.MessageParts.meaning c.args.message.now) c.requires.kind
      (ap may_be_uni (sym c.dialogue.ensures) ∙ sym c.may_be_uni.ensures ∙ c.if-not-may_be_uni.true);
}

pub returns : goal.returns
returns g c = record {
  step = λ e. uni_sent c.args.table.now e (g.M.MessageParts.meaning c.args.message.now) c.requires.kind c.check_components.result
      (ap may_be_uni (sym c.dialogue.ensures) ∙ sym c.may_be_uni.ensures ∙ c.if-not-may_be_uni.false)
      (rw c.components.ensures at c.check_components.ensures.step);
}
