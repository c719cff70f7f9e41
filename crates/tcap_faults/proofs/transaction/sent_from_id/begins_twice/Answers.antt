use Rattle.std.proofs.Common.{sym, ap}
use Rattle.std.specs.Prelude.{nat_le}
use Rattle.tcap_msg.specs.declared.kind.Kind.TheVariants as forms
use Rattle.tcap_refute.specs.EarlierMessages.{is_a}
use Rattle.tcap_faults.specs.Counts.{count}
use Rattle.tcap_faults.proofs.transaction.sent_from_id.begins_twice.Goals as goal

pub returns-in-Some : goal.returns-in-Some
returns-in-Some c = λ table ms is. (rw c.in-Some.is at is).1.from.twice

pub returns-in-None : goal.returns-in-None
returns-in-None c = λ table ms is. ap (λ ms. nat_le 2 (count (is_a forms.Begin) ms)) (sym (rw c.in-None.is at is))
