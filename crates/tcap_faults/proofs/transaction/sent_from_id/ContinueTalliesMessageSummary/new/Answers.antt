use Rattle.std.proofs.Common.{refl}
use Rattle.tcap_faults.proofs.transaction.sent_from_id.ContinueTalliesMessageSummary.new.Goals as goal

pub returns : goal.returns
returns c = λ table. record { answered = refl; sooner = c.new.ensures table; since = c.new-2.ensures table }
