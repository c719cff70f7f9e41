use Rattle.std.proofs.Common.{refl}
use Rattle.tcap_faults.proofs.transaction.sent_to_id.SentToMessageSummary.new.Goals as goal

pub returns : goal.returns
returns c = λ table. record {
  spoke = refl;
  from = c.new.ensures;
  refused = refl;
  unknown = λ few. refl;
  ended = refl;
  silenced = refl;
  components = c.new-2.ensures table;
}
