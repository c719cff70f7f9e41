use Rattle.std.proofs.Common.{refl, rules}
use Rattle.tcap_faults.proofs.transaction.sent_from_id.SentFromMessageSummary.new.Goals as goal

pub returns : goal.returns
returns c = λ table. record {
  from = record {
    begin = tt;
    twice = refl;
    continues = λ few. refl;
    to = c.new-2.ensures;
    came = λ own. search rules;
  };
  first = λ fact. c.new.ensures fact;
}
