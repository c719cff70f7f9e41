use Rattle.std.proofs.Common.{◌∙◌}
use Rattle.tcap_faults.proofs.transaction_laws.HistoryLookupLaws.{used_is}
use Rattle.tcap_faults.proofs.transaction.history.SideFacts.has_used.Goals as goal

pub returns : goal.returns
returns c = λ table side items is. c.contains_key.ensures ∙ used_is is c.args.id.now
