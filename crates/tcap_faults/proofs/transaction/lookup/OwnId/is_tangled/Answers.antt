use Rattle.std.proofs.Common.{[], cond, ap, ◌∙◌}
use Rattle.tcap_record.specs.Ends.{other}
use Rattle.tcap_faults.specs.History.{dtids_of, otids_of, sent_from, sent_to}
use Rattle.tcap_faults.specs.TangledIds.{two_differ}
use Rattle.tcap_faults.specs.SentToId.{has_used}
use Rattle.tcap_faults.proofs.transaction_laws.JoinTestLaws.{peers_are}
use Rattle.tcap_faults.proofs.transaction.lookup.OwnId.is_tangled.Goals as goal

pub returns : goal.returns
returns c = λ table side items id is.
    c.differ.ensures (dtids_of (sent_from side items id))
    (cond (has_used side items id) (otids_of (sent_to (other side) items id)) [])
    (c.goes_to.ensures table (sent_from side items id) is.from) (c.back-back.ensures table side items id is)
    ∙ ap two_differ (peers_are side items id)
