use Rattle.std.proofs.Common.{ℕ, List, filter, subst}
use Rattle.tcap_record.specs.Ends.{other}
use Rattle.tcap_faults.specs.IdList.{IsOneOf}
use Rattle.tcap_faults.specs.History.{dtids_of, otids_of, sent_from, sent_to}
use Rattle.tcap_faults.specs.SentToId.{has_used}
use Rattle.tcap_faults.proofs.transaction_laws.JoinTestLaws.{owns_are}
use Rattle.tcap_faults.proofs.transaction.lookup.PeerId.joined_own.Goals as goal

pub returns : goal.returns
returns c = λ table side items id is.
    subst (λ (ids : List (List ℕ)). IsOneOf ids c.one_of.result) (owns_are side items id)
    (c.one_of.ensures (otids_of (sent_to side items id))
    (filter (has_used side items) (dtids_of (sent_from (other side) items id)))
    (c.comes_from.ensures table (sent_to side items id) is.to) is.joined)
