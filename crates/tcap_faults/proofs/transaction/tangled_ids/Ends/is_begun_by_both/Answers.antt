use Rattle.std.proofs.Common.{◌&&◌, filter, sym, ap, ◌∙◌}
use Rattle.std.specs.List.{list_any}
use Rattle.std.proofs.lemmas.Bool.{and_left, and_right}
use Rattle.tcap_record.specs.Ends.{other}
use Rattle.tcap_refute.specs.EarlierMessages.{peer_sent_from}
use Rattle.tcap_faults.specs.SentToId.{began, has_used}
use Rattle.tcap_faults.specs.History.{dtids_of, sent_from}
use Rattle.tcap_faults.specs.TangledIds.{goes_to_begun}
use Rattle.tcap_faults.proofs.transaction_laws.HistoryLookupLaws.{began_asked}
use Rattle.tcap_faults.proofs.transaction_laws.JoinTestLaws.{incoming_same, of_both}
use Rattle.tcap_faults.proofs.transaction.tangled_ids.Ends.is_begun_by_both.Goals as goal

pub returns-then-not-begins : goal.returns-then-not-begins
returns-then-not-begins c = λ table side items id own_is is same.
    let asks = sym (began_asked side items id) ∙ sym (c.begins.ensures table (other side) items id is.from) in
    sym (and_left _ _ (asks ∙ c.if-not-begins.true))

pub returns-in-Some : goal.returns-in-Some
returns-in-Some c = λ table side items id own_is is same.
    let asks = sym (began_asked side items id) ∙ sym (c.begins.ensures table (other side) items id is.from) in
    c.began_first.ensures table side items (filter (has_used side items) (dtids_of (sent_from (other side) items id)))
    own_is (rw c.in-Some.is at is.joined) (incoming_same side items id same)
    ∙ of_both side items id
    ∙ ap (λ b. b && list_any (goes_to_begun side items) (peer_sent_from side id items)) (sym (asks ∙ c.if-not-begins.false))

pub returns-in-None : goal.returns-in-None
returns-in-None c = λ table side items id own_is is same.
    let none = rw c.in-None.is at is.joined in
    sym (and_right _ _ (sym (of_both side items id) ∙ ap (list_any (λ own. began side own items)) none))
