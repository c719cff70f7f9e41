use Rattle.std.proofs.Common.{◌||◌, sym, ap, ◌∙◌}
use Rattle.std.specs.List.{list_any}
use Rattle.std.proofs.lemmas.Bool.{or_left}
use Rattle.tcap_record.specs.Ends.{other}
use Rattle.tcap_faults.specs.SentToId.{is_continue_to}
use Rattle.tcap_faults.specs.History.{sent_from}
use Rattle.tcap_faults.proofs.transaction_laws.JoinTestLaws.{joined_is}
use Rattle.tcap_faults.proofs.transaction.lookup.PeerId.is_joined.Goals as goal

pub returns-then-goes_on : goal.returns-then-goes_on
returns-then-goes_on c = λ table side items own id own_is is used.
    let here = sym (rw is.it at (c.goes_on.ensures table (sent_from side items own) own_is.from)) ∙ c.if-goes_on.true in
    c.if-goes_on.true
    ∙ sym (or_left (list_any (is_continue_to id) (sent_from side items own))
    (list_any (is_continue_to own) (sent_from (other side) items id)) here)
    ∙ joined_is side items own id used

pub returns-else-goes_on : goal.returns-else-goes_on
returns-else-goes_on c = λ table side items own id own_is is used.
    let here = sym (rw is.it at (c.goes_on.ensures table (sent_from side items own) own_is.from)) ∙ c.if-goes_on.false in
    rw own_is.it at (c.goes_on-else-goes_on.ensures table (sent_from (other side) items id) is.from)
    ∙ ap (λ b. b || list_any (is_continue_to own) (sent_from (other side) items id)) (sym here)
    ∙ joined_is side items own id used
