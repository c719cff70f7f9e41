use Rattle.std.proofs.Common.{Some, None, sym, ap, ◌∙◌}
use Rattle.std.specs.List.{list_any}
use Rattle.tcap_faults.specs.SentToId.{began}
use Rattle.tcap_faults.proofs.transaction_laws.SameIdsLaws.{among_one, any_one}
use Rattle.tcap_faults.proofs.transaction.tangled_ids.Ends.began_first.Goals as goal

pub returns-in-Some : goal.returns-in-Some
returns-in-Some c = λ table side items xs own_is are same.
    let first = c.in-Some.first.octets.now in
    c.began.ensures table side items own_is
    ∙ ap (λ own. began side own items) c.to_transaction_id.ensures
    ∙ sym (any_one (λ own. began side own items) xs first (among_one (Some first) c.in-Some.ensures are) same)

pub returns-in-None : goal.returns-in-None
returns-in-None c = λ table side items xs own_is are same.
    ap (list_any (λ own. began side own items)) (sym (among_one None c.in-None.ensures are))
