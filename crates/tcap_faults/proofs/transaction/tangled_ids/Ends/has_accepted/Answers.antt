use Rattle.std.proofs.Common.{◌&&◌, not, sym, ap, ◌∙◌}
use Rattle.std.specs.List.{list_any}
use Rattle.tcap_record.specs.Ends.{other}
use Rattle.tcap_msg.specs.Parts.{cause_in}
use Rattle.tcap_faults.specs.SentToId.{is_cause}
use Rattle.tcap_faults.specs.History.{sent_to}
use Rattle.tcap_faults.proofs.dialogue_laws.OpenHalvesLaws.{accepted_is}
use Rattle.tcap_faults.proofs.transaction_laws.HistoryLookupLaws.{began_asked, to_nowhere, to_there}
use Rattle.tcap_faults.proofs.transaction.tangled_ids.Ends.has_accepted.Goals as goal

pub returns-then-not-began : goal.returns-then-not-began
returns-then-not-began c = λ table side items own_is peer_is.
    let id = c.args.id.now in
    let none = sym c.if-not-began.true ∙ c.began.ensures table (other side) items peer_is ∙ began_asked side items id in
    ap (λ b. b && not (list_any (λ m. is_cause 4 (cause_in m)) (sent_to side items id))) none
    ∙ accepted_is side items id

pub returns-in-Some : goal.returns-in-Some
returns-in-Some c = λ table side items own_is peer_is.
    let id = c.args.id.now in
    let some = sym c.if-not-began.false ∙ c.began.ensures table (other side) items peer_is ∙ began_asked side items id in
    ap not (to_there own_is id c.in-Some.outgoing.now c.in-Some.ensures.value).refused
    ∙ ap (λ b. b && not (list_any (λ m. is_cause 4 (cause_in m)) (sent_to side items id))) some
    ∙ accepted_is side items id

pub returns-in-None : goal.returns-in-None
returns-in-None c = λ table side items own_is peer_is.
    let id = c.args.id.now in
    let some = sym c.if-not-began.false ∙ c.began.ensures table (other side) items peer_is ∙ began_asked side items id in
    ap (λ ms. not (list_any (λ m. is_cause 4 (cause_in m)) ms)) (sym (to_nowhere own_is id c.in-None.ensures.value))
    ∙ ap (λ b. b && not (list_any (λ m. is_cause 4 (cause_in m)) (sent_to side items id))) some
    ∙ accepted_is side items id
