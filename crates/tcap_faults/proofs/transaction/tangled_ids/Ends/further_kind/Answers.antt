use Rattle.std.proofs.Common.{◌≡◌, ℕ, List, Some, None, rules, sym, subst, ap, ◌∙◌}
use Rattle.std.proofs.lemmas.Result.{IfOk-weaker}
use Rattle.tcap_msg.specs.Parts.{cause_in, dtid_in}
use Rattle.tcap_faults.specs.KeptForMessage.{IsPeerId}
use Rattle.tcap_faults.proofs.transaction_laws.LookupLaws.{there_is, there_none}
use Rattle.tcap_faults.proofs.verdict_laws.LowestKindLaws.{alone_found, half_found, not_tangled}
use Rattle.tcap_faults.proofs.transaction.tangled_ids.Ends.further_kind.Goals as goal

pub returns-in-None : goal.returns-in-None
returns-in-None g c = λ side items own peer found plain roomy.
    let m = g.M.MessageParts.meaning c.args.message.now in
    let table = c.args.table.now in
    let there = c.in-Some.peer_id in
    let (id, named, at) = there_is table side items (dtid_in m) there (rw c.in-Some.is at found.peer_id) in
    let here : IsPeerId table side items there.id.now there =
    subst (λ (x : List ℕ). IsPeerId table side items x there) (sym at.it) at in
    let is_there : dtid_in m ≡ Some there.id.now = named ∙ ap (λ x. Some x) (sym at.it) in
    let cause : cause_in m ≡ None = search rules in
    IfOk-weaker c.half_kind.result _ _ (λ kind is. is ∙ sym (half_found table side items m there.id.now is_there cause))
    (c.half_kind.ensures side items own here (not_tangled side items m there.id.now is_there plain) roomy)

pub returns-in_default : goal.returns-in_default
returns-in_default g c = λ side items own peer found plain roomy.
    let m = g.M.MessageParts.meaning c.args.message.now in
    c.kind_of_faults.ensures
    ∙ alone_found c.args.table.now side items m
    c.in_ok-first_faults.field-0 (sym (there_none c.args.table.now side items (dtid_in m) (rw c.in_default.is at found.peer_id)))
    c.in_ok-first_faults.ensures
