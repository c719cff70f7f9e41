use Rattle.std.proofs.Common.{◌≡◌, ℕ, List, [], Option, Some, None, ◌&&◌, not, is_some, refl, sym, ap, ◌∙◌, arith}
use Rattle.std.specs.List.{list_any}
use Rattle.tcap_record.specs.Ends.{other}
use Rattle.tcap_msg.specs.declared.transaction_id.TransactionIdView.{TransactionIdView}
use Rattle.tcap_msg.specs.Meaning.{id_of}
use Rattle.tcap_faults.specs.ClosedHalves.{is_surely_open}
use Rattle.tcap_faults.specs.Counts.{is_nothing}
use Rattle.tcap_faults.specs.IdList.{AreAmong}
use Rattle.tcap_faults.specs.History.{dtids_of, sent_from}
use Rattle.tcap_faults.proofs.dialogue_laws.OpenHalvesLaws.{all_open_is, some_kept_of}
use Rattle.tcap_faults.proofs.transaction.tangled_ids.Ends.all_go_to_open.Goals as goal

named : (o : Option TransactionIdView) → is_some o ≡ is_some (id_of o)
named o = grind arith

pub returns-then-is_some : goal.returns-then-is_some
returns-then-is_some c = λ side items own_is peer_is.
    let table = c.args.table.now in
    let ms = sent_from (other side) items c.args.id.now in
    let are : AreAmong (dtids_of ms) (Some c.in-Some.ids.now) =
    rw c.in-Some.is at (c.goes_to.ensures table (other side) items peer_is) in
    let some = sym c.if-is_some.true ∙ c.is_some.ensures ∙ named c.first.result
    ∙ some_kept_of (id_of c.first.result) (dtids_of ms) c.in-Some.ids.now c.first.ensures are in
    ap not (c.goes_to_shut.ensures side items (dtids_of ms) own_is peer_is are)
    ∙ ap (λ b. b && not (list_any (λ own. not (is_surely_open table side items own)) (dtids_of ms))) some
    ∙ all_open_is table side items ms

pub returns-else-is_some : goal.returns-else-is_some
returns-else-is_some c = λ side items own_is peer_is.
    let table = c.args.table.now in
    let ms = sent_from (other side) items c.args.id.now in
    let are : AreAmong (dtids_of ms) (Some c.in-Some.ids.now) =
    rw c.in-Some.is at (c.goes_to.ensures table (other side) items peer_is) in
    let none = sym c.if-is_some.false ∙ c.is_some.ensures ∙ named c.first.result
    ∙ some_kept_of (id_of c.first.result) (dtids_of ms) c.in-Some.ids.now c.first.ensures are in
    c.if-is_some.false
    ∙ ap (λ b. b && not (list_any (λ own. not (is_surely_open table side items own)) (dtids_of ms))) none
    ∙ all_open_is table side items ms

pub returns-in-None : goal.returns-in-None
returns-in-None c = λ side items own_is peer_is.
    let table = c.args.table.now in
    let ms = sent_from (other side) items c.args.id.now in
    let none : dtids_of ms ≡ [] = rw c.in-None.is at (c.goes_to.ensures table (other side) items peer_is) in
    ap (λ (ids : List (List ℕ)). not (is_nothing ids)
    && not (list_any (λ own. not (is_surely_open table side items own)) ids)) (sym none)
    ∙ all_open_is table side items ms
