use Rattle.std.proofs.Common.{◌≡◌, ℕ, List, Some, sym, ap, subst, option_copied, ◌∙◌}
use Rattle.std.proofs.lemmas.Result.{IfOk-at_ok}
use Rattle.tcap_msg.specs.Parts.{dtid_in}
use Rattle.tcap_record.specs.Ends.{other}
use Rattle.tcap_refute.specs.KindsByFacts.{fact_from}
use Rattle.tcap_refute.specs.EarlierMessages.{since_quiet}
use Rattle.tcap_refute.specs.Facts.{FromFact, fact_in_items}
use Rattle.tcap_refute.specs.KeptFacts.{fact_by_from}
use Rattle.tcap_faults.specs.KeptForMessage.{IsPeerId}
use Rattle.tcap_faults.specs.KeyedHalf.{IsHalf}
use Rattle.tcap_faults.specs.HalfByPeerId.{half_of}
use Rattle.tcap_faults.proofs.component_laws.FewComponentsLaws.{incoming_are_few, invoked_are_few, still_roomy, outgoing_are_few}
use Rattle.tcap_faults.proofs.verdict_laws.SubjectLaws.{alone_subject, half_subject}
use Rattle.tcap_faults.proofs.transaction.history.Facts.subject.Goals as goal

pub returns-in_default : goal.returns-in_default
returns-in_default g c = λ items are roomy.
    let side = c.args.side in
    let (own, peer) = c.ends-ends.ensures c.args.table.now items are in
    let there : (fact : FromFact) → fact_by_from (option_copied c.first_from-peers.result) fact
    ≡ fact_from (fact_in_items c.args.table.now (other side) (since_quiet items)) (dtid_in (g.M.MessageParts.meaning c.args.message.now)) fact
    = λ fact. rw c.dtid.ensures at (c.first_from-peers.ensures c.args.table.now (other side) (since_quiet items) fact peer) in
    rw c.or.ensures
    (alone_subject c.args.of_one c.args.table.now c.args.side (since_quiet items) c.args.kind
    (g.M.MessageParts.meaning c.args.message.now) c.faulty_component-first.result c.component.result (c.faulty_component-first.ensures side items there)
    c.in_default.ensures (c.component.ensures ∙ c.in_ok-faults.ensures c.args.kind))

pub returns : goal.returns
returns g c = λ items are roomy.
    let m = g.M.MessageParts.meaning c.args.message.now in
    let table = c.args.table.now in
    let side = c.args.side in
    let xs = since_quiet items in
    let id = c.to_transaction_id-id.result in
    let few = still_roomy side items m roomy in
    let (own, peer) = c.ends-ends.ensures table items are in
    let there : (fact : FromFact) → fact_by_from (option_copied c.first_from-peers.result) fact
    ≡ fact_from (fact_in_items table (other side) xs) (dtid_in m) fact
    = λ fact. rw c.dtid.ensures at (c.first_from-peers.ensures table (other side) xs fact peer) in
    let at = c.peer_id.ensures table side xs own peer in
    let half = subst (λ (x : List ℕ). IsHalf table (half_of side xs x) c.in_ok-half.half) at.it
    (IfOk-at_ok _ c.in_ok-half.was
    (c.half.ensures table side xs own (subst (λ (x : List ℕ). IsPeerId table side xs x c.peer_id.result) (sym at.it) at))) in
    let found = IfOk-at_ok _ c.in_ok-faults-2.was (c.faults_of.ensures _ half (incoming_are_few side id xs m few)
    (invoked_are_few side id xs m few) (outgoing_are_few side id xs m few)) in
    rw c.or-2.ensures
    (half_subject c.args.of_one table side xs c.args.kind m c.faulty_component-first.result c.component-2.result
    (c.faulty_component-first.ensures side items there) id c.in_ok-half.half.origin c.in_ok-half.half.own
    (ap Some c.to_transaction_id-id.ensures ∙ c.in-Some.ensures) half.origin half.own
    (c.component-2.ensures ∙ found c.args.kind))
