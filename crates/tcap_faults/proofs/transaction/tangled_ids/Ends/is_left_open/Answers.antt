use Rattle.std.proofs.Common.{◌≡◌, Bool, true, false, [], ◌∷◌, Some, is_some, not, sym, ap, ◌∙◌, arith}
use Rattle.tcap_faults.proofs.transaction_laws.FirstTangled.{id_outgoing}
use Rattle.tcap_faults.proofs.dialogue_laws.OpenHalvesLaws.{left_at, left_differing, left_shut, open_nowhere}
use Rattle.tcap_faults.proofs.transaction.tangled_ids.Ends.is_left_open.Goals as goal
use Rattle.tcap_faults.proofs.transaction.tangled_ids.Ends.is_left_open.Goals.{then-differ-via-then-differ, then-differ-via-else-differ+then-not-is_open}

turned : (some none : Bool) → some ≡ not none → none ≡ not some
turned some none is = grind (arith, is)

pub returns-then-differ : goal.returns-then-differ
returns-then-differ c = λ items own_is peer_is from.
    let own = c.args.own.now in
    let side = c.args.end in
    let table = c.args.table.now in
    elim c.then-differ.branch [
      | then-differ-via-then-differ w ↦
          left_differing table side items own (sym (c.differ.ensures _ from.to) ∙ w.if-differ.true)
      | then-differ-via-else-differ+then-not-is_open w ↦
          left_shut table side items own
          (sym (w.is_open.ensures side items own_is peer_is from) ∙ w.if-not-is_open.true)
    ]

pub returns-in-Some : goal.returns-in-Some
returns-in-Some c = λ items own_is peer_is from.
    let own = c.args.own.now in
    let side = c.args.end in
    let table = c.args.table.now in
    turned _ _ c.is_none.ensures
    ∙ ap not (ap is_some (c.tangled_id-tangled.ensures table items c.in-Some.to (Some own) own_is peer_is
    (c.peer_id.ensures table side items own_is peer_is) (c.own_at.ensures table side items own_is peer_is))
    ∙ id_outgoing side items (own ∷ []) c.in-Some.to)
    ∙ left_at table side items own c.in-Some.to (sym c.in-Some.is ∙ from.to.first)
    (sym (c.differ.ensures _ from.to) ∙ c.if-differ.false)
    (sym (c.is_open.ensures side items own_is peer_is from) ∙ c.if-not-is_open.false)

pub returns-in-None : goal.returns-in-None
returns-in-None c = λ items own_is peer_is from.
    left_shut c.args.table.now c.args.end items c.args.own.now
    (sym (open_nowhere c.args.table.now c.args.end items c.args.own.now (sym c.in-None.is ∙ from.to.first)))
