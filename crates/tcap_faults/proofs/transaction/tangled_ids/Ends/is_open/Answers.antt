use Rattle.std.proofs.Common.{◌≡◌, Bool, true, false, ◌&&◌, not, sym, ap, ◌∙◌, ap₂}
use Rattle.std.specs.List.{list_any}
use Rattle.tcap_record.specs.Ends.{other}
use Rattle.tcap_refute.specs.EarlierMessages.{ends_to, sent_by}
use Rattle.tcap_faults.specs.SentToId.{has_ended}
use Rattle.tcap_faults.proofs.dialogue_laws.OpenHalvesLaws.{open_nowhere, open_there}
use Rattle.tcap_faults.proofs.transaction.tangled_ids.Ends.is_open.Goals as goal
use Rattle.tcap_faults.proofs.transaction.tangled_ids.Ends.is_open.Goals.{then-not-prearranged, else-not-prearranged}

by_ended : {p q e f : Bool} → p ≡ false → p ≡ q → e ≡ f → not e ≡ (not q && not f)
by_ended none same is = ap₂ (λ a b. not a && not b) (sym none ∙ same) is

by_prearranged : {p q : Bool} (f : Bool) → p ≡ true → p ≡ q → not p ≡ (not q && not f)
by_prearranged f so same = ap not so ∙ ap (λ a. not a && not f) (sym so ∙ same)

pub returns-then-not-has_ended : goal.returns-then-not-has_ended
returns-then-not-has_ended c = λ side items own_is peer_is from.
    let own = c.args.own.now in
    let table = c.args.table.now in
    let stays : c.if-not-prearranged.value ≡ (not table.prearranged && not (has_ended side items c.in-Some.to)) =
    elim c.if-not-prearranged.branch [
      | then-not-prearranged w ↦
          w.value-is
          ∙ by_ended w.if-not-prearranged.true c.prearranged.ensures (w.has_ended.ensures table side items own_is)
      | else-not-prearranged w ↦ w.value-is ∙ by_prearranged _ w.if-not-prearranged.false c.prearranged.ensures
    ] in
    ap not (c.has_silenced.ensures table (other side) items peer_is)
    ∙ ap (λ b. b && not (list_any (ends_to own) (sent_by (other side) items))) (sym c.if-not-has_ended.true)
    ∙ open_there table side items own c.in-Some.to c.if-not-prearranged.value (sym c.in-Some.is ∙ from.to.first) stays

pub returns-else-not-has_ended : goal.returns-else-not-has_ended
returns-else-not-has_ended c = λ side items own_is peer_is from.
    let own = c.args.own.now in
    let table = c.args.table.now in
    let stays : c.if-not-prearranged.value ≡ (not table.prearranged && not (has_ended side items c.in-Some.to)) =
    elim c.if-not-prearranged.branch [
      | then-not-prearranged w ↦
          w.value-is
          ∙ by_ended w.if-not-prearranged.true c.prearranged.ensures (w.has_ended.ensures table side items own_is)
      | else-not-prearranged w ↦ w.value-is ∙ by_prearranged _ w.if-not-prearranged.false c.prearranged.ensures
    ] in
    c.if-not-has_ended.false
    ∙ ap (λ b. b && not (list_any (ends_to own) (sent_by (other side) items))) (sym c.if-not-has_ended.false)
    ∙ open_there table side items own c.in-Some.to c.if-not-prearranged.value (sym c.in-Some.is ∙ from.to.first) stays

pub returns-in-None : goal.returns-in-None
returns-in-None c = λ side items own_is peer_is from.
    open_nowhere c.args.table.now side items c.args.own.now (sym c.in-None.is ∙ from.to.first)
