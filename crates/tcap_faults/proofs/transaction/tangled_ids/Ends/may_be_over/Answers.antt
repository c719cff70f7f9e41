use Rattle.std.proofs.Common.{◌≡◌, Bool, ◌||◌, false, refl, sym, ap, ◌∙◌}
use Rattle.std.specs.List.{list_any}
use Rattle.std.proofs.lemmas.Bool.{or_left}
use Rattle.tcap_record.specs.Ends.{other}
use Rattle.tcap_refute.specs.EarlierMessages.{ends_to, sent_by}
use Rattle.tcap_faults.specs.SentToId.{has_ended}
use Rattle.tcap_faults.specs.TangledIds.{peers_of}
use Rattle.tcap_faults.proofs.transaction.tangled_ids.Ends.may_be_over.Goals as goal
use Rattle.tcap_faults.proofs.transaction.tangled_ids.Ends.may_be_over.Goals.{then-prearranged, else-prearranged}

or_other : (a b : Bool) → a ≡ false → b ≡ (a || b)
or_other a b so = rw so refl

pub returns-then-is_silenced : goal.returns-then-is_silenced
returns-then-is_silenced c = λ side items id was is.
    let table = c.args.table.now in
    let silenced = list_any (ends_to id) (sent_by (other side) items) in
    let first : c.if-prearranged.value ≡ (table.prearranged || silenced) = elim c.if-prearranged.branch [
      | then-prearranged w ↦
          w.value-is ∙ w.if-prearranged.true
          ∙ sym (or_left table.prearranged silenced (sym c.prearranged.ensures ∙ w.if-prearranged.true))
      | else-prearranged w ↦
          w.value-is ∙ w.is_silenced.ensures table (other side) items id is.to
          ∙ or_other table.prearranged silenced (sym c.prearranged.ensures ∙ w.if-prearranged.false)
    ] in
    c.if-is_silenced.true
    ∙ sym (or_left (table.prearranged || silenced) (list_any (has_ended side items) (peers_of side items id))
    (sym first ∙ c.if-is_silenced.true))

pub returns-else-is_silenced : goal.returns-else-is_silenced
returns-else-is_silenced c = λ side items id was is.
    let table = c.args.table.now in
    let silenced = list_any (ends_to id) (sent_by (other side) items) in
    let first : c.if-prearranged.value ≡ (table.prearranged || silenced) = elim c.if-prearranged.branch [
      | then-prearranged w ↦
          w.value-is ∙ w.if-prearranged.true
          ∙ sym (or_left table.prearranged silenced (sym c.prearranged.ensures ∙ w.if-prearranged.true))
      | else-prearranged w ↦
          w.value-is ∙ w.is_silenced.ensures table (other side) items id is.to
          ∙ or_other table.prearranged silenced (sym c.prearranged.ensures ∙ w.if-prearranged.false)
    ] in
    c.contains.ensures ∙ was.over c.args.own.id.now
    ∙ ap (λ x. list_any (has_ended side items) (peers_of side items x)) is.it
    ∙ or_other (table.prearranged || silenced) (list_any (has_ended side items) (peers_of side items id))
    (sym first ∙ c.if-is_silenced.false)
