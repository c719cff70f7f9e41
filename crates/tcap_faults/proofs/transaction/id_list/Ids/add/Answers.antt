use Rattle.std.proofs.Common.{sym, refl, ◌∙◌}
use Rattle.tcap_faults.proofs.transaction_laws.IdListLaws.{ids_again, ids_other, last_is_first, last_of_more}
use Rattle.tcap_faults.proofs.transaction.id_list.Ids.add.Goals as goal
use Rattle.tcap_faults.proofs.transaction.id_list.Ids.add.Goals.{in-Some-last, in-None}

pub returns-in_ok-push : goal.returns-in_ok-push
returns-in_ok-push c = λ ids was.
    ids_other c.args.id.octets.now ids c.args.self.now was c.in-Some.first c.match-last.last.now c.in-Some.is
    (elim c.match-last.branch [
      | in-Some-last w ↦ last_of_more _ _ _ (rw (← c.deref.ensures.value, w.last-is) (sym w.in-Some-last.ensures.value))
      | in-None w ↦ rw w.last-is (last_is_first _ _)
    ])
    _ (rw (← c.octets.ensures.value) (sym c.ne.ensures ∙ c.if-ne.true)) refl
    (rw (← c.to_transaction_id-then-ne.ensures) c.in_ok-push.ensures.items)

pub returns-else-ne : goal.returns-else-ne
returns-else-ne c = λ ids was.
    ids_again c.args.id.octets.now ids c.args.self.now was c.in-Some.first c.match-last.last.now c.in-Some.is
    (elim c.match-last.branch [
      | in-Some-last w ↦ last_of_more _ _ _ (rw (← c.deref.ensures.value, w.last-is) (sym w.in-Some-last.ensures.value))
      | in-None w ↦ rw w.last-is (last_is_first _ _)
    ])
    (rw (← c.octets.ensures.value) (sym c.ne.ensures ∙ c.if-ne.false))
