use Rattle.std.proofs.Common.{Some, None, sym, ◌∙◌}
use Rattle.tcap_faults.proofs.transaction_laws.SameIdsLaws.{among_differ, among_one, both_differ, left_differ, left_none, right_differ, right_none}
use Rattle.tcap_faults.proofs.transaction.id_list.Ids.differs_from.Goals as goal
use Rattle.tcap_faults.proofs.transaction.id_list.Ids.differs_from.Goals.{then-differ-via-then-differ, then-differ-via-else-differ+then-differ-2}

pub returns-then-differ : goal.returns-then-differ
returns-then-differ c = λ xs ys are_x are_y.
    elim c.then-differ.branch [
      | then-differ-via-then-differ w ↦
          sym (left_differ xs ys (sym (among_differ c.differ.result c.differ.ensures are_x) ∙ w.if-differ.true))
      | then-differ-via-else-differ+then-differ-2 w ↦
          sym (right_differ xs ys
          (sym (among_differ w.differ-else-differ.result w.differ-else-differ.ensures are_y) ∙ w.if-differ-2.true))
    ]

pub returns-in-Some-Some : goal.returns-in-Some-Some
returns-in-Some-Some c = λ xs ys are_x are_y.
    let same_x = sym (among_differ c.differ.result c.differ.ensures are_x) ∙ c.if-differ.false in
    let same_y =
    sym (among_differ c.differ-else-differ.result c.differ-else-differ.ensures are_y) ∙ c.if-differ-2.false in
    c.ne.ensures
    ∙ both_differ xs ys same_x same_y c.in-Some-Some.one.octets.now c.in-Some-Some.other.octets.now
    (among_one (Some c.in-Some-Some.one.octets.now) c.in-Some-Some.ensures are_x)
    (among_one (Some c.in-Some-Some.other.octets.now) c.in-Some-Some.ensures' are_y)

pub returns-in_default : goal.returns-in_default
returns-in_default c = λ xs ys are_x are_y.
    sym c.if-differ.false ∙ among_differ c.differ.result c.differ.ensures are_x
    ∙ right_none xs ys (among_one None c.in_default.ensures' are_y)

pub returns-in_default-2 : goal.returns-in_default-2
returns-in_default-2 c = λ xs ys are_x are_y.
    sym c.if-differ-2.false
    ∙ among_differ c.differ-else-differ.result c.differ-else-differ.ensures are_y
    ∙ left_none xs ys (among_one None c.in_default.ensures are_x)
