use Rattle.std.proofs.Common.{◌≡◌, Some, ◌∙◌}
use Rattle.tcap_faults.proofs.transaction_laws.SameIdsLaws.{among_differ, left_none, right_none}
use Rattle.tcap_faults.proofs.transaction.lookup.differ.Goals as goal
use Rattle.tcap_faults.proofs.transaction.lookup.differ.Goals.{in-Some-None, in-Some-None-2}

pub returns-in-Some-None : goal.returns-in-Some-None
returns-in-Some-None c = λ xs ys are_x are_y.
    elim c.in-Some-None-1.branch [
      | in-Some-None w ↦
          let is : c.args.some ≡ Some c.in-Some-None-1.ids = cc in
          among_differ {ids = xs} c.differ.result c.differ.ensures (rw is at are_x)
          ∙ right_none xs ys (rw w.in-Some-None.is-1 at are_y)
      | in-Some-None-2 w ↦
          let is : c.args.others ≡ Some c.in-Some-None-1.ids = cc in
          among_differ {ids = ys} c.differ.result c.differ.ensures (rw is at are_y)
          ∙ left_none xs ys (rw w.in-Some-None.is-0 at are_x)
    ]
