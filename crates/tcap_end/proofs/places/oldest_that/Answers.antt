use Rattle.std.proofs.Common.{◌≡◌, Some, sym, refl, ◌∙◌}
use Rattle.std.specs.List.{slice_get}
use Rattle.std.proofs.lemmas.Option.{slice_get_read}
use Rattle.tcap_lists.specs.Lists.{row_kinds, row_places}
use Rattle.tcap_lists.proofs.PlaceLaws.{asked_all, asked_no, asked_yes, below_none}
use Rattle.tcap_end.proofs.places.oldest_that.Goals as goal
use Rattle.tcap_end.proofs.places.oldest_that.Goals.{then-passes, else-passes}

pub loop-kind-init : goal.loop-kind-init
loop-kind-init g c = record {
  kinds = c.kinds-kinds.ensures.kinds;
  found = λ test is_test. sym (below_none test c.kinds-kinds.result.now (row_places c.args.row.now));
}

pub loop-kind-preserved : goal.loop-kind-preserved
loop-kind-preserved g c =
    let kinds = c.kinds-kinds.result.now in let n = c.loop-kind.kind in let places = row_places c.args.row.now in
    let is : slice_get kinds n ≡ Some c.index-kinds-kind.result =
    slice_get_read kinds _ n c.index-kinds-kind.result refl c.loop-kind-test.true c.index-kinds-kind.is in
    record {
      kinds = c.loop-kind.invariant.kinds;
      found = λ test is_test.
          let was = c.loop-kind.invariant.found test is_test in let says = is_test _ _ c.passes.ensures in
          elim c.if-passes.branch [
            | then-passes w ↦
                asked_yes test kinds places n c.index-kinds-kind.result is c.loop-kind.found was w.oldest_of.result _
                (sym says ∙ w.if-passes.true) w.oldest_of.ensures (w.found-is ∙ w.earlier-found.ensures)
            | else-passes w ↦
                asked_no test kinds places n c.index-kinds-kind.result is c.loop-kind.found was _
                (sym says ∙ w.if-passes.false) w.found-is
          ];
    }

pub returns : goal.returns
returns g c test is_test = asked_all test c.kinds-kinds.result.now (row_kinds c.args.row.now) (row_places c.args.row.now) c.loop-kind.kind
    c.loop-kind.found c.loop-kind.invariant.kinds c.loop-kind-test.false (c.loop-kind.invariant.found test is_test)
