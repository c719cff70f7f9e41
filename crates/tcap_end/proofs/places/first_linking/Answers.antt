use Rattle.std.proofs.Common.{◌≡◌, Some, ap, sym, refl, ◌∙◌}
use Rattle.std.specs.List.{slice_get}
use Rattle.std.proofs.lemmas.Option.{slice_get_read}
use Rattle.tcap_parts.specs.Meaning.{code_of}
use Rattle.tcap_lists.specs.Lists.{row_kinds, row_places}
use Rattle.tcap_end.specs.Half.{Invocation}
use Rattle.tcap_end.specs.Component.{links}
use Rattle.tcap_lists.proofs.PlaceLaws.{asked_all, asked_no, asked_yes, below_none}
use Rattle.tcap_end.proofs.places.first_linking.Goals as goal
use Rattle.tcap_end.proofs.places.first_linking.Goals.{then-links, else-links}

pub loop-kind-init : goal.loop-kind-init
loop-kind-init c = record {
  kinds = c.kinds-kinds.ensures.kinds;
  found = sym (below_none (λ item. links c.args.table.now item.code (code_of c.args.code)) c.kinds-kinds.result.now (row_places c.args.row.now));
}

pub loop-kind-preserved : goal.loop-kind-preserved
loop-kind-preserved c =
    let kinds = c.kinds-kinds.result.now in let n = c.loop-kind.kind in
    let is : slice_get kinds n ≡ Some c.index-kinds-kind.result =
    slice_get_read kinds _ n c.index-kinds-kind.result refl c.loop-kind-test.true c.index-kinds-kind.is in
    record {
      kinds = c.loop-kind.invariant.kinds;
      found = elim c.if-links.branch [
        | then-links w ↦
            asked_yes (λ item. links c.args.table.now item.code (code_of c.args.code)) kinds (row_places c.args.row.now) n c.index-kinds-kind.result is c.loop-kind.found
            c.loop-kind.invariant.found w.oldest_of-oldest.result _ (rw (c.view.ensures, ap (λ (item : Invocation). item.code) c.item.view_is) at (sym c.links.ensures ∙ w.if-links.true)) w.oldest_of-oldest.ensures
            (w.found-is ∙ w.earlier-found.ensures)
        | else-links w ↦
            asked_no (λ item. links c.args.table.now item.code (code_of c.args.code)) kinds (row_places c.args.row.now) n c.index-kinds-kind.result is c.loop-kind.found
            c.loop-kind.invariant.found _ (rw (c.view.ensures, ap (λ (item : Invocation). item.code) c.item.view_is) at (sym c.links.ensures ∙ w.if-links.false)) w.found-is
      ];
    }

pub returns : goal.returns
returns c = asked_all (λ item. links c.args.table.now item.code (code_of c.args.code)) c.kinds-kinds.result.now (row_kinds c.args.row.now) (row_places c.args.row.now) c.loop-kind.kind
    c.loop-kind.found c.loop-kind.invariant.kinds c.loop-kind-test.false c.loop-kind.invariant.found
