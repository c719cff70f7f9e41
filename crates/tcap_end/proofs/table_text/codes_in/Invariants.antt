use Rattle.std.proofs.Common.{◌≡◌, [], drop}
use Rattle.serde_json.specs.View.{items_view}
use Rattle.tcap_lists.specs.CodeMap.{coded}
use Rattle.tcap_end.specs.TableText.{codes_in}
use Rattle.tcap_end.proofs.table_text.codes_in.Given as goal

-- the codes so far, and those of the remaining items
abbrev pub invariant-loop-item : goal.invariant-loop-item
invariant-loop-item l = record {
  found : codes_in (coded l.found) (items_view (drop l.item-index l.items)) ≡ codes_in [] (items_view l.items);
}
