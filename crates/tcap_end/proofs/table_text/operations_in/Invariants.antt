use Rattle.std.proofs.Common.{◌≡◌, [], drop}
use Rattle.serde_json.specs.View.{items_view}
use Rattle.tcap_lists.specs.CodeMap.{coded}
use Rattle.tcap_end.specs.TableText.{operations_in}
use Rattle.tcap_end.proofs.table_text.operations_in.Given as goal

-- the operations so far, and those of the remaining rows
abbrev pub invariant-loop-place : goal.invariant-loop-place
invariant-loop-place l = record {
  found : operations_in l.place (coded l.operations) (items_view (drop l.place l.rows)) ≡ operations_in 0 [] (items_view l.rows);
}
