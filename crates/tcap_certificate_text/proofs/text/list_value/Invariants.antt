use Rattle.std.proofs.Common.{◌≡◌, map, take}
use Rattle.serde_json.specs.View.{view}
use Rattle.tcap_certificate_text.proofs.text.list_value.Given as goal

-- the values of the items so far
abbrev pub invariant-loop-part : goal.invariant-loop-part
invariant-loop-part g l = record {
  values : map view l.items.items ≡ map g.T.Part.part_data (take l.part-index l.parts);
}
