use Rattle.std.proofs.Common.{◌≡◌, ◌++◌, drop, option_map}
use Rattle.serde_json.specs.View.{items_view}
use Rattle.tcap_certificate_text.specs.CertificateText.{each_in}
use Rattle.tcap_certificate_text.proofs.text.each_in.Given as goal

-- the items so far, and those of the rest
abbrev pub invariant-loop-item : goal.invariant-loop-item
invariant-loop-item g l = record {
  found : option_map (λ rest. l.found.items ++ rest)
      (each_in g.T.Part.part_in (items_view (drop l.item-index l.items)))
      ≡ each_in g.T.Part.part_in (items_view l.items);
}
