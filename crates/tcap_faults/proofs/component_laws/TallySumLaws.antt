-- Tallies of joined lists of components.
use Rattle.std.proofs.Common.{List, [], ◌∷◌, ◌++◌, refl, ◌∙◌, ap₂}
use Rattle.std.proofs.lemmas.List.{append-nil}
use Rattle.tcap_parts.specs.declared.component.Component.{Component}
use Rattle.tcap_end.specs.Table.{Table}
use Rattle.tcap_faults.specs.declared.component.tally.Tally.{Tally}
use Rattle.tcap_faults.specs.KeyedHalf.{AreTallies}
use Rattle.tcap_faults.specs.InvokeCounts.{both_tallied}
use Rattle.tcap_faults.specs.TallyMeaning.{IsTally}
use Rattle.tcap_faults.proofs.component_laws.FewSums.{few_behind, few_front, tallied_both}

module _ (table : Table) where
  pub are_none : AreTallies table [] []
  are_none few = refl

  pub are_more : (cs ds : List Component) (tally : Tally) (tallies : List Tally) → IsTally table cs tally
      → AreTallies table ds tallies → AreTallies table (cs ++ ds) (tally ∷ tallies)
  are_more cs ds tally tallies is are few =
      ap₂ both_tallied (is (few_front cs ds few)) (are (few_behind cs ds few)) ∙ tallied_both table cs ds few

  -- A single tally.
  pub are_one : (cs : List Component) (tally : Tally) → IsTally table cs tally → AreTallies table cs (tally ∷ [])
  are_one cs tally is = rw (append-nil cs) at (are_more cs [] tally [] is are_none)
