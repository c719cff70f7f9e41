-- The tally has the components so far; with those that are left, they are the first ones and all new ones.
use Rattle.std.proofs.Common.{◌≡◌, ◌++◌, List}
use Rattle.tcap_parts.specs.declared.component.Component.{Component}
use Rattle.tcap_parts.specs.Meaning.{components_left}
use Rattle.tcap_faults.specs.TallyMeaning.{IsTally}
use Rattle.tcap_faults.proofs.component.tally.Tally.note_all.Given as goal

abbrev pub invariant-loop-component : goal.invariant-loop-component
invariant-loop-component l =
    (cs : List Component) → IsTally l.table cs l.fn.self
    → (done : List Component) × IsTally l.table done l.self
    × (done ++ components_left l.component-iterator ≡ cs ++ components_left l.fn.components)
