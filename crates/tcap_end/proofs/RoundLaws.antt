-- The loop over the components of a message: the step of all is that of the rest from the half as it is now.
use Rattle.std.proofs.Common.{◌≡◌, List, [], ◌∷◌, Result, Ok, Err, refl, ap, ◌∙◌}
use Rattle.tcap_parts.specs.declared.component.Component.{Component}
use Rattle.tcap_end.specs.declared.fault.EndFault.{EndFault}
use Rattle.tcap_end.specs.declared.half_components.Direction.{Direction}
use Rattle.tcap_end.specs.declared.half_state.HalfState.{HalfState}
use Rattle.tcap_end.specs.declared.half_state.Change.{Change}
use Rattle.tcap_end.specs.Step.{◌>>=◌}
use Rattle.tcap_end.specs.Table.{Table}
use Rattle.tcap_end.specs.Half.{Half}
use Rattle.tcap_end.specs.ComponentSteps.{component_by, components_by}
use Rattle.tcap_end.specs.HalfState.{StillUndoes}

-- the changes still undo what they undid, and the slot stays
pub record KeepsParts (first : HalfState) (at_first : List Change) (h : HalfState) (changes : List Change) : Type 0 where
  pub undoes : StillUndoes at_first first changes h
  pub slot : h.slot ≡ first.slot

pub keeps_self : (h : HalfState) (changes : List Change) → KeepsParts h changes h changes
keeps_self h changes = record { undoes = λ start u. u; slot = refl }

pub keeps_more : {first h next : HalfState} {at_first changes more : List Change}
    → KeepsParts first at_first h changes → StillUndoes changes h more next → next.slot ≡ h.slot → KeepsParts first at_first next more
keeps_more k u slot = record { undoes = λ start v. u start (k.undoes start v); slot = slot ∙ k.slot }

-- The step of all components from the first half is that of the rest from the current half.
pub record Going (way : Direction) (table : Table) (first : Half) (all : List Component) (h : Half) (left : List Component) : Type 0 where
  pub same : components_by way table first all ≡ components_by way table h left

pub goes_all : (way : Direction) (table : Table) (h : Half) (all : List Component) → Going way table h all h all
goes_all way table h all = record { same = refl }

module _ {way : Direction} {table : Table} {first h : Half} {all left : List Component} (going : Going way table first all h left) where
  -- the next component and the rest
  stepped : (c : Component) (more : List Component) (step : Result Half EndFault) → left ≡ c ∷ more → component_by way table h c ≡ step
      → components_by way table first all ≡ (step >>= (λ next. components_by way table next more))
  stepped c more step is same =
      going.same ∙ (ap (components_by way table h) is ∙ ap (λ step. step >>= (λ next. components_by way table next more)) same)

  -- the next component was taken
  pub goes_more : {c : Component} {more : List Component} {next : Half} → left ≡ c ∷ more → component_by way table h c ≡ Ok next
      → Going way table first all next more
  goes_more {c} {more} {next} is step = record { same = stepped c more (Ok next) is step }

  -- the next component is refused
  pub goes_not : {c : Component} {more : List Component} {fault : EndFault} → left ≡ c ∷ more → component_by way table h c ≡ Err fault
      → components_by way table first all ≡ Err fault
  goes_not {c} {more} {fault} is step = stepped c more (Err fault) is step

  -- no component is left
  pub all_went : left ≡ [] → components_by way table first all ≡ Ok h
  all_went is = going.same ∙ ap (components_by way table h) is
