-- Components in direction Out are sent, those in direction In are received.
use Rattle.std.proofs.Common.{◌≡◌, List, [], ◌∷◌, Result, Ok, Err, refl}
use Rattle.tcap_parts.specs.declared.component.Component.{Component}
use Rattle.tcap_end.specs.declared.fault.EndFault.{EndFault}
use Rattle.tcap_end.specs.declared.half_components.Direction.TheVariants.{Out, In}
use Rattle.tcap_end.specs.Step.{◌>>=◌}
use Rattle.tcap_end.specs.Table.{Table}
use Rattle.tcap_end.specs.Half.{Half}
use Rattle.tcap_end.specs.Component.{receive_component, send_component}
use Rattle.tcap_end.specs.Message.{receive_components, send_components}
use Rattle.tcap_end.specs.ComponentSteps.{components_by}

then_same : (step : Result Half EndFault) (rest other : Half → Result Half EndFault) → ((h : Half) → rest h ≡ other h)
    → (step >>= rest) ≡ (step >>= other)
then_same (Ok h) rest other same = same h
then_same (Err reason) rest other same = refl

pub sends_out : (table : Table) (h : Half) (components : List Component)
    → components_by Out table h components ≡ send_components table h components
sends_out table h [] = refl
sends_out table h (component ∷ more) =
    then_same (send_component table h component) (λ next. components_by Out table next more) (λ next. send_components table next more)
    (λ next. sends_out table next more)

pub receives_in : (table : Table) (h : Half) (components : List Component)
    → components_by In table h components ≡ Ok (receive_components table h components)
receives_in table h [] = refl
receives_in table h (component ∷ more) = receives_in table (receive_component table h component) more
