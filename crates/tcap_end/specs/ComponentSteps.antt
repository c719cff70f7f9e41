-- How a half changes when it sends or receives components.
use Rattle.std.specs.Prelude.{List, [], ◌∷◌, Result, Ok}
use Rattle.tcap_parts.specs.declared.component.Component.{Component}
use Rattle.tcap_end.specs.declared.fault.EndFault.{EndFault}
use Rattle.tcap_end.specs.declared.half.Slot.{Slot}
use Rattle.tcap_end.specs.declared.half.Slot.TheVariants.{Begun, Accepted}
use Rattle.tcap_end.specs.declared.half_components.Direction.{Direction}
use Rattle.tcap_end.specs.declared.half_components.Direction.TheVariants.{Out, In}
use Rattle.tcap_end.specs.Step.{◌>>=◌}
use Rattle.tcap_end.specs.Table.{Table}
use Rattle.tcap_end.specs.Half.{Half}
use Rattle.tcap_end.specs.Component.{send_component, receive_component}

-- A half sends (Out) or receives (In) a component. A received component is never refused.
abbrev pub component_by : Direction → Table → Half → Component → Result Half EndFault
component_by Out table h component = send_component table h component
component_by In table h component = Ok (receive_component table h component)

-- A half sends or receives components, one by one.
abbrev pub components_by : Direction → Table → Half → List Component → Result Half EndFault
components_by way table h [] = Ok h
components_by way table h (component ∷ more) = do
  next ← component_by way table h component
  components_by way table next more

-- the direction of the Continue that answers a half's Begin: received if the half sent the Begin, sent if it received
-- it
abbrev pub direction_of : Slot → Direction
direction_of Begun = In
direction_of Accepted = Out
