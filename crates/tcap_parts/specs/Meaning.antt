-- Which values do views of components hold?
use Rattle.std.specs.Prelude.{ℕ, List, Option}
use Rattle.std.specs.Option.{option_map}
use Rattle.tcap_ber.specs.declared.raw.RawView.{RawView}
use Rattle.tcap_ber.specs.Reading.{span, read_or_none}
use Rattle.tcap_parts.specs.declared.code.Code.{Code}
use Rattle.tcap_parts.specs.declared.code.Code.TheVariants as codes
use Rattle.tcap_parts.specs.declared.code.CodeView.{CodeView}
use Rattle.tcap_parts.specs.declared.code.CodeView.TheVariants as code_views
use Rattle.tcap_parts.specs.declared.problem.Problem.{Problem}
use Rattle.tcap_parts.specs.declared.problem.Problem.TheVariants as problems
use Rattle.tcap_parts.specs.declared.problem.ProblemView.{ProblemView}
use Rattle.tcap_parts.specs.declared.problem.ProblemView.TheVariants as problem_views
use Rattle.tcap_parts.specs.declared.component.ResultBody.{ResultBody}
use Rattle.tcap_parts.specs.declared.component.ResultBodyView.{ResultBodyView}
use Rattle.tcap_parts.specs.declared.component.Component.{Component}
use Rattle.tcap_parts.specs.declared.component.Component.TheVariants as owned
use Rattle.tcap_parts.specs.declared.component.ComponentView.{ComponentView}
use Rattle.tcap_parts.specs.declared.component.ComponentView.TheVariants as views
use Rattle.tcap_parts.specs.declared.portion.OctetPortion.{OctetPortion}
use Rattle.tcap_parts.specs.declared.portion.PortionView.{PortionView}
use Rattle.tcap_parts.specs.declared.portion.PortionView.TheVariants as portion_views
use Rattle.tcap_parts.specs.declared.components.OctetComponents.{OctetComponents}
use Rattle.tcap_parts.specs.declared.components.Components.{Components}
use Rattle.tcap_parts.specs.declared.components.Components.TheVariants as cursors
use Rattle.tcap_parts.specs.Reading.{components_at}

-- the code of a view
abbrev pub code_of : CodeView → Code
code_of (code_views.Local n) = codes.Local n
code_of (code_views.Global id) = codes.Global id.octets.now

-- the parameter of a view
abbrev pub parameter_of : Option RawView → Option (List ℕ)
parameter_of parameter = option_map (λ raw. raw.octets.now) parameter

-- the body of a Return Result in a view
abbrev pub body_of : ResultBodyView → ResultBody
body_of view = record { code = code_of view.code; parameter = parameter_of view.parameter }

-- the problem of a view
abbrev pub problem_of : ProblemView → Problem
problem_of (problem_views.General n) = problems.General n.number
problem_of (problem_views.Invoke n) = problems.Invoke n.number
problem_of (problem_views.ReturnResult n) = problems.ReturnResult n.number
problem_of (problem_views.ReturnError n) = problems.ReturnError n.number

-- the component of a view
abbrev pub component_of : ComponentView → Component
component_of (views.Invoke id linked code parameter) = owned.Invoke id linked (code_of code) (parameter_of parameter)
component_of (views.ReturnResult last id body) = owned.ReturnResult last id (option_map body_of body)
component_of (views.ReturnError id code parameter) = owned.ReturnError id (code_of code) (parameter_of parameter)
component_of (views.Reject id problem) = owned.Reject id (problem_of problem)

-- the components of a portion of octets
abbrev pub octet_components_of : OctetPortion → List Component
octet_components_of portion = read_or_none (components_at (span portion.content))

-- the components of a portion's view
abbrev pub components_of : PortionView → List Component
components_of (portion_views.Octets portion) = octet_components_of portion
components_of (portion_views.Value portion) = portion.now

-- the components that an iterator over octets has still to return
abbrev pub octet_components_left : OctetComponents → List Component
octet_components_left cursor = read_or_none (components_at (span cursor.rest))

-- the components that an iterator has still to return
abbrev pub components_left : Components → List Component
components_left (cursors.Octets cursor) = octet_components_left cursor
components_left (cursors.Values components) = components.now
