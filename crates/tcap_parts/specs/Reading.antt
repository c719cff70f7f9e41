-- What does reading components from left to right return, up to the first fault?
use Rattle.std.specs.Prelude.{Bool, true, false, ℤ, List, length, Option, Some, None, Result, Ok, Err, ◌==◌, if◌then◌else◌}
use Rattle.tcap_ber.specs.declared.fault.Fault.{Fault}
use Rattle.tcap_ber.specs.declared.fault.Reason.TheVariants.{BadSize, UnexpectedTag, CodeTooWide, EmptyComponents}
use Rattle.tcap_ber.specs.Span.{Span}
use Rattle.tcap_ber.specs.Reading.{◌>>=◌, fault, Element, required_at, optional_at, small_integer_at, small_at, null_at, object_id_at, parameter_at, end_at, with_body, each_of, one_of_at, tagged_at, refused_at}
use Rattle.tcap_parts.specs.declared.code.Code.{Code}
use Rattle.tcap_parts.specs.declared.code.Code.TheVariants.{Local, Global}
use Rattle.tcap_parts.specs.declared.problem.Problem.{Problem}
use Rattle.tcap_parts.specs.declared.problem.Problem.TheVariants as problems
use Rattle.tcap_parts.specs.declared.component.ResultBody.{ResultBody}
use Rattle.tcap_parts.specs.declared.component.Component.{Component}
use Rattle.tcap_parts.specs.declared.component.Component.TheVariants.{Invoke, ReturnResult, ReturnError, Reject}

unfoldable pub invoke_id_at : Span → Result (ℤ × Span) Fault
invoke_id_at s = required_at 0x02 s >>= with_body (small_integer_at 1 BadSize)

unfoldable pub linked_id_at : Span → Result (Option ℤ × Span) Fault
linked_id_at s = optional_at 0x80 (small_integer_at 1 BadSize) s

abbrev pub local_code_of : Element → Result Code Fault
local_code_of e = small_integer_at 4 CodeTooWide e >>= λ n. Ok (Local n)

abbrev pub global_code_of : Element → Result Code Fault
global_code_of e = object_id_at e >>= λ id. Ok (Global id)

abbrev pub code_of_element : Element → Result Code Fault
code_of_element = tagged_at 0x02 local_code_of (tagged_at 0x06 global_code_of (refused_at UnexpectedTag))

unfoldable pub code_at : Span → Result (Code × Span) Fault
code_at s = one_of_at code_of_element s

unfoldable pub invoke_at : Span → Result Component Fault
invoke_at s = do
  id ← invoke_id_at s
  linked ← linked_id_at id.1
  code ← code_at linked.1
  parameter ← parameter_at code.1
  end_at (Invoke id.0 linked.0 code.0 parameter.0) parameter.1

unfoldable pub result_body_at : Span → Result ResultBody Fault
result_body_at s = do
  code ← code_at s
  parameter ← parameter_at code.1
  end_at (record { code = code.0; parameter = parameter.0 }) parameter.1

unfoldable pub optional_body_at : Span → Result (Option ResultBody × Span) Fault
optional_body_at s = optional_at 0x30 (λ e. result_body_at e.content) s

unfoldable pub return_result_at : Bool → Span → Result Component Fault
return_result_at last s = do
  id ← invoke_id_at s
  body ← optional_body_at id.1
  end_at (ReturnResult last id.0 body.0) body.1

unfoldable pub return_error_at : Span → Result Component Fault
return_error_at s = do
  id ← invoke_id_at s
  code ← code_at id.1
  parameter ← parameter_at code.1
  end_at (ReturnError id.0 code.0 parameter.0) parameter.1

abbrev pub some_id_of : Element → Result (Option ℤ) Fault
some_id_of e = small_integer_at 1 BadSize e >>= λ n. Ok (Some n)

abbrev pub no_id_of : Element → Result (Option ℤ) Fault
no_id_of e = null_at e >>= λ _. Ok None

unfoldable pub rejected_id_at : Span → Result (Option ℤ × Span) Fault
rejected_id_at s = one_of_at (tagged_at 0x02 some_id_of (tagged_at 0x05 no_id_of (refused_at UnexpectedTag))) s

abbrev pub problem_of_element : Element → Result Problem Fault
problem_of_element =
    tagged_at 0x80 (λ e. small_at e >>= λ n. Ok (problems.General n))
    (tagged_at 0x81 (λ e. small_at e >>= λ n. Ok (problems.Invoke n))
    (tagged_at 0x82 (λ e. small_at e >>= λ n. Ok (problems.ReturnResult n))
    (tagged_at 0x83 (λ e. small_at e >>= λ n. Ok (problems.ReturnError n))
    (refused_at UnexpectedTag))))

unfoldable pub problem_at : Span → Result (Problem × Span) Fault
problem_at s = one_of_at problem_of_element s

unfoldable pub reject_at : Span → Result Component Fault
reject_at s = do
  id ← rejected_id_at s
  problem ← problem_at id.1
  end_at (Reject id.0 problem.0) problem.1

-- the element as a component, by its tag
abbrev pub component_of_element : Element → Result Component Fault
component_of_element =
    tagged_at 0xA1 (λ e. invoke_at e.content)
    (tagged_at 0xA2 (λ e. return_result_at true e.content)
    (tagged_at 0xA3 (λ e. return_error_at e.content)
    (tagged_at 0xA4 (λ e. reject_at e.content)
    (tagged_at 0xA7 (λ e. return_result_at false e.content)
    (refused_at UnexpectedTag)))))

unfoldable pub component_at : Span → Result (Component × Span) Fault
component_at s = one_of_at component_of_element s

unfoldable pub components_at : Span → Result (List Component) Fault
components_at s = each_of component_at s

-- the components of a portion, or EmptyComponents if it has no content
unfoldable pub portion_at : Element → Result (List Component) Fault
portion_at e = if length e.content.octets == 0 then Err (fault EmptyComponents e.place) else components_at e.content
