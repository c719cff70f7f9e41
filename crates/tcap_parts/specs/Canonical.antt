-- Which spelling of components does the encoder write? The one with shortest definite lengths and parameters verbatim.
use Rattle.std.specs.Prelude.{true, false, ℕ, ℤ, List, [], ◌∷◌, length, Option, Some, None, nat_le, if◌then◌else◌}
use Rattle.tcap_ber.specs.Element.{content_limit}
use Rattle.tcap_ber.specs.Canonical.{◌⧺◌, element_around, integer_octets}
use Rattle.tcap_parts.specs.declared.code.Code.{Code}
use Rattle.tcap_parts.specs.declared.code.Code.TheVariants.{Local, Global}
use Rattle.tcap_parts.specs.declared.problem.Problem.{Problem}
use Rattle.tcap_parts.specs.declared.problem.Problem.TheVariants as problems
use Rattle.tcap_parts.specs.declared.component.ResultBody.{ResultBody}
use Rattle.tcap_parts.specs.declared.component.Component.{Component}
use Rattle.tcap_parts.specs.declared.component.Component.TheVariants.{Invoke, ReturnResult, ReturnError, Reject}

-- an INTEGER with this tag
abbrev pub canonical_integer : ℕ → ℤ → Option (List ℕ)
canonical_integer tag n = element_around tag (Some (integer_octets n))

-- a local code, 02, or a global code, 06
abbrev pub canonical_code : Code → Option (List ℕ)
canonical_code (Local n) = canonical_integer 0x02 n
canonical_code (Global id) = element_around 0x06 (Some id)

abbrev pub parameter_octets : Option (List ℕ) → List ℕ
parameter_octets None = []
parameter_octets (Some raw) = raw

-- an operation code or an error code, and a parameter
abbrev pub canonical_coded : Code → Option (List ℕ) → Option (List ℕ)
canonical_coded code parameter = canonical_code code ⧺ Some (parameter_octets parameter)

abbrev pub canonical_linked : Option ℤ → Option (List ℕ)
canonical_linked None = Some []
canonical_linked (Some id) = canonical_integer 0x80 id

-- the body of a Return Result, 30, or nothing
abbrev pub canonical_body : Option ResultBody → Option (List ℕ)
canonical_body None = Some []
canonical_body (Some body) = element_around 0x30 (canonical_coded body.code body.parameter)

-- the ID of a Reject: an invoke ID, 02, or NULL, 05
abbrev pub canonical_rejected : Option ℤ → Option (List ℕ)
canonical_rejected None = element_around 0x05 (Some [])
canonical_rejected (Some id) = canonical_integer 0x02 id

abbrev pub problem_tag : Problem → ℕ
problem_tag (problems.General n) = 0x80
problem_tag (problems.Invoke n) = 0x81
problem_tag (problems.ReturnResult n) = 0x82
problem_tag (problems.ReturnError n) = 0x83

abbrev pub problem_number : Problem → ℕ
problem_number (problems.General n) = n
problem_number (problems.Invoke n) = n
problem_number (problems.ReturnResult n) = n
problem_number (problems.ReturnError n) = n

abbrev pub canonical_problem : Problem → Option (List ℕ)
canonical_problem problem = element_around (problem_tag problem) (Some (problem_number problem ∷ []))

abbrev pub component_tag : Component → ℕ
component_tag (Invoke id linked code parameter) = 0xA1
component_tag (ReturnResult true id body) = 0xA2
component_tag (ReturnResult false id body) = 0xA7
component_tag (ReturnError id code parameter) = 0xA3
component_tag (Reject id problem) = 0xA4

-- the parts of a component, in their order
abbrev pub canonical_content : Component → Option (List ℕ)
canonical_content (Invoke id linked code parameter) = canonical_integer 0x02 id ⧺ canonical_linked linked
    ⧺ canonical_coded code parameter
canonical_content (ReturnResult last id body) = canonical_integer 0x02 id ⧺ canonical_body body
canonical_content (ReturnError id code parameter) = canonical_integer 0x02 id ⧺ canonical_coded code parameter
canonical_content (Reject id problem) = canonical_rejected id ⧺ canonical_problem problem

-- a component; None if a content is over the limit
abbrev pub canonical_component : Component → Option (List ℕ)
canonical_component c = element_around (component_tag c) (canonical_content c)

-- components one after the other
abbrev pub canonical_components : List Component → Option (List ℕ)
canonical_components [] = Some []
canonical_components (c ∷ cs) = canonical_component c ⧺ canonical_components cs

-- the content, if it is within the limit
abbrev pub within_limit : Option (List ℕ) → Option (List ℕ)
within_limit None = None
within_limit (Some content) = if nat_le (length content) content_limit then Some content else None

-- the content of a component portion
abbrev pub canonical_portion : List Component → Option (List ℕ)
canonical_portion components = within_limit (canonical_components components)
