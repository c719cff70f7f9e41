-- Which values of the types are valid?
use Rattle.std.specs.Prelude.{◌≢◌, ℕ, ℤ, ◌^◌, ◌<◌, List, [], Option, Some, None}
use Rattle.std.specs.List.{All}
use Rattle.tcap_ber.specs.Element.{IsRaw}
use Rattle.tcap_ber.specs.ObjectId.{IsObjectId}
use Rattle.tcap_ber.specs.Canonical.{magnitude}
use Rattle.tcap_parts.specs.declared.code.Code.{Code}
use Rattle.tcap_parts.specs.declared.code.Code.TheVariants.{Local, Global}
use Rattle.tcap_parts.specs.declared.problem.Problem.{Problem}
use Rattle.tcap_parts.specs.declared.problem.Problem.TheVariants as problems
use Rattle.tcap_parts.specs.declared.component.ResultBody.{ResultBody}
use Rattle.tcap_parts.specs.declared.component.Component.{Component}
use Rattle.tcap_parts.specs.declared.component.Component.TheVariants.{Invoke, ReturnResult, ReturnError, Reject}

-- an invoke ID is a number of 8 bits
abbrev pub IsId : ℤ → Type 0
IsId id = magnitude id < 128

abbrev pub IsOptionalId : Option ℤ → Type 0
IsOptionalId None = Unit {0}
IsOptionalId (Some id) = IsId id

-- a local code is a number of 32 bits, a global one an OBJECT IDENTIFIER
abbrev pub IsCode : Code → Type 0
IsCode (Local n) = magnitude n < 2 ^ 31
IsCode (Global id) = IsObjectId id

-- a parameter, if there is one, is one element
abbrev pub IsParameter : Option (List ℕ) → Type 0
IsParameter None = Unit {0}
IsParameter (Some raw) = IsRaw raw

abbrev pub IsResultBody : Option ResultBody → Type 0
IsResultBody None = Unit {0}
IsResultBody (Some body) = IsCode body.code × IsParameter body.parameter

-- a problem is a number from 0 to 127
abbrev pub IsProblem : Problem → Type 0
IsProblem (problems.General n) = n < 128
IsProblem (problems.Invoke n) = n < 128
IsProblem (problems.ReturnResult n) = n < 128
IsProblem (problems.ReturnError n) = n < 128

abbrev pub IsComponent : Component → Type 0
IsComponent (Invoke id linked code parameter) = IsId id × IsOptionalId linked × IsCode code × IsParameter parameter
IsComponent (ReturnResult last id body) = IsId id × IsResultBody body
IsComponent (ReturnError id code parameter) = IsId id × IsCode code × IsParameter parameter
IsComponent (Reject id problem) = IsOptionalId id × IsProblem problem

-- a portion is valid components, at least one
abbrev pub IsPortion : List Component → Type 0
IsPortion components = (components ≢ []) × All IsComponent components
