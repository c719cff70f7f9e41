-- Which octets spell components and the component portion (Q.773 4.2.2)?
use Rattle.std.specs.Prelude.{◌≡◌, ◌≢◌, ℕ, ◌⊎◌, ℤ, Bool, true, false, List, [], Option, Some, None}
use Rattle.tcap_ber.specs.declared.fault.Reason.TheVariants.{BadSize, UnexpectedTag, CodeTooWide, EmptyComponents}
use Rattle.tcap_ber.specs.Grammar.{Body, Field, required, optional, parameter, ended, ◌⨾◌, each, structure, made, integer}
use Rattle.tcap_ber.specs.Choice.{Choice, ◌▹◌, ◌∣◌, others_are, one_of}
use Rattle.tcap_ber.specs.ObjectId.{object_id}
use Rattle.tcap_ber.specs.SmallInteger.{small, null}
use Rattle.tcap_parts.specs.declared.code.Code.{Code}
use Rattle.tcap_parts.specs.declared.code.Code.TheVariants.{Local, Global}
use Rattle.tcap_parts.specs.declared.problem.Problem.{Problem}
use Rattle.tcap_parts.specs.declared.problem.Problem.TheVariants as problems
use Rattle.tcap_parts.specs.declared.component.ResultBody.{ResultBody}
use Rattle.tcap_parts.specs.declared.component.Component.{Component}
use Rattle.tcap_parts.specs.declared.component.Component.TheVariants.{Invoke, ReturnResult, ReturnError, Reject}

-- an invoke ID or a linked ID: an INTEGER of one octet
abbrev pub invoke_id : Body ℤ
invoke_id = integer 1 BadSize

-- An operation code or an error code: a local one, 02, an INTEGER of at most four octets, or a global one, 06, an
-- OBJECT IDENTIFIER.
abbrev pub code : Choice Code
code = 0x02 ▹ made Local (integer 4 CodeTooWide) ∣ 0x06 ▹ made Global object_id ∣ others_are UnexpectedTag

abbrev pub make_invoke : ℤ × (Option ℤ × (Code × (Option (List ℕ) × Unit {0}))) → Component
make_invoke parts = Invoke parts.0 parts.1.0 parts.1.1.0 parts.1.1.1.0

-- Invoke: invoke ID 02, [linked ID 80], operation code 02 or 06, [parameter]
abbrev pub invoke : Body Component
invoke = made make_invoke (structure (required 0x02 invoke_id ⨾ optional 0x80 invoke_id ⨾ one_of code ⨾ parameter
    ⨾ ended))

abbrev pub make_body : Code × (Option (List ℕ) × Unit {0}) → ResultBody
make_body parts = record { code = parts.0; parameter = parts.1.0 }

-- the body of a Return Result: operation code 02 or 06, [parameter]
abbrev pub result_body : Body ResultBody
result_body = made make_body (structure (one_of code ⨾ parameter ⨾ ended))

abbrev pub make_result : Bool → ℤ × (Option ResultBody × Unit {0}) → Component
make_result last parts = ReturnResult last parts.0 parts.1.0

-- Return Result, the last one or not: invoke ID 02, [body 30]
abbrev pub return_result : Bool → Body Component
return_result last = made (make_result last) (structure (required 0x02 invoke_id ⨾ optional 0x30 result_body ⨾ ended))

abbrev pub make_error : ℤ × (Code × (Option (List ℕ) × Unit {0})) → Component
make_error parts = ReturnError parts.0 parts.1.0 parts.1.1.0

-- Return Error: invoke ID 02, error code 02 or 06, [parameter]
abbrev pub return_error : Body Component
return_error = made make_error (structure (required 0x02 invoke_id ⨾ one_of code ⨾ parameter ⨾ ended))

-- the ID of a Reject: an invoke ID, 02, or NULL, 05, if it is unknown
abbrev pub rejected_id : Choice (Option ℤ)
rejected_id = 0x02 ▹ made Some invoke_id ∣ 0x05 ▹ made (λ _. None) null ∣ others_are UnexpectedTag

-- a problem, by its tag: general 80, Invoke 81, Return Result 82, Return Error 83
abbrev pub problem : Choice Problem
problem =
    0x80 ▹ made problems.General small
    ∣ 0x81 ▹ made problems.Invoke small
    ∣ 0x82 ▹ made problems.ReturnResult small
    ∣ 0x83 ▹ made problems.ReturnError small
    ∣ others_are UnexpectedTag

abbrev pub make_reject : Option ℤ × (Problem × Unit {0}) → Component
make_reject parts = Reject parts.0 parts.1.0

-- Reject: invoke ID 02 or NULL 05, problem 80 to 83
abbrev pub reject : Body Component
reject = made make_reject (structure (one_of rejected_id ⨾ one_of problem ⨾ ended))

-- the components, by their tags: Return Result Last is A2, Not Last A7
abbrev pub components : Choice Component
components =
    0xA1 ▹ invoke
    ∣ 0xA2 ▹ return_result true
    ∣ 0xA3 ▹ return_error
    ∣ 0xA4 ▹ reject
    ∣ 0xA7 ▹ return_result false
    ∣ others_are UnexpectedTag

-- a component
abbrev pub component : Field Component
component = one_of components

-- the octets spell the component
abbrev pub SpellsComponent : Component → List ℕ → Type 0
SpellsComponent c octets = component.spells c octets []

-- the content of the component portion, 6C: at least one component
abbrev pub portion : Body (List Component)
portion = record {
  spells = λ components octets. (components ≢ []) × (each component).spells components octets;
  faulty = λ at content reason place.
      ((content.octets ≡ []) × (reason ≡ EmptyComponents) × (place ≡ at))
      ⊎ (each component).faulty content reason place;
}

-- the octets spell the components, one after the other and at least one
abbrev pub SpellsPortion : List Component → List ℕ → Type 0
SpellsPortion = portion.spells
