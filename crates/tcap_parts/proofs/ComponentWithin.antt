-- The place of a fault of a component portion is among the octets or at their end.
use Rattle.std.proofs.Common.{Bool, true, false, inl, inr, arith}
use Rattle.tcap_ber.specs.declared.fault.Reason.TheVariants.{BadSize, UnexpectedTag, CodeTooWide}
use Rattle.tcap_ber.specs.Grammar.{required, optional, parameter, ended, ◌⨾◌}
use Rattle.tcap_ber.specs.Choice.{one_of}
use Rattle.tcap_ber.proofs.WithinLaws.{BodyWithin, FieldWithin, ContentWithin, required_within, optional_within, parameter_within, ended_within, then_within, each_within, integer_within, object_id_within, small_within, null_within, others_within, tagged_within, one_of_within}
use Rattle.tcap_parts.specs.Component.{invoke_id, code, invoke, result_body, return_result, return_error, rejected_id, problem, reject, components, component, portion}

-- ---- parts

id_within : BodyWithin invoke_id
id_within = integer_within 1 BadSize

code_within : FieldWithin (one_of code)
code_within =
    one_of_within code
    (tagged_within 0x02 _ _ (integer_within 4 CodeTooWide)
    (tagged_within 0x06 _ _ object_id_within (others_within _ UnexpectedTag)))

-- a code and a parameter, which are the rest of the structure
coded_within : ContentWithin (one_of code ⨾ parameter ⨾ ended)
coded_within = then_within (one_of code) (parameter ⨾ ended) code_within (then_within parameter ended parameter_within ended_within)

-- ---- components

invoke_within : BodyWithin invoke
invoke_within at s reason place before h =
    then_within (required 0x02 invoke_id) (optional 0x80 invoke_id ⨾ one_of code ⨾ parameter ⨾ ended) (required_within 0x02 invoke_id id_within)
    (then_within (optional 0x80 invoke_id) (one_of code ⨾ parameter ⨾ ended) (optional_within 0x80 invoke_id id_within) coded_within) s reason place h

body_within : BodyWithin result_body
body_within at s reason place before h = coded_within s reason place h

result_within : (last : Bool) → BodyWithin (return_result last)
result_within last at s reason place before h =
    then_within (required 0x02 invoke_id) (optional 0x30 result_body ⨾ ended) (required_within 0x02 invoke_id id_within)
    (then_within (optional 0x30 result_body) ended (optional_within 0x30 result_body body_within) ended_within) s reason place h

error_within : BodyWithin return_error
error_within at s reason place before h =
    then_within (required 0x02 invoke_id) (one_of code ⨾ parameter ⨾ ended) (required_within 0x02 invoke_id id_within) coded_within s reason place h

rejected_within : FieldWithin (one_of rejected_id)
rejected_within =
    one_of_within rejected_id
    (tagged_within 0x02 _ _ id_within
    (tagged_within 0x05 _ _ null_within (others_within _ UnexpectedTag)))

problem_within : FieldWithin (one_of problem)
problem_within =
    one_of_within problem
    (tagged_within 0x80 _ _ small_within
    (tagged_within 0x81 _ _ small_within
    (tagged_within 0x82 _ _ small_within
    (tagged_within 0x83 _ _ small_within (others_within _ UnexpectedTag)))))

reject_within : BodyWithin reject
reject_within at s reason place before h =
    then_within (one_of rejected_id) (one_of problem ⨾ ended) rejected_within (then_within (one_of problem) ended problem_within ended_within) s reason place h

component_within : FieldWithin component
component_within =
    one_of_within components
    (tagged_within 0xA1 _ _ invoke_within
    (tagged_within 0xA2 _ _ (result_within true)
    (tagged_within 0xA3 _ _ error_within
    (tagged_within 0xA4 _ _ reject_within
    (tagged_within 0xA7 _ _ (result_within false) (others_within _ UnexpectedTag))))))

pub portion_within : BodyWithin portion
portion_within at s reason place before (inl h) = omega (arith, h.2, before)
portion_within at s reason place before (inr h) = each_within component component_within s reason place h
