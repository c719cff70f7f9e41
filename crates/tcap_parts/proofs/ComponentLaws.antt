-- The reader of components is exact, in the sense of `Reads` in tcap_ber.
use Rattle.std.proofs.Common.{ℕ, Bool, true, false, List, Option, Some, None, Ok, arith}
use Rattle.tcap_ber.specs.declared.fault.Reason.TheVariants.{BadSize, UnexpectedTag, CodeTooWide}
use Rattle.tcap_ber.specs.Grammar.{required, optional, parameter, ended, ◌⨾◌, made, integer}
use Rattle.tcap_ber.specs.Choice.{◌▹◌, ◌∣◌, others_are, one_of}
use Rattle.tcap_ber.specs.ObjectId.{object_id}
use Rattle.tcap_ber.specs.SmallInteger.{small, null}
use Rattle.tcap_ber.specs.Reading.{◌>>=◌, small_integer_at, small_at, null_at, object_id_at, parameter_at, end_at, tagged_at, refused_at}
use Rattle.tcap_ber.proofs.ElementLaws.{element_len_at_least}
use Rattle.tcap_ber.specs.ExactReader.{ReadsField, ReadsBody, ReadsContent}
use Rattle.tcap_ber.proofs.EachLaws.{HasOctets}
use Rattle.tcap_ber.proofs.GrammarLaws.{reads_required, reads_optional, reads_parameter, reads_ended, reads_then, reads_structure}
use Rattle.tcap_ber.proofs.BodyLaws.{reads_integer, reads_made}
use Rattle.tcap_ber.proofs.ChoiceLaws.{reads_tagged, reads_others, reads_one_of, reads_null}
use Rattle.tcap_ber.proofs.ObjectIdLaws.{reads_object_id}
use Rattle.tcap_ber.proofs.SmallLaws.{reads_small}
use Rattle.tcap_parts.specs.declared.code.Code.{Code}
use Rattle.tcap_parts.specs.declared.code.Code.TheVariants.{Local, Global}
use Rattle.tcap_parts.specs.declared.problem.Problem.{Problem}
use Rattle.tcap_parts.specs.declared.problem.Problem.TheVariants as problems
use Rattle.tcap_parts.specs.declared.component.Component.TheVariants.{Invoke, ReturnResult, ReturnError, Reject}
use Rattle.tcap_parts.specs.Component.{invoke_id, code, make_invoke, invoke, make_body, result_body, make_result, return_result, make_error, return_error, rejected_id, problem, make_reject, reject, components, component}
use Rattle.tcap_parts.specs.Reading.{invoke_id_at, linked_id_at, local_code_of, global_code_of, code_at, invoke_at, result_body_at, optional_body_at, return_result_at, return_error_at, some_id_of, no_id_of, rejected_id_at, problem_at, reject_at, component_at}

-- ---- parts

reads_id_body : ReadsBody invoke_id (small_integer_at 1 BadSize)
reads_id_body = reads_integer 1 BadSize

reads_invoke_id : ReadsField (required 0x02 invoke_id) invoke_id_at
unfolding invoke_id_at
reads_invoke_id = reads_required 0x02 invoke_id (small_integer_at 1 BadSize) reads_id_body

reads_linked_id : ReadsField (optional 0x80 invoke_id) linked_id_at
unfolding linked_id_at
reads_linked_id = reads_optional 0x80 invoke_id (small_integer_at 1 BadSize) reads_id_body

pub reads_code : ReadsField (one_of code) code_at
unfolding code_at
reads_code =
    reads_one_of code (tagged_at 0x02 local_code_of (tagged_at 0x06 global_code_of (refused_at UnexpectedTag)))
    (reads_tagged 0x02 _ local_code_of (0x06 ▹ _ ∣ others_are UnexpectedTag) (tagged_at 0x06 global_code_of (refused_at UnexpectedTag))
    (reads_made Local (integer 4 CodeTooWide) (small_integer_at 4 CodeTooWide) (reads_integer 4 CodeTooWide))
    (reads_tagged 0x06 _ global_code_of (others_are UnexpectedTag) (refused_at UnexpectedTag)
    (reads_made Global object_id object_id_at reads_object_id)
    (reads_others UnexpectedTag)))

reads_rejected_id : ReadsField (one_of rejected_id) rejected_id_at
unfolding rejected_id_at
reads_rejected_id =
    reads_one_of rejected_id (tagged_at 0x02 some_id_of (tagged_at 0x05 no_id_of (refused_at UnexpectedTag)))
    (reads_tagged 0x02 _ some_id_of (0x05 ▹ _ ∣ others_are UnexpectedTag) (tagged_at 0x05 no_id_of (refused_at UnexpectedTag))
    (reads_made Some invoke_id (small_integer_at 1 BadSize) reads_id_body)
    (reads_tagged 0x05 _ no_id_of (others_are UnexpectedTag) (refused_at UnexpectedTag)
    (reads_made (λ _. None) null null_at reads_null)
    (reads_others UnexpectedTag)))

-- a problem of one kind
reads_problem_of : (make : ℕ → Problem) → ReadsBody (made make small) (λ e. small_at e >>= λ n. Ok (make n))
reads_problem_of make = reads_made make small small_at reads_small

reads_problem : ReadsField (one_of problem) problem_at
unfolding problem_at
reads_problem =
    reads_one_of problem _
    (reads_tagged 0x80 _ _ _ _ (reads_problem_of problems.General)
    (reads_tagged 0x81 _ _ _ _ (reads_problem_of problems.Invoke)
    (reads_tagged 0x82 _ _ _ _ (reads_problem_of problems.ReturnResult)
    (reads_tagged 0x83 _ _ _ _ (reads_problem_of problems.ReturnError)
    (reads_others UnexpectedTag)))))

-- ---- components

-- a code and a parameter, which are the rest of the structure
reads_coded : {V : Type 0} (make : Code × (Option (List ℕ) × Unit {0}) → V)
    → ReadsContent (one_of code ⨾ parameter ⨾ ended) make (λ s. code_at s >>= λ code. parameter_at code.1 >>= λ p. end_at (make (code.0, (p.0, tt))) p.1)
reads_coded make =
    reads_then (one_of code) (parameter ⨾ ended) make code_at
    (λ code s. parameter_at s >>= λ p. end_at (make (code, (p.0, tt))) p.1)
    reads_code
    (λ code. reads_then parameter ended (λ w. make (code, w)) parameter_at
    (λ p s. end_at (make (code, (p, tt))) s)
    reads_parameter
    (λ p. reads_ended (make (code, (p, tt)))))

reads_invoke_parts : ReadsContent (required 0x02 invoke_id ⨾ optional 0x80 invoke_id ⨾ one_of code ⨾ parameter ⨾ ended) make_invoke invoke_at
unfolding invoke_at
reads_invoke_parts =
    reads_then (required 0x02 invoke_id) (optional 0x80 invoke_id ⨾ one_of code ⨾ parameter ⨾ ended) make_invoke invoke_id_at
    (λ id s. linked_id_at s >>= λ linked. code_at linked.1 >>= λ code. parameter_at code.1 >>= λ p. end_at (Invoke id linked.0 code.0 p.0) p.1)
    reads_invoke_id
    (λ id. reads_then (optional 0x80 invoke_id) (one_of code ⨾ parameter ⨾ ended) (λ w. make_invoke (id, w)) linked_id_at
    (λ linked s. code_at s >>= λ code. parameter_at code.1 >>= λ p. end_at (Invoke id linked code.0 p.0) p.1)
    reads_linked_id
    (λ linked. reads_coded (λ w. make_invoke (id, (linked, w)))))

reads_result_body : ReadsBody result_body (λ e. result_body_at e.content)
unfolding result_body_at
reads_result_body =
    reads_structure (one_of code ⨾ parameter ⨾ ended) make_body (λ s. code_at s >>= λ code. parameter_at code.1 >>= λ p. end_at (make_body (code.0, (p.0, tt))) p.1)
    (reads_coded make_body)

reads_optional_body : ReadsField (optional 0x30 result_body) optional_body_at
unfolding optional_body_at
reads_optional_body = reads_optional 0x30 result_body (λ e. result_body_at e.content) reads_result_body

reads_result_parts : (last : Bool) → ReadsContent (required 0x02 invoke_id ⨾ optional 0x30 result_body ⨾ ended) (make_result last) (return_result_at last)
unfolding return_result_at
reads_result_parts last =
    reads_then (required 0x02 invoke_id) (optional 0x30 result_body ⨾ ended) (make_result last) invoke_id_at
    (λ id s. optional_body_at s >>= λ body. end_at (ReturnResult last id body.0) body.1)
    reads_invoke_id
    (λ id. reads_then (optional 0x30 result_body) ended (λ w. make_result last (id, w)) optional_body_at
    (λ body s. end_at (ReturnResult last id body) s)
    reads_optional_body
    (λ body. reads_ended (ReturnResult last id body)))

reads_error_parts : ReadsContent (required 0x02 invoke_id ⨾ one_of code ⨾ parameter ⨾ ended) make_error return_error_at
unfolding return_error_at
reads_error_parts =
    reads_then (required 0x02 invoke_id) (one_of code ⨾ parameter ⨾ ended) make_error invoke_id_at
    (λ id s. code_at s >>= λ code. parameter_at code.1 >>= λ p. end_at (ReturnError id code.0 p.0) p.1)
    reads_invoke_id
    (λ id. reads_coded (λ w. make_error (id, w)))

reads_reject_parts : ReadsContent (one_of rejected_id ⨾ one_of problem ⨾ ended) make_reject reject_at
unfolding reject_at
reads_reject_parts =
    reads_then (one_of rejected_id) (one_of problem ⨾ ended) make_reject rejected_id_at
    (λ id s. problem_at s >>= λ problem. end_at (Reject id problem.0) problem.1)
    reads_rejected_id
    (λ id. reads_then (one_of problem) ended (λ w. make_reject (id, w)) problem_at
    (λ problem s. end_at (Reject id problem) s)
    reads_problem
    (λ problem. reads_ended (Reject id problem)))

reads_invoke : ReadsBody invoke (λ e. invoke_at e.content)
reads_invoke = reads_structure _ make_invoke invoke_at reads_invoke_parts

reads_result : (last : Bool) → ReadsBody (return_result last) (λ e. return_result_at last e.content)
reads_result last = reads_structure _ (make_result last) (return_result_at last) (reads_result_parts last)

reads_error : ReadsBody return_error (λ e. return_error_at e.content)
reads_error = reads_structure _ make_error return_error_at reads_error_parts

reads_reject : ReadsBody reject (λ e. reject_at e.content)
reads_reject = reads_structure _ make_reject reject_at reads_reject_parts

pub reads_component : ReadsField component component_at
unfolding component_at
reads_component =
    reads_one_of components _
    (reads_tagged 0xA1 _ _ _ _ reads_invoke
    (reads_tagged 0xA2 _ _ _ _ (reads_result true)
    (reads_tagged 0xA3 _ _ _ _ reads_error
    (reads_tagged 0xA4 _ _ _ _ reads_reject
    (reads_tagged 0xA7 _ _ _ _ (reads_result false)
    (reads_others UnexpectedTag))))))

pub component_has_octets : HasOctets component
component_has_octets c front rest spelled = omega (arith, element_len_at_least spelled.tag spelled.content front spelled.is_element)
