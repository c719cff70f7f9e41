-- Which text does `show` print, line by line?
use Rattle.std.specs.Prelude.{Bool, true, false, ℕ, ℤ, suc, List, [], ◌∷◌, ◌++◌, length, Option, Some, None, codes}
use Rattle.std.specs.List.{flat_map}
use Rattle.std.specs.Fmt.{decimal, signed_decimal}
use Rattle.hex.specs.Hex.{encode_lower}
use Rattle.tcap_ber.specs.Fault.{number_of}
use Rattle.tcap_parts.specs.declared.code.Code.{Code}
use Rattle.tcap_parts.specs.declared.code.Code.TheVariants.{Local, Global}
use Rattle.tcap_parts.specs.declared.problem.Problem.{Problem}
use Rattle.tcap_parts.specs.declared.problem.Problem.TheVariants as problems
use Rattle.tcap_parts.specs.declared.component.ResultBody.{ResultBody}
use Rattle.tcap_parts.specs.declared.component.Component.{Component}
use Rattle.tcap_parts.specs.declared.component.Component.TheVariants.{Invoke, ReturnResult, ReturnError, Reject}
use Rattle.tcap_parts.specs.declared.dialogue.Source.{Source}
use Rattle.tcap_parts.specs.declared.dialogue.Source.TheVariants.{User, Provider}
use Rattle.tcap_parts.specs.declared.dialogue.Dialogue.{Dialogue}
use Rattle.tcap_parts.specs.declared.dialogue.Dialogue.TheVariants.{Request, Response, Abort, Uni}
use Rattle.tcap_parts.specs.InfoReading.{externals_of}
use Rattle.tcap_msg.specs.declared.kind.Kind.{Kind}
use Rattle.tcap_msg.specs.declared.kind.Kind.TheVariants as kinds
use Rattle.tcap_msg.specs.declared.message.Message.{Message}
use Rattle.tcap_msg.specs.Parts.{kind_in, otid_in, dtid_in, cause_in, dialogue_in, components_in}
use Rattle.tcap_record.specs.declared.entry.End.{End}
use Rattle.tcap_record.specs.declared.entry.End.TheVariants as ends
use Rattle.tcap_record.specs.declared.entry.Body.{Body}
use Rattle.tcap_record.specs.declared.entry.Body.TheVariants.{Good, Bad, Quiet}
use Rattle.tcap_record.specs.declared.entry.Entry.{Entry}

abbrev pub line_end : List ℕ
line_end = 10 ∷ []

-- a local code as a number, a global one as g: and its octets
abbrev pub code_text : Code → List ℕ
code_text (Local n) = signed_decimal n
code_text (Global id) = codes "g:" ++ encode_lower id

abbrev pub parameter_text : Option (List ℕ) → List ℕ
parameter_text None = []
parameter_text (Some raw) = codes " parameter=" ++ encode_lower raw

abbrev pub linked_text : Option ℤ → List ℕ
linked_text None = []
linked_text (Some id) = codes " linked=" ++ signed_decimal id

-- an operation code or an error code, and a parameter
abbrev pub coded_text : Code → Option (List ℕ) → List ℕ
coded_text code parameter = code_text code ++ parameter_text parameter

abbrev pub operation_text : Code → Option (List ℕ) → List ℕ
operation_text code parameter = codes " op=" ++ coded_text code parameter

abbrev pub error_code_text : Code → Option (List ℕ) → List ℕ
error_code_text code parameter = codes " error=" ++ coded_text code parameter

abbrev pub result_name : Bool → List ℕ
result_name true = codes "ReturnResultLast"
result_name false = codes "ReturnResultNotLast"

abbrev pub result_body_text : Option ResultBody → List ℕ
result_body_text None = []
result_body_text (Some body) = operation_text body.code body.parameter

abbrev pub rejected_text : Option ℤ → List ℕ
rejected_text None = codes "null"
rejected_text (Some id) = signed_decimal id

abbrev pub problem_text : Problem → List ℕ
problem_text (problems.General n) = codes " general=" ++ decimal n
problem_text (problems.Invoke n) = codes " invoke=" ++ decimal n
problem_text (problems.ReturnResult n) = codes " result=" ++ decimal n
problem_text (problems.ReturnError n) = codes " error=" ++ decimal n

-- a component
abbrev pub component_text : Component → List ℕ
component_text (Invoke id linked code parameter) =
    codes "Invoke id=" ++ signed_decimal id ++ linked_text linked ++ operation_text code parameter
component_text (ReturnResult last id body) = result_name last ++ codes " id=" ++ signed_decimal id
    ++ result_body_text body
component_text (ReturnError id code parameter) = codes "ReturnError id=" ++ signed_decimal id
    ++ error_code_text code parameter
component_text (Reject id problem) = codes "Reject id=" ++ rejected_text id ++ problem_text problem

-- the line of a component
abbrev pub component_line : Component → List ℕ
component_line component = codes "  " ++ component_text component ++ line_end

abbrev pub kind_name : Kind → List ℕ
kind_name kinds.Unidirectional = codes "Unidirectional"
kind_name kinds.Begin = codes "Begin"
kind_name kinds.Continue = codes "Continue"
kind_name kinds.End = codes "End"
kind_name kinds.Abort = codes "Abort"

-- a transaction ID after this label
abbrev pub id_text : List ℕ → Option (List ℕ) → List ℕ
id_text label None = []
id_text label (Some id) = label ++ encode_lower id

abbrev pub cause_text : Option ℕ → List ℕ
cause_text None = []
cause_text (Some cause) = codes " cause=" ++ decimal cause

-- the number of EXTERNALs of user information
abbrev pub info_text : Option (List ℕ) → List ℕ
info_text None = []
info_text (Some info) = codes " info=" ++ decimal (length (externals_of info))

abbrev pub source_text : Source → List ℕ
source_text (User n) = codes " user=" ++ decimal n
source_text (Provider n) = codes " provider=" ++ decimal n

-- the name of a PDU, and its application context name
abbrev pub named_text : List ℕ → List ℕ → List ℕ
named_text name context = codes " " ++ name ++ codes " context=" ++ encode_lower context

abbrev pub result_text : ℕ → List ℕ
result_text n = codes " result=" ++ decimal n

abbrev pub abort_source_text : ℕ → List ℕ
abort_source_text n = codes " ABRT source=" ++ decimal n

-- a PDU of the dialogue portion
abbrev pub dialogue_text : Dialogue → List ℕ
dialogue_text (Request context info) = named_text (codes "AARQ") context ++ info_text info
dialogue_text (Response context result diagnostic info) =
    named_text (codes "AARE") context ++ result_text result ++ source_text diagnostic ++ info_text info
dialogue_text (Abort source info) = abort_source_text source ++ info_text info
dialogue_text (Uni context info) = named_text (codes "AUDT") context ++ info_text info

-- the PDU of a dialogue portion, or nothing
abbrev pub dialogue_portion_text : Option Dialogue → List ℕ
dialogue_portion_text None = []
dialogue_portion_text (Some dialogue) = dialogue_text dialogue

-- a message without its components: its kind, and those of its parts that it has
abbrev pub head_text : Message → List ℕ
head_text m =
    kind_name (kind_in m) ++ id_text (codes " otid=") (otid_in m) ++ id_text (codes " dtid=") (dtid_in m)
    ++ cause_text (cause_in m)
    ++ dialogue_portion_text (dialogue_in m)

-- a message, as it comes after its entry's number and end, and the lines of its components
abbrev pub message_text : Message → List ℕ
message_text m = head_text m ++ line_end ++ flat_map component_line (components_in m)

-- the line of a fault: the number of its reason, and its place
abbrev pub fault_line : ℕ → ℕ → List ℕ
fault_line number place = codes "FAULT " ++ decimal number ++ codes " " ++ decimal place ++ line_end

-- the rest of an entry's line, and the lines of its components
abbrev pub body_text : Body → List ℕ
body_text (Good m) = message_text m
body_text (Bad f) = fault_line (number_of f.reason) f.place
body_text Quiet = codes "Q" ++ line_end

-- the end that sent the entry, or nothing for a quiet mark
abbrev pub side_text : Option End → List ℕ
side_text None = []
side_text (Some ends.A) = codes "A "
side_text (Some ends.B) = codes "B "

-- the lines of the entry with this number
abbrev pub entry_lines : ℕ → Entry → List ℕ
entry_lines number entry = decimal number ++ codes " " ++ side_text entry.side ++ body_text entry.body

abbrev pub lines_from : ℕ → List Entry → List ℕ
lines_from number [] = []
lines_from number (entry ∷ entries) = entry_lines number entry ++ lines_from (suc number) entries

-- the lines of the entries, numbered from 0
abbrev pub lines_of : List Entry → List ℕ
lines_of entries = lines_from 0 entries
