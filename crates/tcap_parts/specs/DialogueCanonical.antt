-- Which spelling of a dialogue portion does the encoder write? The one with shortest definite lengths, the protocol
-- version 80 02 07 80, and user information verbatim.
use Rattle.std.specs.Prelude.{ℕ, List, [], ◌∷◌, Option, Some, None}
use Rattle.tcap_ber.specs.Canonical.{◌⧺◌, element_around}
use Rattle.tcap_parts.specs.declared.dialogue.Syntax.{Syntax}
use Rattle.tcap_parts.specs.declared.dialogue.Syntax.TheVariants.{Structured, Unstructured}
use Rattle.tcap_parts.specs.declared.dialogue.Source.{Source}
use Rattle.tcap_parts.specs.declared.dialogue.Source.TheVariants.{User, Provider}
use Rattle.tcap_parts.specs.declared.dialogue.Dialogue.{Dialogue}
use Rattle.tcap_parts.specs.declared.dialogue.Dialogue.TheVariants.{Request, Response, Abort, Uni}
use Rattle.tcap_parts.specs.Dialogue.{as_id}

-- the protocol version: seven unused bits, and version1
abbrev pub canonical_version : Option (List ℕ)
canonical_version = element_around 0x80 (Some (0x07 ∷ 0x80 ∷ []))

abbrev pub canonical_context : List ℕ → Option (List ℕ)
canonical_context id = element_around 0xA1 (element_around 0x06 (Some id))

-- a number from 0 to 127 inside this tag
abbrev pub canonical_number : ℕ → ℕ → Option (List ℕ)
canonical_number tag n = element_around tag (element_around 0x02 (Some (n ∷ [])))

abbrev pub canonical_source : Source → Option (List ℕ)
canonical_source (User n) = canonical_number 0xA1 n
canonical_source (Provider n) = canonical_number 0xA2 n

abbrev pub canonical_info : Option (List ℕ) → Option (List ℕ)
canonical_info None = Some []
canonical_info (Some externals) = element_around 0xBE (Some externals)

-- the content of an AARQ or an AUDT
abbrev pub canonical_named : List ℕ → Option (List ℕ) → Option (List ℕ)
canonical_named context info = canonical_version ⧺ canonical_context context ⧺ canonical_info info

-- the parts of a PDU, in their order
abbrev pub canonical_pdu_content : Dialogue → Option (List ℕ)
canonical_pdu_content (Request context info) = canonical_named context info
canonical_pdu_content (Response context result diagnostic info) =
    canonical_version ⧺ canonical_context context ⧺ canonical_number 0xA2 result
    ⧺ element_around 0xA3 (canonical_source diagnostic) ⧺ canonical_info info
canonical_pdu_content (Abort source info) = element_around 0x80 (Some (source ∷ [])) ⧺ canonical_info info
canonical_pdu_content (Uni context info) = canonical_named context info

abbrev pub pdu_tag : Dialogue → ℕ
pdu_tag (Request context info) = 0x60
pdu_tag (Response context result diagnostic info) = 0x61
pdu_tag (Abort source info) = 0x64
pdu_tag (Uni context info) = 0x60

-- the abstract syntax of a PDU
abbrev pub pdu_syntax : Dialogue → Syntax
pdu_syntax (Request context info) = Structured
pdu_syntax (Response context result diagnostic info) = Structured
pdu_syntax (Abort source info) = Structured
pdu_syntax (Uni context info) = Unstructured

abbrev pub canonical_pdu : Dialogue → Option (List ℕ)
canonical_pdu d = element_around (pdu_tag d) (canonical_pdu_content d)

-- the content of the EXTERNAL: the name of the abstract syntax, and the PDU as a single ASN.1 type
abbrev pub canonical_external_content : Dialogue → Option (List ℕ)
canonical_external_content d = element_around 0x06 (Some (as_id (pdu_syntax d))) ⧺ element_around 0xA0 (canonical_pdu d)

-- the content of the dialogue portion; None if a content is over the limit
abbrev pub canonical_dialogue : Dialogue → Option (List ℕ)
canonical_dialogue d = element_around 0x28 (canonical_external_content d)
