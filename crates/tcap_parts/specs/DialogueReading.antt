-- What does reading a dialogue portion from left to right return, up to the first fault?
use Rattle.std.specs.Prelude.{Bool, false, ◌&&◌, ℕ, List, [], ◌∷◌, Option, Result, Ok, Err, nat_lt, nat_eq, if◌then◌else◌}
use Rattle.std.specs.Cmp.Lexicographic.{pointwise}
use Rattle.tcap_ber.specs.declared.fault.Fault.{Fault}
use Rattle.tcap_ber.specs.declared.fault.Reason.TheVariants.{UnexpectedTag, BadVersion, DialogueSyntax}
use Rattle.tcap_ber.specs.Span.{Span}
use Rattle.tcap_ber.specs.Reading.{◌>>=◌, fault, Element, required_at, optional_at, small_at, object_id_at, end_at, with_body, single_at, one_of_at, tagged_at, refused_at}
use Rattle.tcap_parts.specs.declared.dialogue.Syntax.{Syntax}
use Rattle.tcap_parts.specs.declared.dialogue.Syntax.TheVariants.{Structured, Unstructured}
use Rattle.tcap_parts.specs.declared.dialogue.Source.{Source}
use Rattle.tcap_parts.specs.declared.dialogue.Source.TheVariants.{User, Provider}
use Rattle.tcap_parts.specs.declared.dialogue.Dialogue.{Dialogue}
use Rattle.tcap_parts.specs.declared.dialogue.Dialogue.TheVariants.{Request, Response, Abort, Uni}
use Rattle.tcap_parts.specs.Dialogue.{as_id}
use Rattle.tcap_parts.specs.InfoReading.{info_at}

-- ---- parts

-- the octets are an accepted protocol version
abbrev pub is_version : List ℕ → Bool
is_version [] = false
is_version (unused ∷ []) = false
is_version (unused ∷ bits ∷ []) = nat_lt unused 8 && nat_lt 127 bits
is_version (unused ∷ bits ∷ next ∷ more) = false

unfoldable pub version_of : Element → Result (Unit {0}) Fault
version_of e = if is_version e.content.octets then Ok tt else Err (fault BadVersion e.place)

unfoldable pub version_at : Span → Result (Option (Unit {0}) × Span) Fault
version_at s = optional_at 0x80 version_of s

unfoldable pub context_of : Element → Result (List ℕ) Fault
context_of e = single_at (λ s. required_at 0x06 s >>= with_body object_id_at) e.content

unfoldable pub context_at : Span → Result (List ℕ × Span) Fault
context_at s = required_at 0xA1 s >>= with_body context_of

unfoldable pub number_in : Element → Result ℕ Fault
number_in e = single_at (λ s. required_at 0x02 s >>= with_body small_at) e.content

unfoldable pub result_at : Span → Result (ℕ × Span) Fault
result_at s = required_at 0xA2 s >>= with_body number_in

unfoldable pub source_at : Span → Result (Source × Span) Fault
source_at s =
    one_of_at
    (tagged_at 0xA1 (λ e. number_in e >>= λ n. Ok (User n))
    (tagged_at 0xA2 (λ e. number_in e >>= λ n. Ok (Provider n))
    (refused_at UnexpectedTag))) s

unfoldable pub diagnostic_of : Element → Result Source Fault
diagnostic_of e = single_at source_at e.content

unfoldable pub diagnostic_at : Span → Result (Source × Span) Fault
diagnostic_at s = required_at 0xA3 s >>= with_body diagnostic_of

unfoldable pub abort_source_at : Span → Result (ℕ × Span) Fault
abort_source_at s = required_at 0x80 s >>= with_body small_at

-- ---- PDUs

-- the application context name and the user information of an AARQ or an AUDT
unfoldable pub named_at : Span → Result (List ℕ × Option (List ℕ)) Fault
named_at s = do
  version ← version_at s
  context ← context_at version.1
  info ← info_at context.1
  end_at (context.0, info.0) info.1

unfoldable pub response_at : Span → Result Dialogue Fault
response_at s = do
  version ← version_at s
  context ← context_at version.1
  result ← result_at context.1
  diagnostic ← diagnostic_at result.1
  info ← info_at diagnostic.1
  end_at (Response context.0 result.0 diagnostic.0 info.0) info.1

unfoldable pub abort_at : Span → Result Dialogue Fault
abort_at s = do
  source ← abort_source_at s
  info ← info_at source.1
  end_at (Abort source.0 info.0) info.1

-- the element as a PDU, by its tag
abbrev pub pdu_of : Syntax → Element → Result Dialogue Fault
pdu_of Structured =
    tagged_at 0x60 (λ e. named_at e.content >>= λ parts. Ok (Request parts.0 parts.1))
    (tagged_at 0x61 (λ e. response_at e.content)
    (tagged_at 0x64 (λ e. abort_at e.content)
    (refused_at DialogueSyntax)))
pdu_of Unstructured = tagged_at 0x60 (λ e. named_at e.content >>= λ parts. Ok (Uni parts.0 parts.1))
    (refused_at DialogueSyntax)

unfoldable pub pdu_at : Syntax → Span → Result (Dialogue × Span) Fault
pdu_at s span = one_of_at (pdu_of s) span

-- ---- the dialogue portion

-- the abstract syntax that these contents name
abbrev pub syntax_in : ℕ → List ℕ → Result Syntax Fault
syntax_in place octets =
    if pointwise nat_eq octets (as_id Structured) then Ok Structured
    else (if pointwise nat_eq octets (as_id Unstructured) then Ok Unstructured else Err (fault DialogueSyntax place))

unfoldable pub syntax_of : Element → Result Syntax Fault
syntax_of e = object_id_at e >>= syntax_in e.place

unfoldable pub syntax_at : Span → Result (Syntax × Span) Fault
syntax_at s = one_of_at (tagged_at 0x06 syntax_of (refused_at DialogueSyntax)) s

unfoldable pub single_type_of : Syntax → Element → Result Dialogue Fault
single_type_of s e = single_at (pdu_at s) e.content

unfoldable pub single_type_at : Syntax → Span → Result (Dialogue × Span) Fault
single_type_at s span = one_of_at (tagged_at 0xA0 (single_type_of s) (refused_at DialogueSyntax)) span

unfoldable pub external_dialogue_at : Span → Result Dialogue Fault
external_dialogue_at s = do
  syntax ← syntax_at s
  dialogue ← single_type_at syntax.0 syntax.1
  end_at dialogue.0 dialogue.1

-- the PDU of a dialogue portion: one EXTERNAL, 28, and nothing after it
unfoldable pub dialogue_at : Span → Result Dialogue Fault
dialogue_at s = single_at (λ s. required_at 0x28 s >>= with_body (λ e. external_dialogue_at e.content)) s
