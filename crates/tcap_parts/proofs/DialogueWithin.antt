-- The place of a fault of a dialogue portion is among the octets or at their end.
use Rattle.std.proofs.Common.{arith}
use Rattle.tcap_ber.specs.declared.fault.Reason.TheVariants.{UnexpectedTag, DialogueSyntax}
use Rattle.tcap_ber.specs.Grammar.{required, optional, ended, ◌⨾◌, single}
use Rattle.tcap_ber.specs.Choice.{one_of}
use Rattle.tcap_ber.specs.ObjectId.{object_id}
use Rattle.tcap_ber.specs.SmallInteger.{small}
use Rattle.tcap_ber.proofs.WithinLaws.{BodyWithin, FieldWithin, ContentWithin, ChoiceWithin, required_within, optional_within, verbatim_within, ended_within, then_by_within, then_within, each_within, single_within, object_id_within, small_within, others_within, tagged_within, one_of_within}
use Rattle.tcap_parts.specs.declared.dialogue.Syntax.{Syntax}
use Rattle.tcap_parts.specs.declared.dialogue.Syntax.TheVariants.{Structured, Unstructured}
use Rattle.tcap_parts.specs.Info.{external, info}
use Rattle.tcap_parts.specs.Dialogue.{syntax, version, context, number, source, named, response, abort, pdus, syntax_name, single_type, dialogue_external, dialogue}

-- ---- parts

info_within : BodyWithin info
info_within at s reason place before h = each_within external (verbatim_within 0x28) s reason place h

version_within : BodyWithin version
version_within at s reason place before h = omega (arith, h.2, before)

syntax_within : BodyWithin syntax
syntax_within at s reason place before h = omega (arith, h.0, before)

context_within : BodyWithin context
context_within = single_within (required 0x06 object_id) (required_within 0x06 object_id object_id_within)

number_within : BodyWithin number
number_within = single_within (required 0x02 small) (required_within 0x02 small small_within)

source_within : BodyWithin (single (one_of source))
source_within =
    single_within (one_of source)
    (one_of_within source
    (tagged_within 0xA1 _ _ number_within
    (tagged_within 0xA2 _ _ number_within (others_within _ UnexpectedTag))))

informed_within : ContentWithin (optional 0xBE info ⨾ ended)
informed_within = then_within (optional 0xBE info) ended (optional_within 0xBE info info_within) ended_within

-- ---- PDUs

named_within : BodyWithin named
named_within at s reason place before h =
    then_within (optional 0x80 version) (required 0xA1 context ⨾ optional 0xBE info ⨾ ended) (optional_within 0x80 version version_within)
    (then_within (required 0xA1 context) (optional 0xBE info ⨾ ended) (required_within 0xA1 context context_within) informed_within) s reason place h

response_within : BodyWithin response
response_within at s reason place before h =
    then_within (optional 0x80 version) (required 0xA1 context ⨾ required 0xA2 number ⨾ required 0xA3 (single (one_of source)) ⨾ optional 0xBE info ⨾ ended)
    (optional_within 0x80 version version_within)
    (then_within (required 0xA1 context) (required 0xA2 number ⨾ required 0xA3 (single (one_of source)) ⨾ optional 0xBE info ⨾ ended)
    (required_within 0xA1 context context_within)
    (then_within (required 0xA2 number) (required 0xA3 (single (one_of source)) ⨾ optional 0xBE info ⨾ ended) (required_within 0xA2 number number_within)
    (then_within (required 0xA3 (single (one_of source))) (optional 0xBE info ⨾ ended) (required_within 0xA3 (single (one_of source)) source_within) informed_within)))
    s reason place h

abort_within : BodyWithin abort
abort_within at s reason place before h =
    then_within (required 0x80 small) (optional 0xBE info ⨾ ended) (required_within 0x80 small small_within) informed_within s reason place h

pdus_within : (s : Syntax) → ChoiceWithin (pdus s)
pdus_within Structured =
    tagged_within 0x60 _ _ named_within
    (tagged_within 0x61 _ _ response_within
    (tagged_within 0x64 _ _ abort_within (others_within _ DialogueSyntax)))
pdus_within Unstructured = tagged_within 0x60 _ _ named_within (others_within _ DialogueSyntax)

-- ---- the dialogue portion

syntax_name_within : FieldWithin (one_of syntax_name)
syntax_name_within = one_of_within syntax_name (tagged_within 0x06 _ _ syntax_within (others_within _ DialogueSyntax))

single_type_within : (s : Syntax) → FieldWithin (one_of (single_type s))
single_type_within s =
    one_of_within (single_type s)
    (tagged_within 0xA0 _ _ (single_within (one_of (pdus s)) (one_of_within (pdus s) (pdus_within s))) (others_within _ DialogueSyntax))

external_within : BodyWithin dialogue_external
external_within at s reason place before h =
    then_by_within (one_of syntax_name) (λ x. one_of (single_type x) ⨾ ended) syntax_name_within
    (λ x. then_within (one_of (single_type x)) ended (single_type_within x) ended_within) s reason place h

pub dialogue_within : BodyWithin dialogue
dialogue_within = single_within (required 0x28 dialogue_external) (required_within 0x28 dialogue_external external_within)
