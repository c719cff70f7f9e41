-- Which octets spell the dialogue portion and its PDUs (Q.773 4.2.3)?
use Rattle.std.specs.Prelude.{◌≡◌, ◌≢◌, ℕ, ◌≤◌, ◌⊎◌, List, [], ◌∷◌, Option}
use Rattle.tcap_ber.specs.declared.fault.Reason.TheVariants.{BadObjectId, UnexpectedTag, BadVersion, DialogueSyntax}
use Rattle.tcap_ber.specs.Grammar.{Body, required, optional, ended, ◌⨾◌, ◌⨾▹◌, structure, made, single}
use Rattle.tcap_ber.specs.Choice.{Choice, ◌▹◌, ◌∣◌, others_are, one_of}
use Rattle.tcap_ber.specs.ObjectId.{IsObjectId, object_id}
use Rattle.tcap_ber.specs.SmallInteger.{small}
use Rattle.tcap_parts.specs.declared.dialogue.Syntax.{Syntax}
use Rattle.tcap_parts.specs.declared.dialogue.Syntax.TheVariants.{Structured, Unstructured}
use Rattle.tcap_parts.specs.declared.dialogue.Source.{Source}
use Rattle.tcap_parts.specs.declared.dialogue.Source.TheVariants.{User, Provider}
use Rattle.tcap_parts.specs.declared.dialogue.Dialogue.{Dialogue}
use Rattle.tcap_parts.specs.declared.dialogue.Dialogue.TheVariants.{Request, Response, Abort, Uni}
use Rattle.tcap_parts.specs.Info.{info}

-- The contents of the names of the two abstract syntaxes: dialogue-as-id is { itu-t recommendation q 773 as(1)
-- dialogue-as(1) version1(1) }, unidialogue-as-id is { itu-t recommendation q 773 as(1) unidialogue-as(2) version1(1)
-- }.
abbrev pub as_id : Syntax → List ℕ
as_id Structured = 0x00 ∷ 0x11 ∷ 0x86 ∷ 0x05 ∷ 0x01 ∷ 0x01 ∷ 0x01 ∷ []
as_id Unstructured = 0x00 ∷ 0x11 ∷ 0x86 ∷ 0x05 ∷ 0x01 ∷ 0x02 ∷ 0x01 ∷ []

-- The name of an abstract syntax. Other contents are BadObjectId if they are not an OBJECT IDENTIFIER, else
-- DialogueSyntax. The place is the element's.
abbrev pub syntax : Body Syntax
syntax = record {
  spells = λ s octets. octets ≡ as_id s;
  faulty = λ at content reason place.
      (place ≡ at)
      × (((reason ≡ BadObjectId) × (IsObjectId content.octets → ⊥))
      ⊎ ((reason ≡ DialogueSyntax) × IsObjectId content.octets × ((s : Syntax) → content.octets ≢ as_id s)));
}

-- An accepted protocol version: a BIT STRING (X.690 8.6) of one octet with up to seven unused bits, whose first bit,
-- version1, is set. The one octet is this profile's limit.
abbrev pub IsVersion : List ℕ → Type 0
IsVersion octets = (unused bits : ℕ) × (octets ≡ unused ∷ bits ∷ []) × (unused ≤ 7) × (128 ≤ bits)

-- the protocol version, which is not kept; another version is BadVersion at the element
abbrev pub version : Body (Unit {0})
version = record {
  spells = λ _ octets. IsVersion octets;
  faulty = λ at content reason place. (IsVersion content.octets → ⊥) × (reason ≡ BadVersion) × (place ≡ at);
}

-- the application context name inside its tag: 06
abbrev pub context : Body (List ℕ)
context = single (required 0x06 object_id)

-- a number from 0 to 127 inside its tag: 02
abbrev pub number : Body ℕ
number = single (required 0x02 small)

-- the source of a diagnostic: the dialogue service user, A1, or its provider, A2
abbrev pub source : Choice Source
source = 0xA1 ▹ made User number ∣ 0xA2 ▹ made Provider number ∣ others_are UnexpectedTag

abbrev pub make_named : Option (Unit {0}) × (List ℕ × (Option (List ℕ) × Unit {0})) → List ℕ × Option (List ℕ)
make_named parts = (parts.1.0, parts.1.1.0)

-- AARQ and AUDT: [protocol version 80], application context name A1, [user information BE]
abbrev pub named : Body (List ℕ × Option (List ℕ))
named = made make_named (structure (optional 0x80 version ⨾ required 0xA1 context ⨾ optional 0xBE info ⨾ ended))

abbrev pub request : Body Dialogue
request = made (λ parts. Request parts.0 parts.1) named

abbrev pub uni : Body Dialogue
uni = made (λ parts. Uni parts.0 parts.1) named

abbrev pub make_response : Option (Unit {0}) × (List ℕ × (ℕ × (Source × (Option (List ℕ) × Unit {0})))) → Dialogue
make_response parts = Response parts.1.0 parts.1.1.0 parts.1.1.1.0 parts.1.1.1.1.0

-- AARE: [protocol version 80], application context name A1, result A2, diagnostic A3, [user information BE]
abbrev pub response : Body Dialogue
response =
    made make_response (structure (
    optional 0x80 version ⨾ required 0xA1 context ⨾ required 0xA2 number ⨾ required 0xA3 (single (one_of source))
    ⨾ optional 0xBE info ⨾ ended
    ))

abbrev pub make_abort : ℕ × (Option (List ℕ) × Unit {0}) → Dialogue
make_abort parts = Abort parts.0 parts.1.0

-- ABRT: abort source 80, [user information BE]
abbrev pub abort : Body Dialogue
abort = made make_abort (structure (required 0x80 small ⨾ optional 0xBE info ⨾ ended))

-- the PDUs of each abstract syntax, by their tags: AARQ 60, AARE 61, ABRT 64; AUDT 60
abbrev pub pdus : Syntax → Choice Dialogue
pdus Structured = 0x60 ▹ request ∣ 0x61 ▹ response ∣ 0x64 ▹ abort ∣ others_are DialogueSyntax
pdus Unstructured = 0x60 ▹ uni ∣ others_are DialogueSyntax

-- the name of an abstract syntax, 06
abbrev pub syntax_name : Choice Syntax
syntax_name = 0x06 ▹ syntax ∣ others_are DialogueSyntax

-- the single ASN.1 type, A0, which contains one PDU of this abstract syntax
abbrev pub single_type : Syntax → Choice Dialogue
single_type s = 0xA0 ▹ single (one_of (pdus s)) ∣ others_are DialogueSyntax

abbrev pub make_external : Syntax × (Dialogue × Unit {0}) → Dialogue
make_external parts = parts.1.0

-- the EXTERNAL of the dialogue portion (X.690 8.18): the name of the abstract syntax, and one PDU of it
abbrev pub dialogue_external : Body Dialogue
dialogue_external = made make_external (structure (one_of syntax_name ⨾▹ λ s. one_of (single_type s) ⨾ ended))

-- the content of the dialogue portion, 6B: one EXTERNAL, 28
abbrev pub dialogue : Body Dialogue
dialogue = single (required 0x28 dialogue_external)

-- the octets spell the dialogue
abbrev pub SpellsDialogue : Dialogue → List ℕ → Type 0
SpellsDialogue = dialogue.spells
