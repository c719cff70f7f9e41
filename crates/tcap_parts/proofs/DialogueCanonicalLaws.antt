-- The canonical spellings of dialogue portions are spellings by the grammar.
use Rattle.std.proofs.Common.{◌≡◌, ◌≢◌, ℕ, ◌%◌, ◌<◌, List, [], ◌∷◌, Option, Some, None, refl, sym, ◌∙◌, inl, inr, arith}
use Rattle.tcap_ber.specs.Grammar.{Content, IsElementOf, SpellsOptional, required, optional, ended, single, ◌⨾◌}
use Rattle.tcap_ber.specs.Choice.{IsOneOf, one_of}
use Rattle.tcap_ber.specs.ObjectId.{IsObjectId, object_id}
use Rattle.tcap_ber.specs.SmallInteger.{small}
use Rattle.tcap_ber.specs.Canonical.{◌⧺◌, element_around}
use Rattle.tcap_ber.proofs.CanonicalLaws.{some_is, apart, element_around-spells, element_of-spells, one_around-spells, one_of-spells, join_assoc, decides-spells, then-spells, last-spells, single-spells}
use Rattle.tcap_parts.specs.declared.dialogue.Syntax.{Syntax}
use Rattle.tcap_parts.specs.declared.dialogue.Source.{Source}
use Rattle.tcap_parts.specs.declared.dialogue.Source.TheVariants.{User, Provider}
use Rattle.tcap_parts.specs.declared.dialogue.Dialogue.{Dialogue}
use Rattle.tcap_parts.specs.declared.dialogue.Dialogue.TheVariants.{Request, Response, Abort, Uni}
use Rattle.tcap_parts.specs.Info.{info}
use Rattle.tcap_parts.specs.Dialogue.{as_id, version, context, number, source, named, response, abort, pdus, syntax_name, single_type, dialogue_external, SpellsDialogue}
use Rattle.tcap_parts.specs.DialogueCanonical.{canonical_version, canonical_context, canonical_number, canonical_source, canonical_info, canonical_named, canonical_pdu_content, pdu_syntax, canonical_pdu, canonical_external_content, canonical_dialogue}
use Rattle.tcap_parts.specs.DialogueValid.{IsInfo, IsSource, IsDialogue}

-- ---- parts

version_spells : (octets : List ℕ) → canonical_version ≡ Some octets → IsElementOf 0x80 (version.spells tt) octets
version_spells octets e = element_of-spells 0x80 (version.spells tt) (0x07 ∷ 0x80 ∷ []) octets (omega arith) (0x07, 0x80, refl, omega arith, omega arith) e

context_spells : (id octets : List ℕ) → IsObjectId id → canonical_context id ≡ Some octets → IsElementOf 0xA1 (context.spells id) octets
context_spells id octets w e =
    element_around-spells 0xA1 (context.spells id) (element_around 0x06 (Some id)) octets (omega arith)
    (λ content k. single-spells (required 0x06 object_id) id content (element_of-spells 0x06 (object_id.spells id) id content (omega arith) (w, refl) k)) e

-- a number inside its tag
number_is : (n : ℕ) (content : List ℕ) → n < 128 → element_around 0x02 (Some (n ∷ [])) ≡ Some content → number.spells n content
number_is n content w e = single-spells (required 0x02 small) n content (element_of-spells 0x02 (small.spells n) (n ∷ []) content (omega arith) (refl, w) e)

number_spells : (tag n : ℕ) (octets : List ℕ) → tag % 32 ≢ 31 → n < 128 → canonical_number tag n ≡ Some octets → IsElementOf tag (number.spells n) octets
number_spells tag n octets short w e =
    element_around-spells tag (number.spells n) (element_around 0x02 (Some (n ∷ []))) octets short (λ content k. number_is n content w k) e

source_spells : (s : Source) (octets : List ℕ) → IsSource s → canonical_source s ≡ Some octets → IsOneOf source s octets
source_spells (User n) octets w e =
    one_around-spells source (User n) 0xA1 (element_around 0x02 (Some (n ∷ []))) octets (omega arith)
    (λ content k. inl (refl, (n, refl, number_is n content w k))) e
source_spells (Provider n) octets w e =
    one_around-spells source (Provider n) 0xA2 (element_around 0x02 (Some (n ∷ []))) octets (omega arith)
    (λ content k. inr (apart (omega arith), inl (refl, (n, refl, number_is n content w k)))) e

diagnostic_spells : (s : Source) (octets : List ℕ) → IsSource s → element_around 0xA3 (canonical_source s) ≡ Some octets → IsElementOf 0xA3 ((single (one_of source)).spells s) octets
diagnostic_spells s octets w e =
    element_around-spells 0xA3 ((single (one_of source)).spells s) (canonical_source s) octets (omega arith)
    (λ content k. single-spells (one_of source) s content (source_spells s content w k)) e

info_spells : (i : Option (List ℕ)) (octets : List ℕ) → IsInfo i → canonical_info i ≡ Some octets → SpellsOptional 0xBE info i octets []
info_spells None octets w e = (sym (some_is [] octets e), λ begins. begins)
info_spells (Some externals) octets w e = element_of-spells 0xBE (info.spells externals) externals octets (omega arith) (w, refl) e

-- ---- the contents of PDUs

-- user information or none, at the end
last_info : (i : Option (List ℕ)) (octets : List ℕ) → IsInfo i → canonical_info i ≡ Some octets → (optional 0xBE info ⨾ ended).spells (i, tt) octets
last_info i octets w e = last-spells (optional 0xBE info) i octets (info_spells i octets w e)

-- an application context name, and the parts after it
context_then : {V : Type 0} (id : List ℕ) (others : Content V) (v : V) (behind : Option (List ℕ)) (octets : List ℕ) → IsObjectId id
    → ((rest : List ℕ) → behind ≡ Some rest → others.spells v rest) → canonical_context id ⧺ behind ≡ Some octets → (required 0xA1 context ⨾ others).spells (id, v) octets
context_then id others v behind octets w are_others e =
    then-spells (required 0xA1 context) others id v (canonical_context id) behind octets (λ front rest k l. context_spells id front w k) are_others e

-- a protocol version, an application context name, and the parts after them
version_context_then : {V : Type 0} (id : List ℕ) (others : Content V) (v : V) (behind : Option (List ℕ)) (octets : List ℕ) → IsObjectId id
    → ((rest : List ℕ) → behind ≡ Some rest → others.spells v rest) → canonical_version ⧺ (canonical_context id ⧺ behind) ≡ Some octets
    → (optional 0x80 version ⨾ required 0xA1 context ⨾ others).spells (Some tt, (id, v)) octets
version_context_then id others v behind octets w are_others e =
    then-spells (optional 0x80 version) (required 0xA1 context ⨾ others) (Some tt) (id, v) canonical_version (canonical_context id ⧺ behind) octets
    (λ front rest k l. version_spells front k)
    (λ rest l. context_then id others v behind rest w are_others l) e

-- the content of an AARQ or an AUDT
named_spells : (id : List ℕ) (i : Option (List ℕ)) (content : List ℕ) → IsObjectId id → IsInfo i → canonical_named id i ≡ Some content → named.spells (id, i) content
named_spells id i content w v e = (
  (Some tt, (id, (i, tt))),
  refl,
  version_context_then id (optional 0xBE info ⨾ ended) (i, tt) (canonical_info i) content w (λ rest l. last_info i rest v l)
      (sym (join_assoc canonical_version (canonical_context id) (canonical_info i)) ∙ e),
)

-- a diagnostic, and then user information or none
diagnostic_info : (s : Source) (i : Option (List ℕ)) (octets : List ℕ) → IsSource s → IsInfo i → element_around 0xA3 (canonical_source s) ⧺ canonical_info i ≡ Some octets
    → (required 0xA3 (single (one_of source)) ⨾ optional 0xBE info ⨾ ended).spells (s, (i, tt)) octets
diagnostic_info s i octets w v e =
    then-spells (required 0xA3 (single (one_of source))) (optional 0xBE info ⨾ ended) s (i, tt) (element_around 0xA3 (canonical_source s)) (canonical_info i) octets
    (λ front rest k l. diagnostic_spells s front w k)
    (λ rest l. last_info i rest v l) e

-- a result, and then a diagnostic and user information
result_info : (n : ℕ) (s : Source) (i : Option (List ℕ)) (octets : List ℕ) → n < 128 → IsSource s → IsInfo i
    → canonical_number 0xA2 n ⧺ (element_around 0xA3 (canonical_source s) ⧺ canonical_info i) ≡ Some octets
    → (required 0xA2 number ⨾ required 0xA3 (single (one_of source)) ⨾ optional 0xBE info ⨾ ended).spells (n, (s, (i, tt))) octets
result_info n s i octets u w v e =
    then-spells (required 0xA2 number) (required 0xA3 (single (one_of source)) ⨾ optional 0xBE info ⨾ ended) n (s, (i, tt))
    (canonical_number 0xA2 n) (element_around 0xA3 (canonical_source s) ⧺ canonical_info i) octets
    (λ front rest k l. number_spells 0xA2 n front (omega arith) u k)
    (λ rest l. diagnostic_info s i rest w v l) e

-- five parts, one after the other
five_joined : (a b c d e : Option (List ℕ)) → a ⧺ b ⧺ c ⧺ d ⧺ e ≡ a ⧺ (b ⧺ (c ⧺ (d ⧺ e)))
five_joined a b c d e = join_assoc (a ⧺ b ⧺ c) d e ∙ join_assoc (a ⧺ b) c (d ⧺ e) ∙ join_assoc a b (c ⧺ (d ⧺ e))

response_spells : (id : List ℕ) (n : ℕ) (s : Source) (i : Option (List ℕ)) (content : List ℕ) → IsDialogue (Response id n s i)
    → canonical_pdu_content (Response id n s i) ≡ Some content → response.spells (Response id n s i) content
response_spells id n s i content w e = (
  (Some tt, (id, (n, (s, (i, tt))))),
  refl,
  version_context_then id (required 0xA2 number ⨾ required 0xA3 (single (one_of source)) ⨾ optional 0xBE info ⨾ ended) (n, (s, (i, tt)))
      (canonical_number 0xA2 n ⧺ (element_around 0xA3 (canonical_source s) ⧺ canonical_info i)) content w.0
      (λ rest l. result_info n s i rest w.1 w.2 w.3 l)
      (sym (five_joined canonical_version (canonical_context id) (canonical_number 0xA2 n) (element_around 0xA3 (canonical_source s)) (canonical_info i)) ∙ e),
)

abort_spells : (n : ℕ) (i : Option (List ℕ)) (content : List ℕ) → IsDialogue (Abort n i) → canonical_pdu_content (Abort n i) ≡ Some content → abort.spells (Abort n i) content
abort_spells n i content w e = (
  (n, (i, tt)),
  refl,
  then-spells (required 0x80 small) (optional 0xBE info ⨾ ended) n (i, tt) (element_around 0x80 (Some (n ∷ []))) (canonical_info i) content
      (λ front rest k l. element_of-spells 0x80 (small.spells n) (n ∷ []) front (omega arith) (refl, w.0) k)
      (λ rest l. last_info i rest w.1 l) e,
)

-- ---- PDUs

pdu_spells : (d : Dialogue) (octets : List ℕ) → IsDialogue d → canonical_pdu d ≡ Some octets → IsOneOf (pdus (pdu_syntax d)) d octets
pdu_spells (Request id i) octets w e =
    one_around-spells (pdus (pdu_syntax (Request id i))) (Request id i) 0x60 (canonical_pdu_content (Request id i)) octets (omega arith)
    (λ content k. inl (refl, ((id, i), refl, named_spells id i content w.0 w.1 k))) e
pdu_spells (Response id n s i) octets w e =
    one_around-spells (pdus (pdu_syntax (Response id n s i))) (Response id n s i) 0x61 (canonical_pdu_content (Response id n s i)) octets (omega arith)
    (λ content k. inr (apart (omega arith), inl (refl, response_spells id n s i content w k))) e
pdu_spells (Abort n i) octets w e =
    one_around-spells (pdus (pdu_syntax (Abort n i))) (Abort n i) 0x64 (canonical_pdu_content (Abort n i)) octets (omega arith)
    (λ content k. inr (apart (omega arith), inr (apart (omega arith), inl (refl, abort_spells n i content w k)))) e
pdu_spells (Uni id i) octets w e =
    one_around-spells (pdus (pdu_syntax (Uni id i))) (Uni id i) 0x60 (canonical_pdu_content (Uni id i)) octets (omega arith)
    (λ content k. inl (refl, ((id, i), refl, named_spells id i content w.0 w.1 k))) e

-- ---- dialogue portions

name_spells : (s : Syntax) (octets : List ℕ) → element_around 0x06 (Some (as_id s)) ≡ Some octets → IsOneOf syntax_name s octets
name_spells s octets e = one_of-spells syntax_name s 0x06 (as_id s) octets (omega arith) (inl (refl, refl)) e

single_type_spells : (d : Dialogue) (octets : List ℕ) → IsDialogue d → element_around 0xA0 (canonical_pdu d) ≡ Some octets → IsOneOf (single_type (pdu_syntax d)) d octets
single_type_spells d octets w e =
    one_around-spells (single_type (pdu_syntax d)) d 0xA0 (canonical_pdu d) octets (omega arith)
    (λ content k. inl (refl, single-spells (one_of (pdus (pdu_syntax d))) d content (pdu_spells d content w k))) e

external_spells : (d : Dialogue) (content : List ℕ) → IsDialogue d → canonical_external_content d ≡ Some content → dialogue_external.spells d content
external_spells d content w e = (
  (pdu_syntax d, (d, tt)),
  refl,
  decides-spells (one_of syntax_name) (λ s. one_of (single_type s) ⨾ ended) (pdu_syntax d) (d, tt) (element_around 0x06 (Some (as_id (pdu_syntax d)))) (element_around 0xA0 (canonical_pdu d)) content
      (λ front rest k l. name_spells (pdu_syntax d) front k)
      (λ rest l. last-spells (one_of (single_type (pdu_syntax d))) d rest (single_type_spells d rest w l)) e,
)

pub canonical_dialogue_spells : (d : Dialogue) (octets : List ℕ) → IsDialogue d → canonical_dialogue d ≡ Some octets → SpellsDialogue d octets
canonical_dialogue_spells d octets w e =
    single-spells (required 0x28 dialogue_external) d octets
    (element_around-spells 0x28 (dialogue_external.spells d) (canonical_external_content d) octets (omega arith) (λ content k. external_spells d content w k) e)
