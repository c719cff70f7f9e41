-- The reader of dialogue portions is exact, in the sense of `Reads` in tcap_ber.
use Rattle.std.proofs.Common.{◌≡◌, ◌≢◌, ℕ, true, false, List, [], ◌∷◌, Option, Ok, Err, refl, sym, ap, ◌∙◌, inl, inr, ◌⊎◌, arith}
use Rattle.std.specs.Prelude.{nat_lt, nat_eq}
use Rattle.std.specs.Cmp.Lexicographic.{pointwise, same_text, other_text}
use Rattle.std.proofs.lemmas.Bool.{ltb-true, lt-ltb, and_parts, and_from, both_ways, false_from_ne_true}
use Rattle.tcap_ber.specs.declared.fault.Fault.{Fault}
use Rattle.tcap_ber.specs.declared.fault.Reason.TheVariants.{BadObjectId, UnexpectedTag, BadVersion, DialogueSyntax}
use Rattle.tcap_ber.specs.Grammar.{required, optional, ended, ◌⨾◌, ◌⨾▹◌, single}
use Rattle.tcap_ber.specs.Choice.{one_of}
use Rattle.tcap_ber.specs.ObjectId.{IsObjectId, object_id}
use Rattle.tcap_ber.specs.SmallInteger.{small}
use Rattle.tcap_ber.specs.Reading.{◌>>=◌, fault, Element, required_at, with_body, small_at, is_object_id, object_id_at, end_at, refused_at}
use Rattle.tcap_ber.specs.ExactReader.{ReadsField, ReadsBody, ReadsChoice, ReadsContent}
use Rattle.tcap_ber.proofs.Steps.{chosen, bind_ok, bind_err, ok_is, err_is}
use Rattle.tcap_ber.proofs.FaultLaws.{refused_by}
use Rattle.tcap_ber.proofs.GrammarLaws.{reads_required, reads_optional, reads_ended, reads_then, reads_then_by, reads_structure, reads_single}
use Rattle.tcap_ber.proofs.BodyLaws.{reads_made}
use Rattle.tcap_ber.proofs.ChoiceLaws.{reads_tagged, reads_others, reads_one_of}
use Rattle.tcap_ber.proofs.ObjectIdLaws.{reads_object_id}
use Rattle.tcap_ber.proofs.SmallLaws.{reads_small}
use Rattle.tcap_parts.specs.declared.dialogue.Syntax.{Syntax}
use Rattle.tcap_parts.specs.declared.dialogue.Syntax.TheVariants.{Structured, Unstructured}
use Rattle.tcap_parts.specs.declared.dialogue.Source.TheVariants.{User, Provider}
use Rattle.tcap_parts.specs.declared.dialogue.Dialogue.TheVariants.{Request, Response, Abort, Uni}
use Rattle.tcap_parts.specs.Info.{info}
use Rattle.tcap_parts.specs.InfoReading.{info_of, info_at}
use Rattle.tcap_parts.specs.Dialogue.{as_id, syntax, IsVersion, version, context, number, source, make_named, named, make_response, response, make_abort, abort, pdus, syntax_name, single_type, make_external, dialogue_external, dialogue}
use Rattle.tcap_parts.specs.DialogueReading.{is_version, version_of, version_at, context_of, context_at, number_in, result_at, source_at, diagnostic_of, diagnostic_at, abort_source_at, named_at, response_at, abort_at, pdu_of, pdu_at, syntax_in, syntax_of, syntax_at, single_type_of, single_type_at, external_dialogue_at, dialogue_at}
use Rattle.tcap_parts.proofs.InfoLaws.{reads_info}

-- ---- the protocol version

is_version_sound : (octets : List ℕ) → is_version octets ≡ true → IsVersion octets
is_version_sound [] e = absurd cc
is_version_sound (unused ∷ []) e = absurd cc
is_version_sound (unused ∷ bits ∷ []) e =
    let both = and_parts (nat_lt unused 8) (nat_lt 127 bits) e in
    let low = ltb-true unused 8 both.0 in
    let high = ltb-true 127 bits both.1 in
    (unused, bits, refl, omega (arith, low), omega (arith, high))
is_version_sound (unused ∷ bits ∷ next ∷ more) e = absurd cc

is_version_complete : (octets : List ℕ) → IsVersion octets → is_version octets ≡ true
is_version_complete octets h = rw h.2 (and_from _ _ (lt-ltb h.0 8 (omega (arith, h.3))) (lt-ltb 127 h.1 (omega (arith, h.4))))

reads_version : ReadsBody version version_of
unfolding version_of
reads_version = record {
  sound = λ e v h.
      elim (chosen (is_version e.content.octets) _ _ (Ok v) h) [
        | inl k ↦ is_version_sound e.content.octets k.0
        | inr k ↦ absurd cc
      ];
  complete = λ e v h. rw (is_version_complete e.content.octets h) refl;
  refuses = λ e f h.
      elim (chosen (is_version e.content.octets) _ _ (Err f) h) [
        | inl k ↦ absurd cc
        | inr k ↦ let same = err_is {A = Unit {0}} (fault BadVersion e.place) f k.1 in (
          λ good. both_ways (is_version e.content.octets) k.0 (is_version_complete e.content.octets good),
          sym (ap (λ (x : Fault). x.reason) same),
          sym (ap (λ (x : Fault). x.place) same),
        )
      ];
  stops = λ e f h.
      let none = false_from_ne_true _ (λ t. h.0 (is_version_sound e.content.octets t)) in
      rw none (refused_by f BadVersion e.place h.1 h.2);
}

reads_optional_version : ReadsField (optional 0x80 version) version_at
unfolding version_at
reads_optional_version = reads_optional 0x80 version version_of reads_version

-- ---- names

-- the name of each abstract syntax is an OBJECT IDENTIFIER
as_id-is_id : (s : Syntax) → is_object_id (as_id s) ≡ true
as_id-is_id Structured = refl
as_id-is_id Unstructured = refl

same_name : (xs ys : List ℕ) → pointwise nat_eq xs ys ≡ true → xs ≡ ys
same_name xs ys e = same_text xs ys (sym e)

other_name : (xs ys : List ℕ) → pointwise nat_eq xs ys ≡ false → xs ≢ ys
other_name xs ys e = other_text xs ys (sym e)

syntax_in-sound : (place : ℕ) (octets : List ℕ) (s : Syntax) → syntax_in place octets ≡ Ok s → octets ≡ as_id s
syntax_in-sound place octets s e =
    elim (chosen (pointwise nat_eq octets (as_id Structured)) _ _ (Ok s) e) [
      | inl h ↦ same_name octets (as_id Structured) h.0 ∙ ap as_id (ok_is Structured s h.1)
      | inr h ↦ elim (chosen (pointwise nat_eq octets (as_id Unstructured)) _ _ (Ok s) h.1) [
        | inl k ↦ same_name octets (as_id Unstructured) k.0 ∙ ap as_id (ok_is Unstructured s k.1)
        | inr k ↦ absurd cc
      ]
    ]

syntax_in-complete : (place : ℕ) (s : Syntax) → syntax_in place (as_id s) ≡ Ok s
syntax_in-complete place Structured = refl
syntax_in-complete place Unstructured = refl

syntax_in-fault : (place : ℕ) (octets : List ℕ) (f : Fault) → syntax_in place octets ≡ Err f → (fault DialogueSyntax place ≡ f) × ((s : Syntax) → octets ≢ as_id s)
syntax_in-fault place octets f e =
    elim (chosen (pointwise nat_eq octets (as_id Structured)) _ _ (Err f) e) [
      | inl h ↦ absurd cc
      | inr h ↦ elim (chosen (pointwise nat_eq octets (as_id Unstructured)) _ _ (Err f) h.1) [
        | inl k ↦ absurd cc
        | inr k ↦ (err_is {A = Syntax} (fault DialogueSyntax place) f k.1, neither h.0 k.0)
      ]
    ]
  where
    neither : pointwise nat_eq octets (as_id Structured) ≡ false → pointwise nat_eq octets (as_id Unstructured) ≡ false → (s : Syntax) → octets ≢ as_id s
    neither one two Structured = other_name octets (as_id Structured) one
    neither one two Unstructured = other_name octets (as_id Unstructured) two

syntax_in-refused : (place : ℕ) (octets : List ℕ) → ((s : Syntax) → octets ≢ as_id s) → syntax_in place octets ≡ Err (fault DialogueSyntax place)
syntax_in-refused place octets none = rw (is_none Structured, is_none Unstructured) refl
  where
    is_none : (s : Syntax) → pointwise nat_eq octets (as_id s) ≡ false
    is_none s = false_from_ne_true _ (λ t. none s (same_name octets (as_id s) t))

reads_syntax : ReadsBody syntax syntax_of
unfolding object_id_at syntax_of
reads_syntax = record {
  sound = λ e s h.
      let a = bind_ok (object_id_at e) (syntax_in e.place) s h in
      let same = reads_object_id.sound e a.0 a.1 in
      sym same.1 ∙ syntax_in-sound e.place a.0 s a.2;
  complete = λ e s h. rw (h, as_id-is_id s) (syntax_in-complete e.place s);
  refuses = λ e f h.
      elim (bind_err (object_id_at e) (syntax_in e.place) f h) [
        | inl k ↦ let wrong = reads_object_id.refuses e f k in (wrong.1, inl (wrong.0, wrong.2))
        | inr a ↦
            let same = reads_object_id.sound e a.0 a.1 in
            let k = syntax_in-fault e.place a.0 f a.2 in (
              sym (ap (λ (x : Fault). x.place) k.0),
              inr (sym (ap (λ (x : Fault). x.reason) k.0), same.0, λ s own. k.1 s (same.1 ∙ own)),
            )
      ];
  stops = λ e f h. stops e f h.0 h.1;
}
  where
    stops : (e : Element) (f : Fault) → f.place ≡ e.place
        → ((f.reason ≡ BadObjectId) × (IsObjectId e.content.octets → ⊥)) ⊎ ((f.reason ≡ DialogueSyntax) × IsObjectId e.content.octets × ((s : Syntax) → e.content.octets ≢ as_id s))
        → syntax_of e ≡ Err f
    stops e f at (inl h) = rw (reads_object_id.stops e f (h.0, at, h.1)) refl
    stops e f at (inr h) =
        rw (reads_object_id.complete e e.content.octets (h.1, refl), syntax_in-refused e.place e.content.octets h.2) (refused_by f DialogueSyntax e.place h.0 at)

reads_syntax_name : ReadsField (one_of syntax_name) syntax_at
unfolding syntax_at
reads_syntax_name = reads_one_of syntax_name _ (reads_tagged 0x06 _ _ _ _ reads_syntax (reads_others DialogueSyntax))

-- ---- parts

reads_context : ReadsField (required 0xA1 context) context_at
unfolding context_at context_of
reads_context =
    reads_required 0xA1 context context_of
    (reads_single (required 0x06 object_id) (λ s. required_at 0x06 s >>= with_body object_id_at) (reads_required 0x06 object_id object_id_at reads_object_id))

reads_number : ReadsBody number number_in
unfolding number_in
reads_number = reads_single (required 0x02 small) (λ s. required_at 0x02 s >>= with_body small_at) (reads_required 0x02 small small_at reads_small)

reads_result : ReadsField (required 0xA2 number) result_at
unfolding result_at
reads_result = reads_required 0xA2 number number_in reads_number

reads_source : ReadsField (one_of source) source_at
unfolding source_at
reads_source =
    reads_one_of source _
    (reads_tagged 0xA1 _ _ _ _ (reads_made User number number_in reads_number)
    (reads_tagged 0xA2 _ _ _ _ (reads_made Provider number number_in reads_number)
    (reads_others UnexpectedTag)))

reads_diagnostic : ReadsField (required 0xA3 (single (one_of source))) diagnostic_at
unfolding diagnostic_at diagnostic_of
reads_diagnostic = reads_required 0xA3 (single (one_of source)) diagnostic_of (reads_single (one_of source) source_at reads_source)

reads_abort_source : ReadsField (required 0x80 small) abort_source_at
unfolding abort_source_at
reads_abort_source = reads_required 0x80 small small_at reads_small

reads_optional_info : ReadsField (optional 0xBE info) info_at
unfolding info_at
reads_optional_info = reads_optional 0xBE info info_of reads_info

-- user information, which is the rest of the structure
reads_informed : {V : Type 0} (make : Option (List ℕ) → V) → ReadsContent (optional 0xBE info ⨾ ended) (λ w. make w.0) (λ s. info_at s >>= λ info. end_at (make info.0) info.1)
reads_informed make =
    reads_then (optional 0xBE info) ended (λ w. make w.0) info_at (λ info s. end_at (make info) s)
    reads_optional_info
    (λ info. reads_ended (make info))

-- ---- PDUs

reads_named : ReadsBody named (λ e. named_at e.content)
unfolding named_at
reads_named =
    reads_structure _ make_named named_at
    (reads_then (optional 0x80 version) (required 0xA1 context ⨾ optional 0xBE info ⨾ ended) make_named version_at
    (λ version s. context_at s >>= λ context. info_at context.1 >>= λ info. end_at (context.0, info.0) info.1)
    reads_optional_version
    (λ version. reads_then (required 0xA1 context) (optional 0xBE info ⨾ ended) (λ w. make_named (version, w)) context_at
    (λ context s. info_at s >>= λ info. end_at (context, info.0) info.1)
    reads_context
    (λ context. reads_informed (λ info. (context, info)))))

reads_response_parts : ReadsContent (optional 0x80 version ⨾ required 0xA1 context ⨾ required 0xA2 number ⨾ required 0xA3 (single (one_of source)) ⨾ optional 0xBE info ⨾ ended) make_response response_at
unfolding response_at
reads_response_parts =
    reads_then (optional 0x80 version) (required 0xA1 context ⨾ required 0xA2 number ⨾ required 0xA3 (single (one_of source)) ⨾ optional 0xBE info ⨾ ended) make_response version_at
    (λ version s. context_at s >>= λ context. result_at context.1 >>= λ result. diagnostic_at result.1 >>= λ d. info_at d.1 >>= λ info. end_at (Response context.0 result.0 d.0 info.0) info.1)
    reads_optional_version
    (λ version. reads_then (required 0xA1 context) (required 0xA2 number ⨾ required 0xA3 (single (one_of source)) ⨾ optional 0xBE info ⨾ ended) (λ w. make_response (version, w)) context_at
    (λ context s. result_at s >>= λ result. diagnostic_at result.1 >>= λ d. info_at d.1 >>= λ info. end_at (Response context result.0 d.0 info.0) info.1)
    reads_context
    (λ context. reads_then (required 0xA2 number) (required 0xA3 (single (one_of source)) ⨾ optional 0xBE info ⨾ ended) (λ w. make_response (version, (context, w))) result_at
    (λ result s. diagnostic_at s >>= λ d. info_at d.1 >>= λ info. end_at (Response context result d.0 info.0) info.1)
    reads_result
    (λ result. reads_then (required 0xA3 (single (one_of source))) (optional 0xBE info ⨾ ended) (λ w. make_response (version, (context, (result, w)))) diagnostic_at
    (λ d s. info_at s >>= λ info. end_at (Response context result d info.0) info.1)
    reads_diagnostic
    (λ d. reads_informed (Response context result d)))))

reads_response : ReadsBody response (λ e. response_at e.content)
reads_response = reads_structure _ make_response response_at reads_response_parts

reads_abort : ReadsBody abort (λ e. abort_at e.content)
unfolding abort_at
reads_abort =
    reads_structure _ make_abort abort_at
    (reads_then (required 0x80 small) (optional 0xBE info ⨾ ended) make_abort abort_source_at
    (λ source s. info_at s >>= λ info. end_at (Abort source info.0) info.1)
    reads_abort_source
    (λ source. reads_informed (Abort source)))

reads_pdus : (s : Syntax) → ReadsChoice (pdus s) (pdu_of s)
reads_pdus Structured =
    reads_tagged 0x60 _ _ _ _ (reads_made (λ parts. Request parts.0 parts.1) named (λ e. named_at e.content) reads_named)
    (reads_tagged 0x61 _ _ _ _ reads_response
    (reads_tagged 0x64 _ _ _ _ reads_abort
    (reads_others DialogueSyntax)))
reads_pdus Unstructured = reads_tagged 0x60 _ _ _ _ (reads_made (λ parts. Uni parts.0 parts.1) named (λ e. named_at e.content) reads_named) (reads_others DialogueSyntax)

reads_pdu : (s : Syntax) → ReadsField (one_of (pdus s)) (pdu_at s)
unfolding pdu_at
reads_pdu s = reads_one_of (pdus s) (pdu_of s) (reads_pdus s)

-- ---- the dialogue portion

reads_single_type : (s : Syntax) → ReadsField (one_of (single_type s)) (single_type_at s)
unfolding single_type_at single_type_of
reads_single_type s =
    reads_one_of (single_type s) _
    (reads_tagged 0xA0 _ (single_type_of s) _ (refused_at DialogueSyntax) (reads_single (one_of (pdus s)) (pdu_at s) (reads_pdu s))
    (reads_others DialogueSyntax))

reads_external_parts : ReadsContent (one_of syntax_name ⨾▹ λ s. one_of (single_type s) ⨾ ended) make_external external_dialogue_at
unfolding external_dialogue_at
reads_external_parts =
    reads_then_by (one_of syntax_name) (λ s. one_of (single_type s) ⨾ ended) make_external syntax_at
    (λ syntax s. single_type_at syntax s >>= λ d. end_at d.0 d.1)
    reads_syntax_name
    (λ syntax. reads_then (one_of (single_type syntax)) ended (λ w. make_external (syntax, w)) (single_type_at syntax)
    (λ d s. end_at d s)
    (reads_single_type syntax)
    (λ d. reads_ended d))

reads_dialogue_external : ReadsBody dialogue_external (λ e. external_dialogue_at e.content)
reads_dialogue_external = reads_structure _ make_external external_dialogue_at reads_external_parts

pub reads_dialogue : ReadsBody dialogue (λ e. dialogue_at e.content)
unfolding dialogue_at
reads_dialogue =
    reads_single (required 0x28 dialogue_external) (λ s. required_at 0x28 s >>= with_body (λ e. external_dialogue_at e.content))
    (reads_required 0x28 dialogue_external (λ e. external_dialogue_at e.content) reads_dialogue_external)
