-- The reader of each kind of message is exact, in the sense of `Reads` in tcap_ber.
use Rattle.std.proofs.Common.{◌≡◌, ℕ, true, false, List, length, Option, Some, None, Ok, Err, sym, ap, ◌∙◌, inl, inr, arith}
use Rattle.std.specs.Prelude.{nat_lt}
use Rattle.std.proofs.lemmas.Bool.{ltb-true, lt-ltb, and_parts, and_from, false_from_ne_true}
use Rattle.tcap_ber.specs.declared.fault.Fault.{Fault}
use Rattle.tcap_ber.specs.declared.fault.Reason.TheVariants.{BadTransactionId, UnexpectedTag}
use Rattle.tcap_ber.specs.Grammar.{required, optional, ended, ◌⨾◌, ◌⨾▹◌}
use Rattle.tcap_ber.specs.SmallInteger.{small}
use Rattle.tcap_ber.specs.Reading.{◌>>=◌, fault, small_at, end_at}
use Rattle.tcap_ber.proofs.Steps.{chosen, ok_is, err_is}
use Rattle.tcap_ber.specs.ExactReader.{ReadsField, ReadsBody, ReadsContent}
use Rattle.tcap_ber.proofs.FaultLaws.{refused_by}
use Rattle.tcap_ber.proofs.GrammarLaws.{reads_required, reads_optional, reads_absent, reads_ended, reads_then_by, reads_then, reads_structure}
use Rattle.tcap_ber.proofs.ChoiceLaws.{reads_tagged, reads_others, reads_one_of}
use Rattle.tcap_ber.proofs.SmallLaws.{reads_small}
use Rattle.tcap_parts.specs.declared.component.Component.{Component}
use Rattle.tcap_parts.specs.declared.dialogue.Dialogue.{Dialogue}
use Rattle.tcap_parts.specs.Component.{portion}
use Rattle.tcap_parts.specs.Dialogue.{dialogue}
use Rattle.tcap_parts.specs.Reading.{portion_at}
use Rattle.tcap_parts.specs.DialogueReading.{dialogue_at}
use Rattle.tcap_parts.proofs.PortionLaws.{reads_portion}
use Rattle.tcap_parts.proofs.DialogueLaws.{reads_dialogue}
use Rattle.tcap_msg.specs.declared.message.Message.TheVariants.{Unidirectional, Abort}
use Rattle.tcap_msg.specs.TransactionId.{IsTransactionId, transaction_id, is_transaction_id, transaction_id_of}
use Rattle.tcap_msg.specs.Message.{make_unidirectional, unidirectional, make_begin, begin, make_end, end_message, make_continue, continue_message, unless_cause, make_reason, make_abort, abort, messages, message}
use Rattle.tcap_msg.specs.Reading.{otid_at, dtid_at, cause_at, dialogue_portion_at, unless_cause_at, required_portion_at, component_portion_at, unidirectional_at, begin_at, end_message_at, continue_at, abort_at, message_in}

-- ---- parts

is_id : (octets : List ℕ) → is_transaction_id octets ≡ true → IsTransactionId octets
is_id octets e =
    let p = and_parts (nat_lt 0 (length octets)) (nat_lt (length octets) 5) e in
    let some = ltb-true 0 (length octets) p.0 in
    let few = ltb-true (length octets) 5 p.1 in
    (some, omega (arith, few))

id_is : (octets : List ℕ) → IsTransactionId octets → is_transaction_id octets ≡ true
id_is octets h = and_from (nat_lt 0 (length octets)) (nat_lt (length octets) 5) (lt-ltb 0 (length octets) h.0) (lt-ltb (length octets) 5 (omega (arith, h.1)))

pub reads_transaction_id : ReadsBody transaction_id transaction_id_of
unfolding transaction_id_of
reads_transaction_id = record {
  sound = λ e id read.
      elim (chosen (is_transaction_id e.content.octets) _ _ (Ok id) read) [
        | inl h ↦ (is_id e.content.octets h.0, sym (ok_is e.content.octets id h.1))
        | inr h ↦ absurd cc
      ];
  complete = λ e id spelled. rw (id_is e.content.octets spelled.0) (ap (λ (x : List ℕ). Ok x) (sym spelled.1));
  refuses = λ e f refused.
      elim (chosen (is_transaction_id e.content.octets) _ _ (Err f) refused) [
        | inl h ↦ absurd cc
        | inr h ↦ let k = err_is {A = List ℕ} (fault BadTransactionId e.place) f h.1 in
            (λ id. let t : true ≡ false = sym (id_is e.content.octets id) ∙ h.0 in cc, sym (ap (λ (x : Fault). x.reason) k), sym (ap (λ (x : Fault). x.place) k))
      ];
  stops = λ e f wrong. rw (false_from_ne_true _ (λ t. wrong.0 (is_id e.content.octets t))) (refused_by f BadTransactionId e.place wrong.1 wrong.2);
}

reads_otid : ReadsField (required 0x48 transaction_id) otid_at
unfolding otid_at
reads_otid = reads_required 0x48 transaction_id transaction_id_of reads_transaction_id

reads_dtid : ReadsField (required 0x49 transaction_id) dtid_at
unfolding dtid_at
reads_dtid = reads_required 0x49 transaction_id transaction_id_of reads_transaction_id

reads_cause : ReadsField (optional 0x4A small) cause_at
unfolding cause_at
reads_cause = reads_optional 0x4A small small_at reads_small

reads_dialogue_portion : ReadsField (optional 0x6B dialogue) dialogue_portion_at
unfolding dialogue_portion_at
reads_dialogue_portion = reads_optional 0x6B dialogue (λ e. dialogue_at e.content) reads_dialogue

reads_unless_cause : (cause : Option ℕ) → ReadsField (unless_cause cause) (unless_cause_at cause)
unfolding unless_cause_at
reads_unless_cause None = reads_dialogue_portion
reads_unless_cause (Some cause) = reads_absent Dialogue

reads_required_portion : ReadsField (required 0x6C portion) required_portion_at
unfolding required_portion_at
reads_required_portion = reads_required 0x6C portion portion_at reads_portion

reads_component_portion : ReadsField (optional 0x6C portion) component_portion_at
unfolding component_portion_at
reads_component_portion = reads_optional 0x6C portion portion_at reads_portion

-- a dialogue portion and a component portion, which are the rest of the structure
reads_portions : {V : Type 0} (make : Option Dialogue × (Option (List Component) × Unit {0}) → V)
    → ReadsContent (optional 0x6B dialogue ⨾ optional 0x6C portion ⨾ ended) make (λ s. dialogue_portion_at s >>= λ d. component_portion_at d.1 >>= λ c. end_at (make (d.0, (c.0, tt))) c.1)
reads_portions make =
    reads_then (optional 0x6B dialogue) (optional 0x6C portion ⨾ ended) make dialogue_portion_at
    (λ d s. component_portion_at s >>= λ c. end_at (make (d, (c.0, tt))) c.1)
    reads_dialogue_portion
    (λ d. reads_then (optional 0x6C portion) ended (λ w. make (d, w)) component_portion_at
    (λ c s. end_at (make (d, (c, tt))) s)
    reads_component_portion
    (λ c. reads_ended (make (d, (c, tt)))))

-- ---- messages

reads_unidirectional_parts : ReadsContent (optional 0x6B dialogue ⨾ required 0x6C portion ⨾ ended) make_unidirectional unidirectional_at
unfolding unidirectional_at
reads_unidirectional_parts =
    reads_then (optional 0x6B dialogue) (required 0x6C portion ⨾ ended) make_unidirectional dialogue_portion_at
    (λ d s. required_portion_at s >>= λ c. end_at (Unidirectional d c.0) c.1)
    reads_dialogue_portion
    (λ d. reads_then (required 0x6C portion) ended (λ w. make_unidirectional (d, w)) required_portion_at
    (λ c s. end_at (Unidirectional d c) s)
    reads_required_portion
    (λ c. reads_ended (Unidirectional d c)))

reads_unidirectional : ReadsBody unidirectional (λ e. unidirectional_at e.content)
reads_unidirectional = reads_structure _ make_unidirectional unidirectional_at reads_unidirectional_parts

reads_begin_parts : ReadsContent (required 0x48 transaction_id ⨾ optional 0x6B dialogue ⨾ optional 0x6C portion ⨾ ended) make_begin begin_at
unfolding begin_at
reads_begin_parts =
    reads_then (required 0x48 transaction_id) (optional 0x6B dialogue ⨾ optional 0x6C portion ⨾ ended) make_begin otid_at
    (λ otid s. dialogue_portion_at s >>= λ d. component_portion_at d.1 >>= λ c. end_at (make_begin (otid, (d.0, (c.0, tt)))) c.1)
    reads_otid
    (λ otid. reads_portions (λ w. make_begin (otid, w)))

reads_begin : ReadsBody begin (λ e. begin_at e.content)
reads_begin = reads_structure _ make_begin begin_at reads_begin_parts

reads_end_parts : ReadsContent (required 0x49 transaction_id ⨾ optional 0x6B dialogue ⨾ optional 0x6C portion ⨾ ended) make_end end_message_at
unfolding end_message_at
reads_end_parts =
    reads_then (required 0x49 transaction_id) (optional 0x6B dialogue ⨾ optional 0x6C portion ⨾ ended) make_end dtid_at
    (λ dtid s. dialogue_portion_at s >>= λ d. component_portion_at d.1 >>= λ c. end_at (make_end (dtid, (d.0, (c.0, tt)))) c.1)
    reads_dtid
    (λ dtid. reads_portions (λ w. make_end (dtid, w)))

reads_end : ReadsBody end_message (λ e. end_message_at e.content)
reads_end = reads_structure _ make_end end_message_at reads_end_parts

reads_continue_parts : ReadsContent (required 0x48 transaction_id ⨾ required 0x49 transaction_id ⨾ optional 0x6B dialogue ⨾ optional 0x6C portion ⨾ ended) make_continue continue_at
unfolding continue_at
reads_continue_parts =
    reads_then (required 0x48 transaction_id) (required 0x49 transaction_id ⨾ optional 0x6B dialogue ⨾ optional 0x6C portion ⨾ ended) make_continue otid_at
    (λ otid s. dtid_at s >>= λ dtid. dialogue_portion_at dtid.1 >>= λ d. component_portion_at d.1 >>= λ c. end_at (make_continue (otid, (dtid.0, (d.0, (c.0, tt))))) c.1)
    reads_otid
    (λ otid. reads_then (required 0x49 transaction_id) (optional 0x6B dialogue ⨾ optional 0x6C portion ⨾ ended) (λ w. make_continue (otid, w)) dtid_at
    (λ dtid s. dialogue_portion_at s >>= λ d. component_portion_at d.1 >>= λ c. end_at (make_continue (otid, (dtid, (d.0, (c.0, tt))))) c.1)
    reads_dtid
    (λ dtid. reads_portions (λ w. make_continue (otid, (dtid, w)))))

reads_continue : ReadsBody continue_message (λ e. continue_at e.content)
reads_continue = reads_structure _ make_continue continue_at reads_continue_parts

reads_abort_parts : ReadsContent (required 0x49 transaction_id ⨾ optional 0x4A small ⨾▹ λ cause. unless_cause cause ⨾ ended) make_abort abort_at
unfolding abort_at
reads_abort_parts =
    reads_then (required 0x49 transaction_id) (optional 0x4A small ⨾▹ λ cause. unless_cause cause ⨾ ended) make_abort dtid_at
    (λ dtid s. cause_at s >>= λ cause. unless_cause_at cause.0 cause.1 >>= λ d. end_at (Abort dtid (make_reason cause.0 d.0)) d.1)
    reads_dtid
    (λ dtid. reads_then_by (optional 0x4A small) (λ cause. unless_cause cause ⨾ ended) (λ w. make_abort (dtid, w)) cause_at
    (λ cause s. unless_cause_at cause s >>= λ d. end_at (Abort dtid (make_reason cause d.0)) d.1)
    reads_cause
    (λ cause. reads_then (unless_cause cause) ended (λ w. make_abort (dtid, (cause, w))) (unless_cause_at cause)
    (λ d s. end_at (Abort dtid (make_reason cause d)) s)
    (reads_unless_cause cause)
    (λ d. reads_ended (Abort dtid (make_reason cause d)))))

reads_abort : ReadsBody abort (λ e. abort_at e.content)
reads_abort = reads_structure _ make_abort abort_at reads_abort_parts

-- ---- a message

pub reads_message : ReadsField message message_in
unfolding message_in
reads_message =
    reads_one_of messages _
    (reads_tagged 0x61 _ _ _ _ reads_unidirectional
    (reads_tagged 0x62 _ _ _ _ reads_begin
    (reads_tagged 0x64 _ _ _ _ reads_end
    (reads_tagged 0x65 _ _ _ _ reads_continue
    (reads_tagged 0x67 _ _ _ _ reads_abort
    (reads_others UnexpectedTag))))))
