-- The canonical spelling of a message is a spelling by the grammar.
use Rattle.std.proofs.Common.{◌≡◌, ◌≢◌, ℕ, ◌%◌, List, [], ◌∷◌, Option, Some, None, refl, sym, ap, subst, ◌∙◌, inl, inr, arith}
use Rattle.std.proofs.lemmas.List.{append-nil}
use Rattle.tcap_ber.specs.Grammar.{Content, BeginsWith, SpellsOptional, required, optional, absent, ended, ◌⨾◌, ◌⨾▹◌}
use Rattle.tcap_ber.specs.SmallInteger.{small}
use Rattle.tcap_ber.specs.Canonical.{◌⧺◌, element_around}
use Rattle.tcap_ber.proofs.CanonicalLaws.{some_is, apart, begins_with-tag, element_around-spells, element_of-spells, one_around-spells, join_assoc, decides-spells, then-spells, last-spells}
use Rattle.tcap_ber.proofs.PutLaws.{join_nil, nil_join}
use Rattle.tcap_parts.specs.declared.component.Component.{Component}
use Rattle.tcap_parts.specs.declared.dialogue.Dialogue.{Dialogue}
use Rattle.tcap_parts.specs.Component.{portion}
use Rattle.tcap_parts.specs.Dialogue.{dialogue}
use Rattle.tcap_parts.specs.Canonical.{canonical_portion}
use Rattle.tcap_parts.specs.DialogueCanonical.{canonical_dialogue}
use Rattle.tcap_parts.proofs.CanonicalLaws.{canonical_portion_spells}
use Rattle.tcap_parts.proofs.DialogueCanonicalLaws.{canonical_dialogue_spells}
use Rattle.tcap_msg.specs.declared.message.AbortReason.{AbortReason}
use Rattle.tcap_msg.specs.declared.message.AbortReason.TheVariants as reasons
use Rattle.tcap_msg.specs.declared.message.Message.{Message}
use Rattle.tcap_msg.specs.declared.message.Message.TheVariants.{Unidirectional, Begin, Continue, End, Abort}
use Rattle.tcap_msg.specs.TransactionId.{IsTransactionId, transaction_id}
use Rattle.tcap_msg.specs.Parts.{reason_cause, reason_dialogue}
use Rattle.tcap_msg.specs.Message.{unidirectional, begin, end_message, continue_message, unless_cause, make_reason, abort, messages, Spells}
use Rattle.tcap_msg.specs.Canonical.{canonical_cause, canonical_dialogue_portion, canonical_component_portion, canonical_content, canonical}
use Rattle.tcap_msg.specs.Valid.{IsDialoguePortion, IsComponentPortion, IsAbortReason, IsMessage}

-- ---- octets that do not begin with a tag

nil_begins : (other : ℕ) (octets : List ℕ) → (let a : Option (List ℕ) = Some [] in a) ≡ Some octets → BeginsWith other octets → ⊥
nil_begins other octets e = subst (λ (x : List ℕ). BeginsWith other x → ⊥) (some_is [] octets e) (λ begins. begins)

other_begins : (tag other : ℕ) (x : Option (List ℕ)) (octets : List ℕ) → tag ≢ other → element_around tag x ≡ Some octets → BeginsWith other octets → ⊥
other_begins tag other x octets differ e begins = differ (begins_with-tag tag other x octets [] e (subst (BeginsWith other) (sym (append-nil octets)) begins))

dialogue_begins : (d : Option Dialogue) (octets : List ℕ) → canonical_dialogue_portion d ≡ Some octets → BeginsWith 0x4A octets → ⊥
dialogue_begins None octets e = nil_begins 0x4A octets e
dialogue_begins (Some d) octets e = other_begins 0x6B 0x4A (canonical_dialogue d) octets (omega arith) e

components_begin : (cs : Option (List Component)) (octets : List ℕ) → canonical_component_portion cs ≡ Some octets → BeginsWith 0x6B octets → ⊥
components_begin None octets e = nil_begins 0x6B octets e
components_begin (Some cs) octets e = other_begins 0x6C 0x6B (canonical_portion cs) octets (omega arith) e

-- ---- parts

dialogue_spells : (d : Option Dialogue) (octets behind : List ℕ) → IsDialoguePortion d → (BeginsWith 0x6B behind → ⊥) → canonical_dialogue_portion d ≡ Some octets
    → SpellsOptional 0x6B dialogue d octets behind
dialogue_spells None octets behind w other e = (sym (some_is [] octets e), other)
dialogue_spells (Some d) octets behind w other e =
    element_around-spells 0x6B (dialogue.spells d) (canonical_dialogue d) octets (omega arith) (λ content k. canonical_dialogue_spells d content w k) e

components_spell : (cs : Option (List Component)) (octets : List ℕ) → IsComponentPortion cs → canonical_component_portion cs ≡ Some octets → SpellsOptional 0x6C portion cs octets []
components_spell None octets w e = (sym (some_is [] octets e), λ begins. begins)
components_spell (Some cs) octets w e = element_around-spells 0x6C (portion.spells cs) (canonical_portion cs) octets (omega arith) (λ content k. canonical_portion_spells cs content w k) e

-- a transaction ID, and the parts after it
id_then : {V : Type 0} (tag : ℕ) (id : List ℕ) (others : Content V) (v : V) (behind : Option (List ℕ)) (octets : List ℕ) → tag % 32 ≢ 31 → IsTransactionId id
    → ((rest : List ℕ) → behind ≡ Some rest → others.spells v rest) → element_around tag (Some id) ⧺ behind ≡ Some octets → (required tag transaction_id ⨾ others).spells (id, v) octets
id_then tag id others v behind octets short w are_others e =
    then-spells (required tag transaction_id) others id v (element_around tag (Some id)) behind octets
    (λ front rest k l. element_of-spells tag (transaction_id.spells id) id front short (w, refl) k)
    are_others e

-- a dialogue portion or none, and a component portion or none
portions_spell : (d : Option Dialogue) (cs : Option (List Component)) (octets : List ℕ) → IsDialoguePortion d → IsComponentPortion cs
    → canonical_dialogue_portion d ⧺ canonical_component_portion cs ≡ Some octets → (optional 0x6B dialogue ⨾ optional 0x6C portion ⨾ ended).spells (d, (cs, tt)) octets
portions_spell d cs octets w v e =
    then-spells (optional 0x6B dialogue) (optional 0x6C portion ⨾ ended) d (cs, tt) (canonical_dialogue_portion d) (canonical_component_portion cs) octets
    (λ front rest k l. dialogue_spells d front rest w (components_begin cs rest l) k)
    (λ rest l. last-spells (optional 0x6C portion) cs rest (components_spell cs rest v l)) e

-- a P-Abort cause, or a dialogue portion, or neither
reason_spells : (reason : Option AbortReason) (octets : List ℕ) → IsAbortReason reason → canonical_cause (reason_cause reason) ⧺ canonical_dialogue_portion (reason_dialogue reason) ≡ Some octets
    → (optional 0x4A small ⨾▹ λ cause. unless_cause cause ⨾ ended).spells (reason_cause reason, (reason_dialogue reason, tt)) octets
reason_spells None octets w e =
    decides-spells (optional 0x4A small) (λ cause. unless_cause cause ⨾ ended) None (None, tt) (canonical_cause None) (canonical_dialogue_portion None) octets
    (λ front rest k l. (sym (some_is [] front k), dialogue_begins None rest l))
    (λ rest l. last-spells (optional 0x6B dialogue) None rest (dialogue_spells None rest [] tt (λ begins. begins) l)) e
reason_spells (Some (reasons.Cause cause)) octets w e =
    decides-spells (optional 0x4A small) (λ cause. unless_cause cause ⨾ ended) (Some cause) (None, tt) (canonical_cause (Some cause)) (canonical_dialogue_portion None) octets
    (λ front rest k l. element_of-spells 0x4A (small.spells cause) (cause ∷ []) front (omega arith) (refl, w) k)
    (λ rest l. last-spells absent None rest (refl, sym (some_is [] rest l))) e
reason_spells (Some (reasons.Dialogue d)) octets w e =
    decides-spells (optional 0x4A small) (λ cause. unless_cause cause ⨾ ended) None (Some d, tt) (canonical_cause None) (canonical_dialogue_portion (Some d)) octets
    (λ front rest k l. (sym (some_is [] front k), dialogue_begins (Some d) rest l))
    (λ rest l. last-spells (optional 0x6B dialogue) (Some d) rest (dialogue_spells (Some d) rest [] w (λ begins. begins) l)) e

reason_made : (reason : Option AbortReason) → reason ≡ make_reason (reason_cause reason) (reason_dialogue reason)
reason_made None = refl
reason_made (Some (reasons.Cause cause)) = refl
reason_made (Some (reasons.Dialogue d)) = refl

-- ---- contents, without absent parts

abbrev nothing : Option (List ℕ)
nothing = Some []

third_last : (x y : Option (List ℕ)) → nothing ⧺ nothing ⧺ nothing ⧺ x ⧺ y ≡ x ⧺ y
third_last x y = rw (join_nil x) refl

first_last : (x y z : Option (List ℕ)) → x ⧺ nothing ⧺ nothing ⧺ y ⧺ z ≡ x ⧺ (y ⧺ z)
first_last x y z = rw (nil_join x, nil_join x) (join_assoc x y z)

second_last : (x y z : Option (List ℕ)) → nothing ⧺ x ⧺ nothing ⧺ y ⧺ z ≡ x ⧺ (y ⧺ z)
second_last x y z = rw (join_nil x, nil_join x) (join_assoc x y z)

both_last : (w x y z : Option (List ℕ)) → w ⧺ x ⧺ nothing ⧺ y ⧺ z ≡ w ⧺ (x ⧺ (y ⧺ z))
both_last w x y z = rw (nil_join (w ⧺ x)) (join_assoc (w ⧺ x) y z ∙ join_assoc w x (y ⧺ z))

second_middle : (x y z : Option (List ℕ)) → nothing ⧺ x ⧺ y ⧺ z ⧺ nothing ≡ x ⧺ (y ⧺ z)
second_middle x y z = rw (join_nil x) (nil_join (x ⧺ y ⧺ z) ∙ join_assoc x y z)

unidirectional_spells : (d : Option Dialogue) (cs : List Component) (content : List ℕ) → IsMessage (Unidirectional d cs) → canonical_content (Unidirectional d cs) ≡ Some content
    → unidirectional.spells (Unidirectional d cs) content
unidirectional_spells d cs content w e = (
  (d, (cs, tt)),
  refl,
  then-spells (optional 0x6B dialogue) (required 0x6C portion ⨾ ended) d (cs, tt) (canonical_dialogue_portion d) (canonical_component_portion (Some cs)) content
      (λ front rest k l. dialogue_spells d front rest w.0 (components_begin (Some cs) rest l) k)
      (λ rest l. last-spells (required 0x6C portion) cs rest (components_spell (Some cs) rest w.1 l))
      (sym (third_last (canonical_dialogue_portion d) (canonical_component_portion (Some cs))) ∙ e),
)

begin_spells : (otid : List ℕ) (d : Option Dialogue) (cs : Option (List Component)) (content : List ℕ) → IsMessage (Begin otid d cs) → canonical_content (Begin otid d cs) ≡ Some content
    → begin.spells (Begin otid d cs) content
begin_spells otid d cs content w e = (
  (otid, (d, (cs, tt))),
  refl,
  id_then 0x48 otid (optional 0x6B dialogue ⨾ optional 0x6C portion ⨾ ended) (d, (cs, tt)) (canonical_dialogue_portion d ⧺ canonical_component_portion cs) content (omega arith) w.0
      (λ rest l. portions_spell d cs rest w.1 w.2 l)
      (sym (first_last (element_around 0x48 (Some otid)) (canonical_dialogue_portion d) (canonical_component_portion cs)) ∙ e),
)

end_spells : (dtid : List ℕ) (d : Option Dialogue) (cs : Option (List Component)) (content : List ℕ) → IsMessage (End dtid d cs) → canonical_content (End dtid d cs) ≡ Some content
    → end_message.spells (End dtid d cs) content
end_spells dtid d cs content w e = (
  (dtid, (d, (cs, tt))),
  refl,
  id_then 0x49 dtid (optional 0x6B dialogue ⨾ optional 0x6C portion ⨾ ended) (d, (cs, tt)) (canonical_dialogue_portion d ⧺ canonical_component_portion cs) content (omega arith) w.0
      (λ rest l. portions_spell d cs rest w.1 w.2 l)
      (sym (second_last (element_around 0x49 (Some dtid)) (canonical_dialogue_portion d) (canonical_component_portion cs)) ∙ e),
)

continue_spells : (otid dtid : List ℕ) (d : Option Dialogue) (cs : Option (List Component)) (content : List ℕ) → IsMessage (Continue otid dtid d cs)
    → canonical_content (Continue otid dtid d cs) ≡ Some content → continue_message.spells (Continue otid dtid d cs) content
continue_spells otid dtid d cs content w e = (
  (otid, (dtid, (d, (cs, tt)))),
  refl,
  id_then 0x48 otid (required 0x49 transaction_id ⨾ optional 0x6B dialogue ⨾ optional 0x6C portion ⨾ ended) (dtid, (d, (cs, tt)))
      (element_around 0x49 (Some dtid) ⧺ (canonical_dialogue_portion d ⧺ canonical_component_portion cs)) content (omega arith) w.0
      (λ behind k. id_then 0x49 dtid (optional 0x6B dialogue ⨾ optional 0x6C portion ⨾ ended) (d, (cs, tt)) (canonical_dialogue_portion d ⧺ canonical_component_portion cs) behind (omega arith) w.1
      (λ rest l. portions_spell d cs rest w.2 w.3 l) k)
      (sym (both_last (element_around 0x48 (Some otid)) (element_around 0x49 (Some dtid)) (canonical_dialogue_portion d) (canonical_component_portion cs)) ∙ e),
)

abort_spells : (dtid : List ℕ) (reason : Option AbortReason) (content : List ℕ) → IsMessage (Abort dtid reason) → canonical_content (Abort dtid reason) ≡ Some content
    → abort.spells (Abort dtid reason) content
abort_spells dtid reason content w e = (
  (dtid, (reason_cause reason, (reason_dialogue reason, tt))),
  ap (Abort dtid) (reason_made reason),
  id_then 0x49 dtid (optional 0x4A small ⨾▹ λ cause. unless_cause cause ⨾ ended) (reason_cause reason, (reason_dialogue reason, tt))
      (canonical_cause (reason_cause reason) ⧺ canonical_dialogue_portion (reason_dialogue reason)) content (omega arith) w.0
      (λ rest l. reason_spells reason rest w.1 l)
      (sym (second_middle (element_around 0x49 (Some dtid)) (canonical_cause (reason_cause reason)) (canonical_dialogue_portion (reason_dialogue reason))) ∙ e),
)

-- ---- messages

pub canonical_spells : (m : Message) (octets : List ℕ) → IsMessage m → canonical m ≡ Some octets → Spells m octets
canonical_spells (Unidirectional d cs) octets w e =
    one_around-spells messages (Unidirectional d cs) 0x61 (canonical_content (Unidirectional d cs)) octets (omega arith)
    (λ content k. inl (refl, unidirectional_spells d cs content w k)) e
canonical_spells (Begin otid d cs) octets w e =
    one_around-spells messages (Begin otid d cs) 0x62 (canonical_content (Begin otid d cs)) octets (omega arith)
    (λ content k. inr (apart (omega arith), inl (refl, begin_spells otid d cs content w k))) e
canonical_spells (End dtid d cs) octets w e =
    one_around-spells messages (End dtid d cs) 0x64 (canonical_content (End dtid d cs)) octets (omega arith)
    (λ content k. inr (apart (omega arith), inr (apart (omega arith), inl (refl, end_spells dtid d cs content w k)))) e
canonical_spells (Continue otid dtid d cs) octets w e =
    one_around-spells messages (Continue otid dtid d cs) 0x65 (canonical_content (Continue otid dtid d cs)) octets (omega arith)
    (λ content k. inr (apart (omega arith), inr (apart (omega arith), inr (apart (omega arith), inl (refl, continue_spells otid dtid d cs content w k))))) e
canonical_spells (Abort dtid reason) octets w e =
    one_around-spells messages (Abort dtid reason) 0x67 (canonical_content (Abort dtid reason)) octets (omega arith)
    (λ content k. inr (apart (omega arith), inr (apart (omega arith), inr (apart (omega arith), inr (apart (omega arith), inl (refl, abort_spells dtid reason content w k)))))) e
