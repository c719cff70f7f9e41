use Rattle.std.proofs.Common.{◌≡◌, ◌-◌, not, sym, ap, ◌∙◌, ap₂}
use Rattle.std.specs.Prelude.{nat_le}
use Rattle.tcap_msg.specs.declared.kind.Kind.TheVariants as forms
use Rattle.tcap_msg.specs.Parts.{cause_in}
use Rattle.tcap_record.specs.Ends.{other}
use Rattle.tcap_refute.specs.EarlierMessages.{peer_sent_from, is_a, sent_by}
use Rattle.tcap_faults.specs.SentToId.{is_abort_with, is_cause, outgoing}
use Rattle.tcap_faults.specs.Counts.{count, is_nothing}
use Rattle.tcap_faults.specs.Fault.{count_received}
use Rattle.tcap_faults.specs.HalfByPeerId.{half_of}
use Rattle.tcap_faults.proofs.dialogue_laws.OpenHalvesLaws.{few_from, few_to, none_left, none_received, none_spoken, received_one, unknown_is}
use Rattle.tcap_faults.proofs.transaction_laws.HistoryLookupLaws.{from_nowhere, from_there, spoken_nowhere, spoken_there, to_nowhere, to_there}
use Rattle.tcap_faults.proofs.transaction.tangled_ids.Ends.answers_too_many.Goals as goal
use Rattle.tcap_faults.proofs.transaction.tangled_ids.Ends.answers_too_many.Goals.{in-Some, in-None, in-Some-get, in-None-get, then-spoke+then-not-has_accepted, else-spoke, else-spoke-via-then-spoke+else-not-has_accepted, else-spoke-via-else-spoke}

pub returns : goal.returns
returns c = λ table side items own_is peer_is few.
    let id = c.args.id.now in
    let continues : c.match-get.continues ≡ count (is_a forms.Continue) (peer_sent_from side id items) =
    elim c.match-get.branch [
      | in-Some w ↦
          w.continues-is
          ∙ (from_there peer_is id w.in-Some.asked.now w.in-Some.ensures.value).continues
          (few_from (other side) items id few)
      | in-None w ↦
          w.continues-is ∙ ap (count (is_a forms.Continue)) (sym (from_nowhere peer_is id w.in-None.ensures.value))
    ] in
    let unknown : c.match-get-2.unknown.0 ≡ count (is_abort_with 1 id) (sent_by side items) =
    elim c.match-get-2.branch [
      | in-Some-get w ↦
          ap (λ x. x.0) w.unknown-is
          ∙ (to_there own_is id w.in-Some-get.outgoing.now w.in-Some-get.ensures.value).unknown (few_to side items id few)
          ∙ unknown_is side items id
      | in-None-get w ↦
          ap (λ x. x.0) w.unknown-is
          ∙ ap (count (λ m. is_cause 1 (cause_in m))) (sym (to_nowhere own_is id w.in-None-get.ensures.value))
          ∙ unknown_is side items id
    ] in
    let spoke : c.match-get-2.unknown.1 ≡ not (is_nothing (outgoing side id items)) =
    elim c.match-get-2.branch [
      | in-Some-get w ↦
          ap (λ x. x.1) w.unknown-is
          ∙ spoken_there table side items id w.in-Some-get.outgoing.now
          (to_there own_is id w.in-Some-get.outgoing.now w.in-Some-get.ensures.value)
      | in-None-get w ↦
          ap (λ x. x.1) w.unknown-is
          ∙ spoken_nowhere table side items id (to_nowhere own_is id w.in-None-get.ensures.value)
    ] in
    let received : c.if-spoke.received ≡ count_received side id items (half_of side items id) =
    elim c.if-spoke.branch [
      | then-spoke+then-not-has_accepted w ↦
          w.received-is
          ∙ received_one side items id (sym spoke ∙ w.if-spoke.true)
          (sym (w.has_accepted.ensures table side items own_is peer_is) ∙ w.if-not-has_accepted.true)
      | else-spoke w ↦
          w.received-is
          ∙ elim w.else-spoke.branch [
            | else-spoke-via-then-spoke+else-not-has_accepted v ↦
                none_received side items id
                (sym (v.has_accepted.ensures table side items own_is peer_is) ∙ v.if-not-has_accepted.false)
            | else-spoke-via-else-spoke v ↦
                none_spoken side items id (sym spoke ∙ v.if-spoke.false)
          ]
    ] in
    ap₂ nat_le (c.saturating_sub.ensures ∙ ap₂ (λ n m. n - m) continues received) unknown
    ∙ none_left _ _ _
