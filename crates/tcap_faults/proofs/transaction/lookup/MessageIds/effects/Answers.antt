use Rattle.std.proofs.Common.{◌≡◌, ℕ, List, Some, ◌&&◌, not, ap, ◌∙◌, ap₂}
use Rattle.tcap_msg.specs.Parts.{dtid_in, otid_in}
use Rattle.tcap_record.specs.Ends.{other}
use Rattle.tcap_faults.specs.SentToId.{began, has_ended, has_used}
use Rattle.tcap_faults.proofs.transaction_laws.LookupLaws.{some_lent}
use Rattle.tcap_faults.proofs.transaction_laws.HistoryLookupLaws.{used_at}
use Rattle.tcap_faults.proofs.transaction.lookup.MessageIds.effects.Goals.{in-Some, in-None, in-Some-peer_id, in-None-peer_id}
use Rattle.tcap_faults.proofs.transaction.lookup.MessageIds.effects.Goals as goal

pub returns : goal.returns
returns c = λ table side items m is again.
    let own : (id : List ℕ) → otid_in m ≡ Some id → (c.match-self.used.0 ≡ has_used side items id)
    × (c.match-self.used.1 ≡ began side id items) × (c.match-self.used.2 ≡ has_ended (other side) items id) =
    λ id otid. elim c.match-self.branch [
      | in-Some w ↦
          let own = rw (otid, w.in-Some.is) at is.own in (
            ap (λ x. x.0) w.used-is ∙ w.is_some.ensures ∙ some_lent _ ∙ used_at table side items id _ own.from,
            ap (λ x. x.1) w.used-is ∙ w.begins.ensures table side items id own.from,
            ap (λ x. x.2) w.used-is ∙ w.is_ended.ensures table (other side) items id own.to,
          )
      | in-None w ↦ absurd (rw (otid, w.in-None.is) at is.own)
    ] in
    let there : (id : List ℕ) → dtid_in m ≡ Some id → (c.match-self-2.joins.0 ≡ has_used (other side) items id)
    × (c.match-self-2.joins.1 ≡ has_ended side items id) =
    λ id dtid. elim c.match-self-2.branch [
      | in-Some-peer_id w ↦
          let there = rw (dtid, w.in-Some-peer_id.is) at is.peer_id in (
            ap (λ x. x.0) w.joins-is ∙ w.is_some-in-Some-peer_id.ensures ∙ some_lent _
                ∙ used_at table (other side) items id _ there.from,
            ap (λ x. x.1) w.joins-is ∙ w.is_ended-in-Some-peer_id.ensures table side items id there.to,
          )
      | in-None-peer_id w ↦ absurd (rw (dtid, w.in-None-peer_id.is) at is.peer_id)
    ] in
    record {
      again = again;
      used = λ from otid. (own from otid).0;
      guesses = λ from to otid dtid. ap₂ (λ a b. a && not b) (own from otid).1 (there to dtid).0;
      over = λ to dtid. (there to dtid).1;
      joins = λ to dtid. (there to dtid).0;
      peer_over = λ from to otid dtid. ap₂ (λ a b. a && b) (there to dtid).0 (own from otid).2;
    }
