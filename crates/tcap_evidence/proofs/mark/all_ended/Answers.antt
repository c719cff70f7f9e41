use Rattle.tcap_evidence.proofs.Common.{◌||◌, ap, ◌∙◌, is_id, octets_cmp}
use Rattle.std.specs.BTreeSet as set
use Rattle.tcap_refute.proofs.TestLaws.{or_none}
use Rattle.tcap_faults.proofs.transaction_laws.KeyLaws.{set_more}
use Rattle.tcap_evidence.proofs.MarkLaws.{ended_more}
use Rattle.tcap_evidence.proofs.mark.all_ended.Goals.{in-Some+in_ok-insert, in_default}
use Rattle.tcap_evidence.proofs.mark.all_ended.Goals as goal

pub loop-one-preserved : goal.loop-one-preserved
loop-one-preserved c = λ id.
    ended_more c.args.by_provider c.args.sent.now c.loop-one.one-index c.one-item.result c.loop-one-test.true c.one-item.is id
    (set.contains octets_cmp c.loop-one.ended id) _
    (elim c.match-ended_to.branch [
      | in-Some+in_ok-insert w ↦ rw w.ended-is
          (set_more w.in-Some.id.octets.now c.loop-one.ended w.insert.new.self
          (rw w.to_transaction_id.ensures at w.in_ok-insert.ensures.updates.0) id
          ∙ ap (λ o. set.contains octets_cmp c.loop-one.ended id || is_id id o) w.in-Some.ensures)
      | in_default w ↦ rw w.ended-is
          (or_none _ ∙ ap (λ o. set.contains octets_cmp c.loop-one.ended id || is_id id o) w.in_default.ensures)
    ])
    (c.loop-one.invariant id)
