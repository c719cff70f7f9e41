use Rattle.std.proofs.Common.{arith, length, refl, ℕ, subst}
use Rattle.std.proofs.lemmas.Option.{slice_get_read}
use Rattle.tcap_faults.specs.RelevantItems.{IsNotedFor}
use Rattle.tcap_faults.proofs.verdict_laws.RelevantEntriesLaws.{noted_all, noted_none}
use Rattle.tcap_faults.proofs.transaction.history.Facts.for_half.Goals.{else-loop-place-test, then-loop-place-test+then-place-number}
use Rattle.tcap_faults.proofs.transaction.history.Facts.for_half.Goals as goal

pub loop-place-init : goal.loop-place-init
loop-place-init c = record {
  so_far = noted_none c.args.table.now c.args.side c.args.id.octets.now c.args.record.now.entries.items c.new-kept.result
      (c.new-kept.ensures c.args.table.now);
  below = omega arith;
}

pub loop-place-preserved : goal.loop-place-preserved
loop-place-preserved c =
    let entries = c.args.record.now.entries.items in
    let known = c.loop-place.invariant in
    let other = c.if-place-number.false in
    record {
      so_far = c.in_ok-note_for.ensures entries c.loop-place.place known.so_far
          (slice_get_read entries (length entries) c.loop-place.place c.entry-item.result refl
          (rw c.deref-entry-items.ensures.value at c.loop-place-test.true)
          (rw c.deref-entry-items.ensures.value at c.entry-item.is));
      below = omega (arith, known.below, other);
    }

pub returns : goal.returns
returns c =
    let known = c.loop-place.invariant in
    elim c.loop-place-test.branch [
      | else-loop-place-test w ↦
          noted_all c.args.table.now c.args.side c.args.id.octets.now c.args.record.now.entries.items c.loop-place.place
          c.args.number c.loop-place.kept known.so_far (rw c.deref-entry-items.ensures.value at w.loop-place-test.false)
          known.below
      | then-loop-place-test+then-place-number w ↦
          subst (λ (n : ℕ). IsNotedFor c.args.table.now c.args.side c.args.id.octets.now c.args.record.now.entries.items n
          c.loop-place.kept) w.if-place-number.true known.so_far
    ]
