-- One more entry, from the last on.
use Rattle.std.proofs.Common.{◌≡◌, ◌+◌, ◌-◌, ◌<◌, length, take, sym, ◌∙◌, arith}
use Rattle.std.proofs.lemmas.List.{append-nil, take_all}
use Rattle.tcap_search.proofs.FateSteps.{least_step, losses_start, losses_step}
use Rattle.tcap_search.proofs.fates.lose_overtaken.Goals as goal

pub loop-number-init : goal.loop-number-init
loop-number-init c =
    let none = losses_start c.args.entries.now c.args.fates.now c.requires in
    record {
      fates = rw none (sym (take_all (length c.args.entries.now) c.args.fates.now (omega arith))
          ∙ sym (append-nil (take (length c.args.entries.now) c.args.fates.now)));
      least = λ side. rw none (c.both-least.ensures side);
    }

pub loop-number-preserved : goal.loop-number-preserved
loop-number-preserved c =
    let k = c.loop-number.number - 1 in
    let next : c.loop-number.number ≡ k + 1 = omega arith in
    let within : k < length c.args.entries.now = omega arith in
    record {
      fates = losses_step c.args.entries.now c.args.fates.now c.requires k c.loop-number.number next within
          c.index-entries-number.result c.index-entries-number.is c.loop-number.fates c.loop-number.least
          c.fate_after_least-fate.result c.loop-number.invariant.fates c.loop-number.invariant.least
          (rw c.time_kept.ensures at c.fate_after_least-fate.ensures);
      least = λ side. c.note_time.ensures side
          ∙ least_step c.args.entries.now c.args.fates.now c.requires k c.loop-number.number next within
          c.index-entries-number.result c.index-entries-number.is c.loop-number.fates c.loop-number.least
          c.fate_after_least-fate.result c.loop-number.invariant.fates c.loop-number.invariant.least
          (rw c.time_kept.ensures at c.fate_after_least-fate.ensures) side;
    }
