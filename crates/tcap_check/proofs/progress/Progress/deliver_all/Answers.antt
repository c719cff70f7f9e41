use Rattle.std.proofs.Common.{Option, Some, ap, drop, get_or, sym, ◌+◌, ◌∙◌}
use Rattle.std.specs.Prelude.{slice_get}
use Rattle.tcap_record.specs.declared.entry.End.{End as Side}
use Rattle.tcap_end.specs.Step.{◌>>=◌}
use Rattle.tcap_check.specs.ReplaySteps.{delivery_kept, deliveries_kept, received_sender}
use Rattle.tcap_check.specs.RefusedReplay.{deliveries_left, delivery_left}
use Rattle.tcap_check.specs.PartialReplay.{behind_or}
use Rattle.tcap_check.proofs.progress_laws.KeptLeft.{left_behind, same_next}
use Rattle.tcap_check.proofs.progress_laws.KeptGrowth.{no_more}
use Rattle.tcap_check.proofs.progress.Progress.deliver_all.Goals.{in-Some+in_ok-deliver, in_default}
use Rattle.tcap_check.proofs.progress.Progress.deliver_all.Goals as goal

pub loop-number-preserved : goal.loop-number-preserved
loop-number-preserved c =
    let before = c.loop-number.invariant.left in
    let listening = c.loop-number.invariant.listening in
    let table = c.args.table.now in
    let entries = c.args.entries.now in
    let judged = c.args.judged in
    let now = c.loop-number.self in
    let number = get_or c.args.numbers.now c.loop-number.number-index 0 in
    let left = drop (c.loop-number.number-index + 1) c.args.numbers.now in
    let from = received_sender judged (slice_get entries number) in
    let all = deliveries_kept judged table entries in
    let left_of = deliveries_left judged table entries in
    elim c.match-received_sender.branch [
      | in-Some+in_ok-deliver w ↦
          let sender = w.in-Some.sender in
          let next = w.deliver.new.self in
          let who = sym c.received_sender.ensures ∙ w.in-Some.is in
          rw w.self-is (record {
            listening = record {
              same = same_next all c.args.self.now c.args.numbers.now now next c.loop-number.number-index 0 listening.same c.loop-number-test.true
                  (ap (λ o. delivery_kept judged table number o now >>= all left) who ∙ ap (λ o. o >>= all left) w.in_ok-deliver.ensures.delivered);
              grown = no_more c.args.self.now now next listening.grown w.in_ok-deliver.ensures.grows;
            };
            left = same_next left_of c.args.self.now c.args.numbers.now now next c.loop-number.number-index 0 before c.loop-number-test.true
                (ap (λ (o : Option Side). behind_or (delivery_kept judged table number o now) (delivery_left judged o now) (left_of left)) who
                ∙ left_behind (delivery_kept judged table number (Some sender) now) (delivery_left judged (Some sender) now) next (left_of left)
                w.in_ok-deliver.ensures.delivered);
          })
      | in_default w ↦ rw w.self-is (record {
        listening = record {
          same = same_next all c.args.self.now c.args.numbers.now now now c.loop-number.number-index 0 listening.same c.loop-number-test.true
              (ap (λ o. delivery_kept judged table number o now >>= all left) (sym c.received_sender.ensures ∙ w.in_default.is));
          grown = listening.grown;
        };
        left = same_next left_of c.args.self.now c.args.numbers.now now now c.loop-number.number-index 0 before c.loop-number-test.true
            (ap (λ (o : Option Side). behind_or (delivery_kept judged table number o now) (delivery_left judged o now) (left_of left))
            (sym c.received_sender.ensures ∙ w.in_default.is));
      })
    ]
