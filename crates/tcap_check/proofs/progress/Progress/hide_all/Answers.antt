use Rattle.std.proofs.Common.{List, ap, drop, get_or, sym, ◌+◌, ◌∙◌, arith}
use Rattle.tcap_record.specs.declared.entry.End.TheVariants.{A}
use Rattle.tcap_end.specs.Step.{◌>>=◌}
use Rattle.tcap_certificate.specs.Replay.{is_judged}
use Rattle.tcap_check.specs.declared.listed_steps.ListedStep.{ListedStep}
use Rattle.tcap_check.specs.declared.listed_steps.ListedStep.TheVariants as listings
use Rattle.tcap_check.specs.ListedSteps.{listed_judged}
use Rattle.tcap_check.specs.Progress.{all_kept, listed_kept}
use Rattle.tcap_check.specs.RefusedReplay.{listed_left}
use Rattle.tcap_check.proofs.progress_laws.KeptLeft.{going_next, left_behind, listed_first, listed_none, same_next}
use Rattle.tcap_check.proofs.progress.Progress.hide_all.Goals.{else-is_judged, then-is_judged+in_ok-hide}
use Rattle.tcap_check.proofs.progress.Progress.hide_all.Goals as goal

pub loop-x-preserved : goal.loop-x-preserved
loop-x-preserved c =
    let going = c.loop-x.invariant.going in
    let before = c.loop-x.invariant.left in
    let table = c.args.table.now in
    let entries = c.args.entries.now in
    let since = c.args.since in
    let judged = c.args.judged in
    let xs = c.args.listed.now in
    let default : ListedStep = listings.Closes (record { gap = 0; side = A; entry = 0 }) in
    let x = get_or xs c.loop-x.x-index default in
    let left = drop (c.loop-x.x-index + 1) xs in
    let so = sym (c.is_judged.ensures ∙ ap (is_judged judged) c.side.ensures) in
    let left_of = λ (listed : List ListedStep). listed_left table entries since (listed_judged judged listed) in
    let all = λ (listed : List ListedStep). all_kept table entries since (listed_judged judged listed) in
    elim c.if-is_judged.branch [
      | then-is_judged+in_ok-hide w ↦
          let grows = w.in_ok-hide.ensures.grows in
          let first = listed_first judged x left (so ∙ w.if-is_judged.true) in
          rw w.self-is (record {
            going = going_next all c.args.self.now xs c.loop-x.self w.hide.new.self c.loop-x.x-index default going c.loop-x-test.true
                (ap (λ listed. all_kept table entries since listed c.loop-x.self) first
                ∙ ap (λ o. o >>= all_kept table entries since (listed_judged judged left)) w.in_ok-hide.ensures.hidden) (omega (arith, grows));
            left = same_next left_of c.args.self.now xs c.loop-x.self w.hide.new.self c.loop-x.x-index default before c.loop-x-test.true
                (ap (λ listed. listed_left table entries since listed c.loop-x.self) first
                ∙ left_behind (listed_kept table entries since x c.loop-x.self) c.loop-x.self w.hide.new.self
                (listed_left table entries since (listed_judged judged left)) w.in_ok-hide.ensures.hidden);
          })
      | else-is_judged w ↦
          let none = listed_none judged x left (so ∙ w.if-is_judged.false) in
          rw w.self-is (record {
            going = going_next all c.args.self.now xs c.loop-x.self c.loop-x.self c.loop-x.x-index default going c.loop-x-test.true
                (ap (λ listed. all_kept table entries since listed c.loop-x.self) none) (omega arith);
            left = same_next left_of c.args.self.now xs c.loop-x.self c.loop-x.self c.loop-x.x-index default before c.loop-x-test.true
                (ap (λ listed. listed_left table entries since listed c.loop-x.self) none);
          })
    ]
