use Rattle.std.proofs.Common.{◌+◌, None, Some, ap, sym, ◌∙◌, append-nil}
use Rattle.tcap_report.specs.declared.trace.Trace.{Trace}
use Rattle.tcap_report.proofs.trace.Trace.taken.Goals as goal
use Rattle.tcap_report.proofs.trace.Trace.taken.Goals.{in-Some+in_ok-push, in_default}
use Rattle.tcap_report.proofs.TakenLaws.{one_out, one_taken, others_stay}

pub returns-in_err-push-clause-others : goal.returns-in_err-push-clause-others
returns-in_err-push-clause-others c =
    let t = c.loop-number in
    let ns = c.args.gathered.now.numbers.items in
    others_stay ns (t.number-index + 1) c.args.self.now.held c.remove.new.self
    (one_out ns t.number-index 0 c.args.self.now.held t.self.held c.remove.new.self
    (rw c.deref-number-items.ensures.value at c.loop-number-test.true) t.invariant.others
    (rw c.deref-number-items.ensures.value at c.in-Some.ensures.updates.0))

pub loop-number-preserved : goal.loop-number-preserved
loop-number-preserved c =
    let t = c.loop-number in
    let ns = c.args.gathered.now.numbers.items in
    let less = rw c.deref-number-items.ensures.value at c.loop-number-test.true in record {
      those = λ sorted.
          let taken = one_taken ns t.number-index 0 c.args.self.now.held t.self.held t.entries.items in elim c.match-remove.branch [
            | in-Some+in_ok-push w ↦ rw w.entries-is
                (w.in_ok-push.ensures.items
                ∙ taken (Some w.in-Some.held) less sorted t.invariant.others (t.invariant.those sorted)
                (rw c.deref-number-items.ensures.value at w.in-Some.ensures.value))
            | in_default w ↦ rw w.entries-is
                (sym (append-nil t.entries.items)
                ∙ taken None less sorted t.invariant.others (t.invariant.those sorted)
                (let v = rw c.deref-number-items.ensures.value at w.in_default.ensures.value in v))
          ];
      others = one_out ns t.number-index 0 c.args.self.now.held t.self.held c.remove.new.self less t.invariant.others
          (rw c.deref-number-items.ensures.value at c.remove.ensures.updates.0);
      rest = ap (λ (x : Trace). record x { held = c.remove.new.self }) t.invariant.rest;
    }
