use Rattle.std.proofs.Common.{arith}
use Rattle.tcap_faults.proofs.verdict_laws.SearchLaws.{all_searched, roomy_next, searched_on, searched_up, started}
use Rattle.tcap_faults.proofs.verdict.first_fault.search.Goals.{else-loop-number-test, then-loop-number-test+in_ok-take+then-not-branch}
use Rattle.tcap_faults.proofs.verdict.first_fault.search.Goals as goal

pub loop-number-init : goal.loop-number-init
loop-number-init c =
    started c.args.table.now c.args.record.now.entries.items c.args.a c.args.b c.new.result c.new-2.result c.new-3.result
    (c.new.ensures c.args.table.now) c.new-2.ensures c.new-3.ensures

pub loop-number-preserved : goal.loop-number-preserved
loop-number-preserved c =
    let known = c.loop-number.invariant in
    searched_on c.args.table.now c.args.record.now.entries.items c.args.a c.args.b c.loop-number.number c.loop-number.state known
    c.entry-item.result (rw c.deref-entry-items.ensures.value at c.loop-number-test.true)
    (rw c.deref-entry-items.ensures.value at c.entry-item.is) c.take.new.self c.entry_count-count.result
    c.entry_count-count.ensures.count c.entry_count-count.ensures.small
    (rw c.if-not-branch.false at (c.in_ok-take.ensures known.items known.are
    (roomy_next c.args.table.now c.args.record.now.entries.items c.args.a c.args.b c.loop-number.number c.loop-number.state known
    (omega (arith, c.loop-number-test.true, c.deref-entry-items.ensures.len)) c.entry_count-count.result
    c.entry_count-count.ensures.small c.entry-item.result c.entry_count-count.ensures.count)))

pub returns : goal.returns
returns c =
    let known = c.loop-number.invariant in
    elim c.loop-number-test.branch [
      | else-loop-number-test w ↦ rw w.state-is
          (all_searched c.args.table.now c.args.record.now.entries.items c.args.a c.args.b c.loop-number.number
          c.loop-number.state known (rw c.deref-entry-items.ensures.value at w.loop-number-test.false))
      | then-loop-number-test+in_ok-take+then-not-branch w ↦ rw w.state-is
          (searched_up c.args.table.now c.args.record.now.entries.items c.args.a c.args.b c.loop-number.number
          c.loop-number.state known w.entry-item.result
          (rw c.deref-entry-items.ensures.value at w.loop-number-test.true)
          (rw c.deref-entry-items.ensures.value at w.entry-item.is) w.take.new.self w.entry_count-count.result
          w.entry_count-count.ensures.count w.entry_count-count.ensures.small
          (rw w.if-not-branch.true at (w.in_ok-take.ensures known.items known.are
          (roomy_next c.args.table.now c.args.record.now.entries.items c.args.a c.args.b c.loop-number.number
          c.loop-number.state known (omega (arith, w.loop-number-test.true, c.deref-entry-items.ensures.len))
          w.entry_count-count.result w.entry_count-count.ensures.small w.entry-item.result
          w.entry_count-count.ensures.count))))
    ]
