-- The dialogues so far are judged, and the sum is unchanged.
use Rattle.std.proofs.Common.{◌≡◌}
use Rattle.tcap_report.proofs.JudgedListLaws.{HasJudgedAll}
use Rattle.tcap_report.proofs.trace.Trace.judge_all.Given as goal

abbrev pub invariant-loop-gathered : goal.invariant-loop-gathered
invariant-loop-gathered g l = record {
  judged : HasJudgedAll l.next l.yielded l.fn.self l.self;
  same : (l.self.cut ≡ l.fn.self.cut) × (l.self.count ≡ l.fn.self.count);
  same_sum : l.sinks.sum ≡ l.fn.sinks.sum;
}
