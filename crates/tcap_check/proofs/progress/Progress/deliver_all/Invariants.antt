-- The deliveries that are left have the same result from here as all deliveries from the start.
use Rattle.std.proofs.Common.{◌≡◌, drop}
use Rattle.tcap_check.specs.RefusedReplay.{deliveries_left}
use Rattle.tcap_check.proofs.progress_laws.KeptLeft.{Listening}
use Rattle.tcap_check.proofs.progress.Progress.deliver_all.Given as goal

abbrev pub invariant-loop-number : goal.invariant-loop-number
invariant-loop-number l = record {
  listening : Listening l.judged l.table l.entries l.fn.self l.numbers l.self l.number-index;
  left : deliveries_left l.judged l.table l.entries l.numbers l.fn.self
      ≡ deliveries_left l.judged l.table l.entries (drop l.number-index l.numbers) l.self;
}
