-- The listed events that are left have the same result from here as all of them from the start.
use Rattle.std.proofs.Common.{◌≡◌, drop}
use Rattle.tcap_check.specs.Progress.{all_kept}
use Rattle.tcap_check.specs.ListedSteps.{listed_judged}
use Rattle.tcap_check.specs.RefusedReplay.{listed_left}
use Rattle.tcap_check.proofs.progress_laws.KeptLeft.{Going}
use Rattle.tcap_check.proofs.progress.Progress.hide_all.Given as goal

abbrev pub invariant-loop-x : goal.invariant-loop-x
invariant-loop-x l = record {
  going : Going (λ listed. all_kept l.table l.entries l.since (listed_judged l.judged listed)) l.fn.self l.listed l.self l.x-index;
  left : listed_left l.table l.entries l.since (listed_judged l.judged l.listed) l.fn.self
      ≡ listed_left l.table l.entries l.since (listed_judged l.judged (drop l.x-index l.listed)) l.self;
}
