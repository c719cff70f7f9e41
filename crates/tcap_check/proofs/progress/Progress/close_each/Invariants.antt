-- The closings that are left have the same result from here as all closings from the start.
use Rattle.std.proofs.Common.{◌≡◌, drop}
use Rattle.tcap_check.specs.ReplaySteps.{halves_shut}
use Rattle.tcap_check.specs.RefusedReplay.{halves_left}
use Rattle.tcap_check.proofs.progress_laws.KeptLeft.{Going}
use Rattle.tcap_check.proofs.progress.Progress.close_each.Given as goal

abbrev pub invariant-loop-name : goal.invariant-loop-name
invariant-loop-name l = record {
  going : Going (λ names. halves_shut l.side l.table l.number names) l.fn.self l.names l.self l.name-index;
  left : halves_left l.side l.table l.number l.names l.fn.self ≡ halves_left l.side l.table l.number (drop l.name-index l.names) l.self;
}
