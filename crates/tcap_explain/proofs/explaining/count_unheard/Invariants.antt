-- The count so far, plus the count in the remaining steps, is the whole count.
use Rattle.std.proofs.Common.{◌≡◌, ◌≤◌, ◌+◌, drop}
use Rattle.tcap_certificate.specs.LossCounts.{unheard_of}
use Rattle.tcap_check.specs.ReportedSteps.{events_of}
use Rattle.tcap_explain.proofs.explaining.count_unheard.Given as goal

abbrev pub invariant-loop-step : goal.invariant-loop-step
invariant-loop-step l = record {
  counted : l.unheard ≤ l.step-index;
  left : l.unheard + unheard_of l.end (events_of (drop l.step-index l.steps)) ≡ unheard_of l.end (events_of l.steps);
}
