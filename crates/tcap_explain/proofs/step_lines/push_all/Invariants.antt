-- The lines so far, with the lines of the remaining steps, are all lines.
use Rattle.std.proofs.Common.{◌≡◌, ◌≤◌, ◌++◌, drop}
use Rattle.std.specs.String.{string_bytes}
use Rattle.tcap_explain.specs.StepLines.{lines_from}
use Rattle.tcap_explain.proofs.step_lines.push_all.Given as goal

abbrev pub invariant-loop-step : goal.invariant-loop-step
invariant-loop-step l = record {
  counted : l.number ≤ l.step-index;
  left : string_bytes l.text ++ lines_from l.judged l.number (drop l.step-index l.steps)
      ≡ string_bytes l.initial.text ++ lines_from l.judged 0 l.steps;
}
