-- The fates so far and those of the remaining entries are all fates.
use Rattle.std.proofs.Common.{◌≡◌, ◌≤◌, ◌++◌, ◌-◌}
use Rattle.tcap_certificate.specs.Certificate.{prompt_fates}
use Rattle.tcap_uses.proofs.prompt.prompt_certificate.Given as goal

abbrev pub invariant-loop-number : goal.invariant-loop-number
invariant-loop-number l = record {
  within : l.number ≤ l.count;
  fates : l.fates.items ++ prompt_fates l.number (l.count - l.number) ≡ prompt_fates 0 l.count;
}

abbrev pub decreases-loop-number : goal.decreases-loop-number
decreases-loop-number l = l.count - l.number
