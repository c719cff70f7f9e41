-- The fates that are left decide.
use Rattle.std.proofs.Common.{◌≡◌, length, drop}
use Rattle.tcap_certificate.specs.Replay.{fates_fit}
use Rattle.tcap_check.proofs.plan.check_fates.Given as goal

abbrev pub invariant-loop-entry : goal.invariant-loop-entry
invariant-loop-entry l =
    fates_fit (length l.fates) l.entry (drop l.entry l.fates) ≡ fates_fit (length l.fates) 0 l.fates
