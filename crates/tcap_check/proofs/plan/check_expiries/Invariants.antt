-- The expiries that are left decide.
use Rattle.std.proofs.Common.{◌≡◌, map, drop}
use Rattle.tcap_certificate.specs.Replay.{all_fit}
use Rattle.tcap_check.proofs.plan.check_expiries.Given as goal

abbrev pub invariant-loop-x : goal.invariant-loop-x
invariant-loop-x l = all_fit l.count (map (λ x. (x.entry, x.gap)) (drop l.x-index l.expire))
    ≡ all_fit l.count (map (λ x. (x.entry, x.gap)) l.expire)
