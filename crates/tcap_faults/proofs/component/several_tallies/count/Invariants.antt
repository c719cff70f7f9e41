-- The sum so far and that of the tallies that are left are the sum of all.
use Rattle.std.proofs.Common.{◌≡◌, ◌^◌, ◌<◌, drop, map}
use Rattle.tcap_faults.specs.InvokeCounts.{sum}
use Rattle.tcap_faults.specs.TallyMeaning.{tallies_of}
use Rattle.tcap_faults.proofs.component.several_tallies.count.Given as goal

abbrev pub invariant-loop-tally : goal.invariant-loop-tally
invariant-loop-tally l = record {
  sum_is : sum l.all ((tallies_of (map (λ b. b.now) (drop l.tally-index l.tallies))).count l.id l.sort)
      ≡ (tallies_of (map (λ b. b.now) l.tallies)).count l.id l.sort;
  fits : l.all < 2 ^ 128;
}
