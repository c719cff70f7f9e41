use Rattle.std.proofs.Common.{map, to_z-of_z, refl, rules}
use Rattle.tcap_parts.specs.Meaning.{code_of}
use Rattle.tcap_faults.specs.TallyMeaning.{tallies_of}
use Rattle.tcap_faults.proofs.component_laws.SumLaws.{first}
use Rattle.tcap_faults.proofs.component_laws.SeveralTalliesLaws.{results_below, counted_all}
use Rattle.tcap_faults.proofs.component.several_tallies.results_of.Goals as goal

pub loop-tally-init : goal.loop-tally-init
loop-tally-init c = record {
  sum_is = rw (to_z-of_z c.ranges.id)
      (first _ (results_below c.args.id (code_of c.args.code) (map (λ b. b.now) c.args.tallies.now)));
  fits = search rules;
}

pub returns : goal.returns
returns c =
    counted_all (λ ts. (tallies_of (map (λ b. b.now) ts)).results_of c.args.id (code_of c.args.code)) c.loop-tally.all
    c.loop-tally.tally-index c.args.tallies.now refl c.loop-tally.invariant.fits c.loop-tally-test.false
    (rw (to_z-of_z c.ranges.id) at c.loop-tally.invariant.sum_is)
