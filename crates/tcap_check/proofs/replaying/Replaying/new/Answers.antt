use Rattle.std.proofs.Common.{refl, sym, ◌∙◌}
use Rattle.tcap_check.proofs.checker_laws.CheckerLaws.{took_nothing}
use Rattle.tcap_check.proofs.replaying.Replaying.new.Goals as goal

pub returns-clause-took : goal.returns-clause-took
returns-clause-took c = (
  rw (c.new-2.ensures, c.in-Ok-with_capacity.ensures.items)
      (took_nothing c.args.listed c.args.judged c.args.table.now c.args.certificate.now _ (sym c.check_ranges.ensures ∙ c.in_ok-check_ranges.was) refl),
  refl,
  refl,
  refl,
)
