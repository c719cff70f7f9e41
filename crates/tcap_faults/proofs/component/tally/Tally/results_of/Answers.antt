use Rattle.std.proofs.Common.{to_z-of_z, ap, ◌∙◌}
use Rattle.tcap_parts.specs.Meaning.{code_of}
use Rattle.tcap_faults.specs.TallyMeaning.{count_of, of_kept}
use Rattle.tcap_faults.proofs.component.tally.Tally.results_of.Goals as goal

pub returns-in-Some : goal.returns-in-Some
returns-in-Some c =
    c.count.ensures
    ∙ ap (of_kept 0 (λ kept. count_of (code_of c.args.code) kept.named))
    (rw (to_z-of_z c.ranges.id) at c.in-Some.ensures)

pub returns-in-None : goal.returns-in-None
returns-in-None c =
    ap (of_kept 0 (λ kept. count_of (code_of c.args.code) kept.named))
    (rw (to_z-of_z c.ranges.id) at c.in-None.ensures)
