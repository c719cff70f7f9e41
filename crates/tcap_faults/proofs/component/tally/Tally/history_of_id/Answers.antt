use Rattle.std.proofs.Common.{Some, option_map, to_z-of_z, ap, ◌∙◌}
use Rattle.tcap_faults.proofs.component.tally.Tally.history_of_id.Goals as goal

pub returns-in-Some : goal.returns-in-Some
returns-in-Some c =
    ap Some c.deref.ensures
    ∙ ap (option_map (λ kept. kept.value)) (rw (to_z-of_z c.ranges.id) at c.in-Some.ensures.value)

pub returns-in-None : goal.returns-in-None
returns-in-None c = ap (option_map (λ kept. kept.value)) (rw (to_z-of_z c.ranges.id) at c.in-None.ensures.value)
