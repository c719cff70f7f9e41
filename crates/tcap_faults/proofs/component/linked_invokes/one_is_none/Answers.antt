use Rattle.std.proofs.Common.{to_z-of_z, sym, ◌∙◌}
use Rattle.tcap_faults.proofs.component_laws.FirstCodeLaws.{where_none, where_some}
use Rattle.tcap_faults.proofs.component.linked_invokes.one_is_none.Goals as goal

pub returns-then-counts_some : goal.returns-then-counts_some
returns-then-counts_some c =
    (rw (to_z-of_z c.ranges.id) at c.has_operation.ensures)
    ∙ where_some _ c.args.counts.now (sym c.counts_some.ensures ∙ c.if-counts_some.true)

pub returns-else-counts_some : goal.returns-else-counts_some
returns-else-counts_some c =
    c.if-counts_some.false ∙ where_none _ c.args.counts.now (sym c.counts_some.ensures ∙ c.if-counts_some.false)
