use Rattle.std.proofs.Common.{not, ap, ◌∙◌}
use Rattle.tcap_faults.proofs.component_laws.FirstCodeLaws.{others_listed}
use Rattle.tcap_faults.proofs.component.code_counts.CodeCounts.counts_some.Goals as goal

pub returns-in-None-Some : goal.returns-in-None-Some
returns-in-None-Some c =
    ap not (rw c.deref.ensures at c.is_empty.ensures)
    ∙ others_listed c.args.self.now c.in-None-Some.others c.in-None-Some.is-0 c.in-None-Some.is-1
