use Rattle.std.proofs.Common.{SFits, w32, to_z-of_z, sym, ◌∙◌, rules}
use Rattle.tcap_faults.specs.LinkProblems.{links_as}
use Rattle.tcap_faults.proofs.component_laws.FirstCodeLaws.{first_is_so}
use Rattle.tcap_faults.proofs.component.code_counts.CodeCounts.links_as.Goals as goal

pub returns-then-is_of : goal.returns-then-is_of
returns-then-is_of c =
    let fits : SFits w32 c.in-Some.first = search rules in
    first_is_so (links_as c.args.table.now c.args.linkable) c.args.self.now c.in-Some.first c.in-Some.is
    (rw (to_z-of_z fits) at (sym c.is_of.ensures ∙ c.if-is_of.true))
