use Rattle.std.proofs.Common.{◌≡◌, true, SFits, w8, map, to_z-of_z, rules}
use Rattle.tcap_parts.specs.Meaning.{code_of}
use Rattle.tcap_faults.specs.LinkProblems.{names_so}
use Rattle.tcap_faults.specs.TallyMeaning.{tallies_of}
use Rattle.tcap_faults.proofs.component_laws.LinkLaws.{link_there, names_as}
use Rattle.tcap_faults.proofs.component.linked_invokes.found_has.Goals as goal

pub returns : goal.returns
returns c so =
    let fits : SFits w8 c.get-linked.result = search rules in
    let linked = rw (to_z-of_z fits) at (c.has_operation_at.ensures so) in
    let named : names_so c.args.table.now (tallies_of (map (λ b. b.now) c.args.invoked.now)) c.args.problem
    c.get-linked.result (code_of c.in-Some-at.code) ≡ true =
    names_as c.args.table.now (tallies_of (map (λ b. b.now) c.args.invoked.now)) c.args.problem c.get-linked.result
    c.in-Some-at.code (rw c.linkable-linkable.ensures at linked) in
    link_there (names_so c.args.table.now (tallies_of (map (λ b. b.now) c.args.invoked.now)) c.args.problem)
    c.get-linked.result c.in-Some.counts.now c.args.by_link.now.entries
    (rw (to_z-of_z fits) at c.in-Some.ensures.value)
    (c.at.ensures (names_so c.args.table.now (tallies_of (map (λ b. b.now) c.args.invoked.now)) c.args.problem
    c.get-linked.result) (rw c.in-Some-at.is named))
