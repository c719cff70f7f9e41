use Rattle.std.proofs.Common.{SFits, w8, map, to_z-of_z, sym, ◌∙◌, rules}
use Rattle.tcap_faults.specs.LinkProblems.{names_so}
use Rattle.tcap_faults.specs.TallyMeaning.{tallies_of}
use Rattle.tcap_faults.proofs.component_laws.LinkLaws.{link_found, link_passed}
use Rattle.tcap_faults.proofs.component.linked_invokes.any_has.Goals as goal

pub returns-then-one_has : goal.returns-then-one_has
returns-then-one_has c =
    let fits : SFits w8 c.in-Some.linked.now = search rules in
    link_found (names_so c.args.table.now (tallies_of (map (λ b. b.now) c.args.invoked.now)) c.args.problem)
    c.in-Some.linked.now c.in-Some.counts.now _ c.next.new.self c.args.by_link.now.entries c.in-Some.ensures.steps
    c.loop-linked.invariant (rw (to_z-of_z fits) at (sym c.one_has.ensures ∙ c.if-one_has.true))

pub loop-linked-preserved : goal.loop-linked-preserved
loop-linked-preserved c =
    let fits : SFits w8 c.in-Some.linked.now = search rules in
    link_passed (names_so c.args.table.now (tallies_of (map (λ b. b.now) c.args.invoked.now)) c.args.problem)
    c.in-Some.linked.now c.in-Some.counts.now _ c.next.new.self c.args.by_link.now.entries c.in-Some.ensures.steps
    c.loop-linked.invariant (rw (to_z-of_z fits) at (sym c.one_has.ensures ∙ c.if-one_has.false))
