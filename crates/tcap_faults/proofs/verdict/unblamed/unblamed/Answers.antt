use Rattle.std.proofs.Common.{sym, ◌∙◌}
use Rattle.tcap_faults.proofs.verdict_laws.UnblamedLaws.{other_there}
use Rattle.tcap_faults.proofs.verdict.unblamed.unblamed.Goals as goal

pub returns : goal.returns
returns c =
    let entries = c.args.record.now.entries.items in
    let so_far = c.in_ok-replay.ensures in
    let there = sym c.in-Some.ensures.entry in
    let next = c.in_ok-take.ensures entries so_far there in
    c.unblamed_by-2.ensures
    ∙ other_there c.args.table.now c.args.end entries c.args.number c.in-Some.entry.now there
    (sym c.is_mark.ensures ∙ c.if-is_mark.false) _ next.again _
    (c.tangled_at-tangled.ensures c.args.table.now entries c.args.number so_far.are there)
