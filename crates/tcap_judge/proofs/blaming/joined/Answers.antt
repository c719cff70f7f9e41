use Rattle.std.proofs.Common.{rules, ◌≡◌, length}
use Rattle.tcap_judge.proofs.BlamedLaws.{are_blamed}
use Rattle.tcap_judge.proofs.blaming.joined.Goals as goal

pub returns : goal.returns
returns c =
    let count : c.len.result ≡ length c.args.read.now.entries.items = search rules in
    are_blamed c.args.table.now c.args.read.now.entries.items c.args.outcome c.args.ends c.len.result c.joint_verdict.result count
    c.joint_verdict.ensures c.requires.verdict c.requires.shown c.requires.ends c.requires.found
