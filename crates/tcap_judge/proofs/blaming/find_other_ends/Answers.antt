use Rattle.tcap_judge.proofs.BlamedLaws.{ends_found}
use Rattle.tcap_judge.proofs.blaming.find_other_ends.Goals as goal

pub returns : goal.returns
returns c =
    let a = c.in_ok-find_other_end.ensures in
    let b = c.in_ok-find_other_end-2.ensures in
    ends_found c.blame_is_whole.ensures c.args.table.now c.args.read.now.entries.items c.in_ok-find_other_end.field-0
    c.in_ok-find_other_end-2.field-0 a.0 b.0 a.1 b.1
