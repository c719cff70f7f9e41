use Rattle.std.proofs.Common.{rules, ◌≡◌, length}
use Rattle.tcap_record.specs.Ends.{other}
use Rattle.tcap_judge.specs.EndFindings.{lost_of}
use Rattle.tcap_judge.proofs.EachEndLaws.{found_alike}
use Rattle.tcap_judge.proofs.each_end.find_alike.Goals as goal

pub returns : goal.returns
returns c =
    let count : c.len.result ≡ length c.args.read.now.entries.items = search rules in
    let unheard : c.count_lost-unheard.result
    ≡ lost_of (other c.args.end) c.args.certificate.now.fates c.args.read.now.entries.items = search rules in
    found_alike c.blamed_is_never_given.ensures c.args.end c.args.table.now c.args.certificate.now
    c.args.read.now.entries.items c.requires.given c.requires.alike c.len.result c.count_lost-unheard.result count unheard
