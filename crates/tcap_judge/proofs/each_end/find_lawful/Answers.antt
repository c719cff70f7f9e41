use Rattle.tcap_judge.proofs.EachEndLaws.{none_blamed_by_both}
use Rattle.tcap_judge.proofs.each_end.find_lawful.Goals as goal

pub find_by-requires-clause-sound : goal.find_by-requires-clause-sound
find_by-requires-clause-sound c =
    none_blamed_by_both c.blamed_is_never_given.ensures c.args.end c.args.table.now c.args.both.now
    c.args.read.now.entries.items c.requires.given
