use Rattle.std.proofs.Common.{sym, ◌∙◌}
use Rattle.tcap_end.proofs.FindLaws.{is_closed_there, is_open_there}
use Rattle.tcap_end.proofs.halves.Halves.number.Goals as goal

pub returns : goal.returns
returns c = is_open_there c.args.self.now c.args.found.now c.in-Some.number c.in-Some.is c.requires.found

pub unreachable-requires : goal.unreachable-requires
unreachable-requires c =
    let there = is_closed_there c.args.self.now c.args.found.now c.in-None.is c.requires.found in
    let bad = sym there.1 ∙ c.requires.open.1 in cc
