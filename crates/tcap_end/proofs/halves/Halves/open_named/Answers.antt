use Rattle.tcap_end.specs.Halves.{end_of}
use Rattle.tcap_end.proofs.HiddenLaws.{knows_closed, knows_open}
use Rattle.tcap_end.proofs.OverLaws.{named_there, over_named}
use Rattle.tcap_end.proofs.halves.Halves.open_named.Goals as goal

pub returns-in_default-half : goal.returns-in_default-half
returns-in_default-half c =
    let e = end_of c.args.self.now in
    let had = named_there e c.args.name.now c.in-Some.found c.requires.sound c.in-Some.ensures.half in
    knows_closed e c.args.name.now c.in-Some.ensures.half.1 (c.in_default-half.ensures c.in-Some.ensures.half.0 had)

pub returns : goal.returns
returns c =
    let s = c.args.self.now in
    let over = over_named s c.args.name.now c.in-Some.found c.in-Some-half.half.now c.requires.sound c.in-Some.ensures.half c.in-Some-half.ensures in
    knows_open (end_of s) c.args.name.now over.is over.is_open
