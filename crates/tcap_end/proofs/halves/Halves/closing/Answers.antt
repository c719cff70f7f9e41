use Rattle.tcap_end.specs.Halves.{end_of}
use Rattle.tcap_end.proofs.QuietUnseenLaws.{accepted_stays, all_close, begun_stays}
use Rattle.tcap_end.proofs.halves.Halves.closing.Goals as goal

pub returns-in_err-begun : goal.returns-in_err-begun
returns-in_err-begun c =
    rw (c.from_residual.ensures)
    (begun_stays c.args.table.now (end_of c.args.self.now) c.requires.sound c.in_err-begun.ensures.counted)

pub returns-in_err-accepted : goal.returns-in_err-accepted
returns-in_err-accepted c =
    rw (c.from_residual-in_err-accepted.ensures)
    (accepted_stays c.args.table.now (end_of c.args.self.now) c.requires.sound c.in_ok-begun.begun
    c.in_ok-begun.ensures.counted c.in_err-accepted.ensures.counted)

pub returns : goal.returns
returns c =
    all_close c.args.table.now (end_of c.args.self.now) c.requires.sound c.in_ok-begun.begun c.in_ok-accepted.accepted
    c.in_ok-begun.ensures.counted c.in_ok-accepted.ensures.counted
