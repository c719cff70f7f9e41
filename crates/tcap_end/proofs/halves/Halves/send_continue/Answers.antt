use Rattle.tcap_end.specs.Halves.{end_of}
use Rattle.tcap_end.proofs.OverLaws.{own_there}
use Rattle.tcap_end.proofs.halves.Halves.send_continue.Goals as goal

pub send_next_continue-requires-clause-exists : goal.send_next_continue-requires-clause-exists
send_next_continue-requires-clause-exists c = (
  c.in-Some.ensures.half.0,
  own_there (end_of c.args.self.now) c.args.otid.octets.now c.in-Some.found c.requires.sound c.in-Some.ensures.half,
)

pub returns-in-Some-clause-step : goal.returns-in-Some-clause-step
returns-in-Some-clause-step c =
    let had = own_there (end_of c.args.self.now) c.args.otid.octets.now c.in-Some.found c.requires.sound c.in-Some.ensures.half in
    rw c.in-Some.ensures.half.1 (c.send_next_continue.ensures.step c.in-Some.ensures.half.0 had)

pub returns-in-None-clause-step : goal.returns-in-None-clause-step
returns-in-None-clause-step c = rw c.in-None.ensures.half c.send_first_continue.ensures.step
