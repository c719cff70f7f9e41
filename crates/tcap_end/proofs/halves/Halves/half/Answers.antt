use Rattle.tcap_end.proofs.FindLaws.{closed_there, is_closed_there, is_open_there, open_there}
use Rattle.tcap_end.proofs.halves.Halves.half.Goals as goal

pub returns-in_err-found : goal.returns-in_err-found
returns-in_err-found c h had =
    let s = c.args.self.now in
    let found = c.args.found.now in
    let there = is_closed_there s found c.in_err-found.was c.requires.found in
    rw c.from_residual.ensures (closed_there s found.slot found.key there.0 h there.1 had)

pub returns : goal.returns
returns c h had =
    let s = c.args.self.now in
    let found = c.args.found.now in
    open_there s found.slot found.key c.in_ok-found.field-0 h c.get.result c.requires.held
    (is_open_there s found c.in_ok-found.field-0 c.in_ok-found.was c.requires.found) c.get.ensures had
