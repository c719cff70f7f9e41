use Rattle.std.proofs.Common.{arith, ◌≡◌, ◌+◌}
use Rattle.tcap_dialogues.proofs.HeldLaws.{none_past, one_past}
use Rattle.tcap_dialogues.proofs.cut.Cut.long_over.Goals as goal

pub returns-in_err-get : goal.returns-in_err-get
returns-in_err-get c = λ live names apart are ends lasts d has.
    let linger = c.in-Again.linger in
    let (less, left) = c.in_ok-checked_sub.ensures in
    let (more, number) = c.in_ok-number.ensures in
    let at : (c.in_ok-number.number + linger) + 1 ≡ c.args.self.now.count = omega (arith, less, left, more, number) in
    rw (c.in-Again.is, c.from_residual-in_err-get.ensures)
    (none_past live names c.args.self.now.live c.args.self.now.overs apart are ends linger c.args.self.now.count
    c.in_ok-number.number at (rw c.in-Again.is at lasts) c.in_err-get.ensures.value d has)

pub returns : goal.returns
returns c = λ live names apart are ends lasts d has.
    let linger = c.in-Again.linger in
    let (less, left) = c.in_ok-checked_sub.ensures in
    let (more, number) = c.in_ok-number.ensures in
    let at : (c.in_ok-number.number + linger) + 1 ≡ c.args.self.now.count = omega (arith, less, left, more, number) in
    rw c.in-Again.is
    (one_past live names c.args.self.now.live c.args.self.now.overs apart are ends linger c.args.self.now.count
    c.in_ok-number.number at (rw c.in-Again.is at lasts) c.in_ok-get.field-0.now c.in_ok-get.ensures.value d has)
