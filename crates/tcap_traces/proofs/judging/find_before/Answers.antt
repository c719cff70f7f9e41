-- `split_off` leaves the entries before this number.
use Rattle.std.proofs.Common.{◌≡◌, ◌∙◌, ap, arith, length, min, rules, take}
use Rattle.std.proofs.lemmas.List.{take_min}
use Rattle.tcap_traces.proofs.judging.find_before.Goals as goal

pub returns-clause-found : goal.returns-clause-found
returns-clause-found c =
    let all = c.args.read.now.entries.items in
    let len : c.len.result ≡ length all = search rules in
    let least : c.min.result ≡ min c.args.number (length all) = rw (c.min.ensures, len) (omega arith) in
    let items : c.split_off.new.self.items ≡ take c.args.number all =
    c.in_ok-later.ensures.items ∙ ap (λ k. take k all) least ∙ take_min c.args.number all in
    rw (← items) c.in_ok-found.ensures.found
