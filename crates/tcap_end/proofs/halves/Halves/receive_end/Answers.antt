use Rattle.std.proofs.Common.{sym, ◌∙◌}
use Rattle.tcap_end.specs.Halves.{end_of}
use Rattle.tcap_end.proofs.ContinueLaws.{end_closes, end_dropped}
use Rattle.tcap_end.proofs.OverLaws.{open_where, own_there, shown_closed, shown_open}
use Rattle.tcap_end.proofs.halves.Halves.receive_end.Goals as goal

pub close-requires-clause-open : goal.close-requires-clause-open
close-requires-clause-open c =
    let s = c.args.self.now in
    let had = own_there (end_of s) c.args.dtid.octets.now c.in-Some.found c.requires.sound c.in-Some.ensures.half in
    open_where s c.in-Some.found.slot c.in-Some.found.key c.in-Some.ensures.half.0 had
    (shown_open c.in-Some.ensures.half.0 c.half.result (sym c.is_some.ensures ∙ c.if-is_some.true) (c.half.ensures c.in-Some.ensures.half.0 had))

pub returns-then-is_some-clause-received : goal.returns-then-is_some-clause-received
returns-then-is_some-clause-received c =
    let s = c.args.self.now in
    let h = c.in-Some.ensures.half.0 in
    let had = own_there (end_of s) c.args.dtid.octets.now c.in-Some.found c.requires.sound c.in-Some.ensures.half in
    let is_open = shown_open h c.half.result (sym c.is_some.ensures ∙ c.if-is_some.true) (c.half.ensures h had) in
    c.close.ensures.closed h had ∙ sym (end_closes (end_of s) c.in-Some.ensures.half.1 is_open)

pub returns-else-is_some-clause-received : goal.returns-else-is_some-clause-received
returns-else-is_some-clause-received c =
    let e = end_of c.args.self.now in
    let h = c.in-Some.ensures.half.0 in
    let had = own_there e c.args.dtid.octets.now c.in-Some.found c.requires.sound c.in-Some.ensures.half in
    sym (end_dropped e c.in-Some.ensures.half.1
    (shown_closed h c.half.result (sym c.is_some.ensures ∙ c.if-is_some.false) (c.half.ensures h had)))
