use Rattle.std.proofs.Common.{◌≡◌, length, arith}
use Rattle.tcap_record.specs.PartialRecord.{FramerState}
use Rattle.tcap_record.proofs.FrontLaws.{part_not_whole}
use Rattle.tcap_record.proofs.FedLaws.{fed_emptied}
use Rattle.tcap_record.proofs.frames.Frames.drop_front.Goals as goal

pub returns-then-not-self-clause-exact : goal.returns-then-not-self-clause-exact
returns-then-not-self-clause-exact c =
    rw (← c.self.view_is) (λ no. absurd cc, λ there. absurd (part_not_whole c.self.inside.octets.items (c.self.invariant.2 c.if-not-self.true there.0).0 there.1))

pub returns-then-not-self-clause-dropped : goal.returns-then-not-self-clause-dropped
returns-then-not-self-clause-dropped c =
    rw (← c.self.view_is) (λ sound whole. absurd (part_not_whole c.self.inside.octets.items (c.self.invariant.2 c.if-not-self.true sound).0 whole))

pub returns-clause-fed : goal.returns-clause-fed
returns-clause-fed c =
    let inside = c.self.inside in
    let len : c.len.result ≡ length inside.octets.items = omega (arith, c.len.ensures, inside.octets.ok.0) in
    let h : FramerState = record { octets = inside.octets.items; place = inside.place; count = inside.count; fault = inside.fault } in
    rw (← c.self.view_is) (λ octets entries entry. fed_emptied octets entries h entry c.clear.new.self.items c.len.result c.clear.ensures.items len)
