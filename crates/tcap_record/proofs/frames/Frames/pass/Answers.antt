use Rattle.std.proofs.Common.{◌≡◌, [], length, None, arith}
use Rattle.tcap_record.specs.PartialRecord.{FramerState}
use Rattle.tcap_record.proofs.LendLaws.{whole_within, held_passed, fed_passed}
use Rattle.tcap_record.proofs.frames.Frames.pass.Goals as goal

pub invariant_of-self : goal.invariant_of-self
invariant_of-self c =
    let inside = c.self.inside in
    let h : FramerState = record { octets = inside.octets.items; place = inside.place; count = inside.count; fault = inside.fault } in
    let nothing : h.octets ≡ [] = rw (← c.self.view_is) at c.requires.nothing in
    let sound : h.fault ≡ None = rw (← c.self.view_is) at c.requires.sound in
    let room = rw (← c.self.view_is) at c.requires.room in (
      held_passed h (length c.args.octets.now) sound nothing room,
      c.self.invariant.1,
      c.self.invariant.2,
      c.self.invariant.3,
      omega (arith, c.self.invariant.4, whole_within c.args.octets.now c.requires.whole),
    )

pub returns-clause-fed : goal.returns-clause-fed
returns-clause-fed c =
    let inside = c.self.inside in
    let h : FramerState = record { octets = inside.octets.items; place = inside.place; count = inside.count; fault = inside.fault } in
    let nothing : h.octets ≡ [] = rw (← c.self.view_is) at c.requires.nothing in
    let sound : h.fault ≡ None = rw (← c.self.view_is) at c.requires.sound in
    rw (← c.self.view_is) (λ returned entries entry there fed. fed_passed returned entries h entry c.args.octets.now sound nothing there fed)
