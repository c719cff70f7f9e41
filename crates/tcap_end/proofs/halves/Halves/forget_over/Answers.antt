use mir.Syntax.{w8}
use Rattle.std.proofs.Common.{◌≡◌, refl, sym, ap}
use Rattle.std.proofs.lemmas.Int.{to_z-of_z}
use Rattle.tcap_end.specs.HalfState.{half_of}
use Rattle.tcap_end.specs.HiddenSteps.{without_invocation}
use Rattle.tcap_end.proofs.PlacedLaws.{has_open}
use Rattle.tcap_end.proofs.ChangeLaws.{becomes_on, held_on}
use Rattle.tcap_end.proofs.HiddenLaws.{forgets, some_place}
use Rattle.tcap_end.proofs.AllPlacedLaws.{placed_on}
use Rattle.tcap_end.proofs.halves.Halves.forget_over.Goals as goal

pub put-requires : goal.put-requires
put-requires c =
    let half = c.in-Some.half.now in
    let had =
    has_open c.args.self.now c.args.found.now.slot c.args.found.now.key c.number-number.result half
    c.number-number.ensures (sym c.in-Some.ensures.value) in
    record { made = rw (to_z-of_z w8 c.args.id c.ranges.id) (some_place c.args.id half.out (c.requires.own_invocation (half_of half) had)) }

-- the half after the invocation is removed
left : (c : goal.Joined-put)
    → half_of (record c.in-Some.half.now { out = c.put.new.self }) ≡ without_invocation c.args.id (half_of c.in-Some.half.now)
left c =
    ap (λ outs. record (half_of c.in-Some.half.now) { out = outs }) (rw (to_z-of_z w8 c.args.id c.ranges.id) at c.put.ensures.put)

pub returns-clause-forgotten : goal.returns-clause-forgotten
returns-clause-forgotten c =
    becomes_on c.args.self.now c.args.found.now.slot c.args.found.now.key c.number-number.result c.in-Some.half.now
    c.requires.held c.number-number.ensures (sym c.in-Some.ensures.value) (record c.in-Some.half.now { out = c.put.new.self })
    (without_invocation c.args.id) (left c)

pub returns-clause-held : goal.returns-clause-held
returns-clause-held c =
    let half = c.in-Some.half.now in
    held_on c.args.self.now c.args.found.now.slot c.args.found.now.key c.number-number.result half
    c.requires.held c.number-number.ensures (sym c.in-Some.ensures.value) (record half { out = c.put.new.self }) refl
    (forgets c.args.id (half_of half) (half_of (record half { out = c.put.new.self })) (left c))

pub returns-clause-placed : goal.returns-clause-placed
returns-clause-placed c =
    placed_on c.args.self.now c.number-number.result c.in-Some.half.now (record c.in-Some.half.now { out = c.put.new.self })
    (sym c.in-Some.ensures.value) refl
