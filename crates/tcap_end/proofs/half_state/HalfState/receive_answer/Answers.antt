use mir.Syntax.{w8}
use Rattle.std.proofs.Common.{◌≡◌, true, false, refl}
use Rattle.std.proofs.lemmas.Int.{to_z-of_z}
use denote.Enum.Bare.{sameb}
use Rattle.tcap_end.specs.contracts.received.Target.{the_type}
use Rattle.tcap_end.specs.declared.received.Target.{Target}
use Rattle.tcap_end.specs.declared.received.Target.TheVariants as targets
use Rattle.tcap_end.specs.HalfState.{half_of}
use Rattle.tcap_end.proofs.ReceivingLaws.{then_more, then_none, then_waits}
use Rattle.tcap_end.proofs.half_state.HalfState.receive_answer.Goals as goal
use Rattle.tcap_end.proofs.half_state.HalfState.receive_answer.Goals.{else-last-via-then-last+else-eq, else-last-via-else-last}

is_same : (target : Target) → true ≡ sameb the_type target targets.Invocation → target ≡ targets.Invocation
is_same targets.Nothing same = cc
is_same targets.OtherClass same = cc
is_same targets.Invocation same = refl

is_other : (target : Target) → false ≡ sameb the_type target targets.Invocation → target ≡ targets.Invocation → ⊥
is_other targets.Nothing other is = cc
is_other targets.OtherClass other is = cc
is_other targets.Invocation other is = cc

pub returns-in_ok-wait-clause-received : goal.returns-in_ok-wait-clause-received
returns-in_ok-wait-clause-received c =
    let id = c.args.id in
    then_waits c.args.table.now (half_of c.args.self.now) (half_of c.join_answer.new.self) c.args.is_result c.args.last id
    c.target-target.result
    (rw (to_z-of_z w8 id c.ranges.id) at c.target-target.ensures) (rw (to_z-of_z w8 id c.ranges.id) at c.in_ok-join_answer.ensures.joined)
    (half_of c.wait.new.self) c.if-last.true (is_same c.target-target.result c.if-eq.ensures)
    (rw (to_z-of_z w8 id c.ranges.id) at c.in_ok-wait.ensures.waits)

pub returns-else-last-clause-received : goal.returns-else-last-clause-received
returns-else-last-clause-received c =
    let id = c.args.id in
    let is_target = rw (to_z-of_z w8 id c.ranges.id) at c.target-target.ensures in
    let joined = rw (to_z-of_z w8 id c.ranges.id) at c.in_ok-join_answer.ensures.joined in
    elim c.else-last.branch [
      | else-last-via-then-last+else-eq w ↦
          then_none c.args.table.now (half_of c.args.self.now) (half_of c.join_answer.new.self) c.args.is_result c.args.last id
          c.target-target.result is_target joined (is_other c.target-target.result w.if-eq.ensures)
      | else-last-via-else-last w ↦
          then_more c.args.table.now (half_of c.args.self.now) (half_of c.join_answer.new.self) c.args.is_result c.args.last id
          c.target-target.result is_target joined w.if-last.false
    ]
