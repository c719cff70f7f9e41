use Rattle.tcap_end.specs.Halves.{end_of}
use Rattle.tcap_end.specs.Message.{receive}
use Rattle.tcap_end.proofs.EndStateLaws.{sound_after}
use Rattle.tcap_end.proofs.StepLaws.{receives}
use Rattle.tcap_end.proofs.end_state.EndState.receive.Goals as goal

pub invariant_of-self : goal.invariant_of-self
invariant_of-self g c =
    let table = c.args.table.now in
    let e = end_of c.self.inside.halves in
    let step = receive table e (g.M.MessageParts.meaning c.args.message.now) in
    let sound = c.self.invariant.2 in (
      c.receive.ensures.held,
      c.receive.ensures.placed c.self.invariant.1,
      sound_after step c.receive.result e _ sound
          (λ made is. (receives table e made (g.M.MessageParts.meaning c.args.message.now) sound is).sound)
          c.receive.ensures.step c.receive.ensures.kept,
    )
