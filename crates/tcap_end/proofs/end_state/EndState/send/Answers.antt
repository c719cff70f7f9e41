use Rattle.tcap_end.specs.Halves.{end_of}
use Rattle.tcap_end.specs.Message.{send}
use Rattle.tcap_end.proofs.EndStateLaws.{sound_after}
use Rattle.tcap_end.proofs.StepLaws.{sends}
use Rattle.tcap_end.proofs.end_state.EndState.send.Goals as goal

pub invariant_of-self : goal.invariant_of-self
invariant_of-self g c =
    let table = c.args.table.now in
    let e = end_of c.self.inside.halves in
    let step = send table e (g.M.MessageParts.meaning c.args.message.now) in
    let sound = c.self.invariant.2 in (
      c.send.ensures.held,
      c.send.ensures.placed c.self.invariant.1,
      sound_after step c.send.result e _ sound
          (λ made is. (sends table e made (g.M.MessageParts.meaning c.args.message.now) sound is).sound)
          c.send.ensures.step c.send.ensures.kept,
    )
