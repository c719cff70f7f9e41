use Rattle.tcap_end.specs.Halves.{end_of}
use Rattle.tcap_end.specs.HiddenSteps.{close}
use Rattle.tcap_end.proofs.EndStateLaws.{in_memory, sound_after}
use Rattle.tcap_end.proofs.StepLaws.{closes}
use Rattle.tcap_end.proofs.end_state.EndState.close.Goals as goal

pub invariant_of-self : goal.invariant_of-self
invariant_of-self c =
    let table = c.args.table.now in
    let e = end_of c.self.inside.halves in
    let step = close table e c.args.name in
    let sound = c.self.invariant.2 in (
      c.close_named.ensures.held,
      c.close_named.ensures.placed c.self.invariant.1,
      sound_after step c.close_named.result e _ sound (λ made is. (closes table e made c.args.name sound is).sound)
          (in_memory step c.close_named.result _ c.close_named.ensures.step) c.close_named.ensures.kept,
    )
