use Rattle.std.proofs.Common.{w8, to_z, of_z}
use Rattle.tcap_end.specs.Halves.{end_of}
use Rattle.tcap_end.specs.HiddenSteps.{expire}
use Rattle.tcap_end.proofs.EndStateLaws.{in_memory, sound_after}
use Rattle.tcap_end.proofs.StepLaws.{expires}
use Rattle.tcap_end.proofs.end_state.EndState.expire.Goals as goal

pub invariant_of-self : goal.invariant_of-self
invariant_of-self c =
    let table = c.args.table.now in
    let e = end_of c.self.inside.halves in
    let id = to_z w8 (of_z w8 c.args.invoke) in
    let step = expire table e c.args.name id in
    let sound = c.self.invariant.2 in (
      c.expire.ensures.held,
      c.expire.ensures.placed c.self.invariant.1,
      sound_after step c.expire.result e _ sound (λ made is. (expires table e made c.args.name id sound is).sound)
          (in_memory step c.expire.result _ c.expire.ensures.step) c.expire.ensures.kept,
    )
