use Rattle.std.proofs.Common.{refl}
use Rattle.tcap_end.specs.HalfState.{half_of}
use Rattle.tcap_end.proofs.half_state.HalfState.step_components.Goals as goal

pub undo_all-requires : goal.undo_all-requires
undo_all-requires c =
    record { can = (half_of c.args.self.now, c.step_noted.ensures.undoes (half_of c.args.self.now) (rw c.clear.ensures refl)) }

pub returns-in-Err-clause-kept : goal.returns-in-Err-clause-kept
returns-in-Err-clause-kept c =
    c.undo_all.ensures.undone (half_of c.args.self.now)
    (c.step_noted.ensures.undoes (half_of c.args.self.now) (rw c.clear.ensures refl))
