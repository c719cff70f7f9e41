use Rattle.tcap_end.proofs.half_state.HalfState.undo_all.Goals as goal

pub undo-requires : goal.undo-requires
undo-requires c =
    let left = rw c.in-Some.ensures.items at (c.loop.invariant.still c.requires.can.0 c.requires.can.1) in
    record { can = left.0 }
