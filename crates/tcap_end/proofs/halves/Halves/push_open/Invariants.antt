use Rattle.std.proofs.Common.{◌≡◌, ◌++◌}
use Rattle.tcap_end.specs.HiddenSteps.{open_names}
use Rattle.tcap_end.specs.Halves.{end_of, halves_at, name_in}
use Rattle.tcap_end.specs.ReachableEnd.{halves_of}
use Rattle.tcap_end.proofs.halves.Halves.push_open.Given as goal

-- The names so far and those of the remaining places are all names.
abbrev pub invariant-loop-key : goal.invariant-loop-key
invariant-loop-key l =
    l.names.items ++ open_names (name_in l.fn.slot) (halves_at l.self.slab l.fn.slot l.key-iterator)
    ≡ l.fn.names.items ++ open_names (name_in l.fn.slot) (halves_of l.fn.slot (end_of l.self))
