use Rattle.std.proofs.Common.{◌≡◌, ℕ, suc, ◌-◌, get_or, vec_len}
use Rattle.tcap_lists.proofs.chains.pad.Given as goal

-- Appended zeros change no entry.
abbrev pub invariant-loop-ends : goal.invariant-loop-ends
invariant-loop-ends l = (n : ℕ) → get_or l.ends.items n 0 ≡ get_or l.initial.ends.items n 0

abbrev pub decreases-loop-ends : goal.decreases-loop-ends
decreases-loop-ends l = suc l.at - vec_len l.ends
