use Rattle.std.proofs.Common.{◌∷◌, []}
use Rattle.tcap_lists.proofs.ChainLaws.{less_kinds}
use Rattle.tcap_lists.proofs.chains.Chains.pop.Goals as goal

pub returns-then-mark-len : goal.returns-then-mark-len
returns-then-mark-len c = λ at kind is.
    rw c.in-Some.ensures.items (less_kinds c.pop.new.self.items (c.in-Some.mark ∷ []) at kind is)

pub returns-else-mark-len : goal.returns-else-mark-len
returns-else-mark-len c = λ at kind is.
    rw c.in-Some.ensures.items (less_kinds c.pop.new.self.items (c.in-Some.mark ∷ []) at kind is)
