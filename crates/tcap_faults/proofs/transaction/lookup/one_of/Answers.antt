use Rattle.std.proofs.Common.{◌≡◌, []}
use Rattle.std.specs.Prelude.{Contains}
use Rattle.std.proofs.lemmas.List.Elements.{Contains-append_left}
use Rattle.tcap_faults.proofs.transaction.lookup.one_of.Goals as goal

pub returns-in-Some : goal.returns-in-Some
returns-in-Some c = λ xs ys are_x are_y.
    let has : Contains xs c.in-Some.one = rw c.in-Some.is at (c.first_in.ensures xs are_x) in
    Contains-append_left xs ys c.in-Some.one has

pub returns-in-None : goal.returns-in-None
returns-in-None c = λ xs ys are_x are_y.
    let none : xs ≡ [] = rw c.in-None.is at (c.first_in.ensures xs are_x) in
    rw none (c.first_in-in-None.ensures ys are_y)
