-- What a closure that adds an item to a row does.
use Rattle.std.specs.Prelude.{◌≡◌, ◌++◌, ◌∷◌, [], Some, Result, OnErr, OnOk}
use Rattle.std.specs.Borrow.{MutBor}
use Rattle.std.specs.Fn.{Once}
use Rattle.tcap_lists.specs.declared.row.Row.{Row}
use Rattle.tcap_lists.specs.Lists.{KeepsKinds, row_of}

-- The item was added to the row, or no place changed if memory ran out. The row keeps its kinds.
abbrev pub IsJoined : {K E : Type 0} → K → Row K → Result (Unit {0}) E → Row K → Type 0
IsJoined item row result next = OnOk result (row_of next ≡ row_of row ++ Some item ∷ [])
    × OnErr result (row_of next ≡ row_of row) × KeepsKinds row next

-- Each call of the closure at a row adds this item.
abbrev pub Joins : {F K E : Type 0}
    → Once F (MutBor (Row K) × Unit {0}) (Result (Unit {0}) E × (MutBor (Row K) × Unit {0})) → F → K → Type 0
Joins {F} {K} {E} g f item = (row next : MutBor (Row K)) (result : Result (Unit {0}) E)
    → g.post f (row, tt) (result, (next, tt)) → IsJoined item row.now result next.now
