use Rattle.std.proofs.Common.{arith}
use Rattle.tcap_end.proofs.TableLaws.{linked_array, linked_long}
use Rattle.tcap_end.proofs.table_text.linked_in.Goals as goal

pub returns-then-len-gt-LINKED_LIMIT : goal.returns-then-len-gt-LINKED_LIMIT
returns-then-len-gt-LINKED_LIMIT c =
    rw c.in-Some.is (linked_long _ c.in-Some-as_array.items.now.items c.in-Some-as_array.ensures (omega arith))

pub returns : goal.returns
returns c = rw (c.in-Some.is, linked_array _ c.in-Some-as_array.items.now.items c.in-Some-as_array.ensures (omega arith))
    (rw c.deref.ensures.value at c.codes_in.ensures)
