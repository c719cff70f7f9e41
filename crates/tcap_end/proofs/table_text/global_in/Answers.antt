use Rattle.tcap_end.proofs.TableLaws.{no_global}
use Rattle.tcap_end.proofs.table_text.global_in.Goals as goal

pub returns-then-is_none : goal.returns-then-is_none
returns-then-is_none c =
    no_global c.in-Ok.octets.items c.deref.result.now _ c.new.result c.in-Ok.ensures.ok c.deref.ensures.value
    c.new.ensures.exact (c.if-is_none.ensures)
