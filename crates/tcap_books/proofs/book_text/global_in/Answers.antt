use Rattle.std.proofs.Common.{is_some, ap}
use Rattle.tcap_end.proofs.TableLaws.{no_global}
use Rattle.tcap_books.proofs.book_text.global_in.Goals as goal

pub returns : goal.returns
returns c =
    no_global c.in-Ok.octets.items c.deref.result.now _ c.in_ok-id.field-0 c.in-Ok.ensures.ok c.deref.ensures.value
    c.in_ok-id.ensures.exact (ap is_some c.in-None.is)
