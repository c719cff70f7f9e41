use Rattle.std.proofs.Common.{◌≡◌}
use Rattle.tcap_diagnostics.proofs.TableLaws.{text_of_book}
use Rattle.tcap_diagnostics.proofs.tables.push_text.Goals as goal

pub returns-in-Ok : goal.returns-in-Ok
returns-in-Ok c = record { table = λ fine. text_of_book c.args.octets.now c.in-Ok.book (c.in-Ok.ensures.book (λ e. cc)) }
