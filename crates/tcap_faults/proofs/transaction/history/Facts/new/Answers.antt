use Rattle.tcap_record.specs.declared.entry.End.TheVariants as sides
use Rattle.tcap_faults.proofs.transaction.history.Facts.new.Goals as goal

pub returns : goal.returns
returns c = λ table. record { a = c.new.ensures table sides.A; b = c.new-2.ensures table sides.B }
