use Rattle.tcap_faults.proofs.verdict_laws.NextEntryLaws.{kept_mark}
use Rattle.tcap_faults.proofs.transaction.history.Facts.note_mark.Goals as goal

pub returns : goal.returns
returns c = λ table items. kept_mark table items _ (c.new.ensures table)
