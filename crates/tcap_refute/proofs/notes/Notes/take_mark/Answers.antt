use Rattle.tcap_refute.proofs.ItemLaws.{marked}
use Rattle.tcap_refute.proofs.notes.Notes.take_mark.Goals as goal

pub returns : goal.returns
returns c = λ table items. marked table items c.new.result c.new.ensures
