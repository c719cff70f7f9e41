use Rattle.tcap_faults.proofs.kind_laws.QuietMarkLaws.{no_open_mark}
use Rattle.tcap_faults.proofs.laws.no_mark_leaves_open.Goals as goal

pub returns : goal.returns
returns c = no_open_mark
