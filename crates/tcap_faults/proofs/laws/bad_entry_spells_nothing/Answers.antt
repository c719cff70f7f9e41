use Rattle.tcap_faults.proofs.kind_laws.BlamedLaws.{bad_has_none}
use Rattle.tcap_faults.proofs.laws.bad_entry_spells_nothing.Goals as goal

pub returns : goal.returns
returns c = bad_has_none
