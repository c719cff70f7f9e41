use Rattle.tcap_check.proofs.one_end_lemmas.AloneBoth.{both_give}
use Rattle.tcap_check.proofs.one_end_laws.both_give_each.Goals as goal

pub returns : goal.returns
returns c = both_give
