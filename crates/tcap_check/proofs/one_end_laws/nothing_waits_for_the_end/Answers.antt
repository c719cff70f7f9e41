use Rattle.tcap_check.proofs.one_end_lemmas.AloneRuns.{none_waits, unheard_are_lost}
use Rattle.tcap_check.proofs.one_end_laws.nothing_waits_for_the_end.Goals as goal

pub returns : goal.returns
returns c side table certificate entries events w is runs =
    (none_waits side table certificate entries events w is runs, unheard_are_lost side events)
