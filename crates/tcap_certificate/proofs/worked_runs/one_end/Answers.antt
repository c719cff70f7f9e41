use Rattle.std.proofs.Common.{refl}
use Rattle.tcap_certificate.specs.WorkedRuns.{continues_behind_its_end, end_is_not_heard}
use Rattle.tcap_certificate.proofs.worked_runs.one_end.Goals as goal

pub returns-clause-continues_behind_its_end : goal.returns-clause-continues_behind_its_end
returns-clause-continues_behind_its_end c = ((_, refl, refl), refl, (continues_behind_its_end.events, (_, refl, refl), refl))

pub returns-clause-end_is_not_heard : goal.returns-clause-end_is_not_heard
returns-clause-end_is_not_heard c = ((_, refl, refl), refl, (end_is_not_heard.events, (_, refl, refl), refl))
