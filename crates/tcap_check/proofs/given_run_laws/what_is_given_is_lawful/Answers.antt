use Rattle.std.proofs.Common.{refl}
use Rattle.tcap_check.proofs.given_run_lemmas.GivenRuns.{gives}
use Rattle.tcap_check.proofs.given_run_laws.what_is_given_is_lawful.Goals as goal

pub returns : goal.returns
returns c = λ table c entries events is.
    let given = gives table c entries events is in (given.items, given.are, (events, given.run, given.keeps, refl))
