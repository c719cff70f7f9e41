use Rattle.tcap_check.proofs.one_end_lemmas.AloneRuns.{gives_for}
use Rattle.tcap_check.proofs.one_end_laws.what_one_end_is_given_is_lawful.Goals as goal

pub returns : goal.returns
returns c side table certificate entries events is =
    let given = gives_for side table certificate entries events is in (given.items, given.are, (events, given.run, given.keeps))
