use Rattle.tcap_traces.proofs.TraceMeaningLaws.{pass_means}
use Rattle.tcap_traces.proofs.laws.pass_is_lawful.Goals as goal

pub returns : goal.returns
returns c = pass_means
