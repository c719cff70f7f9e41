use Rattle.std.proofs.Common.{ap, ◌∙◌}
use Rattle.tcap_parts.specs.InfoReading.{are_externals}
use Rattle.tcap_parts.proofs.InfoLaws.{are_sound}
use Rattle.tcap_parts.proofs.info.Info.octets.Goals as goal

pub returns-clause-externals : goal.returns-clause-externals
returns-clause-externals c = are_sound c.as_slice.result.now (ap are_externals c.as_slice.ensures.value ∙ c.self.invariant)
