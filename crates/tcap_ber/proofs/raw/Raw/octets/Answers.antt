use Rattle.std.proofs.Common.{◌∙◌, ap}
use Rattle.tcap_ber.specs.Reading.{is_raw}
use Rattle.tcap_ber.proofs.OuterLaws.{is_raw_sound}
use Rattle.tcap_ber.proofs.raw.Raw.octets.Goals as goal

pub returns-clause-whole : goal.returns-clause-whole
returns-clause-whole c = is_raw_sound c.as_slice.result.now (ap is_raw c.as_slice.ensures.value ∙ c.self.invariant)
