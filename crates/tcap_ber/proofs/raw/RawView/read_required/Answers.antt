use Rattle.tcap_ber.specs.Reading.{span, element}
use Rattle.tcap_ber.proofs.VerbatimLaws.{verbatim_there}
use Rattle.tcap_ber.proofs.raw.RawView.read_required.Goals as goal

pub invariant_of-raw : goal.invariant_of-raw
invariant_of-raw c = record { whole = verbatim_there c.args.tag (span c.args.window) (element c.in_ok-rest.field-0-0, span c.in_ok-rest.rest) c.in_ok-rest.ensures.exact }
