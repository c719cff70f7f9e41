use Rattle.tcap_search.proofs.FoundLaws.{fits_after}
use Rattle.tcap_search.proofs.certificate_so_far.PartialCertificate.with_segment.Goals as goal

pub with_after-requires-clause-fits : goal.with_after-requires-clause-fits
with_after-requires-clause-fits c =
    fits_after c.args.judged c.args.marked c.args.first c.args.entries.now c.requires.few _
    c.in_ok-segment.ensures
