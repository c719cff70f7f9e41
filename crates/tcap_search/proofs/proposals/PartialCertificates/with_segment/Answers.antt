use Rattle.std.proofs.Common.{Some, None, ◌∙◌}
use Rattle.tcap_record.specs.declared.entry.End.TheVariants as sides
use Rattle.tcap_search.proofs.FoundLaws.{fits_after}
use Rattle.tcap_search.proofs.proposals.PartialCertificates.with_segment.Goals as goal

pub with_after-requires-clause-fits : goal.with_after-requires-clause-fits
with_after-requires-clause-fits c =
    fits_after (Some sides.A) c.args.marked c.args.first c.args.entries.now c.requires.few _
    (c.or_both.ensures ∙ c.in_ok-a.ensures)

pub with_after-requires-2-clause-fits : goal.with_after-requires-2-clause-fits
with_after-requires-2-clause-fits c =
    fits_after (Some sides.B) c.args.marked c.args.first c.args.entries.now c.requires.few _
    (c.or_both-2.ensures ∙ c.in_ok-b.ensures)

pub with_after-requires-3-clause-fits : goal.with_after-requires-3-clause-fits
with_after-requires-3-clause-fits c =
    fits_after None c.args.marked c.args.first c.args.entries.now c.requires.few _ c.in_ok-both.ensures
