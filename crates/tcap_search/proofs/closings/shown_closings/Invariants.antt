-- the list so far, to which the rest of the ties add the rest
use Rattle.std.proofs.Common.{length}
use Rattle.tcap_search.specs.SegmentEntries.{lines_of}
use Rattle.tcap_search.specs.ProposedCertificate.{fated}
use Rattle.tcap_search.proofs.ClosingLaws.{ExpiryList}
use Rattle.tcap_search.proofs.closings.shown_closings.Given as goal

abbrev pub invariant-loop-tie : goal.invariant-loop-tie
invariant-loop-tie l =
    ExpiryList (fated (lines_of l.entries) l.fates) (lines_of l.entries) l.ties (length l.entries) l.tie-index
    l.listed.items l.kept
