-- the fates of the entries so far
use Rattle.std.proofs.Common.{◌≡◌, map, take}
use Rattle.tcap_search.specs.SegmentEntries.{lines_of}
use Rattle.tcap_search.specs.ProposedCertificate.{fate_unanswered, fated}
use Rattle.tcap_search.proofs.unanswered.heard_by.Given as goal

abbrev pub invariant-loop-number : goal.invariant-loop-number
invariant-loop-number l =
    l.heard.items ≡ map (fate_unanswered l.side (lines_of l.entries))
    (take l.number (fated (lines_of l.entries) l.fates))
