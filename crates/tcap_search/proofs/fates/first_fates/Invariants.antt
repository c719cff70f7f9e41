-- the fates of the entries so far, and the gaps raised by their replies
use Rattle.std.proofs.Common.{◌≡◌, map, take}
use Rattle.tcap_record.specs.declared.entry.End.{End as Side}
use Rattle.tcap_search.specs.SegmentEntries.{lines_of}
use Rattle.tcap_search.specs.ProposedCertificate.{fate_of}
use Rattle.tcap_search.specs.EndValues.{at_end}
use Rattle.tcap_search.specs.Fates.{highest}
use Rattle.tcap_search.proofs.fates.first_fates.Given as goal

abbrev pub invariant-loop-number : goal.invariant-loop-number
invariant-loop-number l = record {
  fates : l.fates.items ≡ map (fate_of l.fn.judged (lines_of l.entries) l.ties) (take l.number (lines_of l.entries));
  raised : (side : Side) → at_end side l.raised ≡ highest side (take l.number (lines_of l.entries)) l.ties;
}
