-- the gaps after the last entries so far
use Rattle.std.proofs.Common.{◌≡◌, ◌<◌, ℕ, length, take}
use Rattle.tcap_record.specs.declared.entry.End.{End as Side}
use Rattle.tcap_search.specs.SegmentEntries.{lines_of}
use Rattle.tcap_search.specs.Fates.{gap_after_last, gap_kept}
use Rattle.tcap_search.proofs.fates.last_gaps.Given as goal

abbrev pub invariant-loop-number : goal.invariant-loop-number
invariant-loop-number l = record {
  gaps : (side : Side) (t : ℕ) → t < length l.entries
      → gap_kept side t l.gaps.items ≡ gap_after_last l.judged side t (take l.number (lines_of l.entries));
  count : length l.gaps.items ≡ length l.entries;
}
