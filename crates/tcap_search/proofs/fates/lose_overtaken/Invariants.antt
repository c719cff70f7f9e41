-- the fates after losses from here on, and their least times
use Rattle.std.proofs.Common.{◌≡◌, ◌++◌, map, take, drop}
use Rattle.tcap_record.specs.declared.entry.End.{End as Side}
use Rattle.tcap_search.specs.SegmentEntries.{lines_of}
use Rattle.tcap_search.specs.ProposedCertificate.{fated, with_losses}
use Rattle.tcap_search.specs.EndValues.{at_end}
use Rattle.tcap_search.specs.Fates.{least_time}
use Rattle.tcap_search.proofs.fates.lose_overtaken.Given as goal

abbrev pub invariant-loop-number : goal.invariant-loop-number
invariant-loop-number l = record {
  fates : l.fates ≡ take l.number l.fn.fates
      ++ map (λ x. x.fate) (with_losses (drop l.number (fated (lines_of l.entries) l.fn.fates)));
  least : (side : Side) → at_end side l.least
      ≡ least_time side (with_losses (drop l.number (fated (lines_of l.entries) l.fn.fates)));
}
