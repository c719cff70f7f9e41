-- the sweep and the list after the entries so far
use Rattle.std.proofs.Common.{◌≡◌, ℕ, ℤ, Bool, [], take}
use Rattle.tcap_record.specs.declared.entry.End.{End as Side}
use Rattle.tcap_search.specs.SegmentEntries.{lines_of}
use Rattle.tcap_search.specs.ProposedCertificate.{expiries_from, fated}
use Rattle.tcap_search.specs.InvocationMap.{kept_at}
use Rattle.tcap_search.specs.ListedExpiries.{IsListed}
use Rattle.tcap_search.specs.Sweep.{answer_kept, invoked_in}
use Rattle.tcap_search.proofs.SweepLaws.{answered_in}
use Rattle.tcap_search.proofs.expiries.swept_expiries.Given as goal

abbrev pub invariant-loop-number : goal.invariant-loop-number
invariant-loop-number l = record {
  invokes : (t : ℕ) (s : Side) (id : ℤ) → kept_at t s id l.sweep.invokes
      ≡ invoked_in (take l.number (lines_of l.entries)) t s id;
  answers : (is_result : Bool) (t : ℕ) (s : Side) (id : ℤ) → answer_kept is_result t s id l.sweep
      ≡ answered_in (lines_of l.entries) (fated (lines_of l.entries) l.fates) l.number is_result t s id;
  added : l.listed.expiries.items
      ≡ expiries_from (fated (lines_of l.entries) l.fates) (lines_of l.entries)
      (take l.number (lines_of l.entries)) [];
  listed : IsListed l.listed;
}
