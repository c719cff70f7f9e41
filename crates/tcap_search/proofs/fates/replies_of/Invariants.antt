-- the replies of the ties so far
use Rattle.std.proofs.Common.{◌≡◌, ◌<◌, ℕ, length, take, Some}
use Rattle.std.specs.Prelude.{slice_get}
use Rattle.tcap_search.specs.ProposedCertificate.{reply_of}
use Rattle.tcap_search.proofs.fates.replies_of.Given as goal

abbrev pub invariant-loop-tie : goal.invariant-loop-tie
invariant-loop-tie l = record {
  replies : (number : ℕ) → number < l.count
      → slice_get l.replies.items number ≡ Some (reply_of (take l.tie-index l.ties) number);
  count : length l.replies.items ≡ l.count;
}
