-- The destinations so far and those of the remaining messages are all.
use Rattle.tcap_evidence.proofs.Common.{◌≡◌, ℕ, List, drop, is_at, lookup, octets_cmp, option_or, first_to, messages_of}
use Rattle.tcap_evidence.proofs.mark.all_first.Given as goal

abbrev pub invariant-loop-one : goal.invariant-loop-one
invariant-loop-one l =
    (id : List ℕ)
    → option_or (lookup (is_at (octets_cmp id)) l.first.entries) (first_to id (messages_of (drop l.one-index l.sent)))
    ≡ first_to id (messages_of l.sent)
