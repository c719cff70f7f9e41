-- The messages so far and those among the remaining ones are all.
use Rattle.tcap_evidence.proofs.Common.{◌≡◌, ◌++◌, drop, dialogue_in, is_response, numbered_of, since_first}
use Rattle.tcap_evidence.proofs.ListingLaws.{come_of}
use Rattle.tcap_evidence.proofs.listing.since_response.Given as goal

abbrev pub invariant-loop-one : goal.invariant-loop-one
invariant-loop-one l =
    numbered_of l.kept.items ++ come_of l.has_come (numbered_of (drop l.one-index l.sent))
    ≡ since_first (λ n. is_response (dialogue_in n.1)) (numbered_of l.sent)
