-- The entries so far and those found in the remaining ones are all.
use Rattle.tcap_evidence.proofs.Common.{◌≡◌, paired_before}
use Rattle.tcap_evidence.proofs.PairingLaws.{pairs_from}
use Rattle.tcap_evidence.proofs.pairing.paired_before.Given as goal

abbrev pub invariant-loop-at : goal.invariant-loop-at
invariant-loop-at l =
    pairs_from l.of l.id l.record.entries.items l.number l.at (l.pairs.entries.items, l.pairs.from, l.pairs.to)
    ≡ paired_before l.of l.id l.record.entries.items l.number
