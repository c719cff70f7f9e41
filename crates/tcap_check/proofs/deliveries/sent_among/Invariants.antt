-- The list has those of the numbers so far that the end sent.
use Rattle.std.proofs.Common.{◌≡◌, take}
use Rattle.tcap_check.specs.ReplaySteps.{sent_among}
use Rattle.tcap_check.proofs.deliveries.sent_among.Given as goal

abbrev pub invariant-loop-number : goal.invariant-loop-number
invariant-loop-number l = l.sent.items ≡ sent_among l.side l.entries (take l.number-index l.numbers)
