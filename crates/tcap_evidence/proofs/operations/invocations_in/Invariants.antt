-- The invocations so far and those of the remaining messages are all.
use Rattle.tcap_evidence.proofs.Common.{◌≡◌, ◌++◌, Some, drop, numbered_of}
use Rattle.tcap_evidence.specs.Operations.{invocations_in}
use Rattle.tcap_evidence.proofs.operations.invocations_in.Given as goal

abbrev pub invariant-loop-one : goal.invariant-loop-one
invariant-loop-one l =
    l.invocations.items ++ invocations_in (Some l.id) (numbered_of (drop l.one-index l.sent))
    ≡ invocations_in (Some l.id) (numbered_of l.sent)
