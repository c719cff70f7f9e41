-- The end that a call leaves is sound, after a step and after a fault.
use Rattle.std.proofs.Common.{◌≡◌, Result, Ok, Err, OnErr}
use Rattle.tcap_end.specs.declared.fault.EndFault.{EndFault}
use Rattle.tcap_end.specs.End.{End}
use Rattle.tcap_end.specs.ReachableEnd.{IsEnd}
use Rattle.tcap_end.specs.Step.{Answers, AnswersInMemory}

pub sound_after : (step : Result End EndFault) (answer : Result (Unit {0}) EndFault) (e next : End) → IsEnd e
    → ((made : End) → step ≡ Ok made → IsEnd made) → AnswersInMemory step answer next → OnErr answer (next ≡ e) → IsEnd next
sound_after step (Ok _) e next sound goes answers kept = goes next answers
sound_after step (Err _) e next sound goes answers kept = rw kept sound

-- A call that never runs out of memory also meets the contract that allows it to.
pub in_memory : (step : Result End EndFault) (answer : Result (Unit {0}) EndFault) (left : End) → Answers step answer left
    → AnswersInMemory step answer left
in_memory step (Ok _) left answers = answers
in_memory step (Err _) left answers = λ apart. answers
