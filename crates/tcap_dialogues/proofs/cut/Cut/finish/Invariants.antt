-- The dialogues so far are handed over.
use Rattle.std.proofs.Common.{◌≡◌, ◌++◌, List}
use Rattle.tcap_dialogues.specs.declared.complete_dialogue.CompleteDialogue.{CompleteDialogue}
use Rattle.tcap_dialogues.proofs.FinishLaws.{Stand}
use Rattle.tcap_dialogues.proofs.cut.Cut.finish.Given as goal

abbrev pub invariant-loop-live : goal.invariant-loop-live
invariant-loop-live l = (given : List CompleteDialogue) × (l.done.items ≡ l.fn.done.items ++ given) × Stand l.yielded given
