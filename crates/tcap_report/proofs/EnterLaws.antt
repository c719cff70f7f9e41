-- An entry is taken, unless the run stops.
use Rattle.std.proofs.Common.{◌≡◌, Bool, List, ◌++◌}
use Rattle.std.specs.Prelude.{Contains, Result, Ok, Err, OnOk}
use Rattle.tcap_dialogues.specs.Course.{Course}
use Rattle.tcap_dialogues.specs.DialoguesOfList.{IdOf}
use Rattle.tcap_dialogues.specs.declared.complete_dialogue.CompleteDialogue.{CompleteDialogue}
use Rattle.tcap_traces.specs.declared.case.NextItem.TheVariants as items
use Rattle.tcap_traces.specs.Pieces.{TraceEntry}
use Rattle.tcap_traces.specs.TraceProgress.{AreAligned}
use Rattle.tcap_traces.specs.TraceState.{State}
use Rattle.tcap_report.specs.declared.trace.Trace.{Trace}
use Rattle.tcap_report.specs.declared.trace.TraceOptions.{TraceOptions}
use Rattle.tcap_report.specs.KeptState.{AreSeparate, HoldsEntry, IsBefore, IsReading, Keeps, with_next}
use Rattle.tcap_report.proofs.JudgedListLaws.{entry_read}

-- An entry was held, and then the dialogues were judged whose IDs are free.
pub entered : {T E : Type 0} (result : Result T E) (options : TraceOptions) (s : State) (e : TraceEntry) (given : List CompleteDialogue) (t u : Trace)
    → HoldsEntry options s e given t
    → ((options : TraceOptions) (s : State) (names : IdOf → Bool) (done waiting those : List Course)
    → AreAligned those given → AreSeparate options s (those ++ waiting) → ((d : Course) → Contains those d → IsBefore items.More s d)
    → Keeps options s done (those ++ waiting) names t → OnOk result (Keeps options s (done ++ those) waiting names u))
    → OnOk result ((u.cut ≡ t.cut) × (u.count ≡ t.count)) → OnOk result (IsReading options (with_next options s e) u)
entered (Ok x) options s e given t u holds judges same = entry_read options s e given t u holds judges same.0 same.1
entered (Err f) options s e given t u holds judges same = tt
