-- Worked rows: messages sent to an ID, doubts that make a blame inconclusive, and verdicts.
use Rattle.std.specs.Prelude.{◌≡◌, ℕ, Bool, true, false, List, [], ◌∷◌, map, Option, Some, None, Result, Ok, Err, refl}
use Rattle.tcap_record.specs.declared.entry.End.{End as Side}
use Rattle.tcap_record.specs.declared.entry.End.TheVariants as sides
use Rattle.tcap_end.specs.Table.{Table}
use Rattle.tcap_model.specs.declared.reason.Reason.{Reason}
use Rattle.tcap_model.specs.declared.reason.Reason.TheVariants.{NoItem}
use Rattle.tcap_model.specs.World.{Item, Sent}
use Rattle.tcap_model.specs.Entries.{entry_of}
use Rattle.tcap_model.specs.WorkedItems.{answer, begin, end_to, id, invoke, prearranged, result, table}
use Rattle.tcap_refute.specs.declared.kind.Kind.{Kind}
use Rattle.tcap_refute.specs.declared.kind.Kind.TheVariants as kinds
use Rattle.tcap_traces.specs.declared.verdict.Verdict.TheVariants.{Pass, Inconclusive, Fail, Error}
use Rattle.tcap_traces.specs.declared.end_result.Doubt.{Doubt}
use Rattle.tcap_traces.specs.declared.end_result.Doubt.TheVariants as doubts
use Rattle.tcap_traces.specs.declared.end_result.EndResult.TheVariants as end_results
use Rattle.tcap_traces.specs.declared.end_result.Circumstances.{Circumstances}
use Rattle.tcap_traces.specs.Verdict.{doubt_of, is_addressed, passes, trace_verdict, verdict_asked, worse}

-- ---- messages sent to an ID

-- A's Begin from 01, B's Continue from 02 to 01, B's End to 01, and A's End to 02
abbrev begins : Item
begins = Sent sides.A (begin None None)

abbrev answers : Item
answers = Sent sides.B (answer None None)

abbrev ends : Item
ends = Sent sides.B (end_to 1 None)

abbrev ends_elsewhere : Item
ends_elsewhere = Sent sides.A (end_to 2 None)

-- whether B sent a message to A's ID 01 in these entries, since A's last Begin
abbrev is_addressed_to_a : List (Result Item Reason) → Bool
is_addressed_to_a items = is_addressed sides.A (id 1) false items

pub nothing_is_addressed : (is_addressed_to_a [] ≡ false) × (is_addressed_to_a (Ok begins ∷ []) ≡ false)
    × (is_addressed_to_a (Ok begins ∷ Err NoItem ∷ Ok ends_elsewhere ∷ Ok Item.Quiet ∷ []) ≡ false)
nothing_is_addressed = (refl, refl, refl)

pub something_is_addressed : (is_addressed_to_a (Ok begins ∷ Ok answers ∷ []) ≡ true)
    × (is_addressed_to_a (Ok ends ∷ Ok ends_elsewhere ∷ []) ≡ true)
something_is_addressed = (refl, refl)

-- After another Begin of A, earlier messages do not count.
pub begins_anew : (is_addressed_to_a (Ok begins ∷ Ok ends ∷ Ok begins ∷ []) ≡ false)
    × (is_addressed_to_a (Ok begins ∷ Ok begins ∷ Ok answers ∷ []) ≡ true)
begins_anew = (refl, refl)

-- It depends on the ID, and on the end.
pub of_another : (is_addressed sides.A (id 2) false (Ok begins ∷ Ok answers ∷ []) ≡ false)
    × (is_addressed sides.B (id 1) false (Ok begins ∷ Ok answers ∷ []) ≡ false)
of_another = (refl, refl)

-- ---- doubts that make a blame inconclusive

-- a dialogue without any circumstance that makes a result inconclusive
abbrev alone : Circumstances
alone = record {
  again = false;
  under_way = false;
  early_mark = false;
  began = None;
  unsure = false;
  unread_from = None;
  cut = false;
  «open» = false;
  heard = false;
}

-- the doubt about a blame of this kind, for this entry of the items
abbrev doubt : Table → Circumstances → Side → List Item → ℕ → Kind → Option Doubt
doubt given c side items entry kind = doubt_of given c side (map entry_of items) (record { entry = entry; kind = kind })

pub of_a_mark : doubt table alone sides.B (begins ∷ answers ∷ Item.Quiet ∷ []) 2 kinds.OpenAtMark ≡ Some doubts.AtMark
of_a_mark = refl

-- A invokes an operation that is not in the table, and B answers it. If the operation is in the table, there is no
-- doubt.
abbrev invoked : ℕ → List Item
invoked code = Sent sides.A (begin None (Some (invoke code ∷ []))) ∷ Sent sides.B (end_to 1 (Some (result ∷ []))) ∷ []

pub of_an_operation : (doubt table alone sides.A (invoked 49) 0 kinds.WrongOperation ≡ Some doubts.LackingOperation)
    × (doubt table alone sides.B (invoked 49) 1 kinds.WrongOperation ≡ Some doubts.LackingOperation)
    × (doubt table alone sides.B (invoked 48) 1 kinds.WrongOperation ≡ None)
of_an_operation = (refl, refl, refl)

-- A reuses ID 01: there is a doubt if B sent nothing to it, or if the table has prearranged end.
pub of_an_id : (doubt table alone sides.A (begins ∷ begins ∷ []) 1 kinds.ReusedId ≡ Some doubts.MaybeOver)
    × (doubt table alone sides.A (begins ∷ answers ∷ begins ∷ []) 2 kinds.ReusedId ≡ None)
    × (doubt prearranged alone sides.A (begins ∷ answers ∷ begins ∷ []) 2 kinds.ReusedId ≡ Some doubts.MaybeOver)
of_an_id = (refl, refl, refl)

-- An earlier dialogue had one of the IDs; or an entry was unreadable, before the entry at fault or after it.
abbrev unread : ℕ → Circumstances
unread number = record alone { unread_from = Some number }

-- the doubt about B's End to an unknown transaction ID
abbrev to_nothing : Circumstances → Option Doubt
to_nothing c = doubt table c sides.B (begins ∷ Sent sides.B (end_to 9 None) ∷ []) 1 kinds.UnknownTransaction

-- The doubt that a dialogue began before its trace precedes all others.
pub under_way : (to_nothing (record alone { under_way = true }) ≡ Some doubts.UnderWay)
    × (to_nothing (record (unread 1) { under_way = true; again = true }) ≡ Some doubts.UnderWay)
    × (doubt table (record alone { under_way = true }) sides.B (begins ∷ answers ∷ Item.Quiet ∷ []) 2 kinds.OpenAtMark
    ≡ Some doubts.UnderWay)
    × (doubt table (record alone { under_way = true }) sides.A (invoked 49) 0 kinds.WrongOperation
    ≡ Some doubts.UnderWay)
under_way = (refl, refl, refl, refl)

-- So does the doubt of an early quiet mark.
pub early_mark : (to_nothing (record alone { early_mark = true; again = true }) ≡ Some doubts.EarlyMark)
    × (doubt table (record alone { early_mark = true }) sides.B (begins ∷ answers ∷ Item.Quiet ∷ []) 2 kinds.OpenAtMark
    ≡ Some doubts.EarlyMark)
early_mark = (refl, refl)

-- A began the dialogue, and may have used its ID before: a doubt about a fault of B, and not of A.
pub used_before : (to_nothing (record alone { began = Some sides.A }) ≡ Some doubts.UsedBefore)
    × (to_nothing (record alone { began = Some sides.B }) ≡ None)
    × (to_nothing (record alone { began = Some sides.A; again = true }) ≡ Some doubts.CameAgain)
used_before = (refl, refl, refl)

pub of_a_dialogue : (to_nothing (record alone { again = true }) ≡ Some doubts.CameAgain)
    × (to_nothing (unread 1) ≡ Some doubts.Unread) × (to_nothing (unread 2) ≡ None) × (to_nothing alone ≡ None)
of_a_dialogue = (refl, refl, refl, refl)

-- ---- verdicts

pub cut_or_open : (passes alone 3 ≡ end_results.Pass 3) × (passes (record alone { «open» = true }) 3 ≡ end_results.Open)
    × (passes (record alone { cut = true; «open» = true }) 3 ≡ end_results.TooLong)
    × (passes (record alone { under_way = true; cut = true; unsure = true; «open» = true }) 3 ≡ end_results.UnderWay)
    × (passes (record alone { early_mark = true; cut = true; unsure = true; «open» = true }) 3 ≡ end_results.EarlyMark)
    × (passes (record alone { heard = true }) 3 ≡ end_results.Unheard 3)
    × (passes (record alone { heard = true }) 0 ≡ end_results.Pass 0)
    × (passes (record alone { «open» = true; heard = true }) 3 ≡ end_results.Open)
cut_or_open = (refl, refl, refl, refl, refl, refl, refl, refl)

pub the_worse_one : (worse Pass Pass ≡ Pass) × (worse Pass Inconclusive ≡ Inconclusive)
    × (worse Fail Inconclusive ≡ Fail)
    × (worse Fail Error ≡ Error)
the_worse_one = (refl, refl, refl, refl)

pub of_the_ends : (verdict_asked None (end_results.Pass 0) end_results.Undecided ≡ Inconclusive)
    × (verdict_asked (Some sides.A) (end_results.Pass 0) end_results.Undecided ≡ Pass)
    × (verdict_asked (Some sides.B) (end_results.Pass 0) (end_results.AfterBadEntry 1) ≡ Inconclusive)
of_the_ends = (refl, refl, refl)

pub of_a_trace : (trace_verdict false 0 Pass ≡ Error) × (trace_verdict true 4 Pass ≡ Error)
    × (trace_verdict false 4 Inconclusive ≡ Inconclusive)
of_a_trace = (refl, refl, refl)
