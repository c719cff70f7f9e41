-- Which dialogue does a case describe, and what is asked of it?
use Rattle.std.specs.Prelude.{ℕ, Bool, List, ◌||◌, Option, is_some, option_copied, option_map, slice_get, cond, Some, None, unwrap_or}
use Rattle.std.specs.BTreeSet.{BTreeSet}
use Rattle.tcap_dialogues.specs.declared.complete_dialogue.CompleteDialogue.{CompleteDialogue}
use Rattle.tcap_traces.specs.Pieces.{TraceEntry, further}
use Rattle.tcap_traces.specs.declared.case.NextItem.{NextItem}
use Rattle.tcap_traces.specs.declared.case.NextItem.TheVariants as behinds
use Rattle.tcap_traces.specs.declared.case.Case.{Case}
use Rattle.tcap_traces.specs.declared.case.Rules.{Rules}
use Rattle.tcap_traces.specs.declared.table_choice.ChosenTable.{ChosenTable}
use Rattle.tcap_dialogues.specs.Course.{Heading}
use Rattle.tcap_record.specs.declared.entry.End.{End as Side}
use Rattle.tcap_traces.specs.Dialogue.{After, Dialogue, EndAfter, FaultAfter, MarkAfter, More, Question, begun_by}
use Rattle.tcap_traces.specs.UnreadableEntries.{first_above}
use Rattle.tcap_traces.specs.TableChoice.{Choice}

-- what comes after the entries of a case
abbrev pub after_of : NextItem → After
after_of behinds.More = More
after_of (behinds.Mark line number) = MarkAfter
after_of behinds.End = EndAfter
after_of behinds.Fault = FaultAfter

-- whether a set has an ID
abbrev pub has_some : BTreeSet (List ℕ) → Bool
has_some ids = is_some (slice_get ids.keys 0)

-- a gathered dialogue with these entries, and with what the trace shows about it
abbrev pub gathered_as : CompleteDialogue → List TraceEntry → After → Option ℕ → Bool → Option ℕ → Dialogue
gathered_as g entries after under_way in_use unread = record {
  entries = entries;
  numbers = g.numbers.items;
  has_ids = has_some g.a || has_some g.b;
  over = g.over;
  again = is_some g.earlier;
  unsettled = g.unsettled;
  after = after;
  under_way = under_way;
  in_use = in_use;
  unread = unread;
}

-- The entry after which unreadable entries may belong to a dialogue: its first entry, with this number, if that is a
-- Begin. Otherwise it is None: those of the whole segment may.
abbrev pub unread_after : Option Side → Option ℕ → Option ℕ
unread_after None number = None
unread_after (Some side) number = number

-- the first noted unreadable entry that may belong to a gathered dialogue, given the heading of its first entry
abbrev pub unread_by : List ℕ → CompleteDialogue → Option Heading → Option ℕ
unread_by notes g first =
    cond (has_some g.a || has_some g.b)
    (first_above (unread_after (begun_by first) (slice_get g.numbers.items 0)) notes) None

-- the dialogue of a case
abbrev pub dialogue_in : Case → Dialogue
dialogue_in case =
    gathered_as case.gathered case.entries.items (after_of case.next) case.under_way (is_some case.in_use) case.unread

-- the number of the dialogue: that of its first entry in the trace
abbrev pub number_of : Case → ℕ
number_of case = further case.before (unwrap_or (slice_get case.gathered.numbers.items 0) 0)

-- the number of the last earlier dialogue of the segment with one of its IDs, if there is one
abbrev pub earlier_of : Case → Option ℕ
earlier_of case = option_map (further case.before) case.gathered.earlier

-- the question about each dialogue, by the options
abbrev pub question_by : Rules → Question
question_by rules = record { of = rules.of; settled = rules.settled; complete = rules.complete; heard = rules.heard }

-- the question about the dialogue of a case
abbrev pub question_in : Case → Question
question_in case = question_by case.rules

-- the choice of a table
abbrev pub chosen_as : ChosenTable → Choice
chosen_as chosen = record {
  table = option_copied chosen.table;
  context = option_map (λ octets. octets.items) chosen.context;
  unsure = chosen.unsure;
}
