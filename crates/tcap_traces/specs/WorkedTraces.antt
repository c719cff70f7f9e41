-- Worked traces: their pieces, segments, dialogues, tables, circumstances and verdicts.
use Rattle.hex.specs.Hex.{decode_pairs}
use Rattle.tcap_ber.specs.HeaderReading.{length_at, opening_at, tag_at}
use Rattle.tcap_ber.specs.Reading.{content_so_far_at, each_of, next_at, required_at, some_at}
use Rattle.tcap_msg.specs.Reading.{begin_at, component_portion_at, continue_at, dialogue_portion_at, dtid_at, end_message_at, message_at, message_in, otid_at}
use Rattle.tcap_msg.specs.TransactionId.{transaction_id_of}
use Rattle.tcap_ber.specs.WalkResult.{outer_at}
use Rattle.std.specs.Prelude.{◌≡◌, ℕ, true, false, List, [], ◌∷◌, ◌++◌, map, Option, Some, None, codes, refl}
use Rattle.tcap_record.specs.declared.entry.End.TheVariants as sides
use Rattle.tcap_books.specs.Book.{NamedTable}
use Rattle.tcap_dialogues.specs.declared.reuse.Reuse.TheVariants as reuses
use Rattle.tcap_model.specs.WorkedItems.{prearranged, table}
use Rattle.tcap_traces.specs.declared.end_result.Circumstances.{Circumstances}
use Rattle.tcap_traces.specs.declared.verdict.Verdict.{Verdict}
use Rattle.tcap_traces.specs.declared.verdict.Verdict.TheVariants as verdicts
use Rattle.tcap_traces.specs.Directive.{UnderWay}
use Rattle.tcap_traces.specs.Pieces.{Entry, Mark, Piece, Stated, pieces_of}
use Rattle.tcap_traces.specs.declared.pieces.FormRule.{FormRule}
use Rattle.tcap_traces.specs.declared.pieces.FormRule.TheVariants.{InLine, NoEnd, CutEntry}
use Rattle.tcap_traces.specs.declared.pieces.LineRule.TheVariants.{NoLine, AfterBreak, DirectiveAfterBreak, UnknownDirective, LateDirective, SecondDirective, CutLine}
use Rattle.tcap_traces.specs.TableChoice.{choice}
use Rattle.tcap_traces.specs.Dialogue.{EndAfter, circumstances, judged_entries}
use Rattle.tcap_traces.specs.Segments.{segments_of}
use Rattle.tcap_traces.specs.JudgedTrace.{Asked, JudgedDialogue, judged_trace, reported_from}
use Rattle.tcap_traces.specs.Segments.{nothing_before}

-- ---- texts

-- these lines, each with a line feed
abbrev text : List (List ℕ) → List ℕ
text [] = []
text (line ∷ lines) = line ++ 10 ∷ text lines

-- Messages in hexadecimal digits: A's Begin from 01, B's Continue from 02 to 01, B's End to 01, and A's Continue from
-- 01 to 02.
abbrev begin : List ℕ
begin = codes "A 6203480101"

abbrev answer : List ℕ
answer = codes "B 6506480102490101"

abbrev end : List ℕ
end = codes "B 6403490101"

abbrev goes_on : List ℕ
goes_on = codes "A 6506480101490102"

-- the octets of A's Begin from 01
abbrev begin_octets : List ℕ
begin_octets = 0x62 ∷ 3 ∷ 0x48 ∷ 1 ∷ 1 ∷ []

-- ---- pieces

-- an entry of A with these octets in this line, below this comment
abbrev of_a : List ℕ → ℕ → List ℕ → Piece
of_a octets line comment = Entry (record { sender = sides.A; octets = octets; line = line; comment = comment })

-- An empty line, a comment, an entry below it with a carriage return, a quiet mark, and a directive.
pub of_lines : pieces_of (text ([] ∷ codes "# one" ∷ (begin ++ 13 ∷ []) ∷ codes "Q" ∷ codes "#: under way" ∷ []))
    ≡ record { pieces = of_a begin_octets 3 (codes "one") ∷ Mark 4 ∷ Stated 5 UnderWay ∷ []; fault = None }
unfolding decode_pairs outer_at opening_at tag_at length_at
of_lines = refl

-- The last line need not have a line feed.
pub of_a_last_line : pieces_of begin ≡ record { pieces = of_a begin_octets 1 [] ∷ []; fault = None }
unfolding decode_pairs outer_at opening_at tag_at length_at
of_a_last_line = refl

-- Digits that are no message are an entry, whether they are cut, have octets after a message, or have no known tag.
pub of_no_message : map (λ digits. (pieces_of (text (digits ∷ []))).fault)
    (codes "A 6204" ∷ codes "A 620348010100" ∷ codes "A 00" ∷ [])
    ≡ None ∷ None ∷ None ∷ []
unfolding decode_pairs outer_at opening_at tag_at length_at
of_no_message = refl

-- the fault of a trace of these lines
abbrev fault_of : List (List ℕ) → Option FormRule
fault_of lines = (pieces_of (text lines)).fault

-- Lines that are none: no digit, an odd number of digits, a letter that is no end, no blank, and other text.
pub of_bad_lines : (fault_of (codes "A " ∷ []) ≡ Some (InLine 1 NoLine))
    × (fault_of (begin ∷ codes "A 620" ∷ []) ≡ Some (InLine 2 NoLine))
    × (fault_of (codes "C 6203480101" ∷ []) ≡ Some (InLine 1 NoLine))
    × (fault_of (codes "#" ∷ codes "A6203480101" ∷ []) ≡ Some (InLine 2 NoLine))
    × (fault_of (codes "Q " ∷ []) ≡ Some (InLine 1 NoLine))
unfolding decode_pairs outer_at opening_at tag_at length_at
of_bad_lines = (refl, refl, refl, refl, refl)

-- A last line without a line feed is cut if its octets end within an element.
pub of_a_cut_line : (pieces_of (codes "A 62034801")).fault ≡ Some (InLine 1 CutLine)
unfolding decode_pairs outer_at opening_at tag_at length_at
of_a_cut_line = refl

-- Directives that may not come there, and what may not come after `broken off`.
pub of_directives : (fault_of (codes "#: over" ∷ []) ≡ Some (InLine 1 UnknownDirective))
    × (fault_of (begin ∷ codes "#: A x" ∷ []) ≡ Some (InLine 2 LateDirective))
    × (fault_of (codes "#: A x" ∷ codes "#: B y" ∷ codes "#: A z" ∷ []) ≡ Some (InLine 3 SecondDirective))
    × (fault_of (codes "#: broken off" ∷ codes "# a comment" ∷ []) ≡ None)
    × (fault_of (codes "#: broken off" ∷ begin ∷ []) ≡ Some (InLine 2 AfterBreak))
    × (fault_of (codes "#: broken off" ∷ codes "#: under way" ∷ []) ≡ Some (InLine 2 DirectiveAfterBreak))
unfolding decode_pairs outer_at opening_at tag_at length_at
of_directives = (refl, refl, refl, refl, refl, refl)

-- A record: an entry of A, a quiet mark, and a cut entry or an octet that begins none.
pub of_a_record : pieces_of (65 ∷ begin_octets ++ 81 ∷ [])
    ≡ record { pieces = of_a begin_octets 0 [] ∷ Mark 0 ∷ []; fault = None }
unfolding decode_pairs outer_at opening_at tag_at length_at
of_a_record = refl

pub of_bad_records : ((pieces_of (65 ∷ begin_octets ++ 66 ∷ 0x62 ∷ 3 ∷ [])).fault ≡ Some (CutEntry 6))
    × ((pieces_of (81 ∷ 65 ∷ begin_octets ++ 67 ∷ [])).fault ≡ Some (NoEnd 7))
unfolding decode_pairs outer_at opening_at tag_at length_at
of_bad_records = (refl, refl)

-- ---- dialogues

-- both ends are asked, and IDs may come again at once; one table for all dialogues
abbrev plain : NamedTable
plain = record { name = None; contexts = []; table = table; names = [] }

abbrev asked : Asked
asked = record {
  question = record { of = None; settled = false; complete = false; heard = false };
  reuse = reuses.Again 10000;
  tables = plain ∷ [];
}

-- the judged dialogues of a trace of these lines
abbrev dialogues_of : Asked → List (List ℕ) → List JudgedDialogue
dialogues_of asked lines = reported_from asked nothing_before 0 (segments_of EndAfter (pieces_of (text lines)).pieces)

-- the numbers of the first entry and of all entries of each dialogue
abbrev numbers_of : List (List ℕ) → List (ℕ × List ℕ)
numbers_of lines = map (λ j. (j.number, j.dialogue.numbers)) (dialogues_of asked lines)

-- Messages with a common ID are one dialogue. After its End, a Begin from its ID begins another one. After a quiet mark
-- numbers in the segment begin at 0 again, and the mark has a number in the trace.
pub of_numbers : (numbers_of (begin ∷ answer ∷ []) ≡ (0, 0 ∷ 1 ∷ []) ∷ [])
    × (numbers_of (begin ∷ end ∷ begin ∷ []) ≡ (0, 0 ∷ 1 ∷ []) ∷ (2, 2 ∷ []) ∷ [])
    × (numbers_of (begin ∷ codes "Q" ∷ answer ∷ []) ≡ (0, 0 ∷ []) ∷ (2, 0 ∷ []) ∷ [])
unfolding decode_pairs outer_at opening_at tag_at length_at some_at next_at content_so_far_at otid_at dtid_at required_at transaction_id_of
of_numbers = (refl, refl, refl)

-- the circumstances of each dialogue
abbrev circumstances_of : Asked → List (List ℕ) → List Circumstances
circumstances_of asked lines =
    map (λ j. circumstances asked.question (choice asked.tables (judged_entries j.dialogue)) j.dialogue)
    (dialogues_of asked lines)

-- no circumstance
abbrev none : Circumstances
none = record {
  again = false;
  under_way = false;
  early_mark = false;
  began = None;
  unsure = false;
  unread_from = None;
  cut = false;
  «open» = false;
  heard = false;
}

-- IDs that come again; a dialogue that may have been under way, and a Begin after the directive
pub of_ids : (circumstances_of asked (begin ∷ end ∷ begin ∷ []) ≡ none ∷ record none { again = true } ∷ [])
    × (circumstances_of asked (codes "#: under way" ∷ answer ∷ []) ≡ record none { under_way = true } ∷ [])
    × (circumstances_of asked (codes "#: under way" ∷ begin ∷ []) ≡ record none { began = Some sides.A } ∷ [])
unfolding decode_pairs outer_at opening_at tag_at length_at some_at next_at content_so_far_at otid_at dtid_at required_at transaction_id_of message_at message_in begin_at continue_at end_message_at dialogue_portion_at component_portion_at each_of
of_ids = (refl, refl, refl)

-- A's ID goes on after a quiet mark that came too early; but not if B had never answered.
pub of_marks : (circumstances_of asked (begin ∷ answer ∷ codes "Q" ∷ goes_on ∷ [])
    ≡ none ∷ record none { early_mark = true } ∷ [])
    × (circumstances_of asked (begin ∷ codes "Q" ∷ begin ∷ []) ≡ none ∷ none ∷ [])
unfolding decode_pairs outer_at opening_at tag_at length_at some_at next_at content_so_far_at otid_at dtid_at required_at transaction_id_of message_at message_in begin_at continue_at end_message_at dialogue_portion_at component_portion_at each_of
of_marks = (refl, refl)

-- An entry that can't be read may belong to a dialogue around it.
pub of_unreadable : circumstances_of asked (begin ∷ codes "A 00" ∷ answer ∷ [])
    ≡ none ∷ record none { unread_from = Some 1 } ∷ []
unfolding decode_pairs outer_at opening_at tag_at length_at some_at next_at content_so_far_at otid_at dtid_at required_at transaction_id_of message_at message_in begin_at continue_at end_message_at dialogue_portion_at component_portion_at each_of
of_unreadable = refl

-- With `--complete`, a dialogue is open at the end of its trace, and at a quiet mark unless its table has prearranged
-- ends.
abbrev complete : NamedTable → Asked
complete table = record asked { question = record asked.question { complete = true }; tables = table ∷ [] }

pub of_open : (circumstances_of (complete plain) (begin ∷ []) ≡ record none { «open» = true } ∷ [])
    × (circumstances_of (complete plain) (begin ∷ codes "Q" ∷ []) ≡ record none { «open» = true } ∷ [])
    × (circumstances_of (complete (record plain { table = prearranged })) (begin ∷ codes "Q" ∷ []) ≡ none ∷ [])
    × (circumstances_of (complete plain) (begin ∷ end ∷ []) ≡ none ∷ [])
unfolding decode_pairs outer_at opening_at tag_at length_at some_at next_at content_so_far_at otid_at dtid_at required_at transaction_id_of message_at message_in begin_at continue_at end_message_at dialogue_portion_at component_portion_at each_of
of_open = (refl, refl, refl, refl)

-- ---- verdicts

-- the verdict on a trace with these octets
abbrev verdict_on : List ℕ → Verdict
verdict_on octets = (judged_trace asked octets).verdict

-- nothing to judge: no octet, and a fault of a line
pub of_errors : (verdict_on [] ≡ verdicts.Error) × (verdict_on (text (codes "A 6" ∷ [])) ≡ verdicts.Error)
unfolding judged_trace decode_pairs outer_at opening_at tag_at length_at some_at next_at content_so_far_at otid_at dtid_at required_at transaction_id_of
of_errors = (refl, refl)
