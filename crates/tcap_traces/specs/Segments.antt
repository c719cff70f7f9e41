-- Which segments does a trace have, and which dialogues does a segment have? A segment is the entries between two quiet
-- marks.
use Rattle.std.specs.Prelude.{ℕ, suc, Bool, true, false, cond, List, [], ◌∷◌, ◌++◌, filter, length, ◌&&◌, ◌||◌, not, nat_le, Option, Some, None, is_some, option_map, slice_get}
use Rattle.std.specs.List.{flat_map, list_any}
use Rattle.std.specs.Option.{option_or}
use Rattle.tcap_record.specs.declared.entry.End.{End as Side}
use Rattle.tcap_record.specs.declared.entry.End.TheVariants as sides
use Rattle.tcap_model.specs.World.{is_side}
use Rattle.tcap_msg.specs.declared.kind.Kind.{Kind}
use Rattle.tcap_msg.specs.declared.kind.Kind.TheVariants as kinds
use Rattle.tcap_dialogues.specs.declared.reuse.Reuse.{Reuse}
use Rattle.tcap_dialogues.specs.DialoguesOfList.{IdOf, is_among}
use Rattle.tcap_dialogues.specs.Course.{Course, Courses, Heading, courses_so_far, has_entry, is_alone, is_begin, is_continue, own_ids, peer_ids}
use Rattle.tcap_traces.specs.Directive.{UnderWay}
use Rattle.tcap_traces.specs.Pieces.{Piece, Entry, Mark, Stated, TraceEntry}
use Rattle.tcap_traces.specs.Dialogue.{After, Dialogue, More, MarkAfter, heading_in, is_marked}

-- ---- segments

-- A segment: its entries; the number in it, counted from 0, of the first entry after the directive `under way`, if
-- there is one; and what comes after it.
pub record Segment : Type 0 where
  pub entries : List TraceEntry
  pub under_way : Option ℕ
  pub end : After

-- a segment without entries; `end` comes after it
abbrev pub empty : After → Segment
empty end = record { entries = []; under_way = None; end = end }

-- the segment with one more entry, or with the directive `under way`
abbrev pub with_one : TraceEntry → Segment → Segment
with_one entry s = record s { entries = s.entries ++ entry ∷ [] }

abbrev pub with_under_way : Segment → Segment
with_under_way s = record s { under_way = option_or s.under_way (Some (length s.entries)) }

-- the segments of these pieces, given the front of the first one; `end` comes after the last one
abbrev pub segments_after : Segment → After → List Piece → List Segment
segments_after s end [] = record s { end = end } ∷ []
segments_after s end (Entry entry ∷ pieces) = segments_after (with_one entry s) end pieces
segments_after s end (Mark line ∷ pieces) = record s { end = MarkAfter } ∷ segments_after (empty end) end pieces
segments_after s end (Stated line UnderWay ∷ pieces) = segments_after (with_under_way s) end pieces
segments_after s end (Stated line statement ∷ pieces) = segments_after s end pieces

abbrev pub segments_of : After → List Piece → List Segment
segments_of end pieces = segments_after (empty end) end pieces

-- ---- IDs that were in use before a segment

-- The IDs from which their owner sent in an earlier segment. And those that are open: in the last earlier segment with
-- the ID, a dialogue with the ID may go on.
pub record Before : Type 0 where
  pub sent : List IdOf
  pub «open» : List IdOf

abbrev pub nothing_before : Before
nothing_before = record { sent = []; «open» = [] }

-- whether a heading's destination ID is one from which its owner sent in an earlier segment
abbrev pub goes_to_earlier : Before → Heading → Bool
goes_to_earlier before h = list_any (is_among before.sent) (peer_ids h)

-- ---- the headings of a segment

-- whether the entry with this number comes after the directive `under way`
abbrev pub is_under_way : Option ℕ → ℕ → Bool
is_under_way None number = false
is_under_way (Some first) number = nat_le first number

-- the heading of an entry, with what is known of the trace before it
abbrev pub heading_with : Before → Option ℕ → ℕ → Heading → Heading
heading_with before first number h = record h {
  under_way = is_under_way first number;
  known = is_continue h.kind && goes_to_earlier before h;
}

-- the headings of these entries; the first entry has this number
abbrev pub headings_from : Before → Option ℕ → ℕ → List TraceEntry → List Heading
headings_from before first number [] = []
headings_from before first number (entry ∷ entries) =
    heading_with before first number (heading_in entry) ∷ headings_from before first (suc number) entries

abbrev pub headings_in : Before → Segment → List Heading
headings_in before s = headings_from before s.under_way 0 s.entries

-- ---- unreadable entries

-- whether this is the kind of a Unidirectional
abbrev pub is_uni : Option Kind → Bool
is_uni (Some kinds.Unidirectional) = true
is_uni kind = false

-- whether an entry carries no ID and is no Unidirectional, so that it may belong to any dialogue
abbrev pub is_unreadable : Heading → Bool
is_unreadable h = is_alone h && not (is_uni h.kind)

-- the number of the first unreadable entry with at least this number, among these headings; the first heading has
-- number n
abbrev pub unreadable_from : ℕ → ℕ → List Heading → Option ℕ
unreadable_from least n [] = None
unreadable_from least n (h ∷ hs) = cond (nat_le least n && is_unreadable h) (Some n) (unreadable_from least (suc n) hs)

-- ---- the dialogues of a segment

-- the numbers of a dialogue's entries in their order, among the numbers of these entries, which begin with n; and those
-- entries
abbrev pub numbers_in : Course → ℕ → List TraceEntry → List ℕ
numbers_in d n [] = []
numbers_in d n (entry ∷ entries) =
    cond (has_entry d n) (n ∷ numbers_in d (suc n) entries) (numbers_in d (suc n) entries)

abbrev pub entries_in : Course → ℕ → List TraceEntry → List TraceEntry
entries_in d n [] = []
entries_in d n (entry ∷ entries) =
    cond (has_entry d n) (entry ∷ entries_in d (suc n) entries) (entries_in d (suc n) entries)

-- what comes after a dialogue that is over with this entry, if any; `end` comes after its segment
abbrev pub after_it : Option ℕ → After → After
after_it None end = end
after_it (Some number) end = More

-- the least number of an unreadable entry that may belong to a dialogue: one after its first entry if that is a Begin,
-- or else any in the segment
abbrev pub least_unread : Option Heading → Option ℕ → ℕ
least_unread (Some h) (Some number) = cond (is_begin h.kind) (suc number) 0
least_unread h number = 0

-- Whether a dialogue seems to go on from before the quiet mark before its segment: its first entry goes to an ID from
-- which its owner sent in an earlier segment, or one of its IDs is open.
abbrev pub is_in_use : Before → Option Heading → List IdOf → Bool
is_in_use before None ids = list_any (is_among before.open) ids
is_in_use before (Some h) ids = goes_to_earlier before h || list_any (is_among before.open) ids

-- the dialogue with these entries and numbers
abbrev pub dialogue_with : Before → Segment → Course → List TraceEntry → List ℕ → Dialogue
dialogue_with before s d entries numbers = record {
  entries = entries;
  numbers = numbers;
  has_ids = is_some (slice_get d.ids 0);
  over = d.over;
  again = d.again;
  unsettled = d.unsettled;
  after = after_it d.over s.end;
  under_way = s.under_way;
  in_use = not d.again && is_in_use before (option_map heading_in (slice_get entries 0)) d.ids;
  unread = cond (is_some (slice_get d.ids 0))
      (unreadable_from (least_unread (option_map heading_in (slice_get entries 0)) (slice_get numbers 0)) 0
      (headings_in before s)) None;
}

abbrev pub dialogue_of : Before → Segment → Course → Dialogue
dialogue_of before s d = dialogue_with before s d (entries_in d 0 s.entries) (numbers_in d 0 s.entries)

-- the dialogues of a segment
abbrev pub courses_in : Reuse → Before → Segment → Courses
courses_in reuse before s = courses_so_far reuse (headings_in before s)

-- ---- IDs in use after a segment

-- whether an end sent one of these entries
abbrev pub sends_one : Side → List TraceEntry → Bool
sends_one side entries = list_any (λ entry. is_side side entry.sender) entries

-- Whether a dialogue may go on after its segment: a quiet mark ends the dialogue, and both ends sent entries in it; or
-- the dialogue itself seems to go on from before the segment.
abbrev pub may_go_on : Dialogue → Bool
may_go_on d = d.in_use || (is_marked d.after && sends_one sides.A d.entries && sends_one sides.B d.entries)

-- the IDs of those dialogues of a segment that may go on
abbrev pub ids_going_on : Before → Segment → List Course → List IdOf
ids_going_on before s ds = flat_map (λ d. cond (may_go_on (dialogue_of before s d)) d.ids []) ds

-- What is known after a segment with these dialogues. An ID that one of them carries is open if and only if a dialogue
-- that carries it may go on.
abbrev pub before_next : Before → Segment → List Course → Before
before_next before s ds = record {
  sent = flat_map own_ids (headings_in before s) ++ before.sent;
  «open» = ids_going_on before s ds
      ++ filter (λ id. not (list_any (λ d. is_among d.ids id) ds)) before.open;
}
