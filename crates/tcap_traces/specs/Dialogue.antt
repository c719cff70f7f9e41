-- What is the verdict on a dialogue, given its entries and what the trace shows about it?
use Rattle.std.specs.Prelude.{ℕ, Bool, true, false, cond, List, [], ◌∷◌, ◌++◌, length, map, take, ◌==◌, ◌&&◌, ◌||◌, not, nat_le, nat_lt, Option, Some, None, is_none, is_some, option_map, slice_get, Result, Ok, Err}
use Rattle.std.specs.List.{count_by}
use Rattle.tcap_ber.specs.declared.fault.Fault.{Fault}
use Rattle.tcap_ber.specs.declared.fault.Reason.TheVariants.{Trailing}
use Rattle.tcap_msg.specs.declared.message.Message.{Message}
use Rattle.tcap_msg.specs.Parts.{dtid_in}
use Rattle.tcap_msg.specs.Reading.{message_at}
use Rattle.tcap_record.specs.declared.entry.End.{End as Side}
use Rattle.tcap_record.specs.declared.entry.End.TheVariants as sides
use Rattle.tcap_record.specs.declared.entry.Body.{Body}
use Rattle.tcap_record.specs.declared.entry.Body.TheVariants.{Good, Bad, Quiet}
use Rattle.tcap_record.specs.declared.entry.Entry.{Entry}
use Rattle.tcap_end.specs.Table.{Table}
use Rattle.tcap_books.specs.Book.{NamedTable}
use Rattle.tcap_dialogues.specs.Course.{Heading, is_begin}
use Rattle.tcap_dialogues.specs.HeadingReading.{heading_at}
use Rattle.tcap_traces.specs.declared.judging.Ends.{Ends}
use Rattle.tcap_traces.specs.declared.end_result.Circumstances.{Circumstances}
use Rattle.tcap_traces.specs.declared.verdict.Verdict.{Verdict}
use Rattle.tcap_traces.specs.declared.verdict.Verdict.TheVariants as verdicts
use Rattle.tcap_traces.specs.Pieces.{TraceEntry}
use Rattle.tcap_traces.specs.TableChoice.{Choice, choice}
use Rattle.tcap_traces.specs.Reaction.{judged_result}
use Rattle.tcap_traces.specs.Verdict.{verdict_asked}

-- What comes after the entries of a dialogue: it is over, so that what follows does not matter; a quiet mark; the end
-- of the trace; or a fault of the trace's form, which ends the trace.
pub data After : Type 0 where
  More : After
  MarkAfter : After
  EndAfter : After
  FaultAfter : After

-- A dialogue of a segment, and what the trace shows about it.
pub record Dialogue : Type 0 where
  -- its entries in their order, and their numbers in the segment, counted from 0
  pub entries : List TraceEntry
  pub numbers : List ℕ
  -- whether one of its entries carries a transaction ID
  pub has_ids : Bool
  -- the number of the first entry with which it is over: an End, an Abort, or an entry without IDs
  pub over : Option ℕ
  -- whether an earlier dialogue of the segment had one of its IDs; and whether the owner of such an ID had not sent a
  -- message from it in an earlier dialogue that began before the directive `under way`
  pub again : Bool
  pub unsettled : Bool
  pub after : After
  -- the number in the segment of the first entry after the directive `under way`
  pub under_way : Option ℕ
  -- whether it seems to go on from before the quiet mark before its segment
  pub in_use : Bool
  -- the number in the segment of the first unreadable entry that may belong to it
  pub unread : Option ℕ

-- The options for a dialogue: the end that is judged, or both; whether no message of an earlier dialogue is in transit
-- when one of its IDs is used again; whether a dialogue should be complete; and whether each end should have heard each
-- message of its peer.
pub record Question : Type 0 where
  pub of : Option Side
  pub settled : Bool
  pub complete : Bool
  pub heard : Bool

-- ---- its entries, as they are judged

-- the greatest number of entries that are judged
abbrev pub most : ℕ
most = 100000

-- The message that these octets are, with nothing after it, or the first fault. Octets after a message are the fault
-- Trailing.
abbrev pub body_of : List ℕ → Body
body_of octets = by (message_at octets)
  where
    by : Result (Message × ℕ) Fault → Body
    by (Ok found) = cond (found.1 == length octets) (Good found.0) (Bad (record { reason = Trailing; place = found.1 }))
    by (Err fault) = Bad fault

-- an entry on its own; places are counted from its first octet
abbrev pub entry_of : TraceEntry → Entry
entry_of entry = record { side = Some entry.sender; place = 0; body = body_of entry.octets }

abbrev pub quiet_mark : Entry
quiet_mark = record { side = None; place = 0; body = Quiet }

-- the heading of an entry: its sender, and its kind and IDs as far as they can be read
abbrev pub heading_in : TraceEntry → Heading
heading_in entry = heading_at entry.sender entry.octets

-- whether a quiet mark comes after it
abbrev pub is_marked : After → Bool
is_marked MarkAfter = true
is_marked after = false

-- the entries that are judged: the first 100,000, and a quiet mark that comes after fewer than 100,000
abbrev pub judged_entries : Dialogue → List Entry
judged_entries d = map entry_of (take most d.entries)
    ++ cond (is_marked d.after && nat_lt (length d.entries) most) (quiet_mark ∷ []) []

-- whether it has more than 100,000 entries; a quiet mark counts as one
abbrev pub is_long : Dialogue → Bool
is_long d = nat_lt most (length d.entries) || (is_marked d.after && length d.entries == most)

-- ---- its circumstances

-- the heading of its first entry, and the sender of that entry if it is a Begin
abbrev pub first_heading : Dialogue → Option Heading
first_heading d = option_map heading_in (slice_get d.entries 0)

abbrev pub begun_by : Option Heading → Option Side
begun_by None = None
begun_by (Some h) = cond (is_begin h.kind) (Some h.sender) None

-- whether its first entry comes after the directive `under way`
abbrev pub comes_after : Option ℕ → Option ℕ → Bool
comes_after (Some first) (Some number) = nat_le first number
comes_after first number = false

abbrev pub is_after_directive : Dialogue → Bool
is_after_directive d = comes_after d.under_way (slice_get d.numbers 0)

-- whether an entry is a message with a destination ID
abbrev pub goes_to_one : Option Entry → Bool
goes_to_one None = false
goes_to_one (Some entry) = by entry.body
  where
    by : Body → Bool
    by (Good m) = is_some (dtid_in m)
    by body = false

-- Whether a message of an earlier dialogue with one of its IDs may have been in transit. If IDs are settled, no message
-- was in transit if the dialogue begins with a Begin, and each such ID is firm: its owner had sent from it, or an
-- earlier dialogue with it began after the directive `under way`.
abbrev pub comes_again : Question → Dialogue → Bool
comes_again q d = d.again && not (q.settled && not d.unsettled && is_some (begun_by (first_heading d)))

-- the end whose Begin began it after the directive `under way`, unless IDs are settled
abbrev pub began : Question → Dialogue → Option Side
began q d = cond (not q.settled && is_after_directive d) (begun_by (first_heading d)) None

-- the number in the dialogue of the first entry after the unreadable one; the number of its entries if none comes after
abbrev pub first_after : List ℕ → ℕ → ℕ
first_after numbers unread = count_by (λ number. nat_le number unread) numbers

-- Whether it is open: it is not over, and the trace ends, or a quiet mark comes. With prearranged ends (Q.774 3.3) its
-- transaction may have ended without a message before the mark.
abbrev pub is_open : Dialogue → Option NamedTable → Bool
is_open d table = is_none d.over && by d.after table
  where
    by : After → Option NamedTable → Bool
    by EndAfter table = true
    by MarkAfter None = true
    by MarkAfter (Some table) = not table.table.prearranged
    by after table = false

abbrev pub circumstances : Question → Choice → Dialogue → Circumstances
circumstances q c d = record {
  again = comes_again q d;
  under_way = is_after_directive d && not d.again && goes_to_one (slice_get (judged_entries d) 0);
  early_mark = not d.again && d.in_use;
  began = began q d;
  unsure = c.unsure;
  unread_from = option_map (first_after d.numbers) d.unread;
  cut = is_long d;
  «open» = q.complete && is_open d c.table;
  heard = q.heard;
}

-- ---- its verdict

-- the result for each end, judged by this table
abbrev pub judged_ends : Table → Circumstances → List TraceEntry → List Entry → Ends
judged_ends table c sent entries = record {
  a = judged_result table c sent entries sides.A;
  b = judged_result table c sent entries sides.B;
}

-- the result for each end, judged by the table; None if the dialogue has no table
abbrev pub ends_by : Option Table → Circumstances → List TraceEntry → List Entry → Option Ends
ends_by None c sent entries = None
ends_by (Some table) c sent entries = Some (judged_ends table c sent entries)

-- the worse verdict on the judged ends; an error if there is no table
abbrev pub verdict_by : Option Side → Option Ends → Verdict
verdict_by of None = verdicts.Error
verdict_by of (Some ends) = verdict_asked of ends.a ends.b

-- the result for each end, given the choice of the table
abbrev pub ends_with : Question → Choice → Dialogue → Option Ends
ends_with q c d = ends_by (option_map (λ table. table.table) c.table) (circumstances q c d) d.entries (judged_entries d)

-- the result for each end, by the tables of this set
abbrev pub ends_on : List NamedTable → Question → Dialogue → Option Ends
ends_on tables q d = ends_with q (choice tables (judged_entries d)) d

-- the verdict on a dialogue
abbrev pub verdict_on : List NamedTable → Question → Dialogue → Verdict
verdict_on tables q d = verdict_by q.of (ends_on tables q d)
