-- Which records can a dialogue with one malformed message be read as (Q.774 3.2.1, 3.2.2.2, 3.3.4)? Each is a way in
-- which the end that received the message may have taken it.
use Rattle.std.specs.Prelude.{ℕ, ℤ, zero, suc, Bool, cond, ◌&&◌, ◌+◌, ◌-◌, ◌^◌, min, nat_le, List, [], ◌∷◌, ◌++◌, slice_get, Option, Some, None, is_none, is_some, option_map, option_and_then}
use Rattle.tcap_parts.specs.declared.component.Component.{Component}
use Rattle.tcap_msg.specs.declared.kind.Kind.{Kind}
use Rattle.tcap_msg.specs.declared.kind.Kind.TheVariants as kinds
use Rattle.tcap_msg.specs.declared.message.Message.{Message}
use Rattle.tcap_msg.specs.declared.message.Message.TheVariants.{Begin, Continue, End, Abort}
use Rattle.tcap_record.specs.declared.entry.End.{End as Side}
use Rattle.tcap_record.specs.declared.entry.Body.{Body}
use Rattle.tcap_record.specs.declared.entry.Body.TheVariants.{Good}
use Rattle.tcap_record.specs.declared.entry.Entry.{Entry}
use Rattle.tcap_dialogues.specs.declared.malformed.SoundPart.{SoundPart}
use Rattle.tcap_dialogues.specs.SoundPart.{portion_of}
use Rattle.tcap_readings.specs.declared.malformed.Malformed.{Malformed}
use Rattle.tcap_readings.specs.declared.readings.Reading.{Reading as Read}
use Rattle.tcap_readings.specs.declared.reactions.Reaction.TheVariants as reactions
use Rattle.tcap_readings.specs.declared.way.Way.{Way}
use Rattle.tcap_readings.specs.declared.way.Way.TheVariants as ways
use Rattle.tcap_readings.specs.Reactions.{answer, is_fitting, later}

-- A record as which the entries of a dialogue are read. If it lacks the malformed message or the answer, `lacks` and
-- `lacks_answer` are their numbers in the dialogue.
pub record Reading : Type 0 where
  pub entries : List Entry
  pub lacks : Option ℕ
  pub lacks_answer : Option ℕ

-- ---- entries

-- a message of this end as an entry
abbrev pub entry_of : Side → Message → Entry
entry_of side m = record { side = Some side; place = 0; body = Good m }

-- the entries, with these in place of the one with this number
abbrev pub put : ℕ → List Entry → List Entry → List Entry
put number given [] = []
put zero given (entry ∷ entries) = given ++ entries
put (suc number) given (entry ∷ entries) = entry ∷ put number given entries

-- the reading with this message in place of the malformed one, given the other entries
abbrev pub with_message : Malformed → List Entry → Message → Reading
with_message m entries message = record {
  entries = put m.number (entry_of m.sender message ∷ []) entries;
  lacks = None;
  lacks_answer = None;
}

-- the reading without the malformed message
abbrev pub without : Malformed → List Entry → Reading
without m entries = record { entries = put m.number [] entries; lacks = Some m.number; lacks_answer = None }

-- ---- messages in place of the malformed one

-- an Abort of the peer to its destination ID, without a cause
abbrev pub closing : Malformed → Option Message
closing m = option_map (λ id. Abort id None) m.dtid

-- its sound part
abbrev pub sound : Malformed → Option Message
sound m = option_map (λ s. s.message) m.sound

-- a message of its kind with its IDs and nothing else
abbrev pub bare : Malformed → Option Message
bare m = by m.kind m.otid m.dtid
  where
    by : Option Kind → Option (List ℕ) → Option (List ℕ) → Option Message
    by (Some kinds.Begin) (Some otid) dtid = Some (Begin otid None None)
    by (Some kinds.Continue) (Some otid) (Some dtid) = Some (Continue otid dtid None None)
    by kind otid dtid = None

-- ---- the entry without its first fitting Reject

-- the components but the first that passes a test
abbrev pub without_first : (Component → Bool) → List Component → List Component
without_first test [] = []
without_first test (c ∷ cs) = cond (test c) cs (c ∷ without_first test cs)

-- a component portion without its first fitting Reject; none if it has no other component
abbrev pub unrejecting : Option ℤ → Option (List Component) → Option (List Component)
unrejecting at None = None
unrejecting at (Some components) = portion_of (without_first (is_fitting at) components)

-- a message without its first fitting Reject
abbrev pub unrejecting_message : Option ℤ → Message → Message
unrejecting_message at (Continue otid dtid dialogue components) =
    Continue otid dtid dialogue (unrejecting at components)
unrejecting_message at (End dtid dialogue components) = End dtid dialogue (unrejecting at components)
unrejecting_message at m = m

-- an entry without its first fitting Reject
abbrev pub unrejecting_entry : Option ℤ → Entry → Entry
unrejecting_entry at entry = by entry.body
  where
    by : Body → Entry
    by (Good m) = record entry { body = Good (unrejecting_message at m) }
    by body = entry

-- the entries, with this entry, if there is one, without its first fitting Reject
abbrev pub unrejecting_by : Option ℤ → ℕ → List Entry → Option Entry → List Entry
unrejecting_by at number entries None = entries
unrejecting_by at number entries (Some entry) = put number (unrejecting_entry at entry ∷ []) entries

abbrev pub unrejecting_at : Option ℤ → ℕ → List Entry → List Entry
unrejecting_at at number entries = unrejecting_by at number entries (slice_get entries number)

-- ---- the readings

-- The message is dropped; it ends the transaction; or its sound part is taken.
abbrev pub closed : Malformed → List Entry → Option Reading
closed m entries = option_map (with_message m entries) (closing m)

abbrev pub in_part : Malformed → List Entry → Option Reading
in_part m entries = option_map (with_message m entries) (sound m)

-- Its sound part is taken, and a later Reject is about the rest.
abbrev pub rejected_by : Malformed → List Entry → SoundPart → Option Reading
rejected_by m entries s = option_map (λ at. with_message m (unrejecting_at s.invoke_id at entries) s.message)
    (later reactions.Reject m entries)

abbrev pub rejected : Malformed → List Entry → Option Reading
rejected m entries = option_and_then (rejected_by m entries) m.sound

-- the reading with this message in place of the malformed one, if it is given, or else without it
abbrev pub with_or_without : Malformed → List Entry → Option Message → Reading
with_or_without m entries None = without m entries
with_or_without m entries (Some message) = with_message m entries message

-- The end answers it with this Abort, which is left out. If it has a destination ID, it ends the transaction.
abbrev pub aborted_by : Malformed → List Entry → ℕ → Reading
aborted_by m entries at = record (with_or_without m (put at [] entries) (closing m)) { lacks_answer = Some at }

abbrev pub aborted : Malformed → List Entry → Option Reading
aborted m entries = option_map (aborted_by m entries) (answer m entries)

-- The end refuses its transaction with an Abort.
abbrev pub refused : Malformed → List Entry → Option Reading
refused m entries =
    cond (m.in_place && is_none m.sound && is_some (later reactions.Refusal m entries))
    (option_map (with_message m entries) (bare m)) None

-- the reading by this way, if there is one
abbrev pub reading_by : Way → Malformed → List Entry → Option Reading
reading_by ways.Dropped m entries = Some (without m entries)
reading_by ways.Closed m entries = closed m entries
reading_by ways.InPart m entries = in_part m entries
reading_by ways.Rejected m entries = rejected m entries
reading_by ways.Aborted m entries = aborted m entries
reading_by ways.Refused m entries = refused m entries

-- ---- numbers

-- the number of an entry, given its number in the list that lacks the entry with another number
abbrev pub number_behind : Option ℕ → ℕ → ℕ
number_behind None number = number
number_behind (Some lacking) number = cond (nat_le lacking number) (min (number + 1) (2 ^ 64 - 1)) number

-- the number in the dialogue of the entry with this number in a reading
abbrev pub number_in_dialogue : Reading → ℕ → ℕ
number_in_dialogue r number = number_behind r.lacks_answer (number_behind r.lacks number)

-- the record of a reading, and what it lacks
abbrev pub reading_of : Read → Reading
reading_of r = record { entries = r.record.entries.items; lacks = r.lacks; lacks_answer = r.lacks_answer }
