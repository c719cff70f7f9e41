-- Which entries are malformed messages, and what can be read of one (Q.773 4.2.1)?
use Rattle.std.specs.Prelude.{ℕ, suc, Bool, false, List, drop, take_while, ◌&&◌, not, Option, is_some, unwrap_or}
use Rattle.std.specs.List.{position_from}
use Rattle.tcap_record.specs.declared.entry.End.{End as Side}
use Rattle.tcap_record.specs.declared.entry.Body.{Body}
use Rattle.tcap_record.specs.declared.entry.Body.TheVariants.{Bad}
use Rattle.tcap_record.specs.declared.entry.Entry.{Entry}
use Rattle.tcap_record.specs.Ends.{is_entry_of}
use Rattle.tcap_refute.specs.Kind.{is_limit}
use Rattle.tcap_dialogues.specs.Course.{Heading}
use Rattle.tcap_dialogues.specs.HeadingReading.{heading_at}
use Rattle.tcap_dialogues.specs.IdsInPlace.{dialogue_after_ids}
use Rattle.tcap_dialogues.specs.SoundPart.{sound_part_of}
use Rattle.tcap_readings.specs.declared.malformed.Malformed.{Malformed}

-- whether an entry is no message for another reason than a limit of the profile
abbrev pub is_malformed : Entry → Bool
is_malformed entry = by entry.body
  where
    by : Body → Bool
    by (Bad fault) = not (is_limit fault.reason)
    by body = false

-- whether an end sent the entry, and it is malformed
abbrev pub is_malformed_of : Side → Entry → Bool
is_malformed_of side entry = is_entry_of side entry.side && is_malformed entry

-- whether an entry is no message because of a limit of the profile
abbrev pub is_over_limit : Entry → Bool
is_over_limit entry = by entry.body
  where
    by : Body → Bool
    by (Bad fault) = is_limit fault.reason
    by body = false

-- the entries before the first that is no message because of a limit
abbrev pub within_limits : List Entry → List Entry
within_limits entries = take_while (λ entry. not (is_over_limit entry)) entries

-- the number of the first malformed message of an end
abbrev pub first_malformed : Side → List Entry → Option ℕ
first_malformed side entries = position_from (is_malformed_of side) 0 entries

-- the number of the first malformed message of an end after this number
abbrev pub next_malformed : Side → ℕ → List Entry → Option ℕ
next_malformed side after entries = position_from (is_malformed_of side) (suc after) (drop (suc after) entries)

-- what can be read of octets with this heading
abbrev pub malformed_with : ℕ → List ℕ → Heading → Malformed
malformed_with number octets heading = record {
  sender = heading.sender;
  number = number;
  kind = heading.kind;
  otid = heading.otid;
  dtid = heading.dtid;
  in_place = is_some (dialogue_after_ids octets);
  has_dialogue = unwrap_or (dialogue_after_ids octets) false;
  sound = sound_part_of octets;
}

-- what can be read of the entry with this sender, number and octets
abbrev pub malformed_at : Side → ℕ → List ℕ → Malformed
malformed_at sender number octets = malformed_with number octets (heading_at sender octets)
