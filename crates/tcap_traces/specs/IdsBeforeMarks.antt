-- Which transaction IDs does a segment find in use, given the segments before its quiet mark?
use Rattle.std.specs.Prelude.{◌≡◌, ◌⊎◌, ℕ, Bool, true, false, List, ◌&&◌, ◌||◌, not, Option, Some, None}
use Rattle.std.specs.BTreeMap as tree
use Rattle.std.specs.BTreeSet as set
use Rattle.std.specs.BTreeSet.{BTreeSet}
use Rattle.std.specs.List.{flat_map, list_any}
use Rattle.tcap_record.specs.declared.entry.End.{End as Side}
use Rattle.tcap_record.specs.Ends.{other}
use Rattle.tcap_end.specs.Table.{octets_cmp}
use Rattle.tcap_dialogues.specs.Course.{Heading, own_ids}
use Rattle.tcap_dialogues.specs.DialoguesOfList.{is_among}
use Rattle.tcap_dialogues.specs.CutDialogues.{by_end}
use Rattle.tcap_dialogues.specs.declared.complete_dialogue.CompleteDialogue.{CompleteDialogue}
use Rattle.tcap_traces.specs.declared.before_marks.Before.{Before}
use Rattle.tcap_traces.specs.declared.before_marks.BeforeMarks.{BeforeMarks}
use Rattle.tcap_traces.specs.declared.before_marks.Change.{Change}
use Rattle.tcap_traces.specs.declared.before_marks.Change.TheVariants as changes
use Rattle.tcap_traces.specs.declared.before_marks.EndMarks.{EndMarks}

-- ---- the IDs of one end

-- what is known of an ID; nothing if there is no note on it
abbrev pub known_by : Option Before → Before
known_by None = record { sent = false; «open» = false }
known_by (Some before) = before

-- what is known of an ID at the beginning of the segment
abbrev pub known_in : EndMarks → List ℕ → Before
known_in marks octets = known_by (tree.get octets_cmp marks.known octets)

-- what is known of an ID after a change
abbrev pub changed : Change → Before → Before
changed changes.Closed before = record before { «open» = false }
changed changes.Opened before = record before { «open» = true }
changed changes.Sent before = record before { sent = true }

-- What is known of an ID after the next quiet mark. `sent`: its owner sent from it before the mark. `open`: in the last
-- segment with the ID, a dialogue with the ID may go on. Only IDs that were open before are noted as closed.
abbrev pub known_after : EndMarks → List ℕ → Before
known_after marks octets = record {
  sent = (known_in marks octets).sent || set.contains octets_cmp marks.sent octets;
  «open» = set.contains octets_cmp marks.opened octets
      || ((known_in marks octets).open && not (set.contains octets_cmp marks.closed octets));
}

-- The ID was in use: its owner sent from it, or it is open.
abbrev pub IsInUse : Before → Type 0
IsInUse before = (before.sent ≡ true) ⊎ (before.open ≡ true)

-- whether one of these IDs is open
abbrev pub has_open : EndMarks → BTreeSet (List ℕ) → Bool
has_open marks ids = list_any (λ octets. (known_in marks octets).open) ids.keys

-- The IDs of a dialogue that may go on after the segment are opened, and nothing else changes.
abbrev pub Opens : BTreeSet (List ℕ) → EndMarks → EndMarks → Type 0
Opens ids old new =
    ((octets : List ℕ) → set.contains octets_cmp new.opened octets
    ≡ set.contains octets_cmp ids octets || set.contains octets_cmp old.opened octets)
    × (new ≡ record old { opened = new.opened })

-- Of the IDs of a dialogue that does not go on, those that are open are closed, and nothing else changes.
abbrev pub Closes : BTreeSet (List ℕ) → EndMarks → EndMarks → Type 0
Closes ids old new =
    ((octets : List ℕ) → set.contains octets_cmp new.closed octets
    ≡ (set.contains octets_cmp ids octets && (known_in old octets).open) || set.contains octets_cmp old.closed octets)
    × (new ≡ record old { closed = new.closed })

-- The IDs of a dialogue are opened if it may go on, and closed otherwise.
abbrev pub Changes : Bool → BTreeSet (List ℕ) → EndMarks → EndMarks → Type 0
Changes true ids old new = Opens ids old new
Changes false ids old new = Closes ids old new

-- The IDs from which the end sent in the segment are noted as well, and nothing else changes.
abbrev pub Sends : (List ℕ → Bool) → EndMarks → EndMarks → Type 0
Sends is_sent old new =
    ((octets : List ℕ)
    → set.contains octets_cmp new.sent octets ≡ set.contains octets_cmp old.sent octets || is_sent octets)
    × (new ≡ record old { sent = new.sent })

-- whether an end sent from an ID in a segment with these headings
abbrev pub sent_in : List Heading → Side → List ℕ → Bool
sent_in headings side octets = is_among (flat_map own_ids headings) (record { end = side; octets = octets })

-- Nothing is noted of the segment.
abbrev pub IsFresh : EndMarks → Type 0
IsFresh marks =
    (octets : List ℕ) → (set.contains octets_cmp marks.opened octets ≡ false)
    × (set.contains octets_cmp marks.closed octets ≡ false) × (set.contains octets_cmp marks.sent octets ≡ false)

-- Nothing is known of earlier segments, and nothing is noted of this one.
abbrev pub IsNew : EndMarks → Type 0
IsNew marks = ((octets : List ℕ) → known_in marks octets ≡ known_by None) × IsFresh marks

-- After a quiet mark, what was noted before the mark is known, and nothing is noted of the next segment.
abbrev pub Passes : EndMarks → EndMarks → Type 0
Passes old new = ((octets : List ℕ) → known_in new octets ≡ known_after old octets) × IsFresh new

-- ---- the IDs of both ends

-- whether an ID's owner sent from it in an earlier segment; false if there is no ID
abbrev pub is_sent_from : EndMarks → Option (List ℕ) → Bool
is_sent_from marks None = false
is_sent_from marks (Some octets) = (known_in marks octets).sent

-- whether the peer of a heading's sender sent from the destination ID in an earlier segment
abbrev pub is_sent_to : BeforeMarks → Heading → Bool
is_sent_to marks h = is_sent_from (by_end (other h.sender) marks.a marks.b) h.dtid

-- The IDs of a dialogue are noted for both ends. `goes_on` says whether the dialogue may go on after the quiet mark.
abbrev pub Notes : Bool → CompleteDialogue → BeforeMarks → BeforeMarks → Type 0
Notes goes_on g old new = Changes goes_on g.a old.a new.a × Changes goes_on g.b old.b new.b

-- Whether a dialogue seems to continue one from before the quiet mark, by the heading of its first entry and by its
-- IDs.
abbrev pub is_in_use : BeforeMarks → Heading → CompleteDialogue → Bool
is_in_use marks first g = is_sent_to marks first || (has_open marks.a g.a || has_open marks.b g.b)
