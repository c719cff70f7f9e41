-- Which facts hold for a segment of a trace while its entries come? The proof of `run_trace` uses them.
use Rattle.std.specs.Prelude.{⊤, ◌≡◌, ◌≤◌, ◌<◌, ℕ, suc, Bool, true, false, List, [], ◌∷◌, ◌++◌, length, ◌==◌, ◌&&◌, not, Contains, Some, None, is_some}
use Rattle.std.specs.List.{list_any}
use Rattle.std.specs.List.Sorted.{IsNonDecreasing}
use Rattle.std.specs.BTreeSet as set
use Rattle.tcap_record.specs.declared.entry.End.{End as Side}
use Rattle.tcap_record.specs.declared.entry.End.TheVariants as sides
use Rattle.tcap_end.specs.Table.{octets_cmp}
use Rattle.tcap_dialogues.specs.Course.{Course, Heading, courses_so_far, has_entry}
use Rattle.tcap_dialogues.specs.DialoguesOfList.{IdOf, is_among}
use Rattle.tcap_dialogues.specs.CutDialogues.{IsCompleteDialogue}
use Rattle.tcap_dialogues.specs.declared.complete_dialogue.CompleteDialogue.{CompleteDialogue}
use Rattle.tcap_dialogues.specs.declared.reuse.Reuse.{Reuse}
use Rattle.tcap_traces.specs.declared.before_marks.BeforeMarks.{BeforeMarks}
use Rattle.tcap_traces.specs.declared.before_marks.EndMarks.{EndMarks}
use Rattle.tcap_traces.specs.IdsBeforeMarks.{known_in}
use Rattle.tcap_traces.specs.Segments.{unreadable_from}
use Rattle.tcap_traces.specs.UnreadableEntries.{Notes, first_above}

-- ---- the dialogues

-- No element is twice in the list.
abbrev pub AllDiffer : {X : Type 0} → List X → Type 0
AllDiffer [] = ⊤
AllDiffer (x ∷ xs) = (Contains xs x → ⊥) × AllDiffer xs

-- Each gathered dialogue represents the dialogue at its place.
abbrev pub AreAligned : List Course → List CompleteDialogue → Type 0
AreAligned [] [] = ⊤
AreAligned (d ∷ ds) (g ∷ gs) = IsCompleteDialogue d g × AreAligned ds gs
AreAligned ds gs = ⊥

-- the least number of a dialogue
pub record IsFirst (d : Course) (n : ℕ) : Type 0 where
  pub has : has_entry d n ≡ true
  pub least : (i : ℕ) → has_entry d i ≡ true → n ≤ i

-- The first entry of each dialogue with an ID is one of these.
abbrev pub BeginWell : (ℕ → Bool) → List Course → Type 0
BeginWell begun ds =
    (d : Course) → Contains ds d → (id : IdOf) → is_among d.ids id ≡ true → (n : ℕ) × IsFirst d n × (begun n ≡ true)

-- the dialogues of a segment with these headings
abbrev pub all_of : Reuse → List Heading → List Course
all_of reuse hs = (courses_so_far reuse hs).done ++ (courses_so_far reuse hs).live

-- The dialogues of a segment with these headings. Those with IDs begin with one of the entries `begun`, no two are the
-- same, those that are done are over, and each has an entry.
pub record AreTracked (reuse : Reuse) (hs : List Heading) (begun : ℕ → Bool) : Type 0 where
  pub begun_below : (n : ℕ) → begun n ≡ true → n < length hs
  pub well : BeginWell begun (all_of reuse hs)
  pub differ : AllDiffer (all_of reuse hs)
  pub over : (d : Course) → Contains (courses_so_far reuse hs).done d → is_some d.over ≡ true
  pub entered : (d : Course) → Contains (all_of reuse hs) d → (n : ℕ) × (has_entry d n ≡ true)

-- ---- unreadable entries

-- Of all unreadable entries after one of these beginnings, or after none, the first is noted.
pub record AreNoted (hs : List Heading) (begun : ℕ → Bool) (notes : Notes) : Type 0 where
  pub all : first_above None notes.0 ≡ unreadable_from 0 0 hs
  pub above : (n : ℕ) → begun n ≡ true → first_above (Some n) notes.0 ≡ unreadable_from (suc n) 0 hs
  pub below : (n : ℕ) → list_any (λ i. i == n) notes.0 ≡ true → n < length hs
  pub sorted : IsNonDecreasing notes.0
  pub whole : notes.1 ≡ false → is_some (first_above None notes.0) ≡ true
  pub wholes : notes.1 ≡ false → (n : ℕ) → begun n ≡ true → is_some (first_above (Some n) notes.0) ≡ true

-- ---- transaction IDs

-- the ID of an end
abbrev pub id_of : Side → List ℕ → IdOf
id_of side octets = record { end = side; octets = octets }

-- The notes on the IDs of an end. Those in `sent` are known as sent from, and those in `open` as open. For an ID,
-- `goes` is true if a dialogue of the segment with this ID may go on, `stays` if a dialogue with this ID may not go on,
-- and `names` if its owner sent from it.
pub record IsMarked (sent «open» : List IdOf) (goes stays names : IdOf → Bool) (side : Side) (m : EndMarks) : Type
    0 where
  pub known : (o : List ℕ)
      → known_in m o ≡ record { sent = is_among sent (id_of side o); «open» = is_among «open» (id_of side o) }
  pub opened : (o : List ℕ) → set.contains octets_cmp m.opened o ≡ goes (id_of side o)
  pub closed : (o : List ℕ)
      → set.contains octets_cmp m.closed o ≡ stays (id_of side o) && is_among «open» (id_of side o)
  pub named : (o : List ℕ) → set.contains octets_cmp m.sent o ≡ names (id_of side o)

-- whether some dialogue with this ID may go on; and whether some dialogue with this ID may not
abbrev pub any_goes : (Course → Bool) → List Course → IdOf → Bool
any_goes goes ds id = list_any (λ d. goes d && is_among d.ids id) ds

abbrev pub any_stays : (Course → Bool) → List Course → IdOf → Bool
any_stays goes ds id = list_any (λ d. not (goes d) && is_among d.ids id) ds

-- The notes on the IDs of both ends, after these dialogues of the segment.
pub record AreMarked (sent «open» : List IdOf) (goes : Course → Bool) (names : IdOf → Bool) (ds : List Course)
    (m : BeforeMarks) : Type 0 where
  pub a : IsMarked sent «open» (any_goes goes ds) (any_stays goes ds) names sides.A m.a
  pub b : IsMarked sent «open» (any_goes goes ds) (any_stays goes ds) names sides.B m.b
