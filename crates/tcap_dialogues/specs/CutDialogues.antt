-- What a `Cut` hands over: the dialogues of a segment, each when it is complete.
use Rattle.std.specs.Prelude.{◌≡◌, ℕ, true, Bool, List, ◌++◌, ◌==◌, Contains, Some, is_some, slice_get}
use Rattle.std.specs.BTreeSet as set
use Rattle.std.specs.BTreeSet.{BTreeSet}
use Rattle.std.specs.List.{list_any}
use Rattle.std.specs.List.Sorted.{IsStrictlySortedBy}
use Rattle.std.specs.Ordering.{nat_cmp}
use Rattle.tcap_record.specs.declared.entry.End.{End as Side}
use Rattle.tcap_record.specs.declared.entry.End.TheVariants.{A, B}
use Rattle.tcap_end.specs.Table.{octets_cmp}
use Rattle.tcap_dialogues.specs.Course.{Course, has_entry}
use Rattle.tcap_dialogues.specs.DialoguesOfList.{IdOf, is_among}
use Rattle.tcap_dialogues.specs.declared.complete_dialogue.CompleteDialogue.{CompleteDialogue}

-- the value for A, or for B
abbrev pub by_end : {X : Type 0} → Side → X → X → X
by_end A a b = a
by_end B a b = b

-- whether an ID is in the set of its end
abbrev pub has_id : BTreeSet (List ℕ) → BTreeSet (List ℕ) → IdOf → Bool
has_id a b id = set.contains octets_cmp (by_end id.end a b) id.octets

-- whether the entry with this number is in a gathered dialogue
abbrev pub names_entry : CompleteDialogue → ℕ → Bool
names_entry g n = list_any (λ i. i == n) g.numbers.items

-- The gathered dialogue g represents the dialogue d.
pub record IsCompleteDialogue (d : Course) (g : CompleteDialogue) : Type 0 where
  -- It has the same entries, in ascending order.
  pub numbers : (n : ℕ) → names_entry g n ≡ has_entry d n
  pub ascending : IsStrictlySortedBy nat_cmp g.numbers.items
  -- It has the same IDs.
  pub ids : (id : IdOf) → has_id g.a g.b id ≡ is_among d.ids id
  -- It is over with the same entry, and it has the number of an earlier dialogue if and only if an ID came again.
  pub over : g.over ≡ d.over
  pub again : is_some g.earlier ≡ d.again
  -- It is unsettled if and only if the dialogue is.
  pub unsettled : g.unsettled ≡ d.unsettled

-- The gathered dialogues represent these dialogues, one for one.
pub record AreCompleteDialogues (ds : List Course) (given : List CompleteDialogue) : Type 0 where
  -- Each dialogue is represented.
  pub each : (d : Course) → Contains ds d → (g : CompleteDialogue) × Contains given g × IsCompleteDialogue d g
  -- Each gathered dialogue represents one.
  pub all : (g : CompleteDialogue) → Contains given g → (d : Course) × Contains ds d × IsCompleteDialogue d g
  -- No two have the same entry.
  pub apart : (i j n : ℕ) (g h : CompleteDialogue) → slice_get given i ≡ Some g → slice_get given j ≡ Some h
      → names_entry g n ≡ true
      → names_entry h n ≡ true → i ≡ j

-- Gathered dialogues that represent these dialogues are appended.
abbrev pub HandsOver : List Course → List CompleteDialogue → List CompleteDialogue → Type 0
HandsOver ds old new = (given : List CompleteDialogue) × (new ≡ old ++ given) × AreCompleteDialogues ds given
