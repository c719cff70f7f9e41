-- What is kept of the messages that each end sent, and which facts follow from it?
use Rattle.std.specs.Prelude.{◌≡◌, ℕ, ℤ, Bool, true, false, List, ◌||◌, Option, Some, None}
use Rattle.std.specs.Cmp.Lexicographic.{slice_cmp}
use Rattle.std.specs.Ordering.{int_cmp, nat_cmp}
use Rattle.std.specs.Map.{lookup}
use Rattle.std.specs.BTreeMap.{is_at}
use Rattle.std.specs.BTreeSet as set
use Rattle.tcap_parts.specs.declared.code.Code.{Code}
use Rattle.tcap_parts.specs.declared.code.Code.TheVariants.{Local, Global}
use Rattle.tcap_record.specs.declared.entry.End.{End as Side}
use Rattle.tcap_record.specs.declared.entry.End.TheVariants as sides
use Rattle.tcap_end.specs.Component.{is_code}
use Rattle.tcap_end.specs.Table.{Table, octets_cmp}
use Rattle.tcap_model.specs.World.{Item}
use Rattle.tcap_refute.specs.declared.codes.CodeSets.{CodeSets}
use Rattle.tcap_refute.specs.declared.codes.Codes.{Codes}
use Rattle.tcap_refute.specs.declared.sent_with_invoke_id.ById.{ById}
use Rattle.tcap_refute.specs.declared.sent_from_id.FromId.{FromId}
use Rattle.tcap_refute.specs.declared.sent_from_id.Destinations.{Destinations}
use Rattle.tcap_refute.specs.declared.sent_from_id.Destinations.TheVariants.{Nowhere, One, Several}
use Rattle.tcap_refute.specs.declared.notes.EndNotes.{EndNotes}
use Rattle.tcap_refute.specs.declared.notes.Notes.{Notes}
use Rattle.tcap_refute.specs.Facts.{IdFact, Invoked, Answered, Succeeds, Fails, FromFact, Spoke, Begun, Asked, WentOn, WentElsewhere, OfId, EndFact, From, Ended, is_other, fact_since_mark}

-- Whether there is a value, and it passes the test.
abbrev pub holds : {A : Type 0} → (A → Bool) → Option A → Bool
holds test None = false
holds test (Some x) = test x

-- Whether a code is in these sets.
abbrev pub is_among : Code → CodeSets → Bool
is_among (Local n) codes = set.contains int_cmp codes.locals n
is_among (Global octets) codes = set.contains_by (λ k. slice_cmp nat_cmp octets k.items) codes.globals

-- Whether there is a first local code, and it is this code.
abbrev pub is_first : Code → Option ℤ → Bool
is_first code first = holds (λ n. is_code code (Local n)) first

-- Whether a code is kept, as the first local code or among the others.
abbrev pub has_code : Code → Codes → Bool
has_code code codes = is_first code codes.first || holds (λ others. is_among code others.value) codes.others

-- Whether a fact about an invoke ID holds, by what is kept of the ID.
abbrev pub id_fact_noted : IdFact → ById → Bool
id_fact_noted Invoked kept = kept.invoked
id_fact_noted (Answered true) kept = kept.by_result
id_fact_noted (Answered false) kept = kept.by_error
id_fact_noted (Succeeds None) kept = kept.succeeds
id_fact_noted (Succeeds (Some code)) kept = has_code code kept.codes
id_fact_noted Fails kept = kept.fails

-- Whether one of these destination IDs differs from this ID.
abbrev pub is_elsewhere : List ℕ → Destinations → Bool
is_elsewhere dtid Nowhere = false
is_elsewhere dtid (One id) = is_other dtid (Some id)
is_elsewhere dtid Several = true

-- Whether a fact about an originating ID holds, by what is kept of the ID.
abbrev pub from_fact_noted : FromFact → FromId → Bool
from_fact_noted Spoke kept = kept.begun || kept.continued
from_fact_noted Begun kept = kept.begun
from_fact_noted Asked kept = kept.asked
from_fact_noted WentOn kept = kept.continued
from_fact_noted (WentElsewhere dtid) kept = is_elsewhere dtid kept.destinations
from_fact_noted (OfId id fact) kept = holds (id_fact_noted fact) (lookup (is_at (int_cmp id)) kept.ids.entries)

-- Whether a fact about an end holds, by the notes on the end.
abbrev pub end_fact_noted : EndFact → EndNotes → Bool
end_fact_noted (From id fact) kept = holds (from_fact_noted fact) (lookup (is_at (octets_cmp id)) kept.from.entries)
end_fact_noted (Ended id) kept = set.contains octets_cmp kept.ended id

-- The notes on an end.
abbrev pub notes_at : Side → Notes → EndNotes
notes_at sides.A notes = notes.a
notes_at sides.B notes = notes.b

-- Whether a fact about this end holds, by the notes on both ends.
abbrev pub fact_by_notes : Notes → Side → EndFact → Bool
fact_by_notes notes side fact = end_fact_noted fact (notes_at side notes)

-- The notes are right: each fact holds by them exactly if it holds in these items since the last quiet mark.
pub record AreNotesOf (table : Table) (items : List Item) (notes : Notes) : Type 0 where
  pub facts : (side : Side) (fact : EndFact) → fact_by_notes notes side fact ≡ fact_since_mark table items side fact

-- What is kept of an invoke ID in the messages from an originating ID, if anything.
abbrev pub id_in : Option FromId → ℤ → Option ById
id_in None id = None
id_in (Some kept) id = lookup (is_at (int_cmp id)) kept.ids.entries

-- Whether a fact about an originating ID holds, by what is kept of it; false if nothing is kept.
abbrev pub fact_by_from : Option FromId → FromFact → Bool
fact_by_from kept fact = holds (from_fact_noted fact) kept

-- What is kept of an originating ID, if there is one.
abbrev pub kept_from : Option (List ℕ) → EndNotes → Option FromId
kept_from None kept = None
kept_from (Some id) kept = lookup (is_at (octets_cmp id)) kept.from.entries
