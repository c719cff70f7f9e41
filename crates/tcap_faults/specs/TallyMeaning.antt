-- Which counts does a tally represent?
use Rattle.std.specs.Prelude.{◌≡◌, ℕ, ℤ, Bool, false, List, [], ◌∷◌, Option, Some, None, ◌||◌, cond, option_map}
use Rattle.std.specs.Global.{Box}
use Rattle.std.specs.Ordering.{int_cmp}
use Rattle.std.specs.List.{list_any}
use Rattle.std.specs.Map.{lookup}
use Rattle.std.specs.BTreeMap.{is_at}
use Rattle.tcap_parts.specs.declared.code.Code.{Code}
use Rattle.tcap_parts.specs.declared.code.Code.TheVariants.{Local}
use Rattle.tcap_parts.specs.declared.component.Component.{Component}
use Rattle.tcap_end.specs.Table.{Table}
use Rattle.tcap_refute.specs.KeptFacts.{holds, is_first}
use Rattle.tcap_faults.specs.declared.component.component_sort.Class.{Class}
use Rattle.tcap_faults.specs.declared.component.component_sort.Class.TheVariants as classes
use Rattle.tcap_faults.specs.declared.component.component_sort.Sort.{Sort}
use Rattle.tcap_faults.specs.declared.component.component_sort.Sort.TheVariants as sorts
use Rattle.tcap_faults.specs.declared.component.code_counts.CodeCounts.{CodeCounts}
use Rattle.tcap_faults.specs.declared.component.code_count_maps.ManyCodes.{ManyCodes}
use Rattle.tcap_faults.specs.declared.component.class_counts.ByClass.{ByClass}
use Rattle.tcap_faults.specs.declared.component.invoke_history.IdHistory.{IdHistory}
use Rattle.tcap_faults.specs.declared.component.tally.Tally.{Tally}
use Rattle.tcap_faults.specs.CountedCodes.{counted}
use Rattle.tcap_faults.specs.InvokeCounts.{AreFew, Tallied, both_tallied, nothing_tallied, tallied}

-- The count, or 0 if there is none.
abbrev pub or_zero : Option ℕ → ℕ
or_zero None = 0
or_zero (Some n) = n

-- The count of a code among many codes.
abbrev pub count_among : Code → ManyCodes → ℕ
count_among code kept = or_zero (counted kept.locals.entries kept.globals.entries code)

-- The count of a code among the other codes, if there are any.
abbrev pub count_others : Code → Option (Box ManyCodes) → ℕ
count_others code None = 0
count_others code (Some others) = count_among code others.value

-- The count of a code, which is the first or one of the others.
abbrev pub count_of : Code → CodeCounts → ℕ
count_of code kept = cond (is_first code kept.first) kept.times (count_others code kept.others)

-- Whether there is a first code, and it passes a test.
abbrev pub first_passes : (Code → Bool) → Option ℤ → Bool
first_passes passes first = holds (λ n. passes (Local n)) first

-- Whether one of the other codes passes a test.
abbrev pub others_any : (Code → Bool) → Option (Box ManyCodes) → Bool
others_any passes others = holds (λ kept. list_any passes kept.value.codes.items) others

-- Whether a counted code passes a test.
abbrev pub codes_any : (Code → Bool) → CodeCounts → Bool
codes_any passes kept = first_passes passes kept.first || others_any passes kept.others

-- The count for a class.
abbrev pub count_of_class : Class → ByClass → ℕ
count_of_class classes.Any kept = kept.all
count_of_class classes.One kept = kept.one
count_of_class classes.Two kept = kept.two
count_of_class classes.Three kept = kept.three

-- ---- for one invoke ID

-- The number of components of a sort with this invoke ID.
abbrev pub count_in : Sort → IdHistory → ℕ
count_in (sorts.Invokes class) kept = count_of_class class kept.invokes
count_in (sorts.Lasting class) kept = count_of_class class kept.lasting
count_in sorts.Linked kept = kept.linked
count_in sorts.Results kept = kept.results
count_in sorts.LastResults kept = kept.last_results
count_in sorts.NotLasts kept = kept.not_lasts
count_in sorts.Errors kept = kept.errors
count_in sorts.GeneralRejects kept = kept.general_rejects
count_in sorts.InvokeRejects kept = kept.invoke_rejects
count_in sorts.DuplicateRejects kept = kept.duplicate_rejects
count_in sorts.LinkRejects kept = kept.link_rejects
count_in sorts.ResultRejects kept = kept.result_rejects
count_in sorts.ErrorRejects kept = kept.error_rejects

-- Whether an operation that was counted for a linked ID passes a test with that ID.
abbrev pub links_at : (ℤ → Code → Bool) → ℤ × CodeCounts → Bool
links_at passes (linked, kept) = codes_any (passes linked) kept

-- Whether an Invoke's operation passes a test.
abbrev pub invokes_in : (Code → Bool) → IdHistory → Bool
invokes_in passes kept = codes_any passes kept.operations

-- Whether a linked Invoke's linked ID passes a test with its operation.
abbrev pub links_in : (ℤ → Code → Bool) → IdHistory → Bool
links_in passes kept = list_any (links_at passes) kept.by_link.entries

-- Whether the operation that a Return Result names passes a test.
abbrev pub answers_in : (Code → Bool) → IdHistory → Bool
answers_in passes kept = codes_any passes kept.answered

-- ---- for all invoke IDs

-- What is kept of this ID.
abbrev pub kept_of : ℤ → Tally → Option IdHistory
kept_of id tally = option_map (λ kept. kept.value) (lookup (is_at (int_cmp id)) tally.ids.entries)

-- A part of what is kept, or `nothing` if nothing is kept.
abbrev pub of_kept : {A : Type 0} → A → (IdHistory → A) → Option IdHistory → A
of_kept nothing f None = nothing
of_kept nothing f (Some kept) = f kept

-- The counts that a tally represents.
abbrev pub tally_of : Tally → Tallied
tally_of tally = record {
  count = λ id sort. of_kept 0 (count_in sort) (kept_of id tally);
  invokes_of = λ id code. of_kept 0 (λ kept. count_of code kept.operations) (kept_of id tally);
  results_of = λ id code. of_kept 0 (λ kept. count_of code kept.named) (kept_of id tally);
  has_operation = λ id passes. of_kept false (invokes_in passes) (kept_of id tally);
  has_link = λ id passes. of_kept false (links_in passes) (kept_of id tally);
  has_result = λ id passes. of_kept false (answers_in passes) (kept_of id tally);
}

-- The tally counts these components exactly, if they are few.
abbrev pub IsTally : Table → List Component → Tally → Type 0
IsTally table cs tally = AreFew cs → tally_of tally ≡ tallied table cs

-- ---- several tallies

-- The counts that several tallies represent together.
abbrev pub tallies_of : List Tally → Tallied
tallies_of [] = nothing_tallied
tallies_of (tally ∷ more) = both_tallied (tally_of tally) (tallies_of more)
