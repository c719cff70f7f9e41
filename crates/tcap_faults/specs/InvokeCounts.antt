-- What is counted of components, by their invoke IDs (Q.773 4.2.2)? No count exceeds the greatest. If there are few
-- components, each count is exact.
use Rattle.std.specs.Prelude.{ℕ, ℤ, ◌+◌, ◌^◌, ◌≤◌, Bool, true, false, List, length, Some, ◌&&◌, ◌||◌, not, nat_lt, cond}
use Rattle.std.specs.List.{list_any}
use Rattle.tcap_parts.specs.declared.code.Code.{Code}
use Rattle.tcap_parts.specs.declared.component.Component.{Component}
use Rattle.tcap_parts.specs.declared.component.Component.TheVariants.{Invoke, ReturnResult}
use Rattle.tcap_end.specs.Component.{is_code}
use Rattle.tcap_end.specs.Table.{Table, expires_of}
use Rattle.tcap_refute.specs.EarlierMessages.{is_invoke_id}
use Rattle.tcap_faults.specs.Counts.{any_problem, count, has_class, invokes_linked, invokes_where, is_error, is_last_result, is_not_last, is_result, is_result_of, rejects_error, rejects_invoke, rejects_result}
use Rattle.tcap_faults.specs.Components.{is_of_link, is_problem}
use Rattle.tcap_faults.specs.ComponentKinds.{rejects_generally}
use Rattle.tcap_faults.specs.declared.component.component_sort.Class.{Class}
use Rattle.tcap_faults.specs.declared.component.component_sort.Class.TheVariants as classes
use Rattle.tcap_faults.specs.declared.component.component_sort.Sort.{Sort}
use Rattle.tcap_faults.specs.declared.component.component_sort.Sort.TheVariants as sorts

-- ---- counts

-- The greatest count, 2^128 - 1.
abbrev pub greatest : ℕ
greatest = 340282366920938463463374607431768211455

-- The sum of two counts, or the greatest count if the sum exceeds it.
abbrev pub sum : ℕ → ℕ → ℕ
sum a b = cond (nat_lt (a + b) (2 ^ 128)) (a + b) greatest

-- One more, if the condition holds.
abbrev pub more_if : Bool → ℕ → ℕ
more_if so n = cond so (sum n 1) n

-- ---- sorts of components

-- Whether an operation is of this class; all are of class `Any`.
abbrev pub is_of_class : Table → Class → Code → Bool
is_of_class table classes.Any code = true
is_of_class table classes.One code = has_class table 1 code
is_of_class table classes.Two code = has_class table 2 code
is_of_class table classes.Three code = has_class table 3 code

-- Whether an operation is of this class and does not expire.
abbrev pub not_expiring : Table → Class → Code → Bool
not_expiring table class code = not (expires_of table code) && is_of_class table class code

-- Whether a component has this invoke ID and is of this sort.
abbrev pub is_sort : Table → ℤ → Sort → Component → Bool
is_sort table id (sorts.Invokes class) = invokes_where id (is_of_class table class)
is_sort table id (sorts.Lasting class) = invokes_where id (not_expiring table class)
is_sort table id sorts.Linked = invokes_linked id
is_sort table id sorts.Results = is_result id
is_sort table id sorts.LastResults = is_last_result id
is_sort table id sorts.NotLasts = is_not_last id
is_sort table id sorts.Errors = is_error id
is_sort table id sorts.GeneralRejects = rejects_generally id
is_sort table id sorts.InvokeRejects = rejects_invoke id any_problem
is_sort table id sorts.DuplicateRejects = rejects_invoke id (is_problem 0)
is_sort table id sorts.LinkRejects = rejects_invoke id is_of_link
is_sort table id sorts.ResultRejects = rejects_result id any_problem
is_sort table id sorts.ErrorRejects = rejects_error id any_problem

-- A linked Invoke with this ID whose linked ID passes a test with its operation.
abbrev pub invokes_link : ℤ → (ℤ → Code → Bool) → Component → Bool
invokes_link id passes (Invoke other (Some linked) code parameter) = is_invoke_id id other && passes linked code
invokes_link id passes _ = false

-- A Return Result with this ID, last or not, that names an operation that passes a test.
abbrev pub results_where : ℤ → (Code → Bool) → Component → Bool
results_where id passes (ReturnResult last other (Some body)) = is_invoke_id id other && passes body.code
results_where id passes _ = false

-- ---- components that are counted

-- The counts of components.
pub record Tallied : Type 0 where
  -- The number of components with an ID, of a sort.
  pub count : ℤ → Sort → ℕ
  -- The number of Invokes with an ID, of an operation.
  pub invokes_of : ℤ → Code → ℕ
  -- The number of Return Results Last with an ID that name an operation.
  pub results_of : ℤ → Code → ℕ
  -- Whether an Invoke with an ID is of an operation that passes a test.
  pub has_operation : ℤ → (Code → Bool) → Bool
  -- Whether a linked Invoke with an ID has a linked ID that passes a test with its operation.
  pub has_link : ℤ → (ℤ → Code → Bool) → Bool
  -- Whether a Return Result with an ID names an operation that passes a test.
  pub has_result : ℤ → (Code → Bool) → Bool

-- The exact counts of these components.
abbrev pub tallied : Table → List Component → Tallied
tallied table cs = record {
  count = λ id sort. count (is_sort table id sort) cs;
  invokes_of = λ id code. count (invokes_where id (is_code code)) cs;
  results_of = λ id code. count (is_result_of id code) cs;
  has_operation = λ id passes. list_any (invokes_where id passes) cs;
  has_link = λ id passes. list_any (invokes_link id passes) cs;
  has_result = λ id passes. list_any (results_where id passes) cs;
}

-- The counts of no components.
abbrev pub nothing_tallied : Tallied
nothing_tallied = record {
  count = λ id sort. 0;
  invokes_of = λ id code. 0;
  results_of = λ id code. 0;
  has_operation = λ id passes. false;
  has_link = λ id passes. false;
  has_result = λ id passes. false;
}

-- The counts of two lists of components together.
abbrev pub both_tallied : Tallied → Tallied → Tallied
both_tallied a b = record {
  count = λ id sort. sum (a.count id sort) (b.count id sort);
  invokes_of = λ id code. sum (a.invokes_of id code) (b.invokes_of id code);
  results_of = λ id code. sum (a.results_of id code) (b.results_of id code);
  has_operation = λ id passes. a.has_operation id passes || b.has_operation id passes;
  has_link = λ id passes. a.has_link id passes || b.has_link id passes;
  has_result = λ id passes. a.has_result id passes || b.has_result id passes;
}

-- The components are so few that no sum of three of their counts exceeds the greatest.
abbrev pub AreFew : List Component → Type 0
AreFew cs = length cs ≤ 2 ^ 126
