-- How does one more component change what is counted, of its invoke ID and in all?
use Rattle.std.specs.Prelude.{◌≡◌, ℕ, ℤ, Bool, true, false, Option, Some, None, is_some, ◌&&◌, ◌||◌, not}
use Rattle.tcap_parts.specs.declared.code.Code.{Code}
use Rattle.tcap_parts.specs.declared.problem.Problem.{Problem}
use Rattle.tcap_parts.specs.declared.problem.Problem.TheVariants as problems
use Rattle.tcap_parts.specs.declared.component.ResultBody.{ResultBody}
use Rattle.tcap_parts.specs.declared.component.Component.{Component}
use Rattle.tcap_parts.specs.declared.component.Component.TheVariants.{Invoke, ReturnResult, ReturnError, Reject}
use Rattle.tcap_end.specs.Component.{is_code}
use Rattle.tcap_end.specs.Table.{Table}
use Rattle.tcap_refute.specs.EarlierMessages.{is_invoke_id}
use Rattle.tcap_faults.specs.Counts.{invokes_where, is_class, is_result_of}
use Rattle.tcap_faults.specs.Components.{is_of_link, is_problem}
use Rattle.tcap_faults.specs.declared.component.component_sort.Class.{Class}
use Rattle.tcap_faults.specs.declared.component.component_sort.Class.TheVariants as classes
use Rattle.tcap_faults.specs.declared.component.component_sort.Sort.{Sort}
use Rattle.tcap_faults.specs.declared.component.component_sort.Sort.TheVariants as sorts
use Rattle.tcap_faults.specs.declared.component.invoke_history.IdHistory.{IdHistory}
use Rattle.tcap_faults.specs.InvokeCounts.{Tallied, invokes_link, is_of_class, is_sort, more_if, not_expiring, results_where, sum}
use Rattle.tcap_faults.specs.TallyMeaning.{answers_in, count_in, count_of, count_of_class, invokes_in, links_in}

-- Whether a class in the table, or its absence, counts as `Class`.
abbrev pub is_of : Class → Option ℕ → Bool
is_of classes.Any class = true
is_of classes.One class = is_class 1 class
is_of classes.Two class = is_class 2 class
is_of classes.Three class = is_class 3 class

-- ---- what a component is, apart from its ID

-- The invoke ID of a component.
abbrev pub invoke_id : Component → Option ℤ
invoke_id (Invoke id linked code parameter) = Some id
invoke_id (ReturnResult last id body) = Some id
invoke_id (ReturnError id code parameter) = Some id
invoke_id (Reject id problem) = id

-- Whether there is an invoke ID, and it is this ID.
abbrev pub is_its_id : ℤ → Option ℤ → Bool
is_its_id id None = false
is_its_id id (Some other) = is_invoke_id id other

-- Whether an Invoke of this operation is of a sort.
abbrev pub invoke_has : Table → Option ℤ → Code → Sort → Bool
invoke_has table linked code (sorts.Invokes class) = is_of_class table class code
invoke_has table linked code (sorts.Lasting class) = not_expiring table class code
invoke_has table linked code sorts.Linked = is_some linked
invoke_has table linked code _ = false

-- Whether a Return Result is of a sort.
abbrev pub result_has : Bool → Sort → Bool
result_has last sorts.Results = true
result_has last sorts.LastResults = last
result_has last sorts.NotLasts = not last
result_has last _ = false

-- Whether a Return Error is of a sort.
abbrev pub error_has : Sort → Bool
error_has sorts.Errors = true
error_has _ = false

-- Whether a Reject with this problem is of a sort.
abbrev pub reject_has : Problem → Sort → Bool
reject_has (problems.General n) sorts.GeneralRejects = true
reject_has (problems.Invoke n) sorts.InvokeRejects = true
reject_has (problems.Invoke n) sorts.DuplicateRejects = is_problem 0 n
reject_has (problems.Invoke n) sorts.LinkRejects = is_of_link n
reject_has (problems.ReturnResult n) sorts.ResultRejects = true
reject_has (problems.ReturnError n) sorts.ErrorRejects = true
reject_has _ _ = false

-- Whether a component is of a sort, apart from its ID.
abbrev pub has_sort : Table → Sort → Component → Bool
has_sort table sort (Invoke id linked code parameter) = invoke_has table linked code sort
has_sort table sort (ReturnResult last id body) = result_has last sort
has_sort table sort (ReturnError id code parameter) = error_has sort
has_sort table sort (Reject id problem) = reject_has problem sort

-- An Invoke whose operation passes a test.
abbrev pub invokes_by : (Code → Bool) → Component → Bool
invokes_by passes (Invoke id linked code parameter) = passes code
invokes_by passes _ = false

-- Whether a Return Result with this body names an operation that passes a test.
abbrev pub names : (Code → Bool) → Option ResultBody → Bool
names passes None = false
names passes (Some body) = passes body.code

-- A Return Result Last that names this operation.
abbrev pub names_code : Code → Component → Bool
names_code code (ReturnResult last id body) = last && names (is_code code) body
names_code code _ = false

-- A Return Result that names an operation that passes a test.
abbrev pub answers_by : (Code → Bool) → Component → Bool
answers_by passes (ReturnResult last id body) = names passes body
answers_by passes _ = false

-- Whether there is a linked ID, and it passes a test with the operation.
abbrev pub links_by : (ℤ → Code → Bool) → Option ℤ → Code → Bool
links_by passes None code = false
links_by passes (Some linked) code = passes linked code

-- A linked Invoke whose linked ID passes a test with its operation.
abbrev pub links_where : (ℤ → Code → Bool) → Component → Bool
links_where passes (Invoke id linked code parameter) = links_by passes linked code
links_where passes _ = false

-- ---- what is kept of an invoke ID

-- Nothing is counted.
pub record IsNothing (kept : IdHistory) : Type 0 where
  pub counts : (sort : Sort) → count_in sort kept ≡ 0
  pub invokes : (code : Code) → count_of code kept.operations ≡ 0
  pub results : (code : Code) → count_of code kept.named ≡ 0
  pub operations : (passes : Code → Bool) → invokes_in passes kept ≡ false
  pub links : (passes : ℤ → Code → Bool) → links_in passes kept ≡ false
  pub answers : (passes : Code → Bool) → answers_in passes kept ≡ false

-- `new` is `old` with one more component.
pub record IsNoted (table : Table) (c : Component) (old new : IdHistory) : Type 0 where
  pub counts : (sort : Sort) → count_in sort new ≡ more_if (has_sort table sort c) (count_in sort old)
  pub invokes : (code : Code)
      → count_of code new.operations ≡ more_if (invokes_by (is_code code) c) (count_of code old.operations)
  pub results : (code : Code) → count_of code new.named ≡ more_if (names_code code c) (count_of code old.named)
  pub operations : (passes : Code → Bool)
      → invokes_in passes new ≡ invokes_in passes old || invokes_by passes c
  pub links : (passes : ℤ → Code → Bool)
      → links_in passes new
      ≡ links_in passes old || links_where passes c
  pub answers : (passes : Code → Bool)
      → answers_in passes new ≡ answers_in passes old || answers_by passes c

-- `new` is `old` with one more Invoke.
pub record IsInvoked (table : Table) (linked : Option ℤ) (code : Code) (old new : IdHistory) : Type 0 where
  pub invokes : (class : Class)
      → count_of_class class new.invokes ≡ more_if (is_of_class table class code) (count_of_class class old.invokes)
  pub lasting : (class : Class)
      → count_of_class class new.lasting ≡ more_if (not_expiring table class code) (count_of_class class old.lasting)
  pub linked_ones : new.linked ≡ more_if (is_some linked) old.linked
  pub counts : (other : Code)
      → count_of other new.operations ≡ more_if (is_code other code) (count_of other old.operations)
  pub operations : (passes : Code → Bool)
      → invokes_in passes new ≡ invokes_in passes old || passes code
  pub links : (passes : ℤ → Code → Bool)
      → links_in passes new
      ≡ links_in passes old || links_by passes linked code
  pub others : new ≡ record old {
    invokes = new.invokes;
    lasting = new.lasting;
    linked = new.linked;
    operations = new.operations;
    by_link = new.by_link;
  }

-- `new` is `old` with one more Return Result.
pub record IsAnswered (last : Bool) (body : Option ResultBody) (old new : IdHistory) : Type 0 where
  pub named : (code : Code)
      → count_of code new.named ≡ more_if (last && names (is_code code) body) (count_of code old.named)
  pub answers : (passes : Code → Bool) → answers_in passes new ≡ answers_in passes old || names passes body
  pub others : new ≡ record old {
    results = sum old.results 1;
    last_results = more_if last old.last_results;
    not_lasts = more_if (not last) old.not_lasts;
    named = new.named;
    answered = new.answered;
  }

-- The counts with one more Reject with this invoke problem.
abbrev pub invoke_rejected : ℕ → IdHistory → IdHistory
invoke_rejected n old = record old {
  invoke_rejects = sum old.invoke_rejects 1;
  duplicate_rejects = more_if (is_problem 0 n) old.duplicate_rejects;
  link_rejects = more_if (is_of_link n) old.link_rejects;
}

-- The counts with one more Reject.
abbrev pub rejected : Problem → IdHistory → IdHistory
rejected (problems.General n) old = record old { general_rejects = sum old.general_rejects 1 }
rejected (problems.Invoke n) old = invoke_rejected n old
rejected (problems.ReturnResult n) old = record old { result_rejects = sum old.result_rejects 1 }
rejected (problems.ReturnError n) old = record old { error_rejects = sum old.error_rejects 1 }

-- ---- the counts for all invoke IDs

-- The counts with one more component.
abbrev pub one_tallied : Table → Component → Tallied → Tallied
one_tallied table c t = record {
  count = λ id sort. more_if (is_sort table id sort c) (t.count id sort);
  invokes_of = λ id code. more_if (invokes_where id (is_code code) c) (t.invokes_of id code);
  results_of = λ id code. more_if (is_result_of id code c) (t.results_of id code);
  has_operation = λ id passes. t.has_operation id passes || invokes_where id passes c;
  has_link = λ id passes. t.has_link id passes || invokes_link id passes c;
  has_result = λ id passes. t.has_result id passes || results_where id passes c;
}
