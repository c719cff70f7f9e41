-- How many components of each sort have an invoke ID (Q.773 4.2.2)?
use Rattle.std.specs.Prelude.{ℕ, ℤ, ◌+◌, Bool, true, false, List, [], ◌∷◌, length, filter, Option, Some, None, is_some, ◌==◌, ◌&&◌, ◌||◌, not, cond}
use Rattle.tcap_parts.specs.declared.code.Code.{Code}
use Rattle.tcap_parts.specs.declared.component.Component.{Component}
use Rattle.tcap_parts.specs.declared.component.Component.TheVariants.{Invoke, ReturnResult, ReturnError, Reject}
use Rattle.tcap_parts.specs.declared.problem.Problem.TheVariants as problems
use Rattle.tcap_end.specs.Component.{is_code}
use Rattle.tcap_end.specs.Table.{Table, class_of, expires_of}
use Rattle.tcap_refute.specs.EarlierMessages.{is_invoke_id}

abbrev pub is_nothing : {A : Type 0} → List A → Bool
is_nothing [] = true
is_nothing (a ∷ more) = false

-- The number of elements that pass a test.
abbrev pub count : {A : Type 0} → (A → Bool) → List A → ℕ
count passes items = length (filter passes items)

-- ---- Invokes

-- An Invoke with this ID whose operation passes a test.
abbrev pub invokes_where : ℤ → (Code → Bool) → Component → Bool
invokes_where id passes (Invoke other linked code parameter) = is_invoke_id id other && passes code
invokes_where id passes _ = false

-- A linked Invoke with this ID.
abbrev pub invokes_linked : ℤ → Component → Bool
invokes_linked id (Invoke other linked code parameter) = is_invoke_id id other && is_some linked
invokes_linked id _ = false

-- Whether there is a class, and it is this class.
abbrev pub is_class : ℕ → Option ℕ → Bool
is_class class None = false
is_class class (Some n) = n == class

-- Whether an operation has this class.
abbrev pub has_class : Table → ℕ → Code → Bool
has_class table class code = is_class class (class_of table code)

-- The number of Invokes with this ID and of this class.
abbrev pub count_class : Table → ℤ → ℕ → List Component → ℕ
count_class table id class components = count (invokes_where id (has_class table class)) components

-- The number of Invokes with this ID whose class allows a Return Result (if `of_result`) or else a Return Error.
abbrev pub count_suited : Table → Bool → ℤ → List Component → ℕ
count_suited table of_result id components =
    count_class table id 1 components + count_class table id (cond of_result 3 2) components

-- The number of Invokes with this ID whose operation does not expire and passes a test.
abbrev pub count_lasting : Table → ℤ → (Code → Bool) → List Component → ℕ
count_lasting table id passes components =
    count (invokes_where id (λ code. not (expires_of table code) && passes code)) components

-- ---- answers

-- A Return Result with this ID.
abbrev pub is_result : ℤ → Component → Bool
is_result id (ReturnResult last other body) = is_invoke_id id other
is_result id _ = false

-- A Return Result Last with this ID.
abbrev pub is_last_result : ℤ → Component → Bool
is_last_result id (ReturnResult last other body) = last && is_invoke_id id other
is_last_result id _ = false

-- A Return Result Not Last with this ID.
abbrev pub is_not_last : ℤ → Component → Bool
is_not_last id (ReturnResult last other body) = not last && is_invoke_id id other
is_not_last id _ = false

-- A Return Result Last with this ID that names this operation.
abbrev pub is_result_of : ℤ → Code → Component → Bool
is_result_of id code (ReturnResult last other (Some body)) = last && is_invoke_id id other && is_code code body.code
is_result_of id code _ = false

-- A Return Error with this ID.
abbrev pub is_error : ℤ → Component → Bool
is_error id (ReturnError other code parameter) = is_invoke_id id other
is_error id _ = false

-- ---- Rejects with this ID, and with an invoke, a result or an error problem that passes a test

abbrev pub rejects_invoke : ℤ → (ℕ → Bool) → Component → Bool
rejects_invoke id passes (Reject (Some other) (problems.Invoke n)) = is_invoke_id id other && passes n
rejects_invoke id passes _ = false

abbrev pub rejects_result : ℤ → (ℕ → Bool) → Component → Bool
rejects_result id passes (Reject (Some other) (problems.ReturnResult n)) = is_invoke_id id other && passes n
rejects_result id passes _ = false

abbrev pub rejects_error : ℤ → (ℕ → Bool) → Component → Bool
rejects_error id passes (Reject (Some other) (problems.ReturnError n)) = is_invoke_id id other && passes n
rejects_error id passes _ = false

-- A test that all problems pass.
abbrev pub any_problem : ℕ → Bool
any_problem n = true

-- A component that takes an invocation, so that nothing else may answer it: a Return Result Last, a Return Error, or
-- a Reject with an invoke problem.
abbrev pub takes : ℤ → Component → Bool
takes id c = is_last_result id c || is_error id c || rejects_invoke id any_problem c
