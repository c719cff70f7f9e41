-- Changes made by sending can be undone; the items that answers and Rejects remove.
use Rattle.std.proofs.Common.{◌≡◌, ℕ, ℤ, Bool, true, false, List, [], ◌∷◌, Option, Some, None, Result, Ok, Err, get_or, set, refl, sym, ap, ◌∙◌}
use Rattle.std.proofs.Math.ListN.{length-set}
use Rattle.std.specs.Prelude.{IsSome, ◌&&◌, ◌||◌, cond, is_none, is_some, not}
use Rattle.std.specs.Borrow.{Bor}
use Rattle.std.specs.BTreeMap.{is_at}
use Rattle.std.specs.List.{list_any}
use Rattle.std.specs.Map.{lookup}
use Rattle.std.specs.Option.{option_copied}
use Rattle.std.specs.Ordering.{int_cmp}
use Rattle.tcap_ber.specs.declared.small_numbers.SmallView.{SmallView}
use Rattle.tcap_parts.specs.declared.code.Code.{Code}
use Rattle.tcap_parts.specs.declared.problem.Problem.{Problem}
use Rattle.tcap_parts.specs.declared.problem.Problem.TheVariants as problems
use Rattle.tcap_parts.specs.declared.problem.ProblemView.{ProblemView}
use Rattle.tcap_parts.specs.declared.problem.ProblemView.TheVariants as views
use Rattle.tcap_parts.specs.Meaning.{problem_of}
use Rattle.tcap_end.specs.declared.fault.EndFault.{EndFault}
use Rattle.tcap_end.specs.declared.fault.EndFault.TheVariants as faults
use Rattle.tcap_lists.specs.declared.lists.Lists.{Lists}
use Rattle.tcap_end.specs.declared.own_invocations.OwnInvocation.{OwnInvocation}
use Rattle.tcap_end.specs.declared.own_invocations.Outs.{Outs}
use Rattle.tcap_end.specs.Table.{Table}
use Rattle.tcap_end.specs.Half.{Half, Invocation, listed, one_fits, with_listed, without_oldest, without_oldest_of}
use Rattle.tcap_end.specs.Component.{allows, allows_for, class_reports, may_answer, names, send_answer, send_reject}
use Rattle.tcap_end.specs.OldestPlace.{place_of, rejected_place}
use Rattle.tcap_end.specs.HalfState.{GoesBack, StoredHalf, half_in, without_grant, without_inn}
use Rattle.tcap_lists.specs.Lists.{KeepsRows, items_of, kind_of, rows_of, with_place}
use Rattle.tcap_lists.specs.Row.{fits_in}
use Rattle.tcap_end.specs.OwnInvocations.{kept_outs, with_out}
use Rattle.tcap_end.proofs.BackLaws.{none_set, out_again, place_some, put_again, some_within}
use Rattle.tcap_lists.proofs.ListLaws.{items_with, listed_items, whole_rows}
use Rattle.tcap_lists.proofs.PlaceLaws.{any_filled}
use Rattle.tcap_lists.proofs.KeepLaws.{Whole, listed_with}

-- An item was removed from a place of an ID's row.
module _ {K : Type 0} (id : ℤ) (at kind : ℕ) (l m : Lists K) (there : IsSome (get_or (listed id (rows_of l)) at None))
    (is_kind : get_or (listed id (rows_of l)) at None ≡ kind_of id kind l) (is : rows_of m ≡ with_place id at None (rows_of l))
    (keeps : KeepsRows l m) where
  kind_there : IsSome (kind_of id kind l)
  kind_there = rw (sym is_kind) there

  -- The item can go back.
  pub goes_back : GoesBack id at kind m
  goes_back = record {
    within = rw (is, listed_with id (rows_of l) (whole_rows l) (set (listed id (rows_of l)) at None), length-set (listed id (rows_of l)) at None)
        (some_within (listed id (rows_of l)) at there);
    empty = rw (is, listed_with id (rows_of l) (whole_rows l) (set (listed id (rows_of l)) at None)) (none_set (listed id (rows_of l)) at);
    there = rw (keeps.kinds id kind kind_there) kind_there;
  }

  -- Putting it back restores the rows.
  pub is_back : with_place id at (kind_of id kind m) (rows_of m) ≡ rows_of l
  is_back = rw (is, keeps.kinds id kind kind_there, sym is_kind) (put_again id at (get_or (listed id (rows_of l)) at None) (rows_of l) (whole_rows l) refl)

-- ---- the items of an ID, from its row

-- whether an item fits
pub one_in : {A : Type 0} (id : ℤ) (fits : A → Bool) (m : List (ℤ × List (Option A))) → Whole m
    → one_fits id fits (items_of m) ≡ is_some (place_of (fits_in fits) (listed id m))
one_in id fits m whole = ap (list_any fits) (listed_items id m whole.rises) ∙ any_filled fits (listed id m)

-- The oldest item that fits is in that place.
pub taken_some : {A : Type 0} (id : ℤ) (fits : A → Bool) (m : List (ℤ × List (Option A))) (at : ℕ) → Whole m
    → place_of (fits_in fits) (listed id m) ≡ Some at
    → (one_fits id fits (items_of m) ≡ true) × IsSome (get_or (listed id m) at None)
    × (without_oldest_of id fits (items_of m) ≡ items_of (with_place id at None m))
taken_some id fits m at whole e =
    let there = place_some fits (listed id m) at e in (
      one_in id fits m whole ∙ ap is_some e,
      there.1,
      ap (λ items. with_listed id (without_oldest fits items) (items_of m)) (listed_items id m whole.rises)
          ∙ ap (λ items. with_listed id items (items_of m)) there.2
          ∙ sym (items_with id m whole.rises (set (listed id m) at None)),
    )

-- ---- why an answer is refused

or_true : (b : Bool) → (b || true) ≡ true
or_true true = refl
or_true false = refl

-- If one test implies another, an item that passes the first passes the second.
any_too : {A : Type 0} (fits other : A → Bool) (items : List A) → ((item : A) → fits item ≡ true → other item ≡ true)
    → list_any fits items ≡ true → list_any other items ≡ true
any_too fits other [] so e = e
any_too fits other (item ∷ items) so e = by (fits item) refl e (any_too fits other items so)
  where
    by : (fit : Bool) → fits item ≡ fit → (fit || list_any fits items) ≡ true → (list_any fits items ≡ true → list_any other items ≡ true)
        → (other item || list_any other items) ≡ true
    by true is e rest = rw (so item is) refl
    by false is e rest = rw (rest e) (or_true (other item))

any_of : {A : Type 0} (fits : A → Bool) (items : List A) → list_any fits items ≡ true → list_any (λ item. true) items ≡ true
any_of fits items = any_too fits (λ item. true) items (λ item is. refl)

module _ (table : Table) (k : StoredHalf) (whole : Whole k.inn) (is_result : Bool) (id : ℤ) (last : Bool) (named : Option Code) where
  -- The answer is for another operation.
  pub is_wrong : is_some (place_of (fits_in (may_answer table is_result None)) (listed id k.inn)) ≡ true
      → place_of (fits_in (may_answer table is_result named)) (listed id k.inn) ≡ None
      → send_answer table (half_in k) is_result last id named ≡ Err faults.WrongOperation
  is_wrong is none =
      let some = one_in id (may_answer table is_result None) k.inn whole ∙ is in
      rw (any_of (may_answer table is_result None) (listed id (half_in k).inn) some, some, one_in id (may_answer table is_result named) k.inn whole ∙ ap is_some none) refl

  -- The classes of all invocations forbid the answer.
  pub is_forbidden : is_some (place_of (fits_in (may_answer table is_result None)) (listed id k.inn)) ≡ false
      → one_fits id (λ item. true) (half_in k).inn ≡ true
      → send_answer table (half_in k) is_result last id named ≡ Err faults.ClassForbids
  is_forbidden none some = rw (some, one_in id (may_answer table is_result None) k.inn whole ∙ none) refl

  -- There is no invocation with the ID.
  pub is_nothing : one_fits id (λ item. true) (half_in k).inn ≡ false
      → send_answer table (half_in k) is_result last id named ≡ Err faults.NothingToAnswer
  is_nothing none = rw none refl

-- ---- answers that are allowed

-- An answer that carries no operation may answer whatever one that carries it may.
named_too : (table : Table) (is_result : Bool) (named : Option Code) (item : Invocation) → may_answer table is_result named item ≡ true
    → may_answer table is_result None item ≡ true
named_too table is_result named item = by (class_reports table is_result item.code) (names named item.code)
  where
    by : (reported same : Bool) → (reported && same) ≡ true → (reported && true) ≡ true
    by true same is = refl
    by false same is = is

pub answers_one : (table : Table) (k : StoredHalf) → Whole k.inn → (is_result last : Bool) (id : ℤ) (named : Option Code) (at : ℕ)
    → place_of (fits_in (may_answer table is_result named)) (listed id k.inn) ≡ Some at
    → send_answer table (half_in k) is_result last id named ≡ Ok (cond last (half_in (without_inn id at k)) (half_in k))
answers_one table k whole is_result last id named at is =
    let there = taken_some id (may_answer table is_result named) k.inn at whole is in
    let of_class = any_too (may_answer table is_result named) (may_answer table is_result None) (listed id (half_in k).inn)
    (named_too table is_result named) there.0 in
    rw (any_of (may_answer table is_result named) (listed id (half_in k).inn) there.0, of_class, there.0)
    (ap (λ inn. let r : Result Half EndFault = Ok (cond last (record (half_in k) { inn = inn }) (half_in k)) in r) there.2)

-- ---- the item that a Reject removes

module _ (k : StoredHalf) (inn : Whole k.inn) (grants : Whole k.grants) (id : ℤ) where
  none_in : {A : Type 0} (fits : A → Bool) (m : List (ℤ × List (Option A))) → Whole m → place_of (fits_in fits) (listed id m) ≡ None
      → one_fits id fits (items_of m) ≡ false
  none_in fits m whole e = one_in id fits m whole ∙ ap is_some e

  pub not_rejected : (problem : Problem) → rejected_place k.inn k.grants id problem ≡ None
      → send_reject (half_in k) (Some id) problem ≡ Err faults.RejectNotAllowed
  not_rejected (problems.General n) e = refl
  not_rejected (problems.Invoke n) e = rw (none_in (allows n) k.inn inn e) refl
  not_rejected (problems.ReturnResult n) e = rw (none_in (allows_for true n) k.grants grants e) refl
  not_rejected (problems.ReturnError n) e = rw (none_in (allows_for false n) k.grants grants e) refl

  -- an invocation
  pub rejects_inn : (n at : ℕ) → rejected_place k.inn k.grants id (problems.Invoke n) ≡ Some at
      → IsSome (get_or (listed id k.inn) at None) × (send_reject (half_in k) (Some id) (problems.Invoke n) ≡ Ok (half_in (without_inn id at k)))
  rejects_inn n at is =
      let there = taken_some id (allows n) k.inn at inn is in
      (there.1, rw there.0 (ap (λ inn. let r : Result Half EndFault = Ok (record (half_in k) { inn = inn }) in r) there.2))

  -- an answer
  pub rejects_grant : (problem : ProblemView) (at : ℕ) → ((n : SmallView) → problem ≡ views.Invoke n → ⊥)
      → rejected_place k.inn k.grants id (problem_of problem) ≡ Some at
      → IsSome (get_or (listed id k.grants) at None)
      × (send_reject (half_in k) (Some id) (problem_of problem) ≡ Ok (half_in (without_grant id at k)))
  rejects_grant (views.General n) at other is = let bad : None ≡ Some at = is in cc
  rejects_grant (views.Invoke n) at other is = absurd (other n refl)
  rejects_grant (views.ReturnResult n) at other is =
      let there = taken_some id (allows_for true n.number) k.grants at grants is in
      (there.1, rw there.0 (ap (λ grants. let r : Result Half EndFault = Ok (record (half_in k) { grants = grants }) in r) there.2))
  rejects_grant (views.ReturnError n) at other is =
      let there = taken_some id (allows_for false n.number) k.grants at grants is in
      (there.1, rw there.0 (ap (λ grants. let r : Result Half EndFault = Ok (record (half_in k) { grants = grants }) in r) there.2))

-- ---- an own invocation

-- Putting the earlier invocation back undoes the change.
pub out_back : (id : ℤ) (was x : Option OwnInvocation) (o made put : Outs) → kept_outs made ≡ kept_outs o
    → was ≡ lookup (is_at (int_cmp id)) (kept_outs made) → kept_outs put ≡ with_out id x (kept_outs made)
    → with_out id was (kept_outs put) ≡ kept_outs o
out_back id was x o made put same stood is = rw (is, stood) (out_again id x made) ∙ same

-- whether there is none, from a lookup
pub none_there : {A : Type 0} (found : Option (Bor A)) (o : Option A) (some : Bool) → option_copied found ≡ o
    → is_some found ≡ some → is_none o ≡ not some
none_there None o some e s = ap is_none (sym e) ∙ ap not s
none_there (Some x) o some e s = ap is_none (sym e) ∙ ap not s
