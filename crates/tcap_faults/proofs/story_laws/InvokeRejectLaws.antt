-- Rejects with an invoke problem: which problems a received invocation allows, and which Invokes have them (Q.773
-- 4.2.2, Q.774 3.2).
use Rattle.std.proofs.Common.{◌≡◌, ℕ, ℤ, ◌+◌, ◌-◌, ◌≤◌, arith, Bool, true, false, cond, ltb, List, [], ◌∷◌, ◌++◌, Option, Some, None, Ok, is_some, refl, sym, ap, ◌∙◌}
use Rattle.std.proofs.lemmas.Bool.Decides.{nat_tests}
use Rattle.std.specs.Prelude.{◌||◌, ◌==◌}
use Rattle.std.specs.List.{list_any}
use Rattle.std.proofs.lemmas.Bool.{and_from, and_parts, eqb-true, or_from, or_right}
use Rattle.tcap_parts.specs.declared.code.Code.{Code}
use Rattle.tcap_parts.specs.declared.problem.Problem.TheVariants as problems
use Rattle.tcap_parts.specs.declared.component.Component.{Component}
use Rattle.tcap_parts.specs.declared.component.Component.TheVariants.{Invoke, Reject}
use Rattle.tcap_end.specs.Table.{Table, linked_of}
use Rattle.tcap_end.specs.Half.{Half, Invocation, is_one_of, listed, one_fits}
use Rattle.tcap_end.specs.Component.{allows, id_problems, link_problems, link_problems_of, links, operation_sent}
use Rattle.tcap_end.specs.Message.{send_components}
use Rattle.tcap_refute.specs.EarlierMessages.{invokes, is_invoke_id}
use Rattle.tcap_faults.specs.Components.{is_of_link, is_problem}
use Rattle.tcap_faults.specs.Counts.{count, invokes_linked, rejects_invoke}
use Rattle.tcap_faults.specs.HalfByPeerId.{HalfMessages}
use Rattle.tcap_faults.proofs.story_laws.Stories.{Bounds, Happening, IsLed, got_in, sent_in}
use Rattle.tcap_faults.proofs.story_laws.StoryLaws.{risen}
use Rattle.tcap_faults.proofs.story_laws.AnsweredLaws.{any_brought, none_takes}
use Rattle.tcap_faults.proofs.list_laws.CountLaws.{any_counts, count_more, count_weaker, one}
use Rattle.tcap_faults.proofs.story_laws.ReceivedComponentLaws.{gains_inn, item_of}
use Rattle.tcap_faults.proofs.story_laws.InvokeListLaws.{gain, id_same}
use Rattle.tcap_faults.proofs.story_laws.ReceivedInvocationLaws.{IsBrought, IsTaking, spent, spent_along, inn_of, spent_most}
use Rattle.tcap_refute.proofs.TestLaws.{or_none}

-- ---- problems

-- A test that one of these numbers passes finds it.
pub one_found : (n : ℕ) (passes : ℕ → Bool) (numbers : List ℕ) → is_one_of n numbers ≡ true → passes n ≡ true
    → list_any passes numbers ≡ true
one_found n passes [] is pass = cc
one_found n passes (first ∷ more) is pass = grind (arith, nat_tests, is, one_found n passes more)

-- The problems of a link that an Invoke has, by the linked operations of the invocation that it names.
abbrev pub link_problems_by : List (Code × Unit {0}) → Bool → List ℕ
link_problems_by [] is_listed = 6 ∷ []
link_problems_by (first ∷ more) is_listed = cond is_listed [] (7 ∷ [])

pub linked_are : (table : Table) (code to : Code)
    → link_problems_of table code (Some to) ≡ link_problems_by (linked_of table to) (links table to code)
linked_are table code to = grind arith

-- A test finds a problem of an Invoke exactly if it finds a problem of its ID or of its link, if no problem from 1 to
-- 4 passes.
pub problem_found : (table : Table) (h : Half) (id : ℤ) (linked : Option ℤ) (code : Code) (passes : ℕ → Bool)
    → passes 1 ≡ false → passes 2 ≡ false → passes 3 ≡ false → passes 4 ≡ false
    → list_any passes (item_of table h id linked code).problems
    ≡ (list_any passes (id_problems (listed id h.inn)) || list_any passes (link_problems table h linked code))
problem_found table h id linked code passes not_1 not_2 not_3 not_4 = by (listed id h.inn)
  where
    link : List ℕ
    link = link_problems table h linked code

    fixed : list_any passes (1 ∷ 2 ∷ 3 ∷ 4 ∷ [] ++ link) ≡ list_any passes link
    fixed = rw (not_1, not_2, not_3, not_4) refl

    by : (list : List Invocation)
        → list_any passes (id_problems list ++ 1 ∷ 2 ∷ 3 ∷ 4 ∷ [] ++ link)
        ≡ (list_any passes (id_problems list) || list_any passes link)
    by [] = fixed
    by (first ∷ more) = rw fixed (two (passes 0) (list_any passes link))
      where
        two : (a b : Bool) → (a || b) ≡ (a || false || b)
        two a b = grind arith

-- A test that no problem of a link passes finds none of a link.
none_of_link : (table : Table) (h : Half) (linked : Option ℤ) (code : Code) (passes : ℕ → Bool) → passes 5 ≡ false
    → passes 6 ≡ false → passes 7 ≡ false → list_any passes (link_problems table h linked code) ≡ false
none_of_link table h None code passes not_5 not_6 not_7 = refl
none_of_link table h (Some id) code passes not_5 not_6 not_7 = by (operation_sent h id)
  where
    by_list : (list : List (Code × Unit {0})) (b : Bool) → list_any passes (link_problems_by list b) ≡ false
    by_list [] b = rw not_6 refl
    by_list (first ∷ more) true = refl
    by_list (first ∷ more) false = rw not_7 refl

    by : (o : Option Code) → list_any passes (link_problems_of table code o) ≡ false
    by None = rw not_5 refl
    by (Some to) = ap (list_any passes) (linked_are table code to) ∙ by_list (linked_of table to) (links table to code)

-- A test that 0 does not pass finds none of the ID.
pub none_of_id : (list : List Invocation) (passes : ℕ → Bool) → passes 0 ≡ false
    → list_any passes (id_problems list) ≡ false
none_of_id [] passes not_0 = refl
none_of_id (first ∷ more) passes not_0 = rw not_0 refl

-- ---- what is taken and brought

-- Whether an invocation allows a problem that passes.
abbrev pub allows_so : (ℕ → Bool) → Invocation → Bool
allows_so passes item = list_any passes item.problems

-- A Reject whose problem passes takes an invocation that allows such a problem.
pub reject_takes : (table : Table) (x : ℤ) (passes : ℕ → Bool)
    → IsTaking table x (rejects_invoke x passes) (allows_so passes)
reject_takes table x passes (Reject (Some id) (problems.Invoke n)) is =
    let (here, pass) = and_parts (is_invoke_id x id) (passes n) is in
    rw here (λ item fits. one_found n passes item.problems fits pass)
reject_takes table x passes c is = cc

-- If an invocation allows this problem, and the problem passes, the invocation counts.
pub fits_so : (h : Half) (id : ℤ) (problem : ℕ) (passes : ℕ → Bool) → one_fits id (allows problem) h.inn ≡ true
    → passes problem ≡ true → 1 ≤ count (allows_so passes) (listed id h.inn)
fits_so h id problem passes fits pass =
    omega (
      arith,
      any_counts (allows problem) (listed id h.inn) fits,
      count_weaker (allows problem) (allows_so passes) (listed id h.inn)
          (λ item is. one_found problem passes item.problems is pass),
    )

-- The Invoke that brings an invocation which passes.
pub record Brings (table : Table) (h : Half) (x : ℤ) (c : Component) (passes : Invocation → Bool) : Type 0 where
  pub id : ℤ
  pub linked : Option ℤ
  pub code : Code
  pub parameter : Option (List ℕ)
  pub is : c ≡ Invoke id linked code parameter
  pub here : is_invoke_id x id ≡ true
  pub fits : passes (item_of table h id linked code) ≡ true

pub brings_it : (table : Table) (h : Half) (x : ℤ) (c : Component) (passes : Invocation → Bool)
    → gain passes (gains_inn table h x c) ≡ true → Brings table h x c passes
brings_it table h x (Invoke id linked code parameter) passes = by (is_invoke_id x id) refl
  where
    by : (b : Bool) → is_invoke_id x id ≡ b → gain passes (cond b (Some (item_of table h id linked code)) None) ≡ true
        → Brings table h x (Invoke id linked code parameter) passes
    by true here fits = record {
      id = id;
      linked = linked;
      code = code;
      parameter = parameter;
      is = refl;
      here = here;
      fits = fits;
    }
    by false other fits = cc
brings_it table h x c passes = λ is. cc

-- ---- problems of a link

-- An invocation that allows a problem of a link was brought by a linked Invoke.
pub link_brought : (table : Table) (x : ℤ) → IsBrought table x (allows_so is_of_link) (invokes_linked x)
link_brought table x h c gained =
    let it = brings_it table h x c (allows_so is_of_link) gained in
    rw (it.is) (and_from (is_invoke_id x it.id) (is_some it.linked) it.here (by it.id it.linked it.code it.fits))
  where
    by : (id : ℤ) (linked : Option ℤ) (code : Code)
        → list_any is_of_link (item_of table h id linked code).problems ≡ true
        → is_some linked ≡ true
    by id None code found =
        let none = problem_found table h id None code is_of_link refl refl refl refl
        ∙ ap (λ b. b || false) (none_of_id (listed id h.inn) is_of_link refl) in cc
    by id (Some to) code found = refl

-- ---- problems over 7

abbrev pub over_7 : ℕ → Bool
over_7 n = ltb 7 n

-- No invocation allows a problem over 7.
pub over_brought : (table : Table) (x : ℤ) → IsBrought table x (allows_so over_7) (λ c. false)
over_brought table x h c gained =
    let it = brings_it table h x c (allows_so over_7) gained in
    let none = problem_found table h it.id it.linked it.code over_7 refl refl refl refl
    ∙ or_from _ _ (none_of_id (listed it.id h.inn) over_7 refl)
    (none_of_link table h it.linked it.code over_7 refl refl refl) in
    sym none ∙ it.fits

-- ---- duplicateInvokeID (0)

module _ (table : Table) (x : ℤ) where
  -- An invocation that allows problem 0 was brought by an Invoke after another with the ID.
  second_brought : (h : Half) (c : Component) → gain (allows_so (is_problem 0)) (gains_inn table h x c) ≡ true
      → (invokes x c ≡ true) × (1 ≤ count (λ (item : Invocation). true) (listed x h.inn))
  second_brought h c gained = (rw (it.is) (it.here), rw (id_same x it.id it.here) (by (listed it.id h.inn) found))
    where
      it : Brings table h x c (allows_so (is_problem 0))
      it = brings_it table h x c (allows_so (is_problem 0)) gained

      found : list_any (is_problem 0) (id_problems (listed it.id h.inn)) ≡ true
      found =
          or_none (list_any (is_problem 0) (id_problems (listed it.id h.inn)))
          ∙ ap (λ b. list_any (is_problem 0) (id_problems (listed it.id h.inn)) || b)
          (sym (none_of_link table h it.linked it.code (is_problem 0) refl refl refl))
          ∙ sym (problem_found table h it.id it.linked it.code (is_problem 0) refl refl refl refl) ∙ it.fits

      by : (list : List Invocation) → list_any (is_problem 0) (id_problems list) ≡ true
          → 1 ≤ count (λ (item : Invocation). true) list
      by list some = grind (arith, some)

  -- These invocations and the Rejects with problem 0 are fewer than the Invokes with the ID, or none.
  second : (past : List Happening) (h : Half) → IsLed table past h
      → count (rejects_invoke x (is_problem 0)) (sent_in past) + count (allows_so (is_problem 0)) (listed x h.inn)
      ≤ count (invokes x) (got_in past) - 1
  second =
      spent_most table (inn_of table x) (rejects_invoke x (is_problem 0)) (allows_so (is_problem 0))
      (reject_takes table x (is_problem 0)) (λ past. count (invokes x) (got_in past) - 1) (λ past c. omega arith)
      (λ past g c led. by past g c led (gain (allows_so (is_problem 0)) (gains_inn table g x c)) refl)
      (λ past id. omega arith)
    where
      by : (past : List Happening) (g : Half) (c : Component) → IsLed table past g → (b : Bool)
          → gain (allows_so (is_problem 0)) (gains_inn table g x c) ≡ b
          → count (invokes x) (got_in past) - 1 + one b ≤ count (invokes x) (c ∷ got_in past) - 1
      by past g c led true is =
          let (invoked, some) = second_brought g c is in
          let all = spent table (inn_of table x) (λ c. false) (λ item. true) (none_takes table x (λ item. true))
          (invokes x) (any_brought table x) past g led in
          omega (arith, ap one invoked, some, all, count_more (invokes x) c (got_in past))
      by past g c led false is = omega (arith, count_more (invokes x) c (got_in past))

  pub second_within : (s : HalfMessages) (past : List Happening) (g h : Half) (own : List Component)
      → Bounds s (sent_in past) (got_in past) → IsLed table past g → send_components table g own ≡ Ok h
      → count (rejects_invoke x (is_problem 0)) s.outgoing + count (rejects_invoke x (is_problem 0)) own
      ≤ count (invokes x) s.incoming - 1
  second_within s past g h own bounds led is =
      omega (
        arith,
        second past g led,
        bounds.outgoing (rejects_invoke x (is_problem 0)),
        bounds.incoming (invokes x),
        spent_along table (inn_of table x) (rejects_invoke x (is_problem 0)) (allows_so (is_problem 0))
            (reject_takes table x (is_problem 0)) own g h (risen table past g led) is,
      )
