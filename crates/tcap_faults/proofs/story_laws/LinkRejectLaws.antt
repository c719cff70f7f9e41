-- Rejects with problem 6, linkedResponseUnexpected, or 7, unexpectedLinkedOperation. If an invocation allows such a
-- problem, its Invoke names an own invocation of such an operation (Q.773 4.2.2, Q.774 3.2).
use Rattle.std.proofs.Common.{◌≡◌, ◌⊎◌, inl, inr, ℕ, ℤ, ◌≤◌, arith, Bool, true, false, List, [], ◌∷◌, Option, Some, None, Ok, not, refl, sym, ap, ◌∙◌}
use Rattle.std.specs.Prelude.{◌&&◌, ◌||◌, ◌==◌}
use Rattle.std.specs.List.{list_any}
use Rattle.std.proofs.lemmas.Bool.{and_from, and_parts, both_ways, not-true, or_cases, or_right}
use Rattle.tcap_parts.specs.declared.code.Code.{Code}
use Rattle.tcap_parts.specs.declared.component.Component.{Component}
use Rattle.tcap_parts.specs.declared.component.Component.TheVariants.{Invoke}
use Rattle.tcap_end.specs.Table.{Table, linked_of}
use Rattle.tcap_end.specs.Half.{Half, listed, one_fits}
use Rattle.tcap_end.specs.Component.{allows, link_problems, link_problems_of, links, operation_sent}
use Rattle.tcap_end.specs.Message.{send_components}
use Rattle.tcap_refute.specs.EarlierMessages.{is_invoke_id}
use Rattle.tcap_faults.specs.ComponentKinds.{is_link_fine}
use Rattle.tcap_faults.specs.Counts.{count, invokes_where}
use Rattle.tcap_faults.specs.HalfByPeerId.{HalfMessages}
use Rattle.tcap_faults.specs.Components.{is_linked_to, is_problem, lists_nothing}
use Rattle.tcap_faults.proofs.story_laws.Stories.{Bounds, Happening, IsLed, got_in, sent_in}
use Rattle.tcap_faults.proofs.story_laws.StoryLaws.{risen}
use Rattle.tcap_faults.proofs.story_laws.AnsweredLaws.{none_takes}
use Rattle.tcap_faults.proofs.list_laws.CountLaws.{any_counts, count_more, count_weaker, counts_any, one}
use Rattle.tcap_faults.proofs.story_laws.ReceivedComponentLaws.{gains_inn}
use Rattle.tcap_faults.proofs.story_laws.InvokeListLaws.{gain}
use Rattle.tcap_faults.proofs.story_laws.OwnInvocationLaws.{is_sent_so, sent_invoked, sent_so}
use Rattle.tcap_faults.proofs.story_laws.InvokeRejectLaws.{Brings, allows_so, brings_it, fits_so, link_problems_by, linked_are, none_of_id, problem_found}
use Rattle.tcap_faults.proofs.story_laws.ReceivedInvocationLaws.{spent_along, inn_of, spent_shown}

-- ---- what is linked

-- An Invoke whose linked ID is that of an own invocation among some components has one among more.
linked_weaker : (names : Code → Code → Bool) (x : ℤ) (some more : List Component)
    → ((test : Component → Bool) → list_any test some ≡ true → list_any test more ≡ true) → (c : Component)
    → is_linked_to names some x c ≡ true → is_linked_to names more x c ≡ true
linked_weaker names x some more weaker (Invoke id (Some to) code parameter) is =
    let (here, there) = and_parts (is_invoke_id x id) (list_any (invokes_where to (λ of. names of code)) some) is in
    and_from (is_invoke_id x id) (list_any (invokes_where to (λ of. names of code)) more) here
    (weaker (invokes_where to (λ of. names of code)) there)
linked_weaker names x some more weaker c is = cc

-- The problem shows that the Invoke names an own invocation in Operation Sent, and that the operations of both pass a
-- test.
abbrev pub Shows : Table → ℕ → (Code → Code → Bool) → Type 0
Shows table n names =
    (code : Code) (o : Option Code) → list_any (is_problem n) (link_problems_of table code o) ≡ true
    → (to : Code) × (o ≡ Some to) × (names to code ≡ true)

-- The problem is not one that an Invoke has without a link.
pub record IsOfLink (n : ℕ) : Type 0 where
  pub not_0 : is_problem n 0 ≡ false
  pub not_1 : is_problem n 1 ≡ false
  pub not_2 : is_problem n 2 ≡ false
  pub not_3 : is_problem n 3 ≡ false
  pub not_4 : is_problem n 4 ≡ false

module _ (table : Table) (n : ℕ) (names : Code → Code → Bool) (of_link : IsOfLink n) (shows : Shows table n names)
    (x : ℤ) where
  -- The Invoke of an invocation that allows the problem names such an own invocation.
  linked_brought : (past : List Happening) (g : Half) (c : Component) → IsLed table past g
      → gain (allows_so (is_problem n)) (gains_inn table g x c) ≡ true → is_linked_to names (sent_in past) x c ≡ true
  linked_brought past g c led gained = rw (it.is) (by it.linked found)
    where
      it : Brings table g x c (allows_so (is_problem n))
      it = brings_it table g x c (allows_so (is_problem n)) gained

      found : list_any (is_problem n) (link_problems table g it.linked it.code) ≡ true
      found =
          ap (λ b. b || list_any (is_problem n) (link_problems table g it.linked it.code))
          (sym (none_of_id (listed it.id g.inn) (is_problem n) (of_link.not_0)))
          ∙ sym (problem_found table g it.id it.linked it.code (is_problem n) of_link.not_1 of_link.not_2 of_link.not_3
          of_link.not_4) ∙ it.fits

      by : (linked : Option ℤ) → list_any (is_problem n) (link_problems table g linked it.code) ≡ true
          → is_linked_to names (sent_in past) x (Invoke it.id linked it.code it.parameter) ≡ true
      by None none = cc
      by (Some id) some =
          let (to, there, named) = shows it.code (operation_sent g id) some in
          let sent : is_sent_so (λ of. names of it.code) g id ≡ true =
          ap (sent_so (λ of. names of it.code)) there ∙ named in
          and_from (is_invoke_id x it.id) _ it.here
          (counts_any (invokes_where id (λ of. names of it.code)) (sent_in past)
          (omega (arith, ap one sent, sent_invoked table (λ of. names of it.code) id past g led)))

  linked : (past : List Happening) (h : Half) → IsLed table past h
      → 1 ≤ count (allows_so (is_problem n)) (listed x h.inn)
      → 1 ≤ count (is_linked_to names (sent_in past) x) (got_in past)
  linked =
      spent_shown table (inn_of table x) (λ d. false) (allows_so (is_problem n))
      (none_takes table x (allows_so (is_problem n))) (λ past. count (is_linked_to names (sent_in past) x) (got_in past))
      (λ past c. count_weaker (is_linked_to names (sent_in past) x) (is_linked_to names (c ∷ sent_in past) x) (got_in past)
      (linked_weaker names x (sent_in past) (c ∷ sent_in past) (λ test found. or_right (test c) _ found)))
      (λ past c. omega (arith, count_more (is_linked_to names (sent_in past) x) c (got_in past)))
      (λ past id. omega arith)
      (λ past g c led gained. omega (
        arith,
        ap one (linked_brought past g c led gained),
        count_more (is_linked_to names (sent_in past) x) c (got_in past),
      ))

  -- An Invoke that names such an own invocation was heard.
  pub linked_within : (s : HalfMessages) (past : List Happening) (g h : Half) (own : List Component)
      → Bounds s (sent_in past) (got_in past) → IsLed table past g → send_components table g own ≡ Ok h
      → 1 ≤ count (allows_so (is_problem n)) (listed x h.inn)
      → list_any (is_linked_to names s.invoked x) s.incoming ≡ true
  linked_within s past g h own bounds led is some =
      counts_any (is_linked_to names s.invoked x) s.incoming
      (omega (
        arith,
        linked past g led before,
        bounds.incoming (is_linked_to names s.invoked x),
        count_weaker (is_linked_to names (sent_in past) x) (is_linked_to names s.invoked x) (got_in past)
            (linked_weaker names x (sent_in past) s.invoked known),
      ))
    where
      before : 1 ≤ count (allows_so (is_problem n)) (listed x g.inn)
      before =
          omega (
            arith,
            some,
            spent_along table (inn_of table x) (λ d. false) (allows_so (is_problem n))
                (none_takes table x (allows_so (is_problem n))) own g h (risen table past g led) is,
          )

      known : (test : Component → Bool) → list_any test (sent_in past) ≡ true → list_any test s.invoked ≡ true
      known test found =
          counts_any test s.invoked (omega (arith, any_counts test (sent_in past) found, bounds.all test))

-- ---- both problems

of_6 : IsOfLink 6
of_6 = record { not_0 = refl; not_1 = refl; not_2 = refl; not_3 = refl; not_4 = refl }

of_7 : IsOfLink 7
of_7 = record { not_0 = refl; not_1 = refl; not_2 = refl; not_3 = refl; not_4 = refl }

-- Problem 6 shows an own invocation of an operation that lists none.
shows_6 : (table : Table) → Shows table 6 (λ to code. lists_nothing table to)
shows_6 table code None found = cc
shows_6 table code (Some to) found = (
  to,
  refl,
  by (linked_of table to) (links table to code) refl
      (ap (list_any (is_problem 6)) (sym (linked_are table code to)) ∙ found),
)
  where
    by : (list : List (Code × Unit {0})) (b : Bool) → linked_of table to ≡ list
        → list_any (is_problem 6) (link_problems_by list b) ≡ true → lists_nothing table to ≡ true
    by [] b is found = rw is refl
    by (first ∷ more) true is found = cc
    by (first ∷ more) false is found = cc

-- Problem 7 shows an own invocation of an operation that lists others.
shows_7 : (table : Table) → Shows table 7 (λ to code. not (lists_nothing table to) && not (links table to code))
shows_7 table code None found = cc
shows_7 table code (Some to) found = (
  to,
  refl,
  by (linked_of table to) (links table to code) refl refl
      (ap (list_any (is_problem 7)) (sym (linked_are table code to)) ∙ found),
)
  where
    by : (list : List (Code × Unit {0})) (b : Bool) → linked_of table to ≡ list → links table to code ≡ b
        → list_any (is_problem 7) (link_problems_by list b) ≡ true
        → (not (lists_nothing table to) && not (links table to code)) ≡ true
    by [] b is linked found = cc
    by (first ∷ more) true is linked found = cc
    by (first ∷ more) false is linked found =
        and_from (not (lists_nothing table to)) (not (links table to code)) (rw is refl) (ap not linked)

-- If a problem of a link is allowed, what was heard has it.
pub none_fine : (table : Table) (s : HalfMessages) (past : List Happening) (g h : Half) (own : List Component)
    → Bounds s (sent_in past) (got_in past) → IsLed table past g → send_components table g own ≡ Ok h
    → (id : ℤ) (problem : ℕ) → one_fits id (allows problem) h.inn ≡ true → is_link_fine table s id problem ≡ true → ⊥
none_fine table s past g h own bounds led was id problem fits is = by (or_cases _ _ is)
  where
    names_none : Code → Code → Bool
    names_none to code = lists_nothing table to

    names_others : Code → Code → Bool
    names_others to code = not (lists_nothing table to) && not (links table to code)

    by : ((problem == 6 && not (list_any (is_linked_to names_none s.invoked id) s.incoming)) ≡ true)
        ⊎ ((problem == 7 && not (list_any (is_linked_to names_others s.invoked id) s.incoming)) ≡ true) → ⊥
    by (inl so) =
        let (six, none) = and_parts (problem == 6) _ so in
        both_ways (list_any (is_linked_to names_none s.invoked id) s.incoming) (not-true _ none)
        (linked_within table 6 names_none of_6 (shows_6 table) id s past g h own bounds led was
        (fits_so h id problem (is_problem 6) fits six))
    by (inr so) =
        let (seven, none) = and_parts (problem == 7) _ so in
        both_ways (list_any (is_linked_to names_others s.invoked id) s.incoming) (not-true _ none)
        (linked_within table 7 names_others of_7 (shows_7 table) id s past g h own bounds led was
        (fits_so h id problem (is_problem 7) fits seven))
