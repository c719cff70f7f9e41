-- No Reject that a half sends has F13: something that the half received has its problem (Q.773 4.2.2, Q.774 3.2).
use Rattle.std.proofs.Common.{◌≡◌, ℕ, ℤ, ◌+◌, ◌≤◌, arith, Bool, true, false, cond, eqb, leb, ltb, List, [], ◌∷◌, ◌++◌, Option, Some, Ok, not, refl, ap}
use Rattle.std.proofs.lemmas.Bool.Decides.{nat_tests}
use Rattle.std.specs.Prelude.{◌&&◌, nat_le, nat_lt}
use Rattle.std.specs.List.{list_any}
use Rattle.std.proofs.lemmas.Bool.{and_from, and_parts, eqb-true, le-ltb, leb-true, ltb-true}
use Rattle.tcap_parts.specs.declared.code.Code.{Code}
use Rattle.tcap_parts.specs.declared.problem.Problem.TheVariants as problems
use Rattle.tcap_parts.specs.declared.component.Component.{Component}
use Rattle.tcap_parts.specs.declared.component.Component.TheVariants.{Invoke, Reject}
use Rattle.tcap_end.specs.Table.{Table}
use Rattle.tcap_end.specs.Half.{Half, listed, one_fits}
use Rattle.tcap_end.specs.Component.{allows_for, answer_problems, class_reports, send_component, send_reject}
use Rattle.tcap_end.specs.Message.{send_components}
use Rattle.tcap_refute.specs.EarlierMessages.{invokes, is_invoke_id}
use Rattle.tcap_faults.specs.ComponentKinds.{is_answer_reject_wrong, is_expected, is_invoke_reject_wrong}
use Rattle.tcap_faults.specs.Counts.{any_problem, count, count_suited, invokes_linked, invokes_where, is_error, is_result, rejects_invoke}
use Rattle.tcap_faults.specs.HalfByPeerId.{HalfMessages}
use Rattle.tcap_faults.specs.Components.{is_of_link, is_problem}
use Rattle.tcap_faults.proofs.story_laws.Stories.{Bounds, Happening, IsLed, got_in, sent_in}
use Rattle.tcap_faults.proofs.story_laws.StoryLaws.{risen}
use Rattle.tcap_faults.proofs.story_laws.AnsweredLaws.{none_takes}
use Rattle.tcap_faults.proofs.story_laws.ClassLaws.{codes_either, count_reports}
use Rattle.tcap_faults.proofs.list_laws.CountLaws.{any_counts, count_both, count_last, count_never, count_weaker, one}
use Rattle.tcap_faults.proofs.story_laws.ReceivedComponentLaws.{answered_by, problems_of}
use Rattle.tcap_faults.proofs.story_laws.ReceivedAnswerLaws.{answers_of, grant_found, grant_so, rejected, rejects_of, shown, shows_other, shows_reported, grant_takes}
use Rattle.tcap_faults.proofs.story_laws.LinkRejectLaws.{none_fine}
use Rattle.tcap_faults.proofs.story_laws.InvokeListLaws.{id_itself}
use Rattle.tcap_faults.proofs.story_laws.MessageComponentLaws.{none_of_four, sent_more}
use Rattle.tcap_faults.proofs.story_laws.OwnInvocationLaws.{sent_so}
use Rattle.tcap_faults.proofs.story_laws.InvokeRejectLaws.{allows_so, fits_so, link_brought, over_7, over_brought, reject_takes, second_within}
use Rattle.tcap_faults.proofs.story_laws.ComponentStepLaws.{answer_problem, rejects_answer_step, rejects_invoke_step}
use Rattle.tcap_faults.proofs.story_laws.ReceivedInvocationLaws.{spent_within, inn_of, grants_of, spent_along}

module _ (table : Table) (s : HalfMessages) (past : List Happening) (g : Half)
    (bounds : Bounds s (sent_in past) (got_in past))
    (led : IsLed table past g) (own : List Component) (h k : Half) (id : ℤ) (n : ℕ)
    (was : send_components table g own ≡ Ok h) where
  -- ---- a Reject of an invocation

  module _ (is : send_component table h (Reject (Some id) (problems.Invoke n)) ≡ Ok k) where
    abbrev reject : Component
    reject = Reject (Some id) (problems.Invoke n)

    -- The Reject is counted with those before it.
    behind : send_components table g (own ++ reject ∷ []) ≡ Ok k
    behind = sent_more table own reject g h k was is

    counted : (passes : Component → Bool) → count passes (s.outgoing ++ own ++ reject ∷ [])
        ≡ count passes s.outgoing + count passes (own ++ reject ∷ [])
    counted passes =
        omega (
          arith,
          count_last passes (s.outgoing ++ own) reject,
          count_both passes s.outgoing own,
          count_last passes own reject,
        )

    -- duplicateInvokeID: more Invokes of the ID were heard than such Rejects were sent.
    none_second : (eqb n 0 && leb (count (invokes id) s.incoming)
        (count (rejects_invoke id (is_problem 0)) (s.outgoing ++ own ++ reject ∷ []))) ≡ true → ⊥
    none_second so =
        let (zero, more) = and_parts (eqb n 0) _ so in
        let it = and_from (is_invoke_id id id) (is_problem 0 n) (id_itself id) zero in
        absurd (omega (
          arith,
          leb-true _ _ more,
          counted (rejects_invoke id (is_problem 0)),
          ap one it,
          count_last (rejects_invoke id (is_problem 0)) own reject,
          second_within table id s past g k (own ++ reject ∷ []) bounds led behind,
        ))

    -- A problem of a link: as many linked Invokes were heard as such Rejects were sent, or more.
    none_linked : (is_of_link n && ltb (count (invokes_linked id) s.incoming)
        (count (rejects_invoke id is_of_link) (s.outgoing ++ own ++ reject ∷ []))) ≡ true → ⊥
    none_linked so =
        absurd (omega (
          arith,
          ltb-true _ _ ((and_parts (is_of_link n) _ so).1),
          counted (rejects_invoke id is_of_link),
          spent_within table (inn_of table id) (rejects_invoke id is_of_link) (allows_so is_of_link) (reject_takes table id is_of_link)
              (invokes_linked id) (link_brought table id) s past g k (own ++ reject ∷ []) bounds led behind,
        ))

    -- The problem is not over 7.
    none_over : ltb 7 n ≡ true → ⊥
    none_over so =
        let (fits, same) = rejects_invoke_step h k id n is in
        absurd (omega (
          arith,
          fits_so h id n over_7 fits so,
          count_never s.incoming,
          spent_within table (inn_of table id) (λ c. false) (allows_so over_7) (none_takes table id (allows_so over_7)) (λ c. false)
              (over_brought table id) s past g h own bounds led was,
        ))

    pub invoke_not_wrong : is_invoke_reject_wrong table s (s.outgoing ++ own ++ reject ∷ []) id n ≡ true → ⊥
    invoke_not_wrong =
        none_of_four _ _ _ _ none_second none_linked
        (none_fine table s past g h own bounds led was id n (rejects_invoke_step h k id n is).0) none_over

  -- ---- a Reject of an answer

  module _ (sort : Bool) (is : send_component table h (Reject (Some id) (answer_problem sort n)) ≡ Ok k) where
    abbrev answer_reject : Component
    answer_reject = Reject (Some id) (answer_problem sort n)

    -- An answer that allows the problem was there before the message.
    fits : one_fits id (allows_for sort n) h.grants ≡ true
    fits = (rejects_answer_step h k id sort n (by sort is)).0
      where
        by : (b : Bool) → send_component table h (Reject (Some id) (answer_problem b n)) ≡ Ok k
            → send_reject h (Some id) (answer_problem b n) ≡ Ok k
        by true step = step
        by false step = step

    there : (passes : ℕ → Bool) → passes n ≡ true → 1 ≤ count (grant_so sort passes) (listed id g.grants)
    there passes pass =
        omega (
          arith,
          any_counts (allows_for sort n) (listed id h.grants) fits,
          count_weaker (allows_for sort n) (grant_so sort passes) (listed id h.grants) (grant_found sort n passes pass),
          spent_along table (grants_of table id) (rejects_of sort id passes) (grant_so sort passes)
              (grant_takes sort id passes) own g h (risen table past g led) was,
        )

    -- At most as many answers are rejected as were heard.
    none_more : ltb (count (answers_of sort id) s.incoming)
        (count (rejects_of sort id any_problem) (s.outgoing ++ own ++ answer_reject ∷ [])) ≡ true → ⊥
    none_more so =
        absurd (omega (
          arith,
          ltb-true _ _ so,
          count_last (rejects_of sort id any_problem) (s.outgoing ++ own) answer_reject,
          count_both (rejects_of sort id any_problem) s.outgoing own,
          count_last (rejects_of sort id any_problem) own answer_reject,
          bounds.outgoing (rejects_of sort id any_problem),
          spent_along table (grants_of table id) (rejects_of sort id any_problem) (grant_so sort any_problem)
              (grant_takes sort id any_problem) (own ++ answer_reject ∷ []) g k
              (risen table past g led) (sent_more table own answer_reject g h k was is),
          rejected table id sort any_problem past g led,
          bounds.incoming (answers_of sort id),
        ))

    -- The problem is an answer's.
    none_higher : ltb (cond sort 2 4) n ≡ true → ⊥
    none_higher so =
        absurd (omega (
          arith,
          shown table id sort higher (λ code. false) shows_none past g led (there higher so),
          never (sent_in past),
        ))
      where
        higher : ℕ → Bool
        higher m = ltb (cond sort 2 4) m

        shows_none : (o : Option Code) → list_any higher (problems_of sort (answered_by table o)) ≡ true
            → sent_so (λ code. false) o ≡ true
        shows_none o found =
            let (sent, bad) = shows_reported table sort higher o (low sort 0 (omega arith))
            (low sort 1 (omega arith)) found in
            absurd (by sort bad)
          where
            low : (b : Bool) (m : ℕ) → m ≤ 1 → ltb (cond b 2 4) m ≡ false
            low true m below = le-ltb 2 m (omega arith)
            low false m below = le-ltb 4 m (omega arith)

            by : (b : Bool) → list_any (λ m. ltb (cond b 2 4) m) (answer_problems b) ≡ true → ⊥
            by b found = grind (arith, nat_tests, found)

        never : (cs : List Component) → count (invokes_where id (λ code. false)) cs ≡ 0
        never cs =
            omega (arith, count_never cs, count_weaker (invokes_where id (λ code. false)) (λ c. false) cs none)
          where
            none : (c : Component) → invokes_where id (λ code. false) c ≡ true → false ≡ true
            none (Invoke other linked code parameter) is = (and_parts (is_invoke_id id other) false is).1
            none c is = is

    -- With problem 1, an answer can be unexpected.
    none_unexpected : (eqb n 1 && is_expected table s sort id) ≡ true → ⊥
    none_unexpected so =
        let (is_1, expected) = and_parts (eqb n 1) _ so in
        let (two, known) = and_parts (eqb (count_suited table sort id s.invoked) (count (invokes id) s.invoked)
        && nat_lt (count (is_result id) s.incoming + count (is_error id) s.incoming) 2) _ expected in
        let (same, few) = and_parts (eqb (count_suited table sort id s.invoked) (count (invokes id) s.invoked)) _ two in
        absurd (omega (
          arith,
          eqb-true _ _ same,
          count_reports table sort id s.invoked,
          codes_either (class_reports table sort) id s.invoked,
          shown table id sort (is_problem 1) (λ code. not (class_reports table sort code))
              (shows_other table sort) past g led
              (there (is_problem 1) is_1),
          bounds.all (invokes_where id (λ code. not (class_reports table sort code))),
        ))

    -- With problem 2 or more, the class of an own invocation allows such an answer.
    none_suited : (nat_le 2 n && eqb (count_suited table sort id s.invoked) 0) ≡ true → ⊥
    none_suited so =
        let (high, none) = and_parts (nat_le 2 n) _ so in
        absurd (omega (
          arith,
          eqb-true _ _ none,
          count_reports table sort id s.invoked,
          bounds.all (invokes_where id (class_reports table sort)),
          shown table id sort (nat_le 2) (class_reports table sort)
              (λ o found. (shows_reported table sort (nat_le 2) o refl refl found).0) past g led
              (there (nat_le 2) high),
        ))

    pub answer_not_wrong : is_answer_reject_wrong table s sort id n
        (count (rejects_of sort id any_problem) (s.outgoing ++ own ++ answer_reject ∷ []))
        (count (answers_of sort id) s.incoming) ≡ true → ⊥
    answer_not_wrong = none_of_four _ _ _ _ none_more none_higher none_unexpected none_suited
