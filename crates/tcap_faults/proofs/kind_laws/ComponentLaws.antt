-- No component that a half sends has F10 to F13: what happened to the half allows it (Q.774 3.2, Q.771 3.1).
use Rattle.std.proofs.Common.{◌≡◌, ℕ, ℤ, ◌+◌, ◌≤◌, arith, Bool, true, false, List, [], ◌∷◌, ◌++◌, Option, Some, None, Ok, ltb, leb, is_some, not, refl, ap, subst, ◌∙◌}
use Rattle.std.specs.Prelude.{◌&&◌, ◌||◌, option_map}
use Rattle.std.specs.List.{list_any}
use Rattle.std.proofs.lemmas.Bool.{and_parts, both_ways, leb-true, le-ltb, not-true, or_cases, or_left}
use Rattle.std.proofs.lemmas.List.{append_assoc}
use Rattle.tcap_parts.specs.declared.code.Code.{Code}
use Rattle.tcap_parts.specs.declared.problem.Problem.TheVariants as problems
use Rattle.tcap_parts.specs.declared.component.ResultBody.{ResultBody}
use Rattle.tcap_parts.specs.declared.component.Component.{Component}
use Rattle.tcap_parts.specs.declared.component.Component.TheVariants.{Invoke, ReturnResult, ReturnError, Reject}
use Rattle.tcap_end.specs.declared.own_invocations.OwnInvocation.{OwnInvocation}
use Rattle.tcap_end.specs.Table.{Table, expires_of}
use Rattle.tcap_end.specs.Half.{Half, Invocation, listed, one_fits}
use Rattle.tcap_end.specs.Component.{class_reports, is_code, links, may_answer, operation_sent_by, own_invocation, send_component}
use Rattle.tcap_end.specs.Message.{send_components}
use Rattle.tcap_refute.specs.EarlierMessages.{invokes}
use Rattle.tcap_faults.specs.ComponentKinds.{answers_again, invokes_busy, is_busy, is_operation_overspent, is_overspent, links_badly, may_reject_answer, may_reject_invoke, rejects_wrongly}
use Rattle.tcap_faults.specs.Counts.{any_problem, count, count_class, count_lasting, has_class, invokes_where, is_error, is_last_result, is_not_last, is_result_of, rejects_invoke, takes}
use Rattle.tcap_faults.specs.HalfByPeerId.{HalfMessages}
use Rattle.tcap_faults.specs.Components.{has_component}
use Rattle.tcap_faults.proofs.story_laws.Stories.{Bounds, Happening, IsLed, got_in, sent_in}
use Rattle.tcap_faults.proofs.story_laws.AnsweredLaws.{answer_takes, any_brought, any_takes, code_brought, count_answers, count_takes, error_takes, named_takes, none_takes, result_takes}
use Rattle.tcap_faults.proofs.story_laws.ClassLaws.{class_apart, codes_apart, count_reporting, count_reports}
use Rattle.tcap_faults.proofs.list_laws.CountLaws.{any_counts, count_both, count_weaker, counts_any, one}
use Rattle.tcap_faults.proofs.story_laws.LastingInvocationLaws.{ended_any}
use Rattle.tcap_faults.proofs.story_laws.MessageComponentLaws.{neither, none_has, none_of_four, sent_more}
use Rattle.tcap_faults.proofs.story_laws.OwnInvocationLaws.{invoked_along}
use Rattle.tcap_faults.proofs.story_laws.ComponentStepLaws.{answers_step, invokes_step}
use Rattle.tcap_faults.proofs.story_laws.ReceivedInvocationLaws.{spent_within, inn_of}
use Rattle.tcap_faults.proofs.story_laws.RejectProblemLaws.{answer_not_wrong, invoke_not_wrong}

-- A number is not less than one that it is at least.
not_less : (a b : ℕ) → b ≤ a → ltb a b ≡ true → ⊥
not_less a b below = both_ways (ltb a b) (le-ltb a b below)

module _ (table : Table) (s : HalfMessages) (past : List Happening) (g : Half)
    (bounds : Bounds s (sent_in past) (got_in past))
    (led : IsLed table past g) where
  -- ---- F10

  -- If the ID of an Invoke is free, no Invoke before it in the message has the ID.
  own_free : (own : List Component) (h : Half) (id : ℤ) → send_components table g own ≡ Ok h
      → own_invocation h id ≡ None → (list_any (invokes id) own ≡ false) × (own_invocation g id ≡ None)
  own_free own h id was free = (none, internal (own_invocation g id) refl)
    where
      counts : count (invokes id) own + one (is_some (own_invocation g id)) ≡ 0
      counts = invoked_along table id own g h was ∙ rw free refl

      none : list_any (invokes id) own ≡ false
      none = by (list_any (invokes id) own) refl
        where
          by : (b : Bool) → list_any (invokes id) own ≡ b → b ≡ false
          by true is = absurd (omega (arith, counts, any_counts (invokes id) own is))
          by false is = refl

      internal : (o : Option OwnInvocation) → own_invocation g id ≡ o → own_invocation g id ≡ None
      internal None is = is
      internal (Some a) is =
          let bad : count (invokes id) own + 1 ≡ 0 = rw is at counts in absurd (omega (arith, bad))

  -- If the ID is free, none of its lasting invocations is left.
  not_busy : (all : List Component) (id : ℤ) → own_invocation g id ≡ None → is_busy table s all id ≡ true → ⊥
  not_busy all id free is =
      neither (or_cases (ltb (ends + count (may_reject_answer id) all) (of_class 1 + of_class 3)) _ is)
      (not_less (ends + count (may_reject_answer id) all) (of_class 1 + of_class 3) (omega (arith, some, any, fewer)))
      (not_less (ends + count (is_not_last id) s.incoming) (lasting_so (λ code. true)) (omega (arith, any, fewer)))
    where
      lasting_so : (Code → Bool) → ℕ
      lasting_so passes = count_lasting table id passes s.invoked

      of_class : ℕ → ℕ
      of_class class = lasting_so (has_class table class)

      ends : ℕ
      ends = count (is_last_result id) s.incoming + count (is_error id) s.incoming + count (may_reject_invoke id) s.incoming

      any : lasting_so (λ code. true)
          ≤ count (is_last_result id) s.incoming + count (is_error id) s.incoming + count (rejects_invoke id any_problem) s.incoming
      any = ended_any table s past g bounds led id (ap operation_sent_by free)

      fewer : count (rejects_invoke id any_problem) s.incoming ≤ count (may_reject_invoke id) s.incoming
      fewer =
          count_weaker (rejects_invoke id any_problem) (may_reject_invoke id) s.incoming
          (λ c is. or_left (rejects_invoke id any_problem c) _ is)

      with_any : (a b : Bool) → (a && b) ≡ true → (a && true) ≡ true
      with_any a b is = grind (arith, is)

      some : of_class 1 + of_class 3 ≤ lasting_so (λ code. true)
      some =
          codes_apart (λ code. not (expires_of table code) && has_class table 1 code)
          (λ code. not (expires_of table code) && has_class table 3 code)
          (λ code. not (expires_of table code) && true) id s.invoked
          (λ code is. with_any (not (expires_of table code)) _ is)
          (λ code is. with_any (not (expires_of table code)) _ is)
          (λ code one three. class_apart table 1 3 (λ same. let bad : 1 ≡ 3 = same in cc) code
          (and_parts (not (expires_of table code)) _ one).1 (and_parts (not (expires_of table code)) _ three).1)

  none_busy : (all own : List Component) (h k : Half) (c : Component) → send_components table g own ≡ Ok h
      → send_component table h c ≡ Ok k → invokes_busy table s all own (s.outgoing ++ own) c ≡ true → ⊥
  none_busy all own h k (Invoke id linked code parameter) was is busy =
      let step = invokes_step table h k id linked code is in
      let (unused, free) = own_free own h id was step.free in
      neither (or_cases (list_any (invokes id) own) (is_busy table s all id) busy) (both_ways _ unused)
      (not_busy all id free)
  none_busy all own h k c was is busy = cc

  -- No Invoke of a message has F10.
  pub invokes_none_busy : (components : List Component) (k : Half) → send_components table g components ≡ Ok k
      → (all : List Component) → has_component (invokes_busy table s all) [] s.outgoing components ≡ true → ⊥
  invokes_none_busy components k is all =
      none_has table g s.outgoing (invokes_busy table s all) (none_busy all) components k is

  -- ---- F11

  none_badly : (own : List Component) (h k : Half) (c : Component) → send_components table g own ≡ Ok h
      → send_component table h c ≡ Ok k → links_badly table s own (s.outgoing ++ own) c ≡ true → ⊥
  none_badly own h k (Invoke id (Some to) code parameter) was is bad =
      neither (or_cases (leb (count (invokes to) s.incoming) (count (takes to) (s.outgoing ++ own)))
      (not (list_any (invokes_where to fits) s.incoming)) bad)
      (λ taken. absurd (omega (arith, leb-true _ _ taken, left, count_both (takes to) s.outgoing own)))
      (λ unlisted. both_ways _ (not-true _ unlisted)
      (counts_any (invokes_where to fits) s.incoming (omega (arith, listed_one))))
    where
      fits : Code → Bool
      fits of = links table of code

      there : 1 ≤ count (λ (item : Invocation). fits item.code) (listed to h.inn)
      there =
          any_counts (λ (item : Invocation). fits item.code) (listed to h.inn)
          (invokes_step table h k id (Some to) code is).may

      left : 1 + count (takes to) s.outgoing + count (takes to) own ≤ count (invokes to) s.incoming
      left =
          omega (
            arith,
            there,
            count_weaker (λ (item : Invocation). fits item.code) (λ item. true) (listed to h.inn)
                (λ item passes. refl),
            spent_within table (inn_of table to) (takes to) (λ item. true) (any_takes table to) (invokes to)
                (any_brought table to) s past g h
                own bounds led was,
          )

      listed_one : 1 ≤ count (invokes_where to fits) s.incoming
      listed_one =
          omega (
            arith,
            there,
            spent_within table (inn_of table to) (λ c. false) (λ item. fits item.code)
                (none_takes table to (λ item. fits item.code)) (invokes_where to fits)
                (code_brought table to fits) s past g h own
                bounds led was,
          )
  none_badly own h k c was is bad = cc

  -- No linked Invoke of a message has F11.
  pub links_none_badly : (components : List Component) (k : Half) → send_components table g components ≡ Ok k
      → has_component (links_badly table s) [] s.outgoing components ≡ true → ⊥
  links_none_badly = none_has table g s.outgoing (links_badly table s) none_badly

  -- ---- F12

  module _ (own : List Component) (h : Half) (was : send_components table g own ≡ Ok h) (id : ℤ) where
    -- After some components of a message: the answers of a sort that were sent, and the invocations left that allow
    -- one, are at most the heard Invokes whose classes allow one.
    sent_results : count (is_last_result id) s.outgoing + count (is_last_result id) own
        + count (λ item. class_reports table true item.code) (listed id h.inn)
        ≤ count_class table id 1 s.incoming + count_class table id 3 s.incoming
    sent_results =
        omega (
          arith,
          count_reports table true id s.incoming,
          spent_within table (inn_of table id) (is_last_result id)
              (λ item. class_reports table true item.code) (result_takes table id)
              (invokes_where id (class_reports table true))
              (code_brought table id (class_reports table true)) s past g h own bounds led was,
        )

    sent_errors : count (is_error id) s.outgoing + count (is_error id) own
        + count (λ item. class_reports table false item.code) (listed id h.inn)
        ≤ count_class table id 1 s.incoming + count_class table id 2 s.incoming
    sent_errors =
        omega (
          arith,
          count_reports table false id s.incoming,
          spent_within table (inn_of table id) (is_error id)
              (λ item. class_reports table false item.code) (error_takes table id)
              (invokes_where id (class_reports table false))
              (code_brought table id (class_reports table false)) s past g h own bounds led was,
        )

    sent_answers : count (is_last_result id) s.outgoing + count (is_last_result id) own
        + count (is_error id) s.outgoing + count (is_error id) own
        + count (λ item. class_reports table true item.code || class_reports table false item.code) (listed id h.inn)
        ≤ count_class table id 1 s.incoming + count_class table id 2 s.incoming + count_class table id 3 s.incoming
    sent_answers =
        omega (
          arith,
          count_reporting table id s.incoming,
          count_answers id s.outgoing,
          count_answers id own,
          spent_within table (inn_of table id)
              (λ c. is_last_result id c || is_error id c)
              (λ item. class_reports table true item.code || class_reports table false item.code)
              (answer_takes table id)
              (invokes_where id (λ code. class_reports table true code || class_reports table false code))
              (code_brought table id (λ code. class_reports table true code || class_reports table false code)) s past g
              h own
              bounds led was,
        )

    sent_takes : count (is_last_result id) s.outgoing + count (is_last_result id) own
        + count (is_error id) s.outgoing + count (is_error id) own
        + count (rejects_invoke id any_problem) s.outgoing + count (rejects_invoke id any_problem) own
        + count (λ item. true) (listed id h.inn)
        ≤ count (invokes id) s.incoming
    sent_takes =
        omega (
          arith,
          count_takes id s.outgoing,
          count_takes id own,
          spent_within table (inn_of table id) (takes id) (λ item. true)
              (any_takes table id) (invokes id) (any_brought table id) s past g h own bounds led was,
        )

    -- So the end did not answer more than it heard, also with as many Return Results besides as there are such
    -- invocations.
    not_overspent : (besides : ℕ) → besides ≤ count (λ item. class_reports table true item.code) (listed id h.inn)
        → is_overspent table s id (s.outgoing ++ own) besides ≡ true → ⊥
    not_overspent besides fewer is =
        none_of_four (ltb (of_class 1 + of_class 3) results) (ltb (of_class 1 + of_class 2) errors)
        (ltb (of_class 1 + of_class 2 + of_class 3) (results + errors))
        (ltb (count (invokes id) s.incoming) (results + errors + rejects))
        (not_less _ _ (omega (arith, fewer, both (is_last_result id), sent_results)))
        (not_less _ _ (omega (arith, both (is_error id), sent_errors)))
        (not_less _ _ (omega (arith, fewer, both (is_last_result id), both (is_error id), sent_answers, either)))
        (not_less _ _ (omega (
          arith,
          fewer,
          both (is_last_result id),
          both (is_error id),
          both (rejects_invoke id any_problem),
          sent_takes,
          any,
        ))) is
      where
        of_class : ℕ → ℕ
        of_class class = count_class table id class s.incoming

        results : ℕ
        results = count (is_last_result id) (s.outgoing ++ own) + besides

        errors : ℕ
        errors = count (is_error id) (s.outgoing ++ own)

        rejects : ℕ
        rejects = count (rejects_invoke id any_problem) (s.outgoing ++ own)

        both : (passes : Component → Bool) → count passes (s.outgoing ++ own) ≡ count passes s.outgoing + count passes own
        both passes = count_both passes s.outgoing own

        either : count (λ item. class_reports table true item.code) (listed id h.inn)
            ≤ count (λ item. class_reports table true item.code || class_reports table false item.code)
            (listed id h.inn)
        either = count_weaker (λ (item : Invocation). class_reports table true item.code) _ (listed id h.inn)
            (λ item is. or_left _ _ is)

        any : count (λ item. class_reports table true item.code) (listed id h.inn)
            ≤ count (λ item. true) (listed id h.inn)
        any =
            count_weaker (λ (item : Invocation). class_reports table true item.code) _ (listed id h.inn)
            (λ item is. refl)

    -- A Return Result that names an operation answers an invocation of that operation.
    not_named : (body : Option ResultBody)
        → one_fits id (may_answer table true (option_map (λ b. b.code) body)) h.inn ≡ true
        → is_operation_overspent s (s.outgoing ++ own) id body ≡ true → ⊥
    not_named None fits is = cc
    not_named (Some body) fits is =
        absurd (omega (
          arith,
          leb-true _ _ is,
          there,
          count_both (is_result_of id body.code) s.outgoing own,
          spent_within table (inn_of table id) (is_result_of id body.code) (λ item. is_code body.code item.code)
              (named_takes table id body.code) (invokes_where id (is_code body.code))
              (code_brought table id (is_code body.code)) s past
              g h own bounds led was,
        ))
      where
        there : 1 ≤ count (λ item. is_code body.code item.code) (listed id h.inn)
        there =
            omega (
              arith,
              any_counts (may_answer table true (Some body.code)) (listed id h.inn) fits,
              count_weaker (may_answer table true (Some body.code)) (λ item. is_code body.code item.code)
                  (listed id h.inn)
                  (λ item may. (and_parts (class_reports table true item.code) (is_code body.code item.code) may).1),
            )

    -- What was sent answers no more than was heard.
    none_more : is_overspent table s id (s.outgoing ++ own) 0 ≡ true → ⊥
    none_more = not_overspent 0 (omega arith)

    -- A Return Result Not Last answers no more than was heard.
    none_besides : one_fits id (may_answer table true None) h.inn ≡ true
        → is_overspent table s id (s.outgoing ++ own) 1 ≡ true → ⊥
    none_besides fits =
        not_overspent 1
        (omega (
          arith,
          any_counts (may_answer table true None) (listed id h.inn) fits,
          count_weaker (may_answer table true None) (λ item. class_reports table true item.code) (listed id h.inn)
              (λ item may. (and_parts (class_reports table true item.code) true may).0),
        ))

  -- The sent component is counted with those before it.
  overspent_with : (own : List Component) (h k : Half) (c : Component) → send_components table g own ≡ Ok h
      → send_component table h c ≡ Ok k → (id : ℤ) → is_overspent table s id (s.outgoing ++ own ++ c ∷ []) 0 ≡ true → ⊥
  overspent_with own h k c was is id bad =
      none_more (own ++ c ∷ []) k (sent_more table own c g h k was is) id
      (subst (λ (list : List Component). is_overspent table s id list 0 ≡ true) (append_assoc s.outgoing own (c ∷ [])) bad)

  none_again : (own : List Component) (h k : Half) (c : Component) → send_components table g own ≡ Ok h
      → send_component table h c ≡ Ok k → answers_again table s own (s.outgoing ++ own) c ≡ true → ⊥
  none_again own h k (ReturnResult true id body) was is bad =
      let step = answers_step table h k true true id _ is in
      neither (or_cases _ (is_operation_overspent s (s.outgoing ++ own) id body) bad)
      (overspent_with own h k (ReturnResult true id body) was is id) (not_named own h was id body step.fits)
  none_again own h k (ReturnResult false id body) was is bad =
      let step = answers_step table h k true false id _ is in
      neither (or_cases _ (is_operation_overspent s (s.outgoing ++ own) id body) bad)
      (none_besides own h was id step.class) (not_named own h was id body step.fits)
  none_again own h k (ReturnError id code parameter) was is bad =
      overspent_with own h k (ReturnError id code parameter) was is id bad
  none_again own h k (Reject (Some id) (problems.Invoke n)) was is bad =
      overspent_with own h k (Reject (Some id) (problems.Invoke n)) was is id bad
  none_again own h k c was is bad = cc

  -- No component of a message has F12.
  pub answers_none_again : (components : List Component) (k : Half) → send_components table g components ≡ Ok k
      → has_component (answers_again table s) [] s.outgoing components ≡ true → ⊥
  answers_none_again = none_has table g s.outgoing (answers_again table s) none_again

  -- ---- F13

  none_wrongly : (own : List Component) (h k : Half) (c : Component) → send_components table g own ≡ Ok h
      → send_component table h c ≡ Ok k → rejects_wrongly table s own (s.outgoing ++ own) c ≡ true → ⊥
  none_wrongly own h k (Reject (Some id) (problems.Invoke n)) was is bad =
      invoke_not_wrong table s past g bounds led own h k id n was is bad
  none_wrongly own h k (Reject (Some id) (problems.ReturnResult n)) was is bad =
      answer_not_wrong table s past g bounds led own h k id n was true is bad
  none_wrongly own h k (Reject (Some id) (problems.ReturnError n)) was is bad =
      answer_not_wrong table s past g bounds led own h k id n was false is bad
  none_wrongly own h k c was is bad = cc

  -- No Reject of a message has F13.
  pub rejects_none_wrongly : (components : List Component) (k : Half) → send_components table g components ≡ Ok k
      → has_component (rejects_wrongly table s) [] s.outgoing components ≡ true → ⊥
  rejects_none_wrongly = none_has table g s.outgoing (rejects_wrongly table s) none_wrongly
