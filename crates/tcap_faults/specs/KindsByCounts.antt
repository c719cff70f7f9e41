-- Which components does a half not allow (`ComponentKinds`), computed from counts?
use Rattle.std.specs.Prelude.{ℕ, ℤ, Bool, true, false, map, Option, Some, None, ◌==◌, ◌&&◌, ◌||◌, not, nat_lt, nat_le, cond}
use Rattle.tcap_parts.specs.declared.code.Code.{Code}
use Rattle.tcap_parts.specs.declared.component.ResultBody.{ResultBody}
use Rattle.tcap_parts.specs.declared.component.Component.{Component}
use Rattle.tcap_parts.specs.declared.component.Component.TheVariants.{Invoke, ReturnResult, ReturnError, Reject}
use Rattle.tcap_parts.specs.declared.problem.Problem.TheVariants as problems
use Rattle.tcap_end.specs.Component.{links}
use Rattle.tcap_end.specs.Table.{Table}
use Rattle.tcap_faults.specs.Components.{is_of_link, lists_nothing}
use Rattle.tcap_faults.specs.declared.component.component_sort.Class.{Class}
use Rattle.tcap_faults.specs.declared.component.component_sort.Class.TheVariants as classes
use Rattle.tcap_faults.specs.declared.component.component_sort.Sort.{Sort}
use Rattle.tcap_faults.specs.declared.component.component_sort.Sort.TheVariants as sorts
use Rattle.tcap_faults.specs.declared.component.preceding_components.PrecedingComponents.{PrecedingComponents}
use Rattle.tcap_faults.specs.declared.dialogue.half.Half.{Half}
use Rattle.tcap_faults.specs.declared.component.tally.Tally.{Tally}
use Rattle.tcap_faults.specs.InvokeCounts.{Tallied, both_tallied, sum}
use Rattle.tcap_faults.specs.TallyMeaning.{tallies_of, tally_of}
use Rattle.tcap_faults.specs.LinkProblems.{is_of_none}

-- The counts before a component.
pub record Counted : Type 0 where
  -- The components that the half heard.
  pub incoming : Tallied
  -- The components that contain its own invocations.
  pub invoked : Tallied
  -- The components that it sent, and those of this message before this component.
  pub outgoing : Tallied
  -- The components of this message before this component.
  pub own : Tallied
  -- The components that it sent, and all Rejects of this message.
  pub all_outgoing : Tallied

-- The counts from a half, a tally of the message's components before this one, and a tally of its Rejects.
abbrev pub counted_by : Half → Tally → Tally → Counted
counted_by half own rejects = record {
  incoming = tallies_of (map (λ b. b.now) half.incoming.items);
  invoked = tallies_of (map (λ b. b.now) half.invoked.items);
  outgoing = both_tallied (tallies_of (map (λ b. b.now) half.outgoing.items)) (tally_of own);
  own = tally_of own;
  all_outgoing = both_tallied (tallies_of (map (λ b. b.now) half.outgoing.items)) (tally_of rejects);
}

-- The counts before a component, from what is kept.
abbrev pub counted : PrecedingComponents → Counted
counted before = counted_by before.half.now before.own.now before.rejects.now

-- The number of Invokes with this ID that are of this class, or of any.
abbrev pub invokes_in : Tallied → ℤ → Class → ℕ
invokes_in of id class = of.count id (sorts.Invokes class)

-- ---- F10: an invoke ID that is in use

-- The number of heard components that can have ended an invocation.
abbrev pub ends_by : Tallied → ℤ → ℕ
ends_by incoming id =
    sum (sum (sum (incoming.count id sorts.LastResults) (incoming.count id sorts.Errors))
    (incoming.count id sorts.InvokeRejects))
    (incoming.count id sorts.GeneralRejects)

-- Whether some lasting invocations are left. Those of class 1 and 3 can have ended by `ends` or by own Rejects with a
-- result or a general problem. Those of any class can have ended by `ends` or by answers that are not the last.
abbrev pub more_last_by : ℕ → ℕ → ℕ → ℕ → ℕ → ℕ → ℕ → Bool
more_last_by all of_1 of_3 ends results generals not_lasts =
    nat_lt (sum (sum ends results) generals) (sum of_1 of_3) || nat_lt (sum ends not_lasts) all

-- Whether some own invocations of the ID do not expire and cannot all have ended.
abbrev pub is_busy_by : Counted → ℤ → Bool
is_busy_by by id =
    not (lasting classes.Any == 0)
    && more_last_by (lasting classes.Any) (lasting classes.One) (lasting classes.Three) (ends_by by.incoming id)
    (by.all_outgoing.count id sorts.ResultRejects) (by.all_outgoing.count id sorts.GeneralRejects)
    (by.incoming.count id sorts.NotLasts)
  where
    lasting : Class → ℕ
    lasting class = by.invoked.count id (sorts.Lasting class)

-- F10: An Invoke has the ID of an Invoke before it in the message, or an ID that is in use.
abbrev pub invokes_busy_by : Counted → Component → Bool
invokes_busy_by by (Invoke id linked code parameter) =
    nat_lt 0 (invokes_in by.own id classes.Any) || is_busy_by by id
invokes_busy_by by _ = false

-- ---- F11: a linked ID without an invocation

-- The number of invocations of an ID that were taken.
abbrev pub taken_by : Tallied → ℤ → ℕ
taken_by outgoing id =
    sum (sum (outgoing.count id sorts.LastResults) (outgoing.count id sorts.Errors))
    (outgoing.count id sorts.InvokeRejects)

-- Whether at least as many invocations of the linked ID were taken as were heard, or none that was heard has an
-- operation that lists this one.
abbrev pub is_badly_linked_by : Table → Counted → ℤ → Code → Bool
is_badly_linked_by table by id code =
    nat_le (invokes_in by.incoming id classes.Any) (taken_by by.outgoing id)
    || not (by.incoming.has_operation id (λ to. links table to code))

-- F11: An Invoke is linked to an ID that does not allow it.
abbrev pub links_badly_by : Table → Counted → Component → Bool
links_badly_by table by (Invoke id (Some linked) code parameter) = is_badly_linked_by table by linked code
links_badly_by table by _ = false

-- ---- F12: an invocation that was answered already

-- Whether this many Return Results, Return Errors and Rejects answer more than the heard Invokes of the ID allow.
abbrev pub more_answered_by : Tallied → ℤ → ℕ → ℕ → ℕ → Bool
more_answered_by incoming id results errors rejects =
    nat_lt (sum of_1 of_3) results || nat_lt (sum of_1 of_2) errors
    || nat_lt (sum (sum of_1 of_2) of_3) (sum results errors)
    || nat_lt (invokes_in incoming id classes.Any) (sum (sum results errors) rejects)
  where
    of_1 : ℕ
    of_1 = invokes_in incoming id classes.One

    of_2 : ℕ
    of_2 = invokes_in incoming id classes.Two

    of_3 : ℕ
    of_3 = invokes_in incoming id classes.Three

-- Whether more is answered than was heard, with this many Return Results, Return Errors and Rejects besides those that
-- were sent.
abbrev pub is_overspent_by : Counted → ℤ → ℕ → ℕ → ℕ → Bool
is_overspent_by by id results errors rejects =
    more_answered_by by.incoming id (sum (by.outgoing.count id sorts.LastResults) results)
    (sum (by.outgoing.count id sorts.Errors) errors) (sum (by.outgoing.count id sorts.InvokeRejects) rejects)

-- Whether at least as many Return Results Last that name the operation were sent as Invokes of it were heard.
abbrev pub is_operation_overspent_by : Counted → ℤ → Option ResultBody → Bool
is_operation_overspent_by by id None = false
is_operation_overspent_by by id (Some body) =
    nat_le (by.incoming.invokes_of id body.code) (by.outgoing.results_of id body.code)

-- F12: With this component, more is answered than was heard.
abbrev pub answers_again_by : Counted → Component → Bool
answers_again_by by (ReturnResult last id body) = is_overspent_by by id 1 0 0 || is_operation_overspent_by by id body
answers_again_by by (ReturnError id code parameter) = is_overspent_by by id 0 1 0
answers_again_by by (Reject (Some id) (problems.Invoke n)) = is_overspent_by by id 0 0 1
answers_again_by by _ = false

-- ---- F13: a Reject that nothing heard allows

-- Whether the problem is 6 or 7, and no link has it.
abbrev pub is_link_fine_by : Table → Counted → ℤ → ℕ → Bool
is_link_fine_by table by id problem =
    (problem == 6 && not (is_linked_by (λ to code. lists_nothing table to)))
    || (problem == 7 && not (is_linked_by (λ to code. not (lists_nothing table to) && not (links table to code))))
  where
    is_linked_by : (Code → Code → Bool) → Bool
    is_linked_by passes =
        by.incoming.has_link id (λ linked code. by.invoked.has_operation linked (λ to. passes to code))

-- Whether a Reject of an Invoke, with this problem, is wrong.
abbrev pub is_invoke_reject_wrong_by : Table → Counted → ℤ → ℕ → Bool
is_invoke_reject_wrong_by table by id problem =
    (problem == 0 && nat_le (invokes_in by.incoming id classes.Any)
    (sum (by.outgoing.count id sorts.DuplicateRejects) 1))
    || (is_of_link problem && nat_lt (by.incoming.count id sorts.Linked)
    (sum (by.outgoing.count id sorts.LinkRejects) 1))
    || is_link_fine_by table by id problem
    || nat_lt 7 problem

-- The sort of Rejects of Return Results (if `true`), or of Return Errors.
abbrev pub rejects_of : Bool → Sort
rejects_of true = sorts.ResultRejects
rejects_of false = sorts.ErrorRejects

-- The sort of Return Results (if `true`), or of Return Errors.
abbrev pub answers_of : Bool → Sort
answers_of true = sorts.Results
answers_of false = sorts.Errors

-- The number of own invocations of an ID whose class allows a Return Result (if `true`), or a Return Error.
abbrev pub suited_by : Bool → Tallied → ℤ → ℕ
suited_by true invoked id = sum (invokes_in invoked id classes.One) (invokes_in invoked id classes.Three)
suited_by false invoked id = sum (invokes_in invoked id classes.One) (invokes_in invoked id classes.Two)

-- Whether no Return Result (if `of_result`), or Return Error, with the ID can be unexpected: the class of each own
-- invocation allows it, fewer than two answers were heard, and none names an operation that no own invocation has.
abbrev pub is_expected_by : Counted → Bool → ℤ → Bool
is_expected_by by of_result id =
    (suited_by of_result by.invoked id == invokes_in by.invoked id classes.Any)
    && nat_lt (sum (by.incoming.count id sorts.Results) (by.incoming.count id sorts.Errors)) 2
    && not (by.incoming.has_result id (is_of_none by.invoked id))

-- Whether the own invocations of the ID rule out this problem for each Return Result (if `of_result`), or Return Error.
abbrev pub is_known_wrong_by : Counted → Bool → ℤ → ℕ → Bool
is_known_wrong_by by of_result id problem =
    (problem == 1 && is_expected_by by of_result id)
    || (nat_le 2 problem && (suited_by of_result by.invoked id == 0))

-- Whether a Reject of an answer, with this problem, is wrong.
abbrev pub is_answer_reject_wrong_by : Counted → Bool → ℤ → ℕ → Bool
is_answer_reject_wrong_by by of_result id problem =
    nat_lt (by.incoming.count id (answers_of of_result)) (sum (by.outgoing.count id (rejects_of of_result)) 1)
    || nat_lt (cond of_result 2 4) problem
    || is_known_wrong_by by of_result id problem

-- F13: A Reject with an invoke ID is wrong.
abbrev pub rejects_wrongly_by : Table → Counted → Component → Bool
rejects_wrongly_by table by (Reject (Some id) (problems.Invoke n)) = is_invoke_reject_wrong_by table by id n
rejects_wrongly_by table by (Reject (Some id) (problems.ReturnResult n)) = is_answer_reject_wrong_by by true id n
rejects_wrongly_by table by (Reject (Some id) (problems.ReturnError n)) = is_answer_reject_wrong_by by false id n
rejects_wrongly_by table by _ = false
