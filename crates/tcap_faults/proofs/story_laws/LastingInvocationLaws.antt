-- Own invocations that do not expire: each was ended by what was received, except one in Operation Sent (Q.774 3.2,
-- Q.771 3.1).
use Rattle.std.proofs.Common.{◌≡◌, ℤ, ◌+◌, ◌≤◌, arith, Bool, true, false, List, Some, None, not, refl, ap}
use Rattle.std.specs.Prelude.{◌&&◌, ◌||◌}
use Rattle.std.proofs.lemmas.Bool.{and_from, and_parts, not-true, or_left}
use Rattle.tcap_parts.specs.declared.code.Code.{Code}
use Rattle.tcap_parts.specs.declared.problem.Problem.TheVariants as problems
use Rattle.tcap_parts.specs.declared.component.Component.{Component}
use Rattle.tcap_parts.specs.declared.component.Component.TheVariants.{ReturnResult, ReturnError, Reject}
use Rattle.tcap_end.specs.Table.{Table, expires_of}
use Rattle.tcap_end.specs.Half.{Half}
use Rattle.tcap_end.specs.Component.{operation_sent}
use Rattle.tcap_refute.specs.EarlierMessages.{is_invoke_id}
use Rattle.tcap_faults.specs.Counts.{any_problem, count, count_lasting, invokes_where, is_error, is_last_result, rejects_invoke, takes}
use Rattle.tcap_faults.specs.HalfByPeerId.{HalfMessages}
use Rattle.tcap_faults.proofs.story_laws.Stories.{Bounds, Happening, IsLed, got_in, sent_in}
use Rattle.tcap_faults.proofs.story_laws.AnsweredLaws.{count_takes_all}
use Rattle.tcap_faults.proofs.list_laws.CountLaws.{one}
use Rattle.tcap_faults.proofs.story_laws.ReceivedComponentLaws.{ends_by}
use Rattle.tcap_faults.proofs.story_laws.OwnInvocationLaws.{is_sent_so, sent_ended}

-- A component that ends an own invocation takes one.
ends_takes : (table : Table) (x : ℤ) (c : Component) (code : Code) → ends_by table x c code ≡ true → takes x c ≡ true
ends_takes table x (ReturnResult last id body) code is =
    or_left (is_last_result x (ReturnResult last id body) || false) false
    (or_left (is_last_result x (ReturnResult last id body)) false (and_parts (last && is_invoke_id x id) _ is).0)
ends_takes table x (ReturnError id error parameter) code is =
    or_left (is_invoke_id x id) false (and_parts (is_invoke_id x id) _ is).0
ends_takes table x (Reject (Some id) (problems.Invoke n)) code is = and_from (is_invoke_id x id) true is refl
ends_takes table x c code is = cc

-- If the ID has nothing in Operation Sent, at most as many lasting Invokes were sent as heard components take.
pub ended_any : (table : Table) (s : HalfMessages) (past : List Happening) (g : Half) → Bounds s (sent_in past) (got_in past)
    → IsLed table past g → (x : ℤ) → operation_sent g x ≡ None
    → count_lasting table x (λ code. true) s.invoked
    ≤ count (is_last_result x) s.incoming + count (is_error x) s.incoming + count (rejects_invoke x any_problem) s.incoming
ended_any table s past g bounds led x none =
    omega (
      arith,
      sent_ended table lasts (takes x) x not_expires (λ c code ends is. ends_takes table x c code ends) past g led,
      bounds.invoked (invokes_where x lasts),
      bounds.incoming (takes x),
      ap one free,
      count_takes_all x s.incoming,
    )
  where
    lasts : Code → Bool
    lasts code = not (expires_of table code) && true

    not_expires : (code : Code) → lasts code ≡ true → expires_of table code ≡ false
    not_expires code is = not-true (expires_of table code) (and_parts (not (expires_of table code)) true is).0

    free : is_sent_so lasts g x ≡ false
    free = rw none refl
