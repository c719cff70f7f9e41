-- A half's own invocations: what it sent, what ended it, and what is in Operation Sent (Q.774 3.2).
use Rattle.std.proofs.Common.{◌≡◌, ℤ, ◌+◌, ◌≤◌, arith, Bool, true, false, cond, List, [], ◌∷◌, Option, Some, None, Ok, is_some, refl, sym, ◌∙◌}
use Rattle.std.specs.Prelude.{◌&&◌}
use Rattle.tcap_parts.specs.declared.code.Code.{Code}
use Rattle.tcap_parts.specs.declared.component.Component.{Component}
use Rattle.tcap_parts.specs.declared.component.Component.TheVariants.{Invoke}
use Rattle.tcap_end.specs.declared.fault.EndFault.{EndFault}
use Rattle.tcap_end.specs.declared.half.InvocationState.{InvocationState}
use Rattle.tcap_end.specs.declared.half.InvocationState.TheVariants as states
use Rattle.tcap_end.specs.declared.own_invocations.OwnInvocation.{OwnInvocation}
use Rattle.tcap_end.specs.Table.{Table, expires_of}
use Rattle.tcap_end.specs.Half.{Half}
use Rattle.tcap_end.specs.Component.{operation_sent, operation_sent_by, own_invocation, send_component}
use Rattle.tcap_end.specs.HiddenSteps.{may_expire}
use Rattle.tcap_end.specs.Message.{send_components}
use Rattle.tcap_end.proofs.AnsweringLaws.{ok_same, then_ok}
use Rattle.tcap_refute.specs.EarlierMessages.{invokes, is_invoke_id}
use Rattle.tcap_faults.specs.Counts.{count, invokes_where}
use Rattle.tcap_faults.proofs.story_laws.Stories.{Happening, IsLed, SameLists, got_in, sent_in}
use Rattle.tcap_faults.proofs.story_laws.StoryLaws.{IsHalfKey, holds}
use Rattle.tcap_faults.proofs.list_laws.CountLaws.{count_more, one, one_weaker}
use Rattle.tcap_faults.proofs.story_laws.ReceivedComponentLaws.{ends_by, got_out, stays, without_out}
use Rattle.tcap_faults.proofs.story_laws.InvokeListLaws.{id_same}
use Rattle.tcap_faults.proofs.story_laws.ComponentStepLaws.{Began, invoked_by, sent_out}

-- ---- Operation Sent

-- Whether an operation is there, and passes a test.
abbrev pub sent_so : (Code → Bool) → Option Code → Bool
sent_so passes None = false
sent_so passes (Some code) = passes code

-- Whether an own invocation of this ID is in Operation Sent, and its operation passes.
abbrev pub is_sent_so : (Code → Bool) → Half → ℤ → Bool
is_sent_so passes h x = sent_so passes (operation_sent h x)

pub sent_same : (passes : Code → Bool) (x : ℤ) (g h : Half) → SameLists g h
    → is_sent_so passes h x ≡ is_sent_so passes g x
sent_same passes x g h same = rw (same.0) refl

pub sent_none : (passes : Code → Bool) (x : ℤ) (h : Half) → h.out ≡ [] → is_sent_so passes h x ≡ false
sent_none passes x h none = rw none refl

-- An Invoke that is sent puts its ID in Operation Sent, if the ID was free.
began_so : (passes : Code → Bool) (x : ℤ) (c : Component) (was now : Option OwnInvocation)
    → Began (invoked_by x c) was now
    → one (invokes_where x passes c) + one (sent_so passes (operation_sent_by was))
    ≡ one (sent_so passes (operation_sent_by now))
began_so passes x (Invoke id linked code parameter) was now began = grind (arith, began)
began_so passes x c was now began = rw began (omega arith)

pub sent_began : (table : Table) (passes : Code → Bool) (x : ℤ) (g k : Half) (c : Component)
    → send_component table g c ≡ Ok k
    → one (invokes_where x passes c) + one (is_sent_so passes g x) ≡ one (is_sent_so passes k x)
sent_began table passes x g k c is =
    began_so passes x c (own_invocation g x) (own_invocation k x) (sent_out table g k c x is)

-- An ended invocation leaves Operation Sent.
pub stays_fewer : (passes ends : Code → Bool) (o : Option Code)
    → one (sent_so passes (stays ends o)) ≤ one (sent_so passes o)
stays_fewer passes ends None = omega arith
stays_fewer passes ends (Some code) = grind arith

-- An invocation that left Operation Sent was ended by a component that shows it.
stays_ended : (passes ends : Code → Bool) (shown : Bool) (o : Option Code)
    → ((code : Code) → ends code ≡ true → o ≡ Some code → passes code ≡ true → shown ≡ true)
    → one (sent_so passes o) ≤ one shown + one (sent_so passes (stays ends o))
stays_ended passes ends shown None shows = omega arith
stays_ended passes ends shown (Some code) shows = by (ends code) refl
  where
    by : (b : Bool) → ends code ≡ b
        → one (passes code) ≤ one shown + one (sent_so passes (cond b None (Some code)))
    by true is = let less = one_weaker (passes code) shown (shows code is refl) in omega (arith, less)
    by false is = omega arith

-- ---- an invocation in Operation Sent was sent

abbrev AreInvoked : (Code → Bool) → ℤ → List Happening → Half → Type 0
AreInvoked passes x past h = one (is_sent_so passes h x) ≤ count (invokes_where x passes) (sent_in past)

are_invoked : (table : Table) (passes : Code → Bool) (x : ℤ) → IsHalfKey table (AreInvoked passes x)
are_invoked table passes x = record {
  same = λ past g h lists was. rw (sent_same passes x g h lists) was;
  start = λ h out inn grants. rw (sent_none passes x h out) (omega arith);
  sends = λ past g k c led risen is was.
      omega (arith, was, sent_began table passes x g k c is, count_more (invokes_where x passes) c (sent_in past));
  gets = λ past g c led risen was.
      rw (got_out table g c x risen.out)
      (let fewer = stays_fewer passes (ends_by table x c) (operation_sent g x) in omega (arith, was, fewer));
  ends = λ past g id led risen may was.
      rw (without_out g id x risen.out)
      (let fewer = stays_fewer passes (λ code. is_invoke_id x id) (operation_sent g x) in omega (arith, was, fewer));
}

pub sent_invoked : (table : Table) (passes : Code → Bool) (x : ℤ) (past : List Happening) (h : Half)
    → IsLed table past h → one (is_sent_so passes h x) ≤ count (invokes_where x passes) (sent_in past)
sent_invoked table passes x = holds table (AreInvoked passes x) (are_invoked table passes x)

-- ---- an invocation that is not in Operation Sent was ended

-- An invocation that expires in Operation Sent has an operation that expires.
expires_sent : (table : Table) (o : Option OwnInvocation) (code : Code) → operation_sent_by o ≡ Some code
    → may_expire table o ≡ true → expires_of table code ≡ true
expires_sent table None code is may = cc
expires_sent table (Some own) code is may = grind (arith, is, may)

-- Operations that do not expire, if received components show each of their ends.
module _ (table : Table) (passes : Code → Bool) (shows : Component → Bool) (x : ℤ)
    (lasts : (code : Code) → passes code ≡ true → expires_of table code ≡ false)
    (shown : (c : Component) (code : Code) → ends_by table x c code ≡ true → passes code ≡ true → shows c ≡ true) where
  abbrev AreEnded : List Happening → Half → Type 0
  AreEnded past h =
      count (invokes_where x passes) (sent_in past) ≤ count shows (got_in past) + one (is_sent_so passes h x)

  none_ends : (g : Half) (id : ℤ) → may_expire table (own_invocation g id) ≡ true → (code : Code)
      → is_invoke_id x id ≡ true → operation_sent g x ≡ Some code → passes code ≡ true → false ≡ true
  none_ends g id may code here is pass =
      let there : operation_sent_by (own_invocation g id) ≡ Some code = rw (id_same x id here) at is in
      sym (lasts code pass) ∙ expires_sent table (own_invocation g id) code there may

  are_ended : IsHalfKey table AreEnded
  are_ended = record {
    same = λ past g h lists was. rw (sent_same passes x g h lists) was;
    start = λ h out inn grants. omega arith;
    sends = λ past g k c led risen is was.
        omega (arith, was, sent_began table passes x g k c is, count_more (invokes_where x passes) c (sent_in past));
    gets = λ past g c led risen was.
        rw (got_out table g c x risen.out)
        (let ended = stays_ended passes (ends_by table x c) (shows c) (operation_sent g x)
        (λ code ends is pass. shown c code ends pass) in
        omega (arith, was, ended, count_more shows c (got_in past)));
    ends = λ past g id led risen may was.
        rw (without_out g id x risen.out)
        (let ended = stays_ended passes (λ code. is_invoke_id x id) false (operation_sent g x)
        (none_ends g id may) in omega (arith, was, ended));
  }

  pub sent_ended : (past : List Happening) (h : Half) → IsLed table past h
      → count (invokes_where x passes) (sent_in past) ≤ count shows (got_in past) + one (is_sent_so passes h x)
  sent_ended = holds table AreEnded are_ended

-- ---- along the components of a message

began_any : (x : ℤ) (c : Component) (was now : Option OwnInvocation) → Began (invoked_by x c) was now
    → one (invokes x c) + one (is_some was) ≡ one (is_some now)
began_any x (Invoke id linked code parameter) was now began = grind (arith, began)
began_any x c was now began = rw began (omega arith)

-- An ID that a message invokes was free before, and is not free after.
pub invoked_along : (table : Table) (x : ℤ) (own : List Component) (g h : Half) → send_components table g own ≡ Ok h
    → count (invokes x) own + one (is_some (own_invocation g x)) ≡ one (is_some (own_invocation h x))
invoked_along table x [] g h is = let same = ok_same {F = EndFault} g h is in rw (same) (omega arith)
invoked_along table x (c ∷ more) g h is =
    let (next, first, rest) = then_ok (send_component table g c) (λ next. send_components table next more) h is in
    omega (
      arith,
      began_any x c (own_invocation g x) (own_invocation next x) (sent_out table g next c x first),
      invoked_along table x more next h rest,
      count_more (invokes x) c more,
    )
