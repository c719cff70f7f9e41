-- The invocations and answers that a half received, by invoke ID: each sent component took one that allows it, and
-- the others remain (Q.774 3.2).
use Rattle.std.proofs.Common.{◌≡◌, ℤ, ◌+◌, ◌≤◌, arith, Bool, true, List, [], ◌∷◌, Ok, ℕ, Option, ap, refl, false}
use Rattle.tcap_parts.specs.declared.component.Component.{Component}
use Rattle.tcap_end.specs.declared.fault.EndFault.{EndFault}
use Rattle.tcap_end.specs.Table.{Table}
use Rattle.tcap_end.specs.Half.{Answer, Half, Invocation, listed}
use Rattle.tcap_end.specs.HiddenSteps.{without_invocation}
use Rattle.tcap_end.specs.Component.{receive_component, send_component}
use Rattle.tcap_end.specs.Message.{send_components}
use Rattle.tcap_end.proofs.AnsweringLaws.{ok_same, then_ok}
use Rattle.tcap_faults.specs.Counts.{count}
use Rattle.tcap_faults.specs.HalfByPeerId.{HalfMessages}
use Rattle.tcap_faults.proofs.story_laws.Stories.{Bounds, Happening, IsLed, got_in, sent_in, Ends, Gets, SameLists, Sends}
use Rattle.tcap_faults.proofs.story_laws.StoryLaws.{IsHalfKey, IsRisen, holds, risen, risen_sends}
use Rattle.tcap_faults.proofs.list_laws.CountLaws.{count_more, one, one_weaker}
use Rattle.tcap_faults.proofs.story_laws.ReceivedComponentLaws.{gains_inn, got_inn, gains_grants, got_grants}
use Rattle.tcap_faults.proofs.story_laws.InvokeListLaws.{TakesWhat, count_gained, count_taken, gain, Gained, Took}
use Rattle.tcap_faults.proofs.story_laws.ComponentStepLaws.{sent_inn, takes_inn, sent_grants, takes_grants}

-- ---- what is kept of an ID

-- A list that is kept of an ID, what a sent component takes from it, and what a received one adds.
pub record IsLedger (table : Table) (A : Type 0) : Type 0 where
  pub of : Half → List A
  pub takes : Component → Option (A → Bool)
  pub gains : Half → Component → Option A
  pub same : (g h : Half) → SameLists g h → of h ≡ of g
  pub start : (h : Half) → h.inn ≡ [] → h.grants ≡ [] → of h ≡ []
  pub sent : (g k : Half) (c : Component) → IsRisen g → send_component table g c ≡ Ok k → Took (takes c) (of g) (of k)
  pub got : (g : Half) (c : Component) → IsRisen g → Gained (gains g c) (of g) (of (receive_component table g c))
  pub ends : (h : Half) (id : ℤ) → of (without_invocation id h) ≡ of h

-- The received invocations of the ID.
abbrev pub inn_of : (table : Table) → ℤ → IsLedger table Invocation
inn_of table x = record {
  of = λ h. listed x h.inn;
  takes = takes_inn table x;
  gains = λ h c. gains_inn table h x c;
  same = λ g h lists. ap (listed x) lists.1;
  start = λ h inn grants. ap (listed x) inn;
  sent = λ g k c risen is. sent_inn table g k c x (risen.inn.0) is;
  got = λ g c risen. got_inn table g c x (risen.inn.0);
  ends = λ h id. refl;
}

-- The received answers of the ID.
abbrev pub grants_of : (table : Table) → ℤ → IsLedger table Answer
grants_of table x = record {
  of = λ h. listed x h.grants;
  takes = takes_grants x;
  gains = λ h c. gains_grants table h x c;
  same = λ g h lists. ap (listed x) lists.2;
  start = λ h inn grants. ap (listed x) grants;
  sent = λ g k c risen is. sent_grants table g k c x (risen.grants.0) is;
  got = λ g c risen. got_grants table g c x (risen.grants.0);
  ends = λ h id. refl;
}

-- ---- laws for both lists

-- Each component that is counted takes an invocation of the ID that passes.
abbrev pub IsTaking : Table → ℤ → (Component → Bool) → (Invocation → Bool) → Type 0
IsTaking table x spends passes = (c : Component) → spends c ≡ true → TakesWhat (takes_inn table x c) passes

-- Each kept invocation of the ID that passes was brought by a component that is counted.
abbrev pub IsBrought : Table → ℤ → (Invocation → Bool) → (Component → Bool) → Type 0
IsBrought table x passes brings =
    (h : Half) (c : Component) → gain passes (gains_inn table h x c) ≡ true → brings c ≡ true

module _ {A : Type 0} (table : Table) (kept : IsLedger table A) (spends : Component → Bool) (passes : A → Bool)
    (taking : (c : Component) → spends c ≡ true → TakesWhat (kept.takes c) passes) where
  sent_spends : (g k : Half) (c : Component) → IsRisen g → send_component table g c ≡ Ok k
      → one (spends c) + count passes (kept.of k) ≤ count passes (kept.of g)
  sent_spends g k c risen is =
      count_taken (kept.takes c) passes (spends c) (kept.of g) (kept.of k) (kept.sent g k c risen is) (taking c)

  got_gains : (g : Half) (c : Component) → IsRisen g
      → count passes (kept.of (receive_component table g c))
      ≡ count passes (kept.of g) + one (gain passes (kept.gains g c))
  got_gains g c risen =
      count_gained (kept.gains g c) passes (kept.of g) (kept.of (receive_component table g c)) (kept.got g c risen)

  -- The components of a message take one element each.
  pub spent_along : (own : List Component) (g h : Half) → IsRisen g → send_components table g own ≡ Ok h
      → count spends own + count passes (kept.of h) ≤ count passes (kept.of g)
  spent_along [] g h risen is = let same = ok_same {F = EndFault} g h is in rw same (omega arith)
  spent_along (c ∷ more) g h risen is =
      let (next, first, rest) = then_ok (send_component table g c) (λ next. send_components table next more) h is in
      let later = spent_along more next h (risen_sends table g next c first risen) rest in
      omega (arith, sent_spends g next c risen first, later, count_more spends c more)

  -- The components that were sent and take one, and the elements that are left, are at most a number that grows with
  -- each that is added.
  module _ (most : List Happening → ℕ) (most_sent : (past : List Happening) (c : Component) → most past ≤ most (Sends c ∷ past))
      (most_got : (past : List Happening) (g : Half) (c : Component) → IsLed table past g
      → most past + one (gain passes (kept.gains g c)) ≤ most (Gets c ∷ past))
      (most_ended : (past : List Happening) (id : ℤ) → most past ≤ most (Ends id ∷ past)) where
    abbrev AreSpent : List Happening → Half → Type 0
    AreSpent past h = count spends (sent_in past) + count passes (kept.of h) ≤ most past

    are_spent : IsHalfKey table AreSpent
    are_spent = record {
      same = λ past g h lists was. rw (kept.same g h lists) was;
      start = λ h out inn grants. rw (kept.start h inn grants) (omega arith);
      sends = λ past g k c led risen is was.
          omega (arith, was, sent_spends g k c risen is, count_more spends c (sent_in past), most_sent past c);
      gets = λ past g c led risen was. omega (arith, was, got_gains g c risen, most_got past g c led);
      ends = λ past g id led risen may was. rw (kept.ends g id) (omega (arith, was, most_ended past id));
    }

    pub spent_most : (past : List Happening) (h : Half) → IsLed table past h
        → count spends (sent_in past) + count passes (kept.of h) ≤ most past
    spent_most = holds table AreSpent are_spent

  -- They are at most the received components that bring one.
  module _ (brings : Component → Bool)
      (brought : (h : Half) (c : Component) → gain passes (kept.gains h c) ≡ true → brings c ≡ true) where
    pub spent : (past : List Happening) (h : Half) → IsLed table past h
        → count spends (sent_in past) + count passes (kept.of h) ≤ count brings (got_in past)
    spent =
        spent_most (λ past. count brings (got_in past)) (λ past c. omega arith)
        (λ past g c led. omega (
          arith,
          count_more brings c (got_in past),
          one_weaker (gain passes (kept.gains g c)) (brings c) (brought g c),
        )) (λ past id. omega arith)

    -- This holds after some components of a message, by what is known about the half.
    pub spent_within : (s : HalfMessages) (past : List Happening) (g h : Half) (own : List Component)
        → Bounds s (sent_in past) (got_in past) → IsLed table past g → send_components table g own ≡ Ok h
        → count spends s.outgoing + count spends own + count passes (kept.of h) ≤ count brings s.incoming
    spent_within s past g h own bounds led is =
        omega (
          arith,
          spent past g led,
          spent_along own g h (risen table past g led) is,
          bounds.outgoing spends,
          bounds.incoming brings,
        )

  -- If an element is there, what each added element shows holds, if it remains true.
  module _ (shown : List Happening → ℕ) (shown_sent : (past : List Happening) (c : Component) → shown past ≤ shown (Sends c ∷ past))
      (shown_got : (past : List Happening) (c : Component) → shown past ≤ shown (Gets c ∷ past))
      (shown_ended : (past : List Happening) (id : ℤ) → shown past ≤ shown (Ends id ∷ past))
      (adds : (past : List Happening) (g : Half) (c : Component) → IsLed table past g
      → gain passes (kept.gains g c) ≡ true → 1 ≤ shown (Gets c ∷ past)) where
    abbrev AreShown : List Happening → Half → Type 0
    AreShown past h = 1 ≤ count passes (kept.of h) → 1 ≤ shown past

    shown_gets : (past : List Happening) (g : Half) (c : Component) → IsLed table past g → IsRisen g → AreShown past g
        → AreShown (Gets c ∷ past) (receive_component table g c)
    shown_gets past g c led risen was some = by (gain passes (kept.gains g c)) refl
      where
        by : (b : Bool) → gain passes (kept.gains g c) ≡ b → 1 ≤ shown (Gets c ∷ past)
        by true is = adds past g c led is
        by false is = omega (arith, was (omega (arith, some, got_gains g c risen, ap one is)), shown_got past c)

    are_shown : IsHalfKey table AreShown
    are_shown = record {
      same = λ past g h lists was. rw (kept.same g h lists) was;
      start = λ h out inn grants. rw (kept.start h inn grants) (λ some. absurd (omega (arith, some)));
      sends = λ past g k c led risen is was some.
          omega (arith, was (omega (arith, some, sent_spends g k c risen is)), shown_sent past c);
      gets = shown_gets;
      ends = λ past g id led risen may was.
          rw (kept.ends g id) (λ some. omega (arith, was some, shown_ended past id));
    }

    pub spent_shown : (past : List Happening) (h : Half) → IsLed table past h → 1 ≤ count passes (kept.of h)
        → 1 ≤ shown past
    spent_shown = holds table AreShown are_shown
