-- Induction over what happened to a half: what each happening keeps holds after all of them.
use Rattle.std.proofs.Common.{◌≡◌, ℤ, true, List, [], ◌∷◌, Ok, refl}
use Rattle.std.specs.List.Sorted.{IsStrictlySortedBy}
use Rattle.std.specs.BTreeMap.{is_at}
use Rattle.std.specs.Ordering.{int_cmp}
use Rattle.tcap_parts.specs.declared.component.Component.{Component}
use Rattle.tcap_end.specs.Table.{Table}
use Rattle.tcap_end.specs.Half.{Half}
use Rattle.tcap_end.specs.Component.{own_invocation, receive_component, send_component}
use Rattle.tcap_end.specs.HiddenSteps.{may_expire, without_invocation}
use Rattle.tcap_end.specs.ReachableEnd.{Rises}
use Rattle.tcap_end.proofs.ComponentLaws.{all_receives, all_sends}
use Rattle.tcap_end.proofs.HalfLaws.{Follows, IsListed}
use Rattle.tcap_end.proofs.MapLaws.{rises_removed}
use Rattle.tcap_faults.proofs.story_laws.Stories.{Ends, Gets, Happening, IsLed, SameLists, Sends}

-- ---- the order of invoke IDs

-- The half's own invocations, and its received invocations and answers, are in the order of their IDs.
pub record IsRisen (h : Half) : Type 0 where
  pub out : Rises int_cmp h.out
  pub inn : IsListed h.inn
  pub grants : IsListed h.grants

risen_follows : (h g : Half) → Follows h g → IsRisen h → IsRisen g
risen_follows h g follows risen =
    record { out = follows.out risen.out; inn = follows.inn risen.inn; grants = follows.grants risen.grants }

risen_same : (g h : Half) → SameLists g h → IsRisen g → IsRisen h
risen_same g h same risen =
    record { out = rw (same.0) (risen.out); inn = rw (same.1) (risen.inn); grants = rw (same.2) (risen.grants) }

pub risen_sends : (table : Table) (h g : Half) (c : Component) → send_component table h c ≡ Ok g → IsRisen h → IsRisen g
risen_sends table h g c is risen = risen_follows h g ((all_sends table (c ∷ []) h g (rw is refl)).follows) risen

risen_gets : (table : Table) (h : Half) (c : Component) → IsRisen h → IsRisen (receive_component table h c)
risen_gets table h c risen =
    risen_follows h (receive_component table h c) ((all_receives table (c ∷ []) h).follows) risen

risen_ends : (h : Half) (id : ℤ) → IsRisen h → IsRisen (without_invocation id h)
risen_ends h id risen =
    record { out = rises_removed int_cmp (is_at (int_cmp id)) h.out risen.out; inn = risen.inn; grants = risen.grants }

risen_start : (h : Half) → h.out ≡ [] → h.inn ≡ [] → h.grants ≡ [] → IsRisen h
unfolding IsStrictlySortedBy
risen_start h out inn grants = record { out = rw out tt; inn = rw inn (tt, tt); grants = rw grants (tt, tt) }

pub risen : (table : Table) (past : List Happening) (h : Half) → IsLed table past h → IsRisen h
risen table [] h (out, inn, grants) = risen_start h out inn grants
risen table (Sends c ∷ past) h (g, k, led, is, same) =
    risen_same k h same (risen_sends table g k c is (risen table past g led))
risen table (Gets c ∷ past) h (g, led, same) =
    risen_same (receive_component table g c) h same (risen_gets table g c (risen table past g led))
risen table (Ends id ∷ past) h (g, led, may, same) =
    risen_same (without_invocation id g) h same (risen_ends g id (risen table past g led))

-- ---- what each happening keeps

-- `P` depends on the invocations and answers alone. It holds for a half without any, and each happening keeps it.
pub record IsHalfKey (table : Table) (P : List Happening → Half → Type 0) : Type 0 where
  pub same : (past : List Happening) (g h : Half) → SameLists g h → P past g → P past h
  pub start : (h : Half) → h.out ≡ [] → h.inn ≡ [] → h.grants ≡ [] → P [] h
  pub sends : (past : List Happening) (g k : Half) (c : Component) → IsLed table past g → IsRisen g
      → send_component table g c ≡ Ok k → P past g → P (Sends c ∷ past) k
  pub gets : (past : List Happening) (g : Half) (c : Component) → IsLed table past g → IsRisen g → P past g
      → P (Gets c ∷ past) (receive_component table g c)
  pub ends : (past : List Happening) (g : Half) (id : ℤ) → IsLed table past g → IsRisen g
      → may_expire table (own_invocation g id) ≡ true → P past g → P (Ends id ∷ past) (without_invocation id g)

pub holds : (table : Table) (P : List Happening → Half → Type 0) → IsHalfKey table P → (past : List Happening) (h : Half)
    → IsLed table past h → P past h
holds table P kept [] h (out, inn, grants) = kept.start h out inn grants
holds table P kept (Sends c ∷ past) h (g, k, led, is, same) =
    kept.same (Sends c ∷ past) k h same
    (kept.sends past g k c led (risen table past g led) is (holds table P kept past g led))
holds table P kept (Gets c ∷ past) h (g, led, same) =
    kept.same (Gets c ∷ past) (receive_component table g c) h same
    (kept.gets past g c led (risen table past g led) (holds table P kept past g led))
holds table P kept (Ends id ∷ past) h (g, led, may, same) =
    kept.same (Ends id ∷ past) (without_invocation id g) h same
    (kept.ends past g id led (risen table past g led) may (holds table P kept past g led))
