-- How the hidden steps of the half that was found are computed.
use Rattle.std.proofs.Common.{◌≡◌, ℤ, true, false, Option, Some, None, Ok, Err, IsSome, refl, sym, subst}
use Rattle.std.specs.Ordering.{int_cmp}
use Rattle.std.specs.Map.{lookup, remove_entry}
use Rattle.std.specs.BTreeMap.{is_at}
use Rattle.tcap_end.specs.declared.fault.EndFault.TheVariants as faults
use Rattle.tcap_end.specs.declared.half.HalfName.{HalfName}
use Rattle.tcap_end.specs.declared.half.InvocationState.TheVariants as states
use Rattle.tcap_end.specs.declared.half.Phase.{Phase}
use Rattle.tcap_end.specs.declared.half.Phase.TheVariants as phases
use Rattle.tcap_end.specs.declared.own_invocations.OwnInvocation.{OwnInvocation}
use Rattle.tcap_end.specs.declared.own_invocations.Outs.{Outs}
use Rattle.tcap_end.specs.Component.{own_invocation}
use Rattle.tcap_end.specs.End.{End, KeyedHalf, named, put}
use Rattle.tcap_end.specs.Half.{Half, closed_half, is_closed}
use Rattle.tcap_end.specs.HiddenSteps.{close, expire, may_close, may_expire, without_invocation, open_named}
use Rattle.tcap_end.specs.OwnInvocations.{HasPlace, kept_outs}
use Rattle.tcap_end.specs.Table.{Table, expires_of}
use Rattle.tcap_end.proofs.BackLaws.{has_place}
use Rattle.tcap_lists.proofs.MapLaws.{rises_removed}
use Rattle.tcap_end.proofs.HalfLaws.{Follows, follows_out}

-- ---- a half closes without a message

closed_never : (table : Table) (p : Phase) → is_closed p ≡ true → may_close table p ≡ false
closed_never table phases.Sent is = cc
closed_never table phases.Received is = cc
closed_never table phases.Active is = cc
closed_never table phases.Closed is = refl

-- A half that may not close is refused, and so is a closed one; any other half closes.
module _ {f : KeyedHalf} (table : Table) (e : End) (name : HalfName) (is : named e name ≡ Some f) where
  pub stays_open : may_close table f.half.phase ≡ false → close table e name ≡ Err faults.CannotClose
  stays_open may_not = rw (is, may_not) refl

  pub stays_closed : is_closed f.half.phase ≡ true → close table e name ≡ Err faults.CannotClose
  stays_closed shut = stays_open (closed_never table f.half.phase shut)

  pub half_closes : may_close table f.half.phase ≡ true → close table e name ≡ Ok (put e f.slot f.key (closed_half f.half))
  half_closes may = rw (is, may) refl

-- the view of the half with a name, if it is open and if it is closed
module _ {f : KeyedHalf} (e : End) (name : HalfName) (is : named e name ≡ Some f) where
  pub knows_open : is_closed f.half.phase ≡ false → open_named e name ≡ Some f.half
  knows_open open_half = rw (is, open_half) refl

  pub knows_closed : is_closed f.half.phase ≡ true → open_named e name ≡ None
  knows_closed shut = rw (is, shut) refl

-- ---- an own invocation expires

-- An own invocation has a place.
pub some_place : (id : ℤ) (o : Outs) → IsSome (lookup (is_at (int_cmp id)) (kept_outs o)) → HasPlace id o
some_place id o there = by (lookup (is_at (int_cmp id)) (kept_outs o)) refl there
  where
    by : (i : Option OwnInvocation) → lookup (is_at (int_cmp id)) (kept_outs o) ≡ i → IsSome i → HasPlace id o
    by None is some = cc
    by (Some i) is some = has_place id o i is

-- The half without an invocation keeps its phase, IDs and dialogue state.
pub forgets : (id : ℤ) (h g : Half) → g ≡ record h { out = remove_entry (is_at (int_cmp id)) h.out } → Follows h g
forgets id h g is =
    subst (λ (x : Half). Follows h x) (sym is)
    (follows_out h (remove_entry (is_at (int_cmp id)) h.out) (rises_removed int_cmp (is_at (int_cmp id)) h.out))

-- An invocation that may expire exists.
pub expires_some : (table : Table) (i : Option OwnInvocation) → may_expire table i ≡ true → IsSome i
expires_some table None may = cc
expires_some table (Some i) may = refl

pub waits_may : (table : Table) (i : OwnInvocation) → i.state ≡ states.WaitForReject → may_expire table (Some i) ≡ true
waits_may table i is = rw is refl

pub sent_may : (table : Table) (i : OwnInvocation) → i.state ≡ states.OperationSent → may_expire table (Some i) ≡ expires_of table i.code
sent_may table i is = rw is refl

-- The step is refused if the half is closed or the invocation may not expire; else the invocation ends.
module _ {f : KeyedHalf} (table : Table) (e : End) (name : HalfName) (id : ℤ) (is : named e name ≡ Some f) where
  pub closed_stays : is_closed f.half.phase ≡ true → expire table e name id ≡ Err faults.CannotExpire
  closed_stays shut = rw (is, shut) refl

  pub invoked_stays : is_closed f.half.phase ≡ false → may_expire table (own_invocation f.half id) ≡ false
      → expire table e name id ≡ Err faults.CannotExpire
  invoked_stays is_open may_not = rw (is, is_open, may_not) refl

  pub invoked_ends : is_closed f.half.phase ≡ false → may_expire table (own_invocation f.half id) ≡ true
      → expire table e name id ≡ Ok (put e f.slot f.key (without_invocation id f.half))
  invoked_ends is_open may = rw (is, is_open, may) refl
