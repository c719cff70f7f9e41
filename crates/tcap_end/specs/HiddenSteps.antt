-- Which hidden steps an end can take (Q.774 3.2 and 3.3): an invocation expires, or a half closes, without a message.
use Rattle.std.specs.Prelude.{ℕ, ℤ, Bool, true, false, List, [], ◌∷◌, ◌++◌, Option, Some, None, Result, Ok, cond, not, ok_or, option_and_then}
use Rattle.std.specs.Ordering.{int_cmp}
use Rattle.std.specs.Map.{remove_entry}
use Rattle.std.specs.BTreeMap.{is_at}
use Rattle.tcap_end.specs.declared.fault.EndFault.{EndFault}
use Rattle.tcap_end.specs.declared.fault.EndFault.TheVariants as faults
use Rattle.tcap_end.specs.declared.half.HalfName.{HalfName}
use Rattle.tcap_end.specs.declared.half.HalfName.TheVariants as names
use Rattle.tcap_end.specs.declared.half.InvocationState.{InvocationState}
use Rattle.tcap_end.specs.declared.half.InvocationState.TheVariants as states
use Rattle.tcap_end.specs.declared.half.Phase.{Phase}
use Rattle.tcap_end.specs.declared.half.Phase.TheVariants as phases
use Rattle.tcap_end.specs.declared.own_invocations.OwnInvocation.{OwnInvocation}
use Rattle.tcap_end.specs.Step.{needs, ◌>>◌, ◌>>=◌}
use Rattle.tcap_end.specs.Table.{Table, expires_of}
use Rattle.tcap_end.specs.Half.{Half, closed_half, is_closed}
use Rattle.tcap_end.specs.Component.{own_invocation}
use Rattle.tcap_end.specs.End.{End, KeyedHalf, named, put, quiet}

-- whether an own invocation may expire: in Wait for Reject always, in Operation Sent if the table allows it
abbrev pub may_expire : Table → Option OwnInvocation → Bool
may_expire table None = false
may_expire table (Some own) = by_state own.state
  where
    by_state : InvocationState → Bool
    by_state states.WaitForReject = true
    by_state states.OperationSent = expires_of table own.code

-- the half without its own invocation of that ID
abbrev pub without_invocation : ℤ → Half → Half
without_invocation id h = record h { out = remove_entry (is_at (int_cmp id)) h.out }

-- the half, if it is open
abbrev pub open_kept : KeyedHalf → Option Half
open_kept kept = cond (is_closed kept.half.phase) None (Some kept.half)

-- the open half with that name
abbrev pub open_named : End → HalfName → Option Half
open_named e name = option_and_then open_kept (named e name)

-- An own invocation expires (Q.774 3.2). In Operation Sent, its timer runs out or the user cancels it, which the table
-- must allow. In Wait for Reject, its ID becomes free again.
abbrev pub expire : Table → End → HalfName → ℤ → Result End EndFault
expire table e name id = do
  kept ← ok_or (named e name) faults.CannotExpire
  needs (not (is_closed kept.half.phase)) faults.CannotExpire
  needs (may_expire table (own_invocation kept.half id)) faults.CannotExpire
  Ok (put e kept.slot kept.key (without_invocation id kept.half))

-- whether a half in this phase may close without a message
abbrev pub may_close : Table → Phase → Bool
may_close table phases.Sent = true
may_close table phases.Closed = false
may_close table _ = table.prearranged

-- A half closes without a message (Q.774 3.3): its end gives up its Begin, or ends the transaction by prearrangement.
abbrev pub close : Table → End → HalfName → Result End EndFault
close table e name = do
  kept ← ok_or (named e name) faults.CannotClose
  needs (may_close table kept.half.phase) faults.CannotClose
  Ok (put e kept.slot kept.key (closed_half kept.half))

-- the names of the open halves in a list
abbrev pub open_names : (List ℕ → HalfName) → List (List ℕ × Half) → List HalfName
open_names name [] = []
open_names name ((key, half) ∷ more) =
    cond (is_closed half.phase) (open_names name more) (name key ∷ open_names name more)

-- the names of an end's open halves: by own IDs if the end sent the Begin, else by the peer's IDs
abbrev pub open_halves : End → List HalfName
open_halves e = open_names names.Own e.begun ++ open_names names.Peer e.accepted

-- These halves close without a message, one by one.
abbrev pub close_each : Table → List HalfName → End → Result End EndFault
close_each table [] e = Ok e
close_each table (name ∷ more) e = close table e name >>= close_each table more

-- A quiet mark before which all open halves close without a message, or the reason why one of them may not.
abbrev pub quiet_after_closings : Table → End → Result End EndFault
quiet_after_closings table e = close_each table (open_halves e) e >>= quiet
