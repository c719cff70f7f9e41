-- What a provider may reply to a message that it cannot deliver (Q.774 3.3, abnormal procedures). No half changes.
use Rattle.std.specs.Prelude.{ℕ, Bool, false, List, Option, Some, None, Result, Err, is_none, ◌==◌, ◌&&◌, not}
use Rattle.std.specs.Str.{bytes_eq}
use Rattle.tcap_msg.specs.declared.message.AbortReason.TheVariants.{Cause}
use Rattle.tcap_msg.specs.declared.message.Message.{Message}
use Rattle.tcap_msg.specs.declared.message.Message.TheVariants.{Begin, Continue, Abort}
use Rattle.tcap_end.specs.declared.fault.EndFault.{EndFault}
use Rattle.tcap_end.specs.declared.fault.EndFault.TheVariants as faults
use Rattle.tcap_end.specs.Step.{needs, ◌>>◌}
use Rattle.tcap_end.specs.Half.{is_closed}
use Rattle.tcap_end.specs.End.{End, KeyedHalf, with_own, with_peer}

-- whether a message is an Abort with this cause to this transaction ID
abbrev pub aborts : ℕ → List ℕ → Message → Bool
aborts cause id (Abort dtid (Some (Cause n))) = (n == cause) && bytes_eq id dtid
aborts cause id _ = false

-- whether there is a half, and it is open
abbrev pub is_open : Option KeyedHalf → Bool
is_open None = false
is_open (Some kept) = not (is_closed kept.half.phase)

-- A provider may answer a Begin with an Abort of cause 4, resource limitation, if no half has the Begin's ID as the
-- peer's.
abbrev pub refuse_begin : End → Message → Message → Result (Unit {0}) EndFault
refuse_begin e (Begin otid dialogue components) abort = do
  needs (aborts 4 otid abort) faults.NoTransaction
  needs (is_none (with_peer e otid)) faults.NoTransaction
refuse_begin e _ abort = Err faults.NoTransaction

-- A provider may answer a Continue with an Abort of cause 1, unrecognized transaction ID, if no open half has the
-- Continue's destination ID.
abbrev pub refuse_continue : End → Message → Message → Result (Unit {0}) EndFault
refuse_continue e (Continue otid dtid dialogue components) abort = do
  needs (aborts 1 otid abort) faults.NoTransaction
  needs (not (is_open (with_own e dtid))) faults.NoTransaction
refuse_continue e _ abort = Err faults.NoTransaction
