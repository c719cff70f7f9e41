-- A message that an end sends after a run in which it keeps the rules, and the half over which the message goes.
use Rattle.std.proofs.Common.{◌≡◌, ℕ, List, Some, Ok}
use Rattle.tcap_msg.specs.declared.message.Message.{Message}
use Rattle.tcap_msg.specs.Parts.{dtid_in, otid_in}
use Rattle.tcap_record.specs.declared.entry.End.{End as Side}
use Rattle.tcap_end.specs.Table.{Table}
use Rattle.tcap_end.specs.End.{End}
use Rattle.tcap_end.specs.Message.{send}
use Rattle.tcap_record.specs.Ends.{other}
use Rattle.tcap_model.specs.World.{World, end_at}
use Rattle.tcap_model.specs.Run.{Event, KeepsRules, Runs}
use Rattle.tcap_model.specs.SinceMark.{SentSince}
use Rattle.tcap_model.proofs.PeerLaws.{knows}
use Rattle.tcap_model.proofs.RunLaws.{sound}
use Rattle.tcap_refute.proofs.OverLaws.{IsOver, over}

-- The end keeps the rules in a run to this world, and then sends the message.
pub record IsSent (table : Table) (events : List Event) (w : World) (side : Side) (message : Message) : Type 0 where
  pub runs : Runs table events w
  pub keeps : KeepsRules side events
  pub made : End
  pub step : send table (end_at side w) message ≡ Ok made

module _ {table : Table} {events : List Event} {w : World} {side : Side} {message : Message} (id : List ℕ)
    (it : IsSent table events w side message) (to : dtid_in message ≡ Some id) where
  -- The message goes over an open half whose peer has its destination ID.
  pub half_over : IsOver table (end_at side w) message id
  half_over = over table (end_at side w) it.made (sound table events w it.runs side) message id it.step to

  -- The peer sent a message from the destination ID.
  pub peer_spoke : (m : Message) × SentSince (other side) m w.sent × (otid_in m ≡ Some id)
  peer_spoke = (knows table events w side half_over.kept it.runs half_over.had).peer id half_over.peer
