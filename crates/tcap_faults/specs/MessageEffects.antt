-- How does a message change what is kept of transaction IDs?
use Rattle.std.specs.Prelude.{◌≡◌, ℕ, List, Some, ◌&&◌, not}
use Rattle.tcap_msg.specs.declared.message.Message.{Message}
use Rattle.tcap_msg.specs.Parts.{dtid_in, otid_in}
use Rattle.tcap_record.specs.declared.entry.End.{End as Side}
use Rattle.tcap_record.specs.Ends.{other}
use Rattle.tcap_end.specs.Table.{Table}
use Rattle.tcap_model.specs.World.{Item}
use Rattle.tcap_faults.specs.declared.transaction.message_effects.Effects.{Effects}
use Rattle.tcap_faults.specs.SentToId.{began, has_ended, has_used}
use Rattle.tcap_faults.specs.UsedAgain.{uses_again}

-- These are the effects of a message that the end sends after these items.
pub record AreEffects (table : Table) (side : Side) (items : List Item) (m : Message) (effects : Effects) : Type 0 where
  pub again : effects.again ≡ uses_again table side items m
  pub used : (from : List ℕ) → otid_in m ≡ Some from → effects.used ≡ has_used side items from
  pub guesses : (from to : List ℕ) → otid_in m ≡ Some from → dtid_in m ≡ Some to
      → effects.guesses ≡ (began side from items && not (has_used (other side) items to))
  pub over : (to : List ℕ) → dtid_in m ≡ Some to → effects.over ≡ has_ended side items to
  pub joins : (to : List ℕ) → dtid_in m ≡ Some to → effects.joins ≡ has_used (other side) items to
  pub peer_over : (from to : List ℕ) → otid_in m ≡ Some from → dtid_in m ≡ Some to
      → effects.peer_over ≡ (has_used (other side) items to && has_ended (other side) items from)
