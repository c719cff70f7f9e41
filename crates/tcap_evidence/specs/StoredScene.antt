-- Which scene a stored scene means, and which messages a stored segment between quiet marks means.
use Rattle.std.specs.Prelude.{◌≡◌, ℕ, ℤ, List, map, Option}
use Rattle.tcap_parts.specs.declared.component.Component.{Component}
use Rattle.tcap_parts.specs.Meaning.{component_of}
use Rattle.tcap_msg.specs.declared.message.Message.{Message}
use Rattle.tcap_msg.specs.Parts.{dtid_in, otid_in}
use Rattle.tcap_record.specs.declared.entry.End.{End as Side}
use Rattle.tcap_record.specs.Ends.{other}
use Rattle.tcap_end.specs.Table.{Table}
use Rattle.tcap_model.specs.World.{Item}
use Rattle.tcap_refute.specs.EarlierMessages.{sent_by}
use Rattle.tcap_faults.specs.declared.verdict.fault_subject.Subject.{Subject}
use Rattle.tcap_evidence.specs.declared.scene.Scene.{Scene as SceneKept}
use Rattle.tcap_evidence.specs.declared.sent.MessagesByEnd.{MessagesByEnd}
use Rattle.tcap_evidence.specs.NumberedMessages.{numbered_of}
use Rattle.tcap_evidence.specs.Scene.{Scene, peer_from_dtid, sent_to_dtid}

-- Each stored part is that part of the scene.
pub record IsScene (s : Scene) (kept : SceneKept) : Type 0 where
  pub table : kept.table.now ≡ s.table
  pub number : kept.number ≡ s.number
  pub to : kept.to ≡ s.to
  pub from : kept.from ≡ s.from
  pub origin : kept.origin ≡ s.origin
  pub half : kept.half ≡ s.half
  pub all : map component_of kept.all.items ≡ s.all
  pub earlier : map component_of kept.earlier.items ≡ s.earlier
  pub id : kept.id ≡ s.id
  pub own : numbered_of kept.own.items ≡ s.own
  pub peer_from_dtid : numbered_of kept.from_peer.items ≡ peer_from_dtid s
  pub outgoing : numbered_of kept.outgoing.items ≡ sent_to_dtid s

-- the scene of a message, from the subject of its fault, the stored messages of each end before it, and the given
-- items
abbrev pub scene_by : Table → Side → List Item → MessagesByEnd → Message → ℕ → Subject → List Component → List Component
    → Option ℤ → Scene
scene_by table side items messages_by_end m number about all earlier id = record {
  table = table;
  side = side;
  items = items;
  own = numbered_of messages_by_end.own.items;
  peer = numbered_of messages_by_end.peer.items;
  number = number;
  to = dtid_in m;
  from = otid_in m;
  origin = about.origin;
  half = about.own;
  all = all;
  earlier = earlier;
  id = id;
}

-- The stored messages of each end are those of the scene, and these are what each end sent among the scene's items.
pub record AreMessagesByEnd (s : Scene) (kept : MessagesByEnd) : Type 0 where
  pub own : numbered_of kept.own.items ≡ s.own
  pub peer : numbered_of kept.peer.items ≡ s.peer
  pub own_sent : map (λ n. n.1) s.own ≡ sent_by s.side s.items
  pub peer_sent : map (λ n. n.1) s.peer ≡ sent_by (other s.side) s.items
