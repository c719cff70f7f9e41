-- What a change of a world leaves unchanged.
use Rattle.std.proofs.Common.{◌≡◌, true, false, List, [], ◌∷◌, ◌++◌, refl}
use Rattle.tcap_msg.specs.declared.message.Message.{Message}
use Rattle.tcap_record.specs.declared.entry.End.{End as Side}
use Rattle.tcap_record.specs.declared.entry.End.TheVariants as sides
use Rattle.tcap_end.specs.End.{End}
use Rattle.tcap_record.specs.Ends.{other}
use Rattle.tcap_model.specs.World.{MessageInTransit, Sent, World, channel_from, end_at, is_side, with_channel, with_end}
use Rattle.tcap_model.specs.Run.{joined}

pub itself : (side : Side) → is_side side side ≡ true
itself sides.A = refl
itself sides.B = refl

pub apart : (side : Side) → is_side side (other side) ≡ false
apart sides.A = refl
apart sides.B = refl

-- ---- an end

pub end_with : (side : Side) (e : End) (w : World) → end_at side (with_end side e w) ≡ e
end_with sides.A e w = refl
end_with sides.B e w = refl

pub peer_with_end : (side : Side) (e : End) (w : World) → end_at (other side) (with_end side e w) ≡ end_at (other side) w
peer_with_end sides.A e w = refl
peer_with_end sides.B e w = refl

pub own_with_end : (side : Side) (e : End) (w : World) → channel_from side (with_end side e w) ≡ channel_from side w
own_with_end sides.A e w = refl
own_with_end sides.B e w = refl

pub sent_with_end : (side : Side) (e : End) (w : World) → (with_end side e w).sent ≡ w.sent
sent_with_end sides.A e w = refl
sent_with_end sides.B e w = refl

-- ---- a channel

pub with_same : (side : Side) (w : World) → with_channel side (channel_from side w) w ≡ w
with_same sides.A w = refl
with_same sides.B w = refl

pub own_with_channel : (side : Side) (messages : List MessageInTransit) (w : World)
    → channel_from side (with_channel (other side) messages w) ≡ channel_from side w
own_with_channel sides.A messages w = refl
own_with_channel sides.B messages w = refl

pub end_with_channel : (at side : Side) (messages : List MessageInTransit) (w : World) → end_at at (with_channel side messages w) ≡ end_at at w
end_with_channel sides.A sides.A messages w = refl
end_with_channel sides.A sides.B messages w = refl
end_with_channel sides.B sides.A messages w = refl
end_with_channel sides.B sides.B messages w = refl

pub sent_with_channel : (side : Side) (messages : List MessageInTransit) (w : World) → (with_channel side messages w).sent ≡ w.sent
sent_with_channel sides.A messages w = refl
sent_with_channel sides.B messages w = refl

pub peer_stays : (side : Side) (messages : List MessageInTransit) (w : World)
    → channel_from (other side) (with_channel side messages w) ≡ channel_from (other side) w
peer_stays sides.A messages w = refl
peer_stays sides.B messages w = refl

-- ---- a message that joins a channel

pub sent_joined : (side : Side) (m : Message) (w : World) → (joined side m w).sent ≡ w.sent ++ Sent side m ∷ []
sent_joined sides.A m w = refl
sent_joined sides.B m w = refl

pub end_joined : (at side : Side) (m : Message) (w : World) → end_at at (joined side m w) ≡ end_at at w
end_joined sides.A sides.A m w = refl
end_joined sides.A sides.B m w = refl
end_joined sides.B sides.A m w = refl
end_joined sides.B sides.B m w = refl
