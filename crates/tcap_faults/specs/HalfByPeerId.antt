-- Which half of an end goes with an ID of the peer, since the last quiet mark (Q.774 3.2, 3.3)? If no ID is tangled,
-- at most one does.
use Rattle.std.specs.Prelude.{ℕ, Bool, true, false, List, [], ◌∷◌, ◌++◌, filter, Option, Some, None, cond}
use Rattle.std.specs.List.{find}
use Rattle.std.specs.Option.{option_to_list}
use Rattle.tcap_parts.specs.declared.component.Component.{Component}
use Rattle.tcap_msg.specs.declared.kind.Kind.TheVariants as forms
use Rattle.tcap_msg.specs.declared.message.Message.{Message}
use Rattle.tcap_msg.specs.Parts.{dialogue_in, dtid_in, otid_in}
use Rattle.tcap_record.specs.declared.entry.End.{End as Side}
use Rattle.tcap_end.specs.Dialogue.{is_response}
use Rattle.tcap_model.specs.World.{Item}
use Rattle.tcap_model.specs.Run.{option_then}
use Rattle.tcap_refute.specs.EarlierMessages.{peer_sent_from, components_of, has_a, is_a}
use Rattle.tcap_faults.specs.Counts.{is_nothing}
use Rattle.tcap_faults.specs.SentToId.{begin_from, is_continue_to, is_request_of, outgoing, was_refused}
use Rattle.tcap_faults.specs.declared.dialogue.half_origin.HalfOrigin.{HalfOrigin}
use Rattle.tcap_faults.specs.declared.dialogue.half_origin.HalfOrigin.TheVariants.{Accepted, Refused, Begun, Unanswered, Nowhere}
use Rattle.tcap_faults.specs.TangledIds.{goes_to_begun}

-- The half of an end with an ID of its peer.
pub record HalfMessages : Type 0 where
  pub origin : HalfOrigin
  pub own : Option (List ℕ)
  -- The Begin that began the half, of the peer or of the end.
  pub begin : Option Message
  -- The components that the half heard, those that it sent to the peer before, and those that contain its own
  -- invocations.
  pub incoming : List Component
  pub outgoing : List Component
  pub invoked : List Component

-- ---- a half that the peer's Begin began

-- The Continues from this ID to an own ID, if the own ID is known.
abbrev pub continued_to : Side → List Item → List ℕ → Option (List ℕ) → List Message
continued_to side items id None = []
continued_to side items id (Some own) = filter (is_continue_to own) (peer_sent_from side id items)

-- The originating ID of the end's first Continue to this ID.
abbrev pub answered_from : Side → List Item → List ℕ → Option (List ℕ)
answered_from side items id = option_then (find (is_a forms.Continue) (outgoing side id items)) otid_in

-- The half that the peer's Begin from this ID began.
abbrev pub accepted_half : Side → List Item → List ℕ → HalfMessages
accepted_half side items id = record {
  origin = cond (was_refused side id items) Refused Accepted;
  own = answered_from side items id;
  begin = find (is_a forms.Begin) (peer_sent_from side id items);
  incoming = components_of (option_to_list (find (is_a forms.Begin) (peer_sent_from side id items))
      ++ continued_to side items id (answered_from side items id));
  outgoing = components_of (outgoing side id items);
  invoked = components_of (outgoing side id items);
}

-- ---- a half that the end's Begin began

-- Whether a message answers a dialogue request.
abbrev pub responds : Message → Bool
responds m = is_response (dialogue_in m)

-- These messages, from the first that passes on.
abbrev pub from_first : (Message → Bool) → List Message → List Message
from_first passes [] = []
from_first passes (m ∷ more) = cond (passes m) (m ∷ more) (from_first passes more)

-- The Continues that the half heard. If its Begin has an AARQ, they start at the first with an AARE, because earlier
-- ones cannot be received.
abbrev pub incoming_continues : Option Message → List Message → List Message
incoming_continues begin continues = cond (is_request_of begin) (from_first responds continues) continues

-- The half that the end's Begin from `own` began.
abbrev pub begun_half : Side → List Item → List ℕ → List ℕ → HalfMessages
begun_half side items id own = record {
  origin = cond (is_nothing incoming) Unanswered Begun;
  own = Some own;
  begin = begin_from side own items;
  incoming = components_of incoming;
  outgoing = components_of (outgoing side id items);
  invoked = components_of (option_to_list (begin_from side own items) ++ outgoing side id items);
}
  where
    incoming : List Message
    incoming = incoming_continues (begin_from side own items) (continued_to side items id (Some own))

-- ---- the half

-- The value for no half.
abbrev pub no_half : HalfMessages
no_half = record { origin = Nowhere; own = None; begin = None; incoming = []; outgoing = []; invoked = [] }

-- The ID that the end began to which the peer first sent a Continue from this ID.
abbrev pub begun_from : Side → List Item → List ℕ → Option (List ℕ)
begun_from side items id = option_then (find (goes_to_begun side items) (peer_sent_from side id items)) dtid_in

-- The half, by whether the peer began the ID, and by the own ID to which the peer went on.
abbrev pub half_by : Side → List Item → List ℕ → Bool → Option (List ℕ) → HalfMessages
half_by side items id true own = accepted_half side items id
half_by side items id false None = no_half
half_by side items id false (Some own) = begun_half side items id own

-- The half of the end that goes with this ID of the peer.
abbrev pub half_of : Side → List Item → List ℕ → HalfMessages
half_of side items id =
    half_by side items id (has_a forms.Begin (peer_sent_from side id items)) (begun_from side items id)
