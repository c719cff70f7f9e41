-- What happened to the components of a half, and what the list of messages has of it.
use Rattle.std.proofs.Common.{◌≡◌, ℕ, ℤ, ◌≤◌, Bool, true, List, [], ◌∷◌, ◌++◌, filter, Option, Some, None, Ok}
use Rattle.tcap_parts.specs.declared.component.Component.{Component}
use Rattle.tcap_msg.specs.declared.kind.Kind.TheVariants as forms
use Rattle.tcap_msg.specs.declared.message.Message.{Message}
use Rattle.tcap_msg.specs.Parts.{otid_in}
use Rattle.tcap_record.specs.declared.entry.End.{End as Side}
use Rattle.tcap_end.specs.declared.half.Slot.{Slot}
use Rattle.tcap_end.specs.declared.half.Slot.TheVariants.{Begun, Accepted}
use Rattle.tcap_end.specs.Table.{Table}
use Rattle.tcap_end.specs.Half.{Half}
use Rattle.tcap_end.specs.Component.{own_invocation, receive_component, send_component}
use Rattle.tcap_end.specs.End.{is_id}
use Rattle.tcap_end.specs.HiddenSteps.{may_expire, without_invocation}
use Rattle.tcap_model.specs.World.{Item}
use Rattle.tcap_refute.specs.EarlierMessages.{is_a}
use Rattle.tcap_faults.specs.Counts.{count}
use Rattle.tcap_faults.specs.HalfByPeerId.{HalfMessages, incoming_continues}
use Rattle.tcap_faults.specs.SentToId.{begin_from, is_continue_to, outgoing}

-- ---- a half's own story

-- A component was sent, one was received, or an own invocation expired.
pub data Happening : Type 0 where
  Sends : Component → Happening
  Gets : Component → Happening
  Ends : ℤ → Happening

-- Both halves have the same invocations and answers.
abbrev pub SameLists : Half → Half → Type 0
SameLists g h = (h.out ≡ g.out) × (h.inn ≡ g.inn) × (h.grants ≡ g.grants)

-- These happenings, the newest first, made the half from one without invocations and answers; its IDs, phase and
-- dialogue may be any.
abbrev pub IsLed : Table → List Happening → Half → Type 0
IsLed table [] h = (h.out ≡ []) × (h.inn ≡ []) × (h.grants ≡ [])
IsLed table (Sends c ∷ past) h =
    (g k : Half) × IsLed table past g × (send_component table g c ≡ Ok k) × SameLists k h
IsLed table (Gets c ∷ past) h = (g : Half) × IsLed table past g × SameLists (receive_component table g c) h
IsLed table (Ends id ∷ past) h =
    (g : Half) × IsLed table past g × (may_expire table (own_invocation g id) ≡ true) × SameLists (without_invocation id g) h

-- The components that were sent.
abbrev pub sent_in : List Happening → List Component
sent_in [] = []
sent_in (Sends c ∷ past) = c ∷ sent_in past
sent_in (Gets c ∷ past) = sent_in past
sent_in (Ends id ∷ past) = sent_in past

-- The components that were received.
abbrev pub got_in : List Happening → List Component
got_in [] = []
got_in (Sends c ∷ past) = got_in past
got_in (Gets c ∷ past) = c ∷ got_in past
got_in (Ends id ∷ past) = got_in past

-- ---- what the list has of a half

-- The first list has at most the components of the second, of every sort.
abbrev pub AreWithin : List Component → List Component → Type 0
AreWithin xs ys = (passes : Component → Bool) → count passes xs ≤ count passes ys

-- What the list has of a half bounds what was sent and received over it.
pub record Bounds (s : HalfMessages) (sent got : List Component) : Type 0 where
  pub incoming : AreWithin got s.incoming
  pub outgoing : AreWithin s.outgoing sent
  pub invoked : AreWithin s.invoked sent
  pub all : AreWithin sent s.invoked

-- ---- what the list has of a half, since the last quiet mark

-- The messages from this ID.
abbrev pub from : List ℕ → List Message → List Message
from id messages = filter (λ m. is_id id (otid_in m)) messages

-- The Continues from the peer's ID to the own ID.
abbrev pub continues_to : List ℕ → List Message → Option (List ℕ) → List Message
continues_to id gone None = []
continues_to id gone (Some own) = filter (is_continue_to own) (from id gone)

-- What a half with this Begin, if it is known, heard of these Continues.
abbrev pub incoming_behind : Option Message → List Message → List Message
incoming_behind None continues = []
incoming_behind (Some begin) continues = incoming_continues (Some begin) continues

-- What a half may have heard of these messages of its peer: the Begin that an accepted half received, and the
-- Continues from its peer's ID to its own.
abbrev pub may_have_incoming : Side → List Item → List Message → Slot → Option (List ℕ) → Option (List ℕ) → List Message
may_have_incoming side items gone slot own None = []
may_have_incoming side items gone Accepted own (Some id) =
    filter (is_a forms.Begin) (from id gone) ++ continues_to id gone own
may_have_incoming side items gone Begun None (Some id) = []
may_have_incoming side items gone Begun (Some own) (Some id) =
    incoming_behind (begin_from side own items) (continues_to id gone (Some own))

abbrev pub outgoing_to : Side → List Item → Option (List ℕ) → List Message
outgoing_to side items None = []
outgoing_to side items (Some id) = outgoing side id items
