-- Which notes remain after one more component or message?
use Rattle.std.specs.Prelude.{◌≡◌, Bool, true, false, List, ℕ, Option, Some, ◌&&◌, ◌||◌, cond}
use Rattle.tcap_parts.specs.declared.code.Code.{Code}
use Rattle.tcap_msg.specs.declared.kind.Kind.TheVariants as forms
use Rattle.tcap_msg.specs.declared.message.Message.{Message}
use Rattle.tcap_msg.specs.Parts.{dialogue_in, dtid_in}
use Rattle.tcap_end.specs.Component.{class_reports, is_code}
use Rattle.tcap_end.specs.Dialogue.{is_request}
use Rattle.tcap_end.specs.End.{is_id}
use Rattle.tcap_end.specs.Table.{Table}
use Rattle.tcap_refute.specs.declared.sent_with_invoke_id.ById.{ById}
use Rattle.tcap_refute.specs.declared.sent_from_id.FromId.{FromId}
use Rattle.tcap_refute.specs.declared.sent_from_id.Destinations.{Destinations}
use Rattle.tcap_refute.specs.declared.sent_from_id.Destinations.TheVariants.{Nowhere, One, Several}
use Rattle.tcap_refute.specs.EarlierMessages.{is_a}
use Rattle.tcap_refute.specs.KeptFacts.{has_code}

-- `new` is `old` with one more Invoke of this operation.
pub record IsInvoked (table : Table) (code : Code) (old new : ById) : Type 0 where
  pub invoked : new.invoked ≡ true
  pub fails : new.fails ≡ old.fails || class_reports table false code
  pub succeeds : new.succeeds ≡ old.succeeds || class_reports table true code
  pub codes : (other : Code) → has_code other new.codes
      ≡ has_code other old.codes || class_reports table true code && is_code other code
  pub by_result : new.by_result ≡ old.by_result
  pub by_error : new.by_error ≡ old.by_error

-- The destination IDs with one more.
abbrev pub with_destination : List ℕ → Destinations → Destinations
with_destination dtid Nowhere = One dtid
with_destination dtid (One other) = cond (is_id dtid (Some other)) (One other) Several
with_destination dtid Several = Several

-- The destination IDs after a message; the flag is whether the message is a Continue.
abbrev pub destinations_after : Bool → Option (List ℕ) → Destinations → Destinations
destinations_after true (Some dtid) destinations = with_destination dtid destinations
destinations_after _ _ destinations = destinations

-- `new` is `old` with one more message, but without its components.
pub record IsHeaded (message : Message) (old new : FromId) : Type 0 where
  pub begun : new.begun ≡ old.begun || is_a forms.Begin message
  pub asked : new.asked ≡ old.asked || is_a forms.Begin message && is_request (dialogue_in message)
  pub continued : new.continued ≡ old.continued || is_a forms.Continue message
  pub destinations : new.destinations ≡ destinations_after (is_a forms.Continue message)
      (dtid_in message) old.destinations
  pub ids : new.ids ≡ old.ids

-- `new` and `old` differ in nothing but what components add.
pub record IsSameHead (old new : FromId) : Type 0 where
  pub begun : new.begun ≡ old.begun
  pub asked : new.asked ≡ old.asked
  pub continued : new.continued ≡ old.continued
  pub destinations : new.destinations ≡ old.destinations
