-- Which messages came before an entry, since the last quiet mark, from each end and transaction ID (Q.774 3.3)?
use Rattle.std.specs.Prelude.{ℕ, ℤ, Bool, true, false, List, [], ◌∷◌, filter, filter_map, Option, Some, None, ◌&&◌, ◌||◌, cond}
use Rattle.std.specs.Ordering.{int_cmp}
use Rattle.std.specs.BTreeMap.{is_at}
use Rattle.std.specs.List.{list_any, flat_map}
use Rattle.tcap_parts.specs.declared.component.Component.{Component}
use Rattle.tcap_parts.specs.declared.component.Component.TheVariants.{Invoke, ReturnResult, ReturnError, Reject}
use Rattle.tcap_msg.specs.declared.kind.Kind.{Kind as Form}
use Rattle.tcap_msg.specs.declared.kind.Kind.TheVariants as forms
use Rattle.tcap_msg.specs.declared.message.Message.{Message}
use Rattle.tcap_msg.specs.Parts.{components_in, dtid_in, kind_in, otid_in}
use Rattle.tcap_record.specs.declared.entry.End.{End as Side}
use Rattle.tcap_end.specs.End.{is_id}
use Rattle.tcap_record.specs.Ends.{other}
use Rattle.tcap_model.specs.World.{Item, Sent, is_side}
use Rattle.tcap_model.specs.Run.{only_if}
use Rattle.tcap_model.specs.World.{has_quiet}

-- The items after the last quiet mark.
abbrev pub since_quiet : List Item → List Item
since_quiet [] = []
since_quiet (item ∷ items) = cond (has_quiet (item ∷ items)) (since_quiet items) (item ∷ items)

-- The message of an item, if this end sent it.
abbrev pub message_of : Side → Item → Option Message
message_of side (Sent sender message) = only_if (is_side side sender) (Some message)
message_of side Item.Quiet = None

-- The messages that an end sent.
abbrev pub sent_by : Side → List Item → List Message
sent_by side items = filter_map (message_of side) items

-- The messages that the peer sent with this originating ID: `from d` in docs/KINDS.md.
abbrev pub peer_sent_from : Side → List ℕ → List Item → List Message
peer_sent_from side id items = filter (λ m. is_id id (otid_in m)) (sent_by (other side) items)

-- The components of these messages, in order.
abbrev pub components_of : List Message → List Component
components_of messages = flat_map components_in messages

abbrev pub is_form : Form → Form → Bool
is_form forms.Unidirectional forms.Unidirectional = true
is_form forms.Begin forms.Begin = true
is_form forms.Continue forms.Continue = true
is_form forms.End forms.End = true
is_form forms.Abort forms.Abort = true
is_form _ _ = false

-- Whether a message has this form: Begin, Continue and so on.
abbrev pub is_a : Form → Message → Bool
is_a form message = is_form form (kind_in message)

-- Whether one of these messages has this form.
abbrev pub has_a : Form → List Message → Bool
has_a form messages = list_any (is_a form) messages

-- An End or an Abort to this ID.
abbrev pub ends_to : List ℕ → Message → Bool
ends_to id m = (is_a forms.End m || is_a forms.Abort m) && is_id id (dtid_in m)

-- ---- components

-- Whether two invoke IDs are equal.
abbrev pub is_invoke_id : ℤ → ℤ → Bool
is_invoke_id id other = is_at (int_cmp id) other

-- An Invoke with this ID.
abbrev pub invokes : ℤ → Component → Bool
invokes id (Invoke other linked code parameter) = is_invoke_id id other
invokes id _ = false

-- A Return Result (if `true`) or a Return Error (if `false`) with this ID.
abbrev pub answers : Bool → ℤ → Component → Bool
answers true id (ReturnResult last other body) = is_invoke_id id other
answers false id (ReturnError other code parameter) = is_invoke_id id other
answers is_result id _ = false

-- A Return Result or a Return Error.
abbrev pub is_answer : Component → Bool
is_answer (ReturnResult last id body) = true
is_answer (ReturnError id code parameter) = true
is_answer _ = false

-- A Reject.
abbrev pub is_reject : Component → Bool
is_reject (Reject id problem) = true
is_reject _ = false
