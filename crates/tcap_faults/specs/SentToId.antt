-- What did an end send to an ID, and which IDs did it begin, use and end, since the last quiet mark (Q.774 3.3)?
use Rattle.std.specs.Prelude.{ℕ, Bool, false, List, [], ◌∷◌, ◌++◌, filter, Option, Some, None, is_some, is_none, ◌==◌, ◌&&◌, ◌||◌}
use Rattle.std.specs.List.{find, list_any}
use Rattle.tcap_msg.specs.declared.kind.Kind.TheVariants as forms
use Rattle.tcap_msg.specs.declared.message.Message.{Message}
use Rattle.tcap_msg.specs.Parts.{cause_in, dtid_in, otid_in}
use Rattle.tcap_record.specs.declared.entry.End.{End as Side}
use Rattle.tcap_end.specs.End.{is_id}
use Rattle.tcap_model.specs.World.{Item}
use Rattle.tcap_model.specs.SinceMark.{ended_by, is_begin_with_request}
use Rattle.tcap_refute.specs.EarlierMessages.{is_a, sent_by}

-- Whether an item passes a test. The test gets the items before it.
abbrev pub one_passes : (List Item → Item → Bool) → List Item → List Item → Bool
one_passes passes seen [] = false
one_passes passes seen (item ∷ items) = passes seen item || one_passes passes (seen ++ item ∷ []) items

-- ---- what an end sent

-- A message to this ID that is no Abort of the provider.
abbrev pub is_outgoing_to : List ℕ → Message → Bool
is_outgoing_to id m = is_id id (dtid_in m) && is_none (cause_in m)

-- What an end sent to this ID, without the Aborts of its provider: `to d` in docs/KINDS.md.
abbrev pub outgoing : Side → List ℕ → List Item → List Message
outgoing side id items = filter (is_outgoing_to id) (sent_by side items)

-- A Continue to this ID.
abbrev pub is_continue_to : List ℕ → Message → Bool
is_continue_to id m = is_a forms.Continue m && is_id id (dtid_in m)

-- Whether there is a cause, and it is this number.
abbrev pub is_cause : ℕ → Option ℕ → Bool
is_cause n None = false
is_cause n (Some cause) = cause == n

-- An Abort of the provider to this ID, with this cause.
abbrev pub is_abort_with : ℕ → List ℕ → Message → Bool
is_abort_with cause id m = is_id id (dtid_in m) && is_cause cause (cause_in m)

-- Whether an end's provider refused the Begin from this ID.
abbrev pub was_refused : Side → List ℕ → List Item → Bool
was_refused side id items = list_any (is_abort_with 4 id) (sent_by side items)

-- ---- its own IDs

-- A Begin from this ID.
abbrev pub is_begin_from : List ℕ → Message → Bool
is_begin_from id m = is_a forms.Begin m && is_id id (otid_in m)

-- A Continue from this ID.
abbrev pub is_continue_from : List ℕ → Message → Bool
is_continue_from id m = is_a forms.Continue m && is_id id (otid_in m)

-- The first Begin that an end sent from this ID.
abbrev pub begin_from : Side → List ℕ → List Item → Option Message
begin_from side id items = find (is_begin_from id) (sent_by side items)

-- Whether an end sent a Begin from this ID.
abbrev pub began : Side → List ℕ → List Item → Bool
began side id items = is_some (begin_from side id items)

-- Whether there is a Begin, and it has an AARQ.
abbrev pub is_request_of : Option Message → Bool
is_request_of None = false
is_request_of (Some begin) = is_begin_with_request begin

-- Whether an end used this ID: it sent a Begin or a Continue from it.
abbrev pub has_used : Side → List Item → List ℕ → Bool
has_used side items own = list_any (λ m. is_id own (otid_in m)) (sent_by side items)

-- ---- what it ended

-- Whether an end sent a user's end to this ID: an End, or an Abort without cause.
abbrev pub has_ended : Side → List Item → List ℕ → Bool
has_ended side items id = list_any (λ m. is_id id (ended_by m)) (sent_by side items)
