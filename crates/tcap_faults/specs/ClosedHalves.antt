-- Which halves did an end answer as closed, and which are surely open (Q.774 3.3)?
use Rattle.std.specs.Prelude.{ℕ, Bool, false, List, [], Option, Some, None, ◌&&◌, not}
use Rattle.std.specs.List.{find, list_any}
use Rattle.tcap_msg.specs.declared.kind.Kind.TheVariants as forms
use Rattle.tcap_msg.specs.declared.message.Message.{Message}
use Rattle.tcap_msg.specs.Parts.{cause_in, dtid_in}
use Rattle.tcap_record.specs.declared.entry.End.{End as Side}
use Rattle.tcap_record.specs.Ends.{other}
use Rattle.tcap_end.specs.Table.{Table}
use Rattle.tcap_model.specs.World.{Item, Sent, is_side}
use Rattle.tcap_model.specs.Run.{option_then}
use Rattle.tcap_refute.specs.EarlierMessages.{peer_sent_from, ends_to, has_a, is_a, sent_by}
use Rattle.tcap_faults.specs.SentToId.{is_continue_from, is_continue_to, has_ended, has_used, is_cause, one_passes}

-- ---- answered as closed

-- Whether these messages have a Continue, and all their Continues go to this ID.
abbrev pub all_continue_to : List ℕ → List Message → Bool
all_continue_to own messages =
    has_a forms.Continue messages && not (list_any (λ m. is_a forms.Continue m && not (is_continue_to own m)) messages)

-- An Abort with cause 1 that shows, after these items, that the half with this own ID was closed. The end had used
-- the ID, and the Abort can only answer a Continue to it.
abbrev pub shows_closed : Side → List ℕ → List Item → Item → Bool
shows_closed side own seen (Sent sender message) =
    is_side side sender && is_cause 1 (cause_in message) && by (dtid_in message)
    && has_used side seen own
  where
    by : Option (List ℕ) → Bool
    by None = false
    by (Some id) = all_continue_to own (peer_sent_from side id seen)
shows_closed side own seen Item.Quiet = false

-- Whether the end answered the half with this own ID as closed.
abbrev pub was_closed : Side → List Item → Option (List ℕ) → Bool
was_closed side items None = false
was_closed side items (Some own) = one_passes (shows_closed side own) [] items

-- ---- surely open

-- Whether the half with this own ID is surely open. The end sent a Continue from the ID, and no user's end to the
-- destination of the first such Continue. The peer sent no End and no Abort to the ID. The table has no
-- `prearranged`.
abbrev pub is_surely_open : Table → Side → List Item → List ℕ → Bool
is_surely_open table side items own =
    not table.prearranged
    && by (option_then (find (is_continue_from own) (sent_by side items)) dtid_in)
    && not (list_any (ends_to own) (sent_by (other side) items))
  where
    by : Option (List ℕ) → Bool
    by None = false
    by (Some to) = not (has_ended side items to)

-- Whether these messages have a Continue, and all their Continues go to halves that are surely open.
abbrev pub all_go_to_open : Table → Side → List Item → List Message → Bool
all_go_to_open table side items messages =
    has_a forms.Continue messages && not (list_any (λ m. is_a forms.Continue m && not (by (dtid_in m))) messages)
  where
    by : Option (List ℕ) → Bool
    by None = false
    by (Some own) = is_surely_open table side items own
