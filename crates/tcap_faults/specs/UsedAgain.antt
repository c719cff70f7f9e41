-- When does an end use an own ID again whose transaction may be over? That an ID is used once between two quiet marks
-- is this profile's choice. A stack may free an ID when its transaction is over, so using it again is no fault.
use Rattle.std.specs.Prelude.{ℕ, Bool, false, List, [], ◌&&◌, ◌||◌, not}
use Rattle.std.specs.List.{list_any}
use Rattle.std.specs.Str.{bytes_eq}
use Rattle.tcap_msg.specs.declared.kind.Kind.TheVariants as forms
use Rattle.tcap_msg.specs.declared.message.Message.{Message}
use Rattle.tcap_msg.specs.declared.message.Message.TheVariants.{Begin, Continue}
use Rattle.tcap_record.specs.declared.entry.End.{End as Side}
use Rattle.tcap_record.specs.Ends.{other}
use Rattle.tcap_end.specs.Table.{Table}
use Rattle.tcap_model.specs.World.{Item, Sent, is_side}
use Rattle.tcap_refute.specs.EarlierMessages.{peer_sent_from, ends_to, has_a, sent_by}
use Rattle.tcap_faults.specs.Counts.{is_nothing}
use Rattle.tcap_faults.specs.SentToId.{has_ended, has_used, one_passes, outgoing}
use Rattle.tcap_faults.specs.TangledIds.{owns_of, peers_of}

-- Whether the transaction of an own ID may be over. The peer sent an End or an Abort to it, the end sent a user's end
-- to an ID that is joined with it, or transactions may end by prearrangement, without a message.
abbrev pub may_be_over : Table → Side → List Item → List ℕ → Bool
may_be_over table side items own =
    table.prearranged || list_any (ends_to own) (sent_by (other side) items)
    || list_any (has_ended side items) (peers_of side items own)

-- Whether a message uses again an own ID whose transaction may be over. It is a Begin from the ID; or it is a
-- Continue from the ID to an ID that the peer began, that is not joined with the own ID, and to which the end sent
-- nothing before.
abbrev pub uses_again : Table → Side → List Item → Message → Bool
uses_again table side items (Begin otid dialogue components) =
    has_used side items otid && may_be_over table side items otid
uses_again table side items (Continue otid dtid dialogue components) =
    has_used side items otid && may_be_over table side items otid && has_a forms.Begin (peer_sent_from side dtid items)
    && is_nothing (outgoing side dtid items) && not (list_any (bytes_eq otid) (owns_of side items dtid))
uses_again table side items m = false

-- Whether an item is a message of the end that uses an own ID again.
abbrev pub is_used_again : Table → Side → List Item → Item → Bool
is_used_again table side seen (Sent sender m) = is_side side sender && uses_again table side seen m
is_used_again table side seen Item.Quiet = false

-- Whether an end used an own ID again in these items. After that, it is unclear which transaction is meant.
abbrev pub has_used_again : Table → Side → List Item → Bool
has_used_again table side items = one_passes (is_used_again table side) [] items
