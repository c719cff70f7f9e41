-- To which IDs an end sent messages, and from which IDs it sent Continues.
use Rattle.std.specs.Prelude.{◌≡◌, ℕ, Bool, false, List, Option, Some, None, ◌&&◌, not, cond}
use Rattle.std.specs.BTreeSet as set
use Rattle.std.specs.List.{list_any}
use Rattle.tcap_msg.specs.declared.message.Message.{Message}
use Rattle.tcap_msg.specs.declared.message.Message.TheVariants.{Begin, Continue}
use Rattle.tcap_msg.specs.Parts.{otid_in}
use Rattle.tcap_record.specs.declared.entry.End.{End as Side}
use Rattle.tcap_record.specs.declared.entry.Entry.{Entry}
use Rattle.tcap_end.specs.Table.{octets_cmp}
use Rattle.tcap_record.specs.Ends.{other, is_entry_of}
use Rattle.tcap_certificate.specs.declared.certificate.Fate.{Fate}
use Rattle.tcap_certificate.specs.declared.certificate.Fate.TheVariants.{Lost}
use Rattle.tcap_search.specs.declared.unanswered.UsedIds.{UsedIds}
use Rattle.tcap_search.specs.SegmentEntries.{message_of}
use Rattle.tcap_search.specs.ProposedCertificate.{goes_on_from, is_gap, is_sent_to_id}

-- the originating ID of a Continue
abbrev pub continued_from : Message → Option (List ℕ)
continued_from (Continue otid dtid dialogue components) = Some otid
continued_from _ = None

-- The sets have the IDs of this end's messages among these entries.
pub record AreUsedIds (side : Side) (entries : List Entry) (s : UsedIds) : Type 0 where
  pub to : (id : List ℕ) → set.contains octets_cmp s.to id ≡ list_any (is_sent_to_id side id) entries
  pub from : (id : List ℕ) → set.contains octets_cmp s.from id ≡ list_any (goes_on_from side id) entries

-- whether a message is unanswered, by these sets
abbrev pub unanswered_by : UsedIds → Option Message → Bool
unanswered_by s (Some (Begin otid dialogue components)) = not (set.contains octets_cmp s.to otid)
unanswered_by s (Some (Continue otid dtid dialogue components)) =
    not (set.contains octets_cmp s.to otid) && not (set.contains octets_cmp s.from dtid)
unanswered_by s _ = false

-- the fate of an entry, by these sets of the judged end
abbrev pub fate_unless_unanswered : UsedIds → Side → Entry → Fate → Fate
fate_unless_unanswered s side e fate =
    cond (is_gap fate && is_entry_of (other side) e.side && unanswered_by s (message_of e)) Lost fate
