-- Which halves of an end are open at a quiet mark, from the messages of both ends before it (Q.774 3.3).
use Rattle.std.specs.Prelude.{◌≡◌, ℕ, Bool, true, false, List, [], ◌∷◌, map, Option, None, ◌&&◌, ◌||◌}
use Rattle.std.specs.Option.{option_or}
use Rattle.std.specs.BTreeMap.{is_at}
use Rattle.std.specs.BTreeSet as set
use Rattle.std.specs.List.{list_any}
use Rattle.std.specs.Map.{lookup}
use Rattle.tcap_msg.specs.declared.kind.Kind.TheVariants as forms
use Rattle.tcap_msg.specs.declared.message.Message.{Message}
use Rattle.tcap_msg.specs.Parts.{dtid_in, otid_in}
use Rattle.tcap_record.specs.Ends.{other}
use Rattle.tcap_end.specs.End.{is_id}
use Rattle.tcap_end.specs.Table.{octets_cmp}
use Rattle.tcap_model.specs.SinceMark.{ended_by}
use Rattle.tcap_model.specs.Run.{only_if}
use Rattle.tcap_refute.specs.EarlierMessages.{is_a, sent_by}
use Rattle.tcap_evidence.specs.declared.mark.Halves.{Halves}
use Rattle.tcap_evidence.specs.declared.sent.Sent.{Sent as SentEntry}
use Rattle.tcap_evidence.specs.declared.shown_facts.ShownFact.{ShownFact}
use Rattle.tcap_evidence.specs.declared.shown_facts.ShownFact.TheVariants as facts
use Rattle.tcap_evidence.specs.Scene.{Scene}

-- the stored messages
abbrev pub messages_of : List SentEntry → List Message
messages_of sent = map (λ s. s.message.now) sent

-- the ID to which a message is an End or an Abort; `true` counts Aborts of the provider, `false` does not
abbrev pub ended_to : Bool → Message → Option (List ℕ)
ended_to true m = only_if (is_a forms.End m || is_a forms.Abort m) (dtid_in m)
ended_to false m = ended_by m

-- the ID to which a message is a Continue from this ID
abbrev pub goes_first : List ℕ → Message → Option (List ℕ)
goes_first id m = only_if (is_a forms.Continue m && is_id id (otid_in m)) (dtid_in m)

-- the ID to which the first Continue from this ID goes
abbrev pub first_to : List ℕ → List Message → Option (List ℕ)
first_to id [] = None
first_to id (m ∷ more) = option_or (goes_first id m) (first_to id more)

-- whether this thing is shown for a quiet mark only
abbrev pub is_of_mark : ShownFact → Bool
is_of_mark facts.Open = true
is_of_mark fact = false

-- The stored facts about the halves of an end: for each own ID, the destination of the first Continue from it; and the
-- IDs that the end and its peer ended.
pub record AreHalves (s : Scene) (kept : Halves) : Type 0 where
  pub first : (id : List ℕ) → lookup (is_at (octets_cmp id)) kept.first.entries ≡ first_to id (sent_by s.side s.items)
  pub ended : (id : List ℕ)
      → set.contains octets_cmp kept.ended id ≡ list_any (λ m. is_id id (ended_to false m)) (sent_by s.side s.items)
  pub ended_by_peer : (id : List ℕ) → set.contains octets_cmp kept.ended_by_peer id
      ≡ list_any (λ m. is_id id (ended_to true m)) (sent_by (other s.side) s.items)
