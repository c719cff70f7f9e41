-- The transaction of the last entry so far, by end and originating ID.
use Rattle.std.specs.Prelude.{ℕ, List, Option, Some, None}
use Rattle.std.specs.Map.{lookup}
use Rattle.std.specs.BTreeMap.{is_at}
use Rattle.tcap_msg.specs.declared.message.Message.{Message}
use Rattle.tcap_msg.specs.declared.message.Message.TheVariants.{Begin}
use Rattle.tcap_msg.specs.Parts.{dtid_in}
use Rattle.tcap_record.specs.declared.entry.End.{End as Side}
use Rattle.tcap_record.specs.declared.entry.End.TheVariants as sides
use Rattle.tcap_record.specs.declared.entry.Entry.{Entry}
use Rattle.tcap_end.specs.Table.{octets_cmp}
use Rattle.tcap_record.specs.Ends.{other}
use Rattle.tcap_model.specs.Run.{option_then}
use Rattle.tcap_search.specs.declared.transactions.Latest.{Latest}
use Rattle.tcap_search.specs.SegmentEntries.{message_of}

-- the transactions kept for an end, by originating ID
abbrev pub latest_of : Side → Latest → List (List ℕ × Option ℕ)
latest_of sides.A l = l.a.entries
latest_of sides.B l = l.b.entries

-- the transaction of the last entry of this end from this ID, if there is one
abbrev pub latest_at : Side → List ℕ → Latest → Option ℕ
latest_at side id l = option_then (lookup (is_at (octets_cmp id)) (latest_of side l)) (λ transaction. transaction)

-- the transaction of the last entry of the peer from this ID, if there is one
abbrev pub latest_of_peer : Option Side → Option (List ℕ) → Latest → Option ℕ
latest_of_peer (Some side) (Some id) l = latest_at (other side) id l
latest_of_peer _ _ l = None

-- the transaction of an entry with this number
abbrev pub belongs_by : ℕ → Entry → Latest → Option Message → Option ℕ
belongs_by number e l None = None
belongs_by number e l (Some (Begin otid dialogue components)) = Some number
belongs_by number e l (Some message) = latest_of_peer e.side (dtid_in message) l

-- the transaction of an entry, by its message
abbrev pub belongs : ℕ → Entry → Latest → Option ℕ
belongs number e l = belongs_by number e l (message_of e)
