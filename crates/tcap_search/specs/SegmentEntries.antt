-- How the search sees the entries of a segment between two quiet marks: each with its number in the segment and the
-- transaction to which it belongs (Q.774 3.3).
use Rattle.std.specs.Prelude.{ℕ, Bool, false, List, [], ◌∷◌, ◌++◌, length, Option, Some, None, ◌==◌, ◌&&◌}
use Rattle.std.specs.Option.{option_or}
use Rattle.tcap_msg.specs.declared.message.Message.{Message}
use Rattle.tcap_msg.specs.declared.message.Message.TheVariants.{Begin}
use Rattle.tcap_msg.specs.Parts.{dtid_in, otid_in}
use Rattle.tcap_record.specs.declared.entry.Body.{Body}
use Rattle.tcap_record.specs.declared.entry.Body.TheVariants.{Good}
use Rattle.tcap_record.specs.declared.entry.End.{End as Side}
use Rattle.tcap_record.specs.declared.entry.Entry.{Entry}
use Rattle.tcap_end.specs.End.{is_id}
use Rattle.tcap_record.specs.Ends.{is_entry_of, other}
use Rattle.tcap_model.specs.Run.{option_then, only_if}

-- the last element that passes a test
abbrev pub last : {A : Type 0} → (A → Bool) → List A → Option A
last passes [] = None
last passes (a ∷ more) = option_or (last passes more) (only_if (passes a) (Some a))

-- ---- entries

-- whether both entries are from one end
abbrev pub are_of_one_end : Entry → Entry → Bool
are_of_one_end e f = by e.side
  where
    by : Option Side → Bool
    by None = false
    by (Some side) = is_entry_of side f.side

-- whether the second entry is from the peer of the first one's sender
abbrev pub is_of_peer : Entry → Entry → Bool
is_of_peer e f = by e.side
  where
    by : Option Side → Bool
    by None = false
    by (Some side) = is_entry_of (other side) f.side

-- the message of an entry, if it is one
abbrev pub message_in : Body → Option Message
message_in (Good message) = Some message
message_in _ = None

-- the message of an entry, if it is one
abbrev pub message_of : Entry → Option Message
message_of e = message_in e.body

-- whether the entry is a message from this originating ID
abbrev pub is_from : List ℕ → Entry → Bool
is_from id e = by (message_of e)
  where
    by : Option Message → Bool
    by None = false
    by (Some message) = is_id id (otid_in message)

-- whether entry f is a message from the peer of e's sender, from this originating ID
abbrev pub is_peer_message_from : Entry → List ℕ → Entry → Bool
is_peer_message_from e id f = is_of_peer e f && is_from id f

-- ---- transactions

-- An entry with its number and its transaction, which is identified by the number of its Begin.
pub record Line : Type 0 where
  pub number : ℕ
  pub entry : Entry
  pub transaction : Option ℕ

-- the transaction of the last earlier entry of the peer from this ID
abbrev pub transaction_from : List Line → Entry → Option (List ℕ) → Option ℕ
transaction_from earlier e None = None
transaction_from earlier e (Some id) =
    option_then (last (λ f. is_peer_message_from e id f.entry) earlier) (λ f. f.transaction)

-- The transaction of a Begin is its number. A message with a destination ID has the transaction of the last earlier
-- entry of the peer from this ID. Other entries have none.
abbrev pub transaction_by : List Line → Entry → Option Message → Option ℕ
transaction_by earlier e None = None
transaction_by earlier e (Some (Begin otid dialogue components)) = Some (length earlier)
transaction_by earlier e (Some message) = transaction_from earlier e (dtid_in message)

-- the line of an entry after the earlier lines
abbrev pub line_after : List Line → Entry → Line
line_after earlier e = record {
  number = length earlier;
  entry = e;
  transaction = transaction_by earlier e (message_of e);
}

-- the lines of these entries after the earlier lines
abbrev pub lines_after : List Line → List Entry → List Line
lines_after earlier [] = earlier
lines_after earlier (e ∷ entries) = lines_after (earlier ++ line_after earlier e ∷ []) entries

-- the lines of the entries of a segment
abbrev pub lines_of : List Entry → List Line
lines_of entries = lines_after [] entries

-- whether two lines are in the same transaction
abbrev pub share_transaction : Line → Line → Bool
share_transaction x y = by x.transaction y.transaction
  where
    by : Option ℕ → Option ℕ → Bool
    by (Some t) (Some u) = t == u
    by _ _ = false
