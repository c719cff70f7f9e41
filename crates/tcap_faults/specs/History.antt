-- What is kept of the messages that an end sent since the last quiet mark, for each transaction ID?
use Rattle.std.specs.Prelude.{◌≡◌, ⊤, ◌≤◌, ℕ, ◌^◌, Bool, false, List, [], ◌∷◌, length, filter, filter_map, Option, Some, None, is_some, is_none, ◌||◌, not, nat_le, cond}
use Rattle.std.specs.Map.{lookup}
use Rattle.std.specs.BTreeMap.{is_at}
use Rattle.std.specs.BTreeSet as set
use Rattle.std.specs.List.{find, list_any}
use Rattle.tcap_msg.specs.declared.kind.Kind.TheVariants as forms
use Rattle.tcap_msg.specs.declared.message.Message.{Message}
use Rattle.tcap_msg.specs.Parts.{cause_in, components_in, dtid_in, otid_in}
use Rattle.tcap_record.specs.declared.entry.End.{End as Side}
use Rattle.tcap_record.specs.declared.entry.End.TheVariants.{A, B}
use Rattle.tcap_record.specs.Ends.{other}
use Rattle.tcap_end.specs.End.{is_id}
use Rattle.tcap_end.specs.Table.{Table, octets_cmp}
use Rattle.tcap_model.specs.World.{Item}
use Rattle.tcap_model.specs.SinceMark.{ended_by, is_begin_with_request}
use Rattle.tcap_refute.specs.EarlierMessages.{components_of, is_a, sent_by}
use Rattle.tcap_refute.specs.Facts.{FromFact, shows_from}
use Rattle.tcap_refute.specs.KeptFacts.{from_fact_noted}
use Rattle.tcap_faults.specs.ClosedHalves.{shows_closed}
use Rattle.tcap_faults.specs.Counts.{count, is_nothing}
use Rattle.tcap_faults.specs.SentToId.{is_continue_to, has_ended, has_used, is_cause, one_passes}
use Rattle.tcap_faults.specs.declared.transaction.history.Facts.{Facts}
use Rattle.tcap_faults.specs.declared.transaction.history.SideFacts.{SideFacts}
use Rattle.tcap_faults.specs.declared.transaction.sent_from_id.ContinueTallies.{ContinueTallies}
use Rattle.tcap_faults.specs.declared.transaction.sent_from_id.FirstBegin.{FirstBegin}
use Rattle.tcap_faults.specs.declared.transaction.sent_from_id.SentFrom.{SentFrom}
use Rattle.tcap_faults.specs.declared.transaction.sent_to_id.SentTo.{SentTo}
use Rattle.tcap_faults.specs.HalfByPeerId.{from_first, responds}
use Rattle.tcap_faults.specs.IdList.{AreAmong, AreIds}
use Rattle.tcap_faults.specs.TallyMeaning.{IsTally}
use Rattle.tcap_faults.specs.TangledIds.{guesses, peers_of}
use Rattle.tcap_faults.specs.UsedAgain.{has_used_again}

-- ---- by transaction IDs

-- The messages of an end from this ID.
abbrev pub sent_from : Side → List Item → List ℕ → List Message
sent_from side items id = filter (λ m. is_id id (otid_in m)) (sent_by side items)

-- The messages of an end to this ID.
abbrev pub sent_to : Side → List Item → List ℕ → List Message
sent_to side items id = filter (λ m. is_id id (dtid_in m)) (sent_by side items)

-- The destination IDs of the Continues among these messages.
abbrev pub dtids_of : List Message → List (List ℕ)
dtids_of ms = filter_map dtid_in (filter (is_a forms.Continue) ms)

-- The originating IDs of the Continues among these messages.
abbrev pub otids_of : List Message → List (List ℕ)
otids_of ms = filter_map otid_in (filter (is_a forms.Continue) ms)

-- `kept` summarizes these messages; None summarizes none.
abbrev pub IsAt : {X : Type 0} → (List Message → X → Type 0) → List Message → Option X → Type 0
IsAt of ms None = ms ≡ []
IsAt of ms (Some kept) = (is_nothing ms ≡ false) × of ms kept

-- ---- Continues to an ID, divided at the first that answers a dialogue request

-- The messages before the first that answers a dialogue request.
abbrev pub before_response : List Message → List Message
before_response [] = []
before_response (m ∷ ms) = cond (responds m) [] (m ∷ before_response ms)

-- `kept` summarizes these Continues.
pub record IsContinueTallies (table : Table) (ms : List Message) (kept : ContinueTallies) : Type 0 where
  pub answered : kept.answered ≡ list_any responds ms
  pub sooner : IsTally table (components_of (before_response ms)) kept.sooner
  pub since : IsTally table (components_of (from_first responds ms)) kept.since

abbrev pub IsContinueTalliesAt : Table → List Message → Option ContinueTallies → Type 0
IsContinueTalliesAt table ms kept = IsAt (IsContinueTallies table) ms kept

-- ---- what was sent from an ID

-- `kept` summarizes the first Begin, if there is one.
abbrev pub IsFirstBegin : Table → Option Message → Option FirstBegin → Type 0
IsFirstBegin table None None = ⊤
IsFirstBegin table (Some begin) (Some kept) =
    (kept.requests ≡ is_begin_with_request begin) × IsTally table (components_in begin) kept.components
IsFirstBegin table _ _ = ⊥

-- `kept` summarizes these messages from one ID, without the notes for F2 to F7.
pub record IsFrom (table : Table) (ms : List Message) (kept : SentFrom) : Type 0 where
  pub begin : IsFirstBegin table (find (is_a forms.Begin) ms) kept.begin
  pub twice : kept.begun_twice ≡ nat_le 2 (count (is_a forms.Begin) ms)
  pub continues : length ms ≤ 2 ^ 126 → kept.continues ≡ count (is_a forms.Continue) ms
  pub to : AreIds (dtids_of ms) kept.to
  pub came : (own : List ℕ) → IsContinueTalliesAt table (filter (is_continue_to own) ms)
      (lookup (is_at (octets_cmp own)) kept.came.entries)

-- `kept` summarizes these messages from one ID, with the notes for F2 to F7.
pub record IsFromWhole (table : Table) (ms : List Message) (kept : SentFrom) : Type 0 where
  pub from : IsFrom table ms kept
  pub first : (fact : FromFact) → from_fact_noted fact kept.first ≡ list_any (shows_from table fact) ms

abbrev pub IsFromAt : Table → List Message → Option SentFrom → Type 0
IsFromAt table ms kept = IsAt (IsFromWhole table) ms kept

-- ---- what was sent to an ID

-- The messages that are no Aborts of the provider.
abbrev pub of_user : List Message → List Message
of_user ms = filter (λ m. is_none (cause_in m)) ms

-- A user's end: an End, or an Abort without cause.
abbrev pub ends : Message → Bool
ends m = is_some (ended_by m)

-- An End or an Abort.
abbrev pub is_end_or_abort : Message → Bool
is_end_or_abort m = is_a forms.End m || is_a forms.Abort m

-- `kept` summarizes these messages to one ID.
pub record IsTo (table : Table) (ms : List Message) (kept : SentTo) : Type 0 where
  pub spoke : kept.spoke ≡ not (is_nothing (of_user ms))
  pub from : AreIds (otids_of ms) kept.from
  pub refused : kept.refused ≡ list_any (λ m. is_cause 4 (cause_in m)) ms
  pub unknown : length ms ≤ 2 ^ 126 → kept.unknown ≡ count (λ m. is_cause 1 (cause_in m)) ms
  pub ended : kept.ended ≡ list_any ends ms
  pub silenced : kept.silenced ≡ list_any is_end_or_abort ms
  pub components : IsTally table (components_of (of_user ms)) kept.components

abbrev pub IsToAt : Table → List Message → Option SentTo → Type 0
IsToAt table ms kept = IsAt (IsTo table) ms kept

-- ---- all messages of an end

-- `kept` is the history of what this end sent in these items. Some of it also depends on what its peer sent.
pub record IsSide (table : Table) (side : Side) (items : List Item) (kept : SideFacts) : Type 0 where
  pub from : (id : List ℕ) → IsFromAt table (sent_from side items id) (lookup (is_at (octets_cmp id)) kept.from.entries)
  pub to : (id : List ℕ) → IsToAt table (sent_to side items id) (lookup (is_at (octets_cmp id)) kept.to.entries)
  -- The destination IDs of its Continues from an ID, if the other end used them.
  pub joined : (id : List ℕ)
      → AreAmong (filter (has_used (other side) items) (dtids_of (sent_from side items id)))
      (lookup (is_at (octets_cmp id)) kept.joined.entries)
  -- Its IDs from which it guessed an ID of the other end (`TangledIds`).
  pub guessed : (id : List ℕ) → set.contains octets_cmp kept.guessed id ≡ one_passes (guesses (other side) id) [] items
  -- Its IDs that it answered as closed.
  pub closed : (id : List ℕ) → set.contains octets_cmp kept.closed id ≡ one_passes (shows_closed side id) [] items
  -- Its IDs that are joined with an ID that it ended.
  pub over : (id : List ℕ)
      → set.contains octets_cmp kept.over id ≡ list_any (has_ended side items) (peers_of side items id)
  pub again : kept.again ≡ has_used_again table side items

-- `kept` is the history of both ends.
pub record AreFacts (table : Table) (items : List Item) (kept : Facts) : Type 0 where
  pub a : IsSide table A items kept.a
  pub b : IsSide table B items kept.b
