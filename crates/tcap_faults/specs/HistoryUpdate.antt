-- What is kept after one more message?
use Rattle.std.specs.Prelude.{◌≡◌, ℕ, true, List, [], ◌∷◌, ◌++◌, Option, ◌==◌, ◌||◌, cond}
use Rattle.std.specs.Map.{lookup}
use Rattle.std.specs.BTreeMap.{BTreeMap, is_at}
use Rattle.tcap_msg.specs.declared.message.Message.{Message}
use Rattle.tcap_end.specs.End.{is_id}
use Rattle.tcap_end.specs.Table.{Table, octets_cmp}
use Rattle.tcap_refute.specs.EarlierMessages.{components_of}
use Rattle.tcap_faults.specs.declared.transaction.sent_from_id.ContinueTallies.{ContinueTallies}
use Rattle.tcap_faults.specs.declared.transaction.sent_from_id.SentFrom.{SentFrom}
use Rattle.tcap_faults.specs.declared.transaction.sent_to_id.SentTo.{SentTo}
use Rattle.tcap_faults.specs.IdList.{AreIds}
use Rattle.tcap_faults.specs.History.{IsAt, IsContinueTallies, IsFromWhole, IsTo, of_user, otids_of}
use Rattle.tcap_faults.specs.InvokeCounts.{more_if}
use Rattle.tcap_faults.specs.TallyMeaning.{IsTally}

-- ---- messages by transaction IDs

-- The lists with one more message, at the ID that `id_in` reads from it.
abbrev pub with_more : (Message → Option (List ℕ)) → Message → (List ℕ → List Message) → List ℕ → List Message
with_more id_in m lists id = lists id ++ cond (is_id id (id_in m)) (m ∷ []) []

-- `kept` has a summary of the list of messages at each ID.
abbrev pub AreAt : {X : Type 0} → (List Message → X → Type 0) → (List ℕ → List Message) → BTreeMap (List ℕ) X → Type 0
AreAt of lists kept = (id : List ℕ) → IsAt of (lists id) (lookup (is_at (octets_cmp id)) kept.entries)

abbrev pub AreContinueTallies : Table → (List ℕ → List Message) → BTreeMap (List ℕ) ContinueTallies → Type 0
AreContinueTallies table lists kept = AreAt (IsContinueTallies table) lists kept

abbrev pub AreFrom : Table → (List ℕ → List Message) → BTreeMap (List ℕ) SentFrom → Type 0
AreFrom table lists kept = AreAt (IsFromWhole table) lists kept

abbrev pub AreTo : Table → (List ℕ → List Message) → BTreeMap (List ℕ) SentTo → Type 0
AreTo table lists kept = AreAt (IsTo table) lists kept

-- ---- parts of what is kept of an ID

-- `new` is `old` with one more Abort of the provider, of this cause.
pub record IsCaused (cause : ℕ) (old new : SentTo) : Type 0 where
  pub refused : new.refused ≡ old.refused || (cause == 4)
  pub unknown : new.unknown ≡ more_if (cause == 1) old.unknown
  pub spoke : new.spoke ≡ old.spoke
  pub from : new.from ≡ old.from
  pub ended : new.ended ≡ old.ended
  pub silenced : new.silenced ≡ old.silenced
  pub components : new.components ≡ old.components

-- `new` is `old` with one more message that is no Abort of the provider, but without whether it ends anything.
pub record IsOutgoingAdded (table : Table) (ms : List Message) (m : Message) (old new : SentTo) : Type 0 where
  pub spoke : new.spoke ≡ true
  pub from : AreIds (otids_of (ms ++ m ∷ [])) new.from
  pub components : IsTally table (components_of (of_user (ms ++ m ∷ []))) new.components
  pub refused : new.refused ≡ old.refused
  pub unknown : new.unknown ≡ old.unknown
  pub ended : new.ended ≡ old.ended
  pub silenced : new.silenced ≡ old.silenced
