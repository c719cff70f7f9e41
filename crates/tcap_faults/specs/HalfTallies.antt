-- Which tallies count what a half heard, sent and invoked?
use Rattle.std.specs.Prelude.{◌≡◌, ℕ, List, [], ◌∷◌, ◌++◌, filter, Option, Some, None, cond}
use Rattle.tcap_record.specs.declared.entry.End.{End as Side}
use Rattle.tcap_record.specs.Ends.{other}
use Rattle.tcap_end.specs.Table.{Table}
use Rattle.tcap_model.specs.World.{Item}
use Rattle.tcap_faults.specs.SentToId.{begin_from, is_continue_to}
use Rattle.tcap_faults.specs.declared.transaction.sent_from_id.ContinueTallies.{ContinueTallies}
use Rattle.tcap_faults.specs.declared.transaction.sent_from_id.FirstBegin.{FirstBegin}
use Rattle.tcap_faults.specs.declared.transaction.sent_from_id.SentFrom.{SentFrom}
use Rattle.tcap_faults.specs.declared.transaction.sent_to_id.SentTo.{SentTo}
use Rattle.tcap_faults.specs.declared.component.tally.Tally.{Tally}
use Rattle.tcap_faults.specs.HalfByPeerId.{begun_from}
use Rattle.tcap_faults.specs.History.{IsContinueTalliesAt, IsFirstBegin, IsFrom, sent_from}

-- The tallies of the Continues from one ID to another.
abbrev pub continue_tallies : Option ContinueTallies → List Tally
continue_tallies None = []
continue_tallies (Some came) = came.sooner ∷ came.since ∷ []

-- The tally of a Begin.
abbrev pub begin_counted : Option FirstBegin → List Tally
begin_counted None = []
begin_counted (Some begin) = begin.components ∷ []

-- The tally of what was sent to an ID.
abbrev pub outgoing_counted : Option SentTo → List Tally
outgoing_counted None = []
outgoing_counted (Some outgoing) = outgoing.components ∷ []

-- What a begun half heard: if its Begin has an AARQ, only the Continues since the first with an AARE.
abbrev pub incoming_counted : FirstBegin → ContinueTallies → List Tally
incoming_counted begin came = cond begin.requests [] (came.sooner ∷ []) ++ came.since ∷ []

-- `kept` summarizes the messages of this end from this ID.
abbrev pub IsKeptFrom : Table → Side → List Item → List ℕ → SentFrom → Type 0
IsKeptFrom table side items id kept = IsFrom table (sent_from side items id) kept

-- `kept` summarizes the Begin from this own ID.
abbrev pub IsBegunBy : Table → Side → List Item → List ℕ → FirstBegin → Type 0
IsBegunBy table side items own kept = IsFirstBegin table (begin_from side own items) (Some kept)

-- `kept` summarizes the Continues from this ID of the peer to this own ID.
abbrev pub IsContinueTalliesBack : Table → Side → List Item → List ℕ → List ℕ → ContinueTallies → Type 0
IsContinueTalliesBack table side items id own kept =
    IsContinueTalliesAt table (filter (is_continue_to own) (sent_from (other side) items id)) (Some kept)

-- If the half with this ID of the peer is begun, this is its own ID.
abbrev pub IsBegunOwn : Side → List Item → List ℕ → Option (List ℕ) → Type 0
IsBegunOwn side items id own = (it : List ℕ) → begun_from side items id ≡ Some it → own ≡ Some it
