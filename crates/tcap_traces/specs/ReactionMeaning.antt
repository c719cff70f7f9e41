-- What does the result for an end of a dialogue mean if its peer sent a malformed message?
use Rattle.std.specs.Prelude.{◌≡◌, ◌⊎◌, ℕ, true, false, List, drop, length, Option, Some}
use Rattle.std.specs.List.{list_any}
use Rattle.tcap_record.specs.declared.entry.End.{End as Side}
use Rattle.tcap_record.specs.declared.entry.Entry.{Entry}
use Rattle.tcap_record.specs.Ends.{other}
use Rattle.tcap_end.specs.Table.{Table}
use Rattle.tcap_refute.specs.declared.kind.Refutation.{Refutation}
use Rattle.tcap_readings.specs.declared.malformed.Malformed.{Malformed}
use Rattle.tcap_readings.specs.declared.way.Way.{Way}
use Rattle.tcap_readings.specs.Malformed.{first_malformed, malformed_at, within_limits}
use Rattle.tcap_readings.specs.Reactions.{is_wrong_at}
use Rattle.tcap_readings.specs.Readings.{Reading, number_in_dialogue, reading_by}
use Rattle.tcap_faults.specs.BlameMeaning.{IsAtFaultOf}
use Rattle.tcap_judge.specs.LawfulOutcome.{AreLawfulUnheard}
use Rattle.tcap_traces.specs.declared.end_result.EndResult.{EndResult}
use Rattle.tcap_traces.specs.declared.end_result.EndResult.TheVariants as end_results
use Rattle.tcap_traces.specs.declared.end_result.ReactionFault.{ReactionFault}
use Rattle.tcap_traces.specs.declared.end_result.ReactionFault.TheVariants.{GoesOn, Wrong}
use Rattle.tcap_traces.specs.declared.end_result.Taken.{Taken}
use Rattle.tcap_traces.specs.Pieces.{TraceEntry}
use Rattle.tcap_traces.specs.ResultMeaning.{MayHaveSentUnheard}
use Rattle.tcap_traces.specs.Verdict.{is_of}
use Rattle.tcap_traces.specs.Reaction.{goes_on, octets_at, unheard_by}

-- what can be read of the entry of the peer with this number
abbrev pub malformed_in : Side → List TraceEntry → ℕ → Malformed
malformed_in side sent number = malformed_at (other side) number (octets_at sent number)

-- The first malformed message of the peer has this number.
abbrev pub IsFirst : Side → List Entry → ℕ → Type 0
IsFirst side entries number = first_malformed (other side) (within_limits entries) ≡ Some number

-- The end took the malformed message of its peer in this way. In some run it keeps the rules and sends its part of the
-- reading, with this many unheard messages of its peer; a malformed message that is dropped counts as one. It sent no
-- entry after the limits of the profile.
pub record MayHaveReacted (side : Side) (table : Table) (sent : List TraceEntry) (entries : List Entry) (taken : Taken)
    (unheard : ℕ) : Type 0 where
  pub first : IsFirst side entries taken.entry
  pub reading : Reading
  pub is_reading : reading_by taken.way (malformed_in side sent taken.entry) (within_limits entries) ≡ Some reading
  pub count : ℕ
  pub lawful : AreLawfulUnheard (Some side) table reading.entries count
  pub heard : unheard ≡ unheard_by taken.way count
  pub ended : list_any (is_of side) (drop (length (within_limits entries)) entries) ≡ false

-- An entry of this reading is at fault: no run in which the end keeps the rules has it there. It is wrong no matter how
-- the end took the malformed message with this number.
pub record IsAtFaultBy (side : Side) (table : Table) (sent : List TraceEntry) (entries : List Entry) (number : ℕ)
    (reading : Reading) : Type 0 where
  pub fault : Refutation
  pub at_fault : IsAtFaultOf table side reading.entries fault
  pub wrong : is_wrong_at (malformed_in side sent number) (number_in_dialogue reading fault.entry)
      (within_limits entries) ≡ true

-- The end has this fault in its reaction: it is at fault by every reading, or it goes on with a transaction that it
-- aborted.
abbrev pub IsFaultyReaction : Side → Table → List TraceEntry → List Entry → ReactionFault → Type 0
IsFaultyReaction side table sent entries (Wrong r) =
    (number : ℕ) × IsFirst side entries number × ((way : Way) (reading : Reading)
    → reading_by way (malformed_in side sent number) (within_limits entries) ≡ Some reading
    → IsAtFaultBy side table sent entries number reading)
IsFaultyReaction side table sent entries (GoesOn answer entry) =
    (number : ℕ) × IsFirst side entries number
    × (goes_on (malformed_in side sent number) (within_limits entries) ≡ Some (answer, entry))

-- The result is true if it says that the end passes or fails, or is blamed.
abbrev pub IsTrueJudgement : Side → Table → List TraceEntry → List Entry → EndResult → Type 0
IsTrueJudgement side table sent entries (end_results.Pass unheard) = MayHaveSentUnheard side table entries unheard
IsTrueJudgement side table sent entries (end_results.Fail r) = IsAtFaultOf table side entries r
IsTrueJudgement side table sent entries (end_results.Doubtful r doubt) = IsAtFaultOf table side entries r
IsTrueJudgement side table sent entries (end_results.PassBy taken unheard) =
    MayHaveReacted side table sent entries taken unheard
IsTrueJudgement side table sent entries (end_results.FailBy fault) = IsFaultyReaction side table sent entries fault
IsTrueJudgement side table sent entries (end_results.DoubtfulBy fault doubt) =
    IsFaultyReaction side table sent entries fault
IsTrueJudgement side table sent entries said = Unit {0}
