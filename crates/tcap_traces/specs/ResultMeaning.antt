-- What does the result for an end of a dialogue mean?
use Rattle.std.specs.Prelude.{◌≡◌, ◌⊎◌, ℕ, false, List, ◌∷◌, ◌++◌, drop, take, slice_get, Option, Some, Err}
use Rattle.std.specs.List.{list_any}
use Rattle.tcap_record.specs.declared.entry.End.{End as Side}
use Rattle.tcap_record.specs.declared.entry.Entry.{Entry}
use Rattle.tcap_end.specs.Table.{Table}
use Rattle.tcap_model.specs.declared.reason.Reason.{Reason}
use Rattle.tcap_model.specs.World.{Item}
use Rattle.tcap_model.specs.Entries.{item_of}
use Rattle.tcap_model.specs.Run.{IsLawfulFor}
use Rattle.tcap_faults.specs.BlameMeaning.{IsAtFaultOf}
use Rattle.tcap_judge.specs.declared.findings.Finding.{Finding}
use Rattle.tcap_judge.specs.BlameOutcome.{IsFound}
use Rattle.tcap_judge.specs.LawfulOutcome.{AreLawful, AreLawfulUnheard}
use Rattle.tcap_traces.specs.declared.end_result.EndResult.{EndResult}
use Rattle.tcap_traces.specs.declared.end_result.EndResult.TheVariants as end_results
use Rattle.tcap_traces.specs.Verdict.{is_of}

-- The entry with this number is no message.
abbrev pub IsNoMessage : List Entry → ℕ → Type 0
IsNoMessage entries number = (entry : Entry) × (reason : Reason) × (slice_get entries number ≡ Some entry)
    × (item_of entry ≡ Err reason)

-- In some run the end keeps the rules, and this many messages of its peer are unheard. The run sends the entries, or
-- those before an entry that is no message, from which on none is of this end.
abbrev pub MayHaveSentUnheard : Side → Table → List Entry → ℕ → Type 0
MayHaveSentUnheard side table entries unheard = AreLawfulUnheard (Some side) table entries unheard
    ⊎ ((number : ℕ) × IsNoMessage entries number × AreLawfulUnheard (Some side) table (take number entries) unheard
    × (list_any (is_of side) (drop number entries) ≡ false))

-- The end may have sent its part with some number of unheard messages.
abbrev pub MayHaveSent : Side → Table → List Entry → Type 0
MayHaveSent side table entries = (unheard : ℕ) × MayHaveSentUnheard side table entries unheard

-- The result is true. If the end fails or is doubtful, the entry is at fault, no matter what its peer
-- sends or what follows. If it passes or is `Unheard`, it may have sent its part with this many unheard messages. If
-- only other circumstances keep it from passing, it may have sent its part with some number of unheard messages. It is no
-- result of a reaction to a malformed message.
abbrev pub IsTrueResult : Side → Table → List Entry → EndResult → Type 0
IsTrueResult side table entries (end_results.Pass unheard) = MayHaveSentUnheard side table entries unheard
IsTrueResult side table entries (end_results.Fail r) = IsAtFaultOf table side entries r
IsTrueResult side table entries (end_results.Doubtful r doubt) = IsAtFaultOf table side entries r
IsTrueResult side table entries end_results.Undecided = Unit {0}
IsTrueResult side table entries (end_results.AfterBadEntry number) = AreLawful (Some side) table (take number entries)
IsTrueResult side table entries end_results.UnderWay = MayHaveSent side table entries
IsTrueResult side table entries end_results.EarlyMark = MayHaveSent side table entries
IsTrueResult side table entries end_results.TooLong = MayHaveSent side table entries
IsTrueResult side table entries end_results.UnsureTable = MayHaveSent side table entries
IsTrueResult side table entries end_results.Open = MayHaveSent side table entries
IsTrueResult side table entries (end_results.Unheard unheard) = MayHaveSentUnheard side table entries unheard
IsTrueResult side table entries said = ⊥

-- the finding on the entries before this one, if there is one, holds
abbrev pub IsFoundBefore : Side → Table → List Entry → Option ℕ → Option Finding → Type 0
IsFoundBefore side table entries (Some number) (Some found) = IsFound side table (take number entries) found
IsFoundBefore side table entries number found = Unit {0}

-- No end that keeps the rules may have sent its part of these items, no matter what its peer sent. This holds at the
-- beginning of a trace, and after other items and a quiet mark.
abbrev pub IsFaultOfTrace : Table → Side → List Item → Type 0
IsFaultOfTrace table side items = (IsLawfulFor side items table → ⊥)
    × ((earlier : List Item) → IsLawfulFor side (earlier ++ Item.Quiet ∷ items) table → ⊥)
