-- What is the result for an end whose peer sent a malformed message? The messages of the end are judged by each reading
-- of the dialogue, a record in which the malformed message was taken in some way.
use Rattle.std.specs.Prelude.{ℕ, ◌+◌, ◌-◌, ◌^◌, min, Bool, true, false, cond, ◌&&◌, not, nat_lt, is_some, List, [], ◌∷◌, drop, take, length, filter_map, slice_get, Option, Some, None, option_map}
use Rattle.std.specs.List.{find, list_all, list_any}
use Rattle.tcap_record.specs.declared.entry.End.{End as Side}
use Rattle.tcap_record.specs.declared.entry.Entry.{Entry}
use Rattle.tcap_record.specs.Ends.{other}
use Rattle.tcap_end.specs.Table.{Table}
use Rattle.tcap_refute.specs.declared.kind.Refutation.{Refutation}
use Rattle.tcap_readings.specs.declared.malformed.Malformed.{Malformed}
use Rattle.tcap_readings.specs.declared.way.Way.{Way}
use Rattle.tcap_readings.specs.declared.way.Way.TheVariants as ways
use Rattle.tcap_readings.specs.Malformed.{first_malformed, malformed_at, next_malformed, within_limits}
use Rattle.tcap_readings.specs.Reactions.{answer, goes_on_at, is_in_doubt, is_sole, is_wrong_at}
use Rattle.tcap_readings.specs.Readings.{Reading, number_in_dialogue, reading_by}
use Rattle.tcap_judge.specs.declared.findings.Finding.{Finding}
use Rattle.tcap_judge.specs.declared.findings.Finding.TheVariants as findings
use Rattle.tcap_judge.specs.BlameOutcome.{finding}
use Rattle.tcap_traces.specs.declared.end_result.Doubt.{Doubt}
use Rattle.tcap_traces.specs.declared.end_result.Doubt.TheVariants as doubts
use Rattle.tcap_traces.specs.declared.end_result.EndResult.{EndResult}
use Rattle.tcap_traces.specs.declared.end_result.EndResult.TheVariants as end_results
use Rattle.tcap_traces.specs.declared.end_result.Circumstances.{Circumstances}
use Rattle.tcap_traces.specs.declared.end_result.ReactionFault.{ReactionFault}
use Rattle.tcap_traces.specs.declared.end_result.ReactionFault.TheVariants.{GoesOn, Wrong}
use Rattle.tcap_traces.specs.declared.end_result.Taken.{Taken}
use Rattle.tcap_traces.specs.declared.reaction.Wanted.{Wanted}
use Rattle.tcap_traces.specs.declared.reaction.Wanted.TheVariants as wanted
use Rattle.tcap_traces.specs.declared.reaction.ReadingResult.{ReadingResult}
use Rattle.tcap_traces.specs.Pieces.{TraceEntry}
use Rattle.tcap_traces.specs.Verdict.{doubt_of, fails, is_begun_by_peer, is_from, is_of, passes, result_of}

-- ---- the result by a reading

-- the octets of the entry with this number
abbrev pub octets_at : List TraceEntry → ℕ → List ℕ
octets_at sent number = by (slice_get sent number)
  where
    by : Option TraceEntry → List ℕ
    by None = []
    by (Some entry) = entry.octets

-- unreadable entries are counted in the dialogue, and not in a reading
abbrev pub in_reading : Circumstances → Circumstances
in_reading c = record c { unread_from = None }

-- the number of unheard messages; one that is dropped counts
abbrev pub unheard_by : Way → ℕ → ℕ
unheard_by ways.Dropped unheard = min (unheard + 1) (2 ^ 64 - 1)
unheard_by way unheard = unheard

-- the result for an end that may have sent its part if it took the malformed message so
abbrev pub taken_so : Taken → EndResult → EndResult
taken_so t (end_results.Pass unheard) = end_results.PassBy t unheard
taken_so t said = said

-- a blame, with the number of the entry in the dialogue
abbrev pub in_dialogue : Reading → Refutation → Refutation
in_dialogue r at = record at { entry = number_in_dialogue r at.entry }

-- The result for the end in a reading, by the finding on it.
abbrev pub reading_result : Table → Circumstances → Side → Taken → Reading → Finding → EndResult
reading_result table c side t r (findings.Blamed at) =
    fails (in_dialogue r at) (doubt_of table (in_reading c) side r.entries at)
reading_result table c side t r (findings.Lawful count unheard) = taken_so t (passes c (unheard_by t.way unheard))
reading_result table c side t r (findings.NotBlamed count) = end_results.Undecided

-- the result by this reading, which takes `m` in this way
abbrev pub result_with : Table → Circumstances → Side → Malformed → List Entry → Way → Reading → ReadingResult
result_with table c side m entries way r = record {
  in_doubt = is_in_doubt way m entries;
  result = reading_result table c side (record { entry = m.number; way = way }) r (finding table r.entries side);
}

-- the result by the reading that takes `m` in this way, if there is one
abbrev pub result_by_way : Table → Circumstances → Side → Malformed → List Entry → Way → Option ReadingResult
result_by_way table c side m entries way = option_map (result_with table c side m entries way) (reading_by way m entries)

abbrev pub all_ways : List Way
all_ways = ways.Dropped ∷ ways.Closed ∷ ways.InPart ∷ ways.Rejected ∷ ways.Aborted ∷ ways.Refused ∷ []

-- the results by all readings
abbrev pub results_of : Table → Circumstances → Side → Malformed → List Entry → List ReadingResult
results_of table c side m entries = filter_map (result_by_way table c side m entries) all_ways

-- ---- the result by all readings

-- whether the end may have sent its part
abbrev pub is_lawful : EndResult → Bool
is_lawful (end_results.Fail r) = false
is_lawful (end_results.Doubtful r doubt) = false
is_lawful end_results.Undecided = false
is_lawful said = true

-- whether the end passes
abbrev pub is_pass : EndResult → Bool
is_pass (end_results.PassBy t unheard) = true
is_pass said = false

-- whether it is open if the end may have sent its part, or its blame is in doubt
abbrev pub is_unclear : EndResult → Bool
is_unclear (end_results.Doubtful r doubt) = true
is_unclear end_results.Undecided = true
is_unclear said = false

-- whether the result by a reading is the wanted one
abbrev pub is_wanted : Wanted → ReadingResult → Bool
is_wanted wanted.Pass x = not x.in_doubt && is_pass x.result
is_wanted wanted.SurelyLawful x = not x.in_doubt && is_lawful x.result
is_wanted wanted.Lawful x = is_lawful x.result
is_wanted wanted.Unclear x = is_unclear x.result

-- the blame of a result without doubt
abbrev pub blame_of : EndResult → Option Refutation
blame_of (end_results.Fail r) = Some r
blame_of said = None

-- the blame by a reading
abbrev pub blame_in : ReadingResult → Option Refutation
blame_in x = blame_of x.result

-- whether there is a blame, for an entry that is wrong no matter how the end took `m`
abbrev pub is_wrong_blame : Malformed → List Entry → Option Refutation → Bool
is_wrong_blame m entries None = false
is_wrong_blame m entries (Some r) = is_wrong_at m r.entry entries

-- whether the end is blamed by a reading for such an entry
abbrev pub is_wrong : Malformed → List Entry → ReadingResult → Bool
is_wrong m entries x = is_wrong_blame m entries (blame_in x)

-- the later of two blames
abbrev pub later : Option Refutation → Option Refutation → Option Refutation
later None b = b
later (Some a) None = Some a
later (Some a) (Some b) = cond (nat_lt a.entry b.entry) (Some b) (Some a)

-- the last blame of these results, by the numbers of the entries, given the last of earlier ones
abbrev pub last_blame : Option Refutation → List ReadingResult → Option Refutation
last_blame last [] = last
last_blame last (x ∷ xs) = last_blame (later last (blame_in x)) xs

-- The first doubt that makes a fault in a reaction inconclusive, if there is one.
abbrev pub doubt_of_reaction : Circumstances → Side → ℕ → Option Doubt
doubt_of_reaction c side entry =
    cond c.under_way (Some doubts.UnderWay)
    (cond c.early_mark (Some doubts.EarlyMark)
    (cond c.again (Some doubts.CameAgain)
    (cond (is_begun_by_peer c.began side) (Some doubts.UsedBefore)
    (cond (is_from c.unread_from entry) (Some doubts.Unread) None))))

-- the result for an end with this fault in its reaction, which fails unless there is a doubt
abbrev pub fails_with : ReactionFault → Option Doubt → EndResult
fails_with fault None = end_results.FailBy fault
fails_with fault (Some doubt) = end_results.DoubtfulBy fault doubt

-- the result for an end with this fault in its reaction, in this entry
abbrev pub fails_by : Circumstances → Side → ReactionFault → ℕ → EndResult
fails_by c side fault entry = fails_with fault (doubt_of_reaction c side entry)

-- The result for an end that is blamed by each reading, last with this blame. It fails if each entry for which it is
-- blamed is wrong no matter how it took `m`. Otherwise it goes on as if `m` had been a message.
abbrev pub blamed_by_all : Circumstances → Side → Malformed → Option Refutation → Bool → EndResult
blamed_by_all c side m (Some r) true = fails_by c side (Wrong r) r.entry
blamed_by_all c side m last are_wrong = end_results.AsIfMessage m.number

-- the result for an end that may have sent its part by no reading
abbrev pub result_of_blames : Circumstances → Side → Malformed → List Entry → List ReadingResult → EndResult
result_of_blames c side m entries xs =
    cond (is_some (find (is_wanted wanted.Unclear) xs)) (end_results.UnclearReading m.number)
    (blamed_by_all c side m (last_blame None xs) (list_all (is_wrong m entries) xs))

-- The result of an end that may have sent its part within the limits of the profile. It is inconclusive if the end sent
-- an entry after them.
abbrev pub unless_after : Side → List Entry → EndResult → EndResult
unless_after side entries said =
    cond (list_any (is_of side) (drop (length (within_limits entries)) entries))
    (end_results.AfterBadEntry (length (within_limits entries))) said

-- The result by all readings, given the first by which the end passes without doubt, the first without doubt by which it
-- may have sent its part, and whether there is one by which it may have sent its part.
abbrev pub result_by_found : Circumstances → Side → Malformed → List Entry → List ReadingResult → Option ReadingResult
    → Option ReadingResult → Bool → EndResult
result_by_found c side m entries xs (Some x) sure lawful = unless_after side entries x.result
result_by_found c side m entries xs None (Some x) lawful = unless_after side entries x.result
result_by_found c side m entries xs None None true = end_results.UnlikelyAnswer m.number
result_by_found c side m entries xs None None false = result_of_blames c side m (within_limits entries) xs

-- the result by all readings
abbrev pub result_by_readings : Circumstances → Side → Malformed → List Entry → List ReadingResult → EndResult
result_by_readings c side m entries xs =
    result_by_found c side m entries xs (find (is_wanted wanted.Pass) xs) (find (is_wanted wanted.SurelyLawful) xs)
    (is_some (find (is_wanted wanted.Lawful) xs))

-- ---- the result

-- the answer to `m` and the entry by which the end goes on after it
abbrev pub goes_on_after : Malformed → List Entry → Option ℕ → Option (ℕ × ℕ)
goes_on_after m entries None = None
goes_on_after m entries (Some at) = option_map (λ entry. (at, entry)) (goes_on_at m at entries)

-- the same, if `m` belongs to one transaction alone
abbrev pub goes_on : Malformed → List Entry → Option (ℕ × ℕ)
goes_on m entries = cond (is_sole m entries) (goes_on_after m entries (answer m entries)) None

-- the result for an end whose peer sent one malformed message, by whether it goes on after its answer
abbrev pub result_after_by : Table → Circumstances → Side → Malformed → List Entry → Option (ℕ × ℕ) → EndResult
result_after_by table c side m entries (Some found) = fails_by c side (GoesOn found.0 found.1) found.1
result_after_by table c side m entries None =
    result_by_readings c side m entries (results_of table c side m (within_limits entries))

abbrev pub result_after : Table → Circumstances → Side → Malformed → List Entry → EndResult
result_after table c side m entries = result_after_by table c side m entries (goes_on m (within_limits entries))

-- The result for an end that is not blamed by the entries before the first malformed message of its peer, which has this
-- number, by the number of the second. If there is one, the result is inconclusive.
abbrev pub result_unblamed : Table → Circumstances → Side → List TraceEntry → List Entry → ℕ → Option ℕ → EndResult
result_unblamed table c side sent entries number (Some second) = end_results.SeveralMalformed number second
result_unblamed table c side sent entries number None =
    result_after table c side (malformed_at (other side) number (octets_at sent number)) entries

-- The result by the finding on the entries before the first malformed message of the peer. An end that is blamed by them
-- is at fault there.
abbrev pub result_from_by : Table → Circumstances → Side → List TraceEntry → List Entry → ℕ → Finding → Option ℕ → EndResult
result_from_by table c side sent entries number (findings.Blamed r) second =
    fails r (doubt_of table c side (take number entries) r)
result_from_by table c side sent entries number found second = result_unblamed table c side sent entries number second

-- the result for an end whose peer sent a malformed message with this number, the first
abbrev pub result_from : Table → Circumstances → Side → List TraceEntry → List Entry → ℕ → EndResult
result_from table c side sent entries number =
    result_from_by table c side sent entries number (finding table (take number entries) side)
    (next_malformed (other side) number (within_limits entries))

-- the result for an end if its peer sent a malformed message
abbrev pub reaction_result : Table → Circumstances → List TraceEntry → List Entry → Side → Option EndResult
reaction_result table c sent entries side =
    option_map (result_from table c side sent entries) (first_malformed (other side) (within_limits entries))

-- the result for an end, by the result for one whose peer sent a malformed message, if it did
abbrev pub judged_by : Table → Circumstances → List TraceEntry → List Entry → Side → Option EndResult → EndResult
judged_by table c sent entries side None = result_of table c entries side
judged_by table c sent entries side (Some said) = said

-- the result for an end of a dialogue
abbrev pub judged_result : Table → Circumstances → List TraceEntry → List Entry → Side → EndResult
judged_result table c sent entries side =
    judged_by table c sent entries side (reaction_result table c sent entries side)
