-- What do the verdicts `pass` and `fail` of `test` mean for the octets of a trace?
use Rattle.std.specs.Prelude.{◌≡◌, ◌⊎◌, true, false, cond, List, [], ◌∷◌, ◌++◌, ℕ, map, Contains, Option, Some, None, is_some}
use Rattle.std.specs.List.{list_any}
use Rattle.tcap_record.specs.declared.entry.End.{End as Side}
use Rattle.tcap_record.specs.declared.entry.Entry.{Entry as JudgedEntry}
use Rattle.tcap_books.specs.Book.{NamedTable}
use Rattle.tcap_certificate.specs.Replay.{is_judged}
use Rattle.tcap_refute.specs.declared.kind.Refutation.{Refutation}
use Rattle.tcap_faults.specs.BlameMeaning.{IsAtFaultOf}
use Rattle.tcap_traces.specs.declared.judging.Ends.{Ends}
use Rattle.tcap_traces.specs.declared.end_result.EndResult.{EndResult}
use Rattle.tcap_traces.specs.declared.end_result.EndResult.TheVariants as end_results
use Rattle.tcap_traces.specs.Pieces.{Entry, TraceEntry, pieces_of}
use Rattle.tcap_traces.specs.TableChoice.{choice}
use Rattle.tcap_traces.specs.Dialogue.{Dialogue, entry_of, heading_in, is_marked, is_open, judged_entries, quiet_mark}
use Rattle.tcap_traces.specs.declared.end_result.ReactionFault.{ReactionFault}
use Rattle.tcap_traces.specs.declared.end_result.Taken.{Taken}
use Rattle.tcap_traces.specs.ReactionMeaning.{IsFaultyReaction, MayHaveReacted}
use Rattle.tcap_traces.specs.ResultMeaning.{MayHaveSentUnheard}
use Rattle.tcap_traces.specs.ResultOfEnd.{result_at}
use Rattle.tcap_traces.specs.JudgedTrace.{Asked, JudgedDialogue, breaks_off, judged_trace}

-- ---- an end of a dialogue

-- all entries of a dialogue, and the quiet mark if one comes after them
abbrev pub all_entries : Dialogue → List JudgedEntry
all_entries d = map entry_of d.entries ++ cond (is_marked d.after) (quiet_mark ∷ []) []

-- The end may have sent its part of all entries of the dialogue, or of a reading of them if its peer sent a malformed
-- message. This is by the table that the entries choose, which is sure, and with this many unheard messages of its peer.
-- If each message should be heard, none is unheard. If dialogues should be complete, this one is not open.
pub record MayHaveSentPart (asked : Asked) (d : Dialogue) (side : Side) : Type 0 where
  pub table : NamedTable
  pub chosen : (choice asked.tables (all_entries d)).table ≡ Some table
  pub sure : (choice asked.tables (all_entries d)).unsure ≡ false
  pub unheard : ℕ
  pub sent : MayHaveSentUnheard side table.table (all_entries d) unheard
      ⊎ ((taken : Taken) × MayHaveReacted side table.table d.entries (all_entries d) taken unheard)
  pub heard : asked.question.heard ≡ true → unheard ≡ 0
  pub complete : asked.question.complete ≡ true → is_open d (Some table) ≡ false

-- The end is at fault in the dialogue, by the table that its entries choose: its octets there are no message, or no run
-- in which it keeps the rules has that message or quiet mark there. This holds no matter what its peer sends.
pub record IsAtFaultIn (asked : Asked) (d : Dialogue) (side : Side) (r : Refutation) : Type 0 where
  pub table : NamedTable
  pub chosen : (choice asked.tables (judged_entries d)).table ≡ Some table
  pub at_fault : IsAtFaultOf table.table side (judged_entries d) r

-- The end has this fault in its reaction to a malformed message of its peer, by the table that its entries choose.
pub record HasFaultyReaction (asked : Asked) (d : Dialogue) (side : Side) (fault : ReactionFault) : Type 0 where
  pub table : NamedTable
  pub chosen : (choice asked.tables (judged_entries d)).table ≡ Some table
  pub faulty : IsFaultyReaction side table.table d.entries (judged_entries d) fault

-- The end fails by this result: it is at fault in an entry, or in its reaction to a malformed message.
abbrev pub IsFailure : Asked → Dialogue → Side → EndResult → Type 0
IsFailure asked d side (end_results.Fail r) = IsAtFaultIn asked d side r
IsFailure asked d side (end_results.FailBy fault) = HasFaultyReaction asked d side fault
IsFailure asked d side said = ⊥

-- the entry and the kind for which a result blames an end, even if in doubt
abbrev pub blamed_by : EndResult → Option Refutation
blamed_by (end_results.Fail r) = Some r
blamed_by (end_results.Doubtful r doubt) = Some r
blamed_by said = None

-- ---- a trace

-- What `pass` means. The octets are a trace to their end, and it does not say that it was broken off. Some entry has a
-- kind that can be read. Each entry is in a dialogue. In each dialogue, each judged end may have sent its part.
pub record MeansPass (asked : Asked) (octets : List ℕ) : Type 0 where
  pub formed : (pieces_of octets).fault ≡ None
  pub unbroken : list_any breaks_off (pieces_of octets).pieces ≡ false
  pub readable : (entry : TraceEntry) × Contains (pieces_of octets).pieces (Entry entry)
      × (is_some (heading_in entry).kind ≡ true)
  pub whole : (entry : TraceEntry) → Contains (pieces_of octets).pieces (Entry entry)
      → (j : JudgedDialogue) × Contains (judged_trace asked octets).dialogues j × Contains j.dialogue.entries entry
  pub lawful : (j : JudgedDialogue) (side : Side) → Contains (judged_trace asked octets).dialogues j
      → is_judged asked.question.of side ≡ true → MayHaveSentPart asked j.dialogue side

-- What `fail` means. In some dialogue, a judged end is at fault, or its reaction to a malformed message is, and no doubt
-- applies.
pub record MeansFail (asked : Asked) (octets : List ℕ) : Type 0 where
  pub judged : JudgedDialogue
  pub has : Contains (judged_trace asked octets).dialogues judged
  pub side : Side
  pub is_asked : is_judged asked.question.of side ≡ true
  pub ends : Ends
  pub results : judged.ends ≡ Some ends
  pub fails : IsFailure asked judged.dialogue side (result_at side ends)
