-- What is the exit status of `test` over all traces?
use Rattle.std.specs.Prelude.{◌≡◌, ◌⊎◌, ℕ, List, Bool, true, false, None, length, replicate}
use Rattle.tcap_books.specs.Book.{NamedTable}
use Rattle.tcap_command_line.specs.declared.requests.Ids.{Ids}
use Rattle.tcap_command_line.specs.declared.requests.Ids.TheVariants as rules
use Rattle.tcap_command_line.specs.declared.requests.Test.{Test}
use Rattle.tcap_dialogues.specs.declared.reuse.Reuse.{Reuse}
use Rattle.tcap_dialogues.specs.declared.reuse.Reuse.TheVariants.{Again, Once}
use Rattle.tcap_traces.specs.declared.verdict.Verdict.{Verdict}
use Rattle.tcap_traces.specs.declared.verdict.Verdict.TheVariants as verdicts
use Rattle.tcap_traces.specs.Verdict.{status_of}
use Rattle.tcap_report.specs.declared.sum.Sum.{Sum}
use Rattle.tcap_report.specs.declared.trace.TraceOptions.{TraceOptions}
use Rattle.tcap_report.specs.Counts.{HasJudged, no_sum, worst_of}
use Rattle.tcap_report.specs.RunAnswer.{AnswersEach}

-- the rule for using transaction IDs again, by `--ids` and `--linger`
abbrev pub reuse_by : Ids → ℕ → Reuse
reuse_by rules.Once linger = Once
reuse_by ids linger = Again linger

-- whether `--ids settled` is given
abbrev pub is_settled : Ids → Bool
is_settled rules.Settled = true
is_settled ids = false

-- The options are those of the command line, with these tables.
abbrev pub AreOptions : Test → List NamedTable → TraceOptions → Type 0
AreOptions test tables options =
    (options.book.now ≡ tables) × (options.of ≡ test.of) × (options.reuse ≡ reuse_by test.ids test.linger)
    × (options.settled ≡ is_settled test.ids) × (options.complete ≡ test.complete)
    × (options.heard ≡ test.heard)

-- Each trace that the command line names was opened in its order, and judged by its options and these tables. The
-- octets of files are not known to a contract.
pub record JudgesEach (test : Test) (tables : List NamedTable) (before after : Sum) : Type 0 where
  pub options : TraceOptions
  pub options_are : AreOptions test tables options
  pub unread : ℕ
  pub answers : AnswersEach options (λ number. None) 0 (length test.traces.items) before after 0 unread

-- Each of `count` traces is an error.
abbrev pub AreErrors : ℕ → Sum → Sum → Type 0
AreErrors count before after = HasJudged (replicate count verdicts.Error) before after

-- Each trace is judged by some tables. Or a table is refused, and each trace is an error. `verdict` is the worst one in
-- the sum.
abbrev pub IsJudged : Test → Sum → Sum → Verdict → Type 0
IsJudged test before after verdict =
    (((tables : List NamedTable) × JudgesEach test tables before after)
    ⊎ AreErrors (length test.traces.items) before after) × (verdict ≡ worst_of after)

-- The exit status is that of the worst verdict on a trace; or that of an error, if the run stopped; or 4, if the
-- command line is wrong.
abbrev pub IsStatus : Test → ℕ → Type 0
IsStatus test status =
    ((sum : Sum) × (verdict : Verdict) × IsJudged test no_sum sum verdict × (status ≡ status_of verdict))
    ⊎ (status ≡ status_of verdicts.Error)
    ⊎ (status ≡ 4)
