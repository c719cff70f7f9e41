-- Which verdicts do the traces of a run get, and how does the sum change?
use Rattle.std.specs.Prelude.{◌≡◌, ◌⊎◌, ℕ, suc, List, [], ◌∷◌, length, Option, cond, nat_lt}
use Rattle.tcap_ber.specs.Device.{one_more}
use Rattle.tcap_traces.specs.declared.verdict.Verdict.{Verdict}
use Rattle.tcap_traces.specs.declared.verdict.Verdict.TheVariants as verdicts
use Rattle.tcap_report.specs.declared.run.Opened.{Opened}
use Rattle.tcap_report.specs.declared.run.Opened.TheVariants as opened
use Rattle.tcap_report.specs.declared.sum.Sum.{Sum}
use Rattle.tcap_report.specs.declared.trace.TraceOptions.{TraceOptions}
use Rattle.tcap_report.specs.Answer.{Answers}
use Rattle.tcap_report.specs.Counts.{HasJudged, no_counts, with_read, with_verdict, worst_of}

-- ---- a trace that is opened

-- If the trace is opened, its reader has these octets, and has not failed.
abbrev pub Opens : {R : Type 0} → (R → Option (List ℕ)) → (R → ℕ) → Option (List ℕ) → Opened R → Type 0
Opens remaining failures octets (opened.Octets reader len) = (remaining reader ≡ octets) × (failures reader ≡ 0)
Opens remaining failures octets (opened.Unread why) = Unit {0}

-- The number of unread traces grows exactly if this one could not be opened, and is at most 2 ^ 64 - 1.
abbrev pub CountsUnopened : {R : Type 0} → ℕ → ℕ → Opened R → Type 0
CountsUnopened old new (opened.Octets reader len) = new ≡ old
CountsUnopened old new (opened.Unread why) = new ≡ one_more old

-- the number of unread traces after a trace whose reader failed this many times
abbrev pub unread_after : ℕ → ℕ → ℕ
unread_after failures unread = cond (nat_lt 0 failures) (one_more unread) unread

-- ---- the traces of a run

-- A trace with these octets was read, and got this verdict. `unread` is the number of unread traces before it.
pub record IsRead (options : TraceOptions) (octets : Option (List ℕ)) (verdict : Verdict) (before after : Sum)
    (unread unread' : ℕ) : Type 0 where
  pub remaining : Option (List ℕ)
  pub failures : ℕ
  pub answers : Answers options octets remaining 0 failures verdict before after
  pub counts : unread' ≡ unread_after failures unread

-- A trace was read, and got this verdict. Or it could not be opened, and is an error.
abbrev pub IsAnswered : TraceOptions → Option (List ℕ) → Verdict → Sum → Sum → ℕ → ℕ → Type 0
IsAnswered options octets verdict before after unread unread' =
    IsRead options octets verdict before after unread unread'
    ⊎ ((verdict ≡ verdicts.Error) × (after ≡ with_verdict verdicts.Error (with_read no_counts 0 0 before))
    × (unread' ≡ one_more unread))

-- The traces from this number on got these verdicts, one after another.
abbrev pub AreAnswered : TraceOptions → (ℕ → Option (List ℕ)) → ℕ → List Verdict → Sum → Sum → ℕ → ℕ → Type 0
AreAnswered options octets number [] before after unread unread' = (after ≡ before) × (unread' ≡ unread)
AreAnswered options octets number (verdict ∷ verdicts) before after unread unread' =
    (between : Sum) × (so_far : ℕ) × IsAnswered options (octets number) verdict before between unread so_far
    × AreAnswered options octets (suc number) verdicts between after so_far unread'

-- Each of this many traces, from the number `first` on, got its verdict, and these verdicts were counted. `octets` are
-- those of each trace, by its number.
pub record AnswersEach (options : TraceOptions) (octets : ℕ → Option (List ℕ)) (first count : ℕ) (before after : Sum)
    (unread unread' : ℕ) : Type 0 where
  pub verdicts : List Verdict
  pub count_is : length verdicts ≡ count
  pub each : AreAnswered options octets first verdicts before after unread unread'
  pub counted : HasJudged verdicts before after
