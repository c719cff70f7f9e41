-- How are verdicts counted, and summed over all traces?
use Rattle.std.specs.Prelude.{◌≡◌, ℕ, List, [], ◌∷◌, ◌+◌, ◌-◌, ◌^◌, min}
use Rattle.tcap_traces.specs.declared.verdict.Verdict.{Verdict}
use Rattle.tcap_traces.specs.declared.verdict.Verdict.TheVariants as verdicts
use Rattle.tcap_traces.specs.Verdict.{worse}
use Rattle.tcap_report.specs.declared.sum.Counts.{Counts}
use Rattle.tcap_report.specs.declared.sum.Sum.{Sum}

-- ---- counts of verdicts

-- the sum of two counts, at most 2 ^ 64 - 1
abbrev pub more : ℕ → ℕ → ℕ
more count others = min (count + others) (2 ^ 64 - 1)

-- all counts are 0, and the worst verdict is pass
abbrev pub no_counts : Counts
no_counts = record { pass = 0; inconc = 0; fail = 0; error = 0; worst = verdicts.Pass }

-- one more verdict: its count grows by one, and the worst becomes the worse of the two
abbrev pub with_one : Verdict → Counts → Counts
with_one verdicts.Pass c = record c { pass = more c.pass 1; worst = worse c.worst verdicts.Pass }
with_one verdicts.Inconclusive c = record c { inconc = more c.inconc 1; worst = worse c.worst verdicts.Inconclusive }
with_one verdicts.Fail c = record c { fail = more c.fail 1; worst = worse c.worst verdicts.Fail }
with_one verdicts.Error c = record c { error = more c.error 1; worst = worse c.worst verdicts.Error }

-- these verdicts are counted, one after another
abbrev pub with_each : List Verdict → Counts → Counts
with_each [] c = c
with_each (verdict ∷ verdicts) c = with_each verdicts (with_one verdict c)

-- the counts of `others` are added, and the worst becomes the worse of the two
abbrev pub with_all : Counts → Counts → Counts
with_all others c = record {
  pass = more c.pass others.pass;
  inconc = more c.inconc others.inconc;
  fail = more c.fail others.fail;
  error = more c.error others.error;
  worst = worse c.worst others.worst;
}

-- the number of verdicts
abbrev pub all_of : Counts → ℕ
all_of c = min (c.pass + c.inconc + c.fail + c.error) (2 ^ 64 - 1)

-- ---- the sum over all traces

-- the sum over no trace
abbrev pub no_sum : Sum
no_sum = record { traces = no_counts; dialogues = no_counts; messages = 0; unheard = 0 }

-- the worst verdict on a trace
abbrev pub worst_of : Sum → Verdict
worst_of sum = sum.traces.worst

-- The verdicts on these further traces were counted, one after another.
abbrev pub HasJudged : List Verdict → Sum → Sum → Type 0
HasJudged verdicts old new = new.traces ≡ with_each verdicts old.traces

-- one more trace is read: its dialogues, its messages, and its dialogues that pass unheard or unanswered
abbrev pub with_read : Counts → ℕ → ℕ → Sum → Sum
with_read dialogues messages unheard sum = record sum {
  dialogues = with_all dialogues sum.dialogues;
  messages = more sum.messages messages;
  unheard = more sum.unheard unheard;
}

-- one more trace has this verdict
abbrev pub with_verdict : Verdict → Sum → Sum
with_verdict verdict sum = record sum { traces = with_one verdict sum.traces }
