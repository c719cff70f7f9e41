-- Which verdict and counts does a trace get, given the octets that its reader returns?
use Rattle.std.specs.Prelude.{◌≡◌, ◌⊎◌, ◌≤◌, ◌-◌, ◌^◌, ℕ, List, [], ◌++◌, length, map, None, Some, Option}
use Rattle.std.specs.Io.KnownBytes.{Consumes, IsAtEnd}
use Rattle.tcap_ber.specs.Device.{one_more}
use Rattle.tcap_traces.specs.declared.pieces.FormRule.{FormRule}
use Rattle.tcap_traces.specs.declared.verdict.Verdict.{Verdict}
use Rattle.tcap_traces.specs.JudgedTrace.{JudgedTrace, judged_pieces, judged_trace, verdict_on}
use Rattle.tcap_traces.specs.Pieces.{Piece, Pieces, pieces_of, stopped}
use Rattle.tcap_report.specs.declared.sum.Sum.{Sum}
use Rattle.tcap_report.specs.declared.trace.TraceOptions.{TraceOptions}
use Rattle.tcap_report.specs.Counts.{with_read, with_verdict}
use Rattle.tcap_report.specs.KeptState.{asked_of, counts_of}

-- these pieces, and then the rest
abbrev pub with_front : List Piece → Pieces → Pieces
with_front ps rest = record { pieces = ps ++ rest.pieces; fault = rest.fault }

-- P holds for all octets that may follow. None follow if the reader is at its end, or if its octets are not known.
abbrev pub WhateverFollows : Option (List ℕ) → (List ℕ → Type 0) → Type 0
WhateverFollows remaining P = (more : List ℕ) → (IsAtEnd remaining → more ≡ []) → P more

-- The form of a trace that begins with these octets has a fault after the pieces `ps`.
abbrev pub HasFault : Option (List ℕ) → List ℕ → List Piece → Type 0
HasFault remaining read ps =
    (rule : FormRule) × WhateverFollows remaining (λ more. pieces_of (read ++ more) ≡ with_front ps (stopped rule))

-- The reading may stop after these octets: the reader failed once, or it returned 2 ^ 64 - 1 octets or pieces, or more.
-- `ps` are first pieces of the trace, maybe not all that were read.
abbrev pub IsCutShort : Option (List ℕ) → ℕ → ℕ → List ℕ → List Piece → Type 0
IsCutShort remaining failures failures' read ps =
    ((failures' ≡ one_more failures) ⊎ (2 ^ 64 - 1 ≤ length read) ⊎ (2 ^ 64 - 1 ≤ length ps))
    × WhateverFollows remaining (λ more. (rest : Pieces) × (pieces_of (read ++ more) ≡ with_front ps rest))

-- This verdict was returned, and the sum gained the verdict on each reported dialogue, the number of entries, and the
-- verdict on the trace. `unheard` is any number.
pub record IsReported (options : TraceOptions) (report : JudgedTrace) (verdict : Verdict) (before after : Sum) : Type
    0 where
  pub unheard : ℕ
  pub is : verdict ≡ report.verdict
  pub sum : after ≡ with_verdict verdict
      (with_read (counts_of (map (verdict_on (asked_of options)) report.dialogues)) report.messages unheard before)

-- These octets are the whole trace, no read failed, the form has no fault, and the report is that of `judged_trace`.
abbrev pub AnswersWhole : TraceOptions → Option (List ℕ) → ℕ → ℕ → List ℕ → Verdict → Sum → Sum → Type 0
AnswersWhole options remaining failures failures' read verdict before after =
    IsAtEnd remaining × (failures' ≡ failures) × ((pieces_of read).fault ≡ None)
    × IsReported options (judged_trace (asked_of options) read) verdict before after

-- The form has a fault, and the report is that of `judged_trace`, no matter which octets follow.
abbrev pub AnswersFaulty : TraceOptions → Option (List ℕ) → List ℕ → Verdict → Sum → Sum → Type 0
AnswersFaulty options remaining read verdict before after =
    (ps : List Piece) × HasFault remaining read ps
    × WhateverFollows remaining
    (λ more. IsReported options (judged_trace (asked_of options) (read ++ more)) verdict before after)

-- The reading stopped early. The report is that on a trace of some first pieces with a fault after them.
abbrev pub AnswersEarly : TraceOptions → Option (List ℕ) → ℕ → ℕ → List ℕ → Verdict → Sum → Sum → Type 0
AnswersEarly options remaining failures failures' read verdict before after =
    (ps : List Piece) × IsCutShort remaining failures failures' read ps × (rule : FormRule)
    × IsReported options (judged_pieces (asked_of options) (record { pieces = ps; fault = Some rule })) verdict before
    after

-- The reader returned the octets `read`, or any octets if its octets are not known. They are the whole trace, or its
-- form has a fault, or the reading stopped early; and this is the verdict on them.
pub record Answers (options : TraceOptions) (remaining remaining' : Option (List ℕ)) (failures failures' : ℕ)
    (verdict : Verdict)
    (before after : Sum) : Type 0 where
  pub read : List ℕ
  pub returned : Consumes remaining remaining' read
  pub answer : AnswersWhole options remaining' failures failures' read verdict before after
      ⊎ AnswersFaulty options remaining' read verdict before after
      ⊎ AnswersEarly options remaining' failures failures' read verdict before after
