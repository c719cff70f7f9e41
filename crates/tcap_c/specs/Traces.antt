-- What do the options of `tcapjudge_test` mean, and what does a call return?
use Rattle.std.specs.Prelude.{◌≡◌, ◌⊎◌, ℕ, ◌<◌, List, ◌++◌, length, take, drop, true, false, Bool, nat_eq, cond, Option, Some, None, Ok, option_and_then}
use Rattle.tcap_record.specs.declared.entry.End.{End as Side}
use Rattle.tcap_dialogues.specs.declared.reuse.Reuse.{Reuse}
use Rattle.tcap_dialogues.specs.declared.reuse.Reuse.TheVariants.{Again, Once}
use Rattle.tcap_books.specs.Book.{NamedTable, clash, is_ambiguous}
use Rattle.tcap_books.specs.BookText.{IsBookOf}
use Rattle.tcap_traces.specs.declared.verdict.Verdict.{Verdict}
use Rattle.tcap_traces.specs.declared.verdict.Verdict.TheVariants as verdicts
use Rattle.tcap_traces.specs.Verdict.{status_of}
use Rattle.tcap_traces.specs.JudgedTrace.{Asked, judged_trace}
use Rattle.tcap_c.specs.InMemory.{judged_by}
use Rattle.tcap_c.specs.declared.options.TestOptions.{TestOptions}
use Rattle.tcap_c.specs.declared.options.Rules.{Rules}

-- ---- numbers

-- the rule for using IDs again, and whether nothing is in transit then
abbrev pub reuse_of : ℕ → ℕ → Option (Reuse × Bool)
reuse_of number linger = cond (nat_eq number 0) (Some (Again linger, false))
    (cond (nat_eq number 1) (Some (Again linger, true))
    (cond (nat_eq number 2) (Some (Once, false)) None))

-- the flag for 0 or 1; None for another number
abbrev pub flag_of : ℕ → Option Bool
flag_of number = cond (nat_eq number 0) (Some false) (cond (nat_eq number 1) (Some true) None)

-- the meaning of the options, or None if a number is unknown
abbrev pub rules_of : TestOptions → Option Rules
rules_of asked =
    option_and_then (λ (of : Option Side).
    option_and_then (λ (again : Reuse × Bool).
    option_and_then (λ (complete : Bool).
    Some (record { of = of; reuse = again.0; settled = again.1; complete = complete }))
    (flag_of asked.complete)) (reuse_of asked.ids asked.linger)) (judged_by asked.of)

-- ---- the verdict

-- what these rules ask of a trace, with these operation tables
abbrev pub asked_for : Rules → List NamedTable → Asked
asked_for rules tables = record {
  question = record { of = rules.of; settled = rules.settled; complete = rules.complete; heard = false };
  reuse = rules.reuse;
  tables = tables;
}

-- The verdict on a trace, by the text of a book and rules: that which is defined for the octets of the trace, by the
-- tables of the book. They may be any if the text is empty: the library carries some. Or the verdict is an error: the
-- book has a fault, or memory ran out.
abbrev pub IsVerdictOn : List ℕ → List ℕ → Rules → Verdict → Type 0
IsVerdictOn trace book rules verdict =
    (verdict ≡ verdicts.Error)
    ⊎ ((tables : List NamedTable) × (0 < length book → IsBookOf book (Ok tables))
    × (verdict ≡ (judged_trace (asked_for rules tables) trace).verdict))

-- ---- the results of calls

-- The room after `octets` were copied to its front, as many as fit. The rest of the room is unchanged.
abbrev pub copied_to_front : List ℕ → List ℕ → List ℕ
copied_to_front octets room = take (length room) octets ++ drop (length octets) room

-- Octets were copied to the room, `len` is the number of all of them, and the status is that of the verdict on the
-- trace.
pub record WritesReport (trace book : List ℕ) (rules : Rules) (old new : List ℕ) (len status : ℕ) : Type 0 where
  pub octets : List ℕ
  pub verdict : Verdict
  pub laid_is : new ≡ copied_to_front octets old
  pub len_is : len ≡ length octets
  pub status_is : status ≡ status_of verdict
  pub means : IsVerdictOn trace book rules verdict

-- A call with an unknown number writes nothing and returns 4.
abbrev pub WritesNothing : List ℕ → List ℕ → ℕ → ℕ → Type 0
WritesNothing old new len status = (new ≡ old) × (len ≡ 0) × (status ≡ 4)

-- The text is a table set, and each dialogue has at most one table in it: at most one table has no contexts, and no two
-- share one.
abbrev pub IsClearBook : List ℕ → Type 0
IsClearBook text =
    (tables : List NamedTable) × IsBookOf text (Ok tables) × (is_ambiguous tables ≡ false) × (clash tables ≡ None)
