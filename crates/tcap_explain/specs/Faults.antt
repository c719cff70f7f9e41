-- Which line follows the line of a fault?
use Rattle.std.specs.Prelude.{◌≡◌, ◌⊎◌, ℕ, List, [], ◌++◌, ◌==◌, ◌&&◌, cond, nat_le, codes}
use Rattle.tcap_record.specs.Lines.{line_end}
use Rattle.tcap_judge.specs.declared.outcome.Outcome.{Outcome}
use Rattle.tcap_judge.specs.declared.outcome.Outcome.TheVariants.{Faulty}

-- the file at fault, and the command that shows more, by the number of the fault
unfoldable pub fault_words : ℕ → List ℕ
fault_words number =
    cond (number == 23)
    (codes "a file can't be opened or read: the table, the certificate or the record, the first that is needed")
    (cond (nat_le 30 number && nat_le number 34)
    (codes "the operation table: `tcapjudge table TABLE` says what is wrong")
    (cond (number == 60) (codes "the certificate: its text is none")
    (codes "the record: `tcapjudge show --why RECORD` says what is wrong")))

-- the line after a fault; none if memory ran out
abbrev pub fault_lines : Outcome → List ℕ
fault_lines (Faulty number place) = cond (number == 99) [] (codes "  why: " ++ fault_words number ++ line_end)
fault_lines outcome = []

-- The text is the line after the fault, or nothing if memory ran out.
abbrev pub IsFaultBehind : Outcome → List ℕ → Type 0
IsFaultBehind outcome after = (after ≡ fault_lines outcome) ⊎ (after ≡ [])
