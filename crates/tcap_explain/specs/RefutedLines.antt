-- Which lines follow REFUTED? They give the blame on each end, and the entries that show it.
use Rattle.std.specs.Prelude.{ℕ, Bool, true, false, List, [], ◌++◌, length, slice_get, Option, Some, None, ◌==◌, ◌&&◌, ◌||◌, cond, nat_le, nat_lt, codes}
use Rattle.std.specs.Fmt.{decimal}
use Rattle.tcap_record.specs.declared.entry.End.{End as Side}
use Rattle.tcap_record.specs.declared.entry.End.TheVariants as sides
use Rattle.tcap_record.specs.declared.entry.Entry.{Entry}
use Rattle.tcap_end.specs.Table.{Table}
use Rattle.tcap_refute.specs.declared.kind.Refutation.{Refutation}
use Rattle.tcap_refute.specs.Kind.{kind_number}
use Rattle.tcap_evidence.specs.Unblamed.{unblamed_text}
use Rattle.tcap_evidence.specs.EvidenceWords.{refutation_text}
use Rattle.tcap_judge.specs.declared.findings.Ends.{Ends}
use Rattle.tcap_judge.specs.declared.findings.Finding.{Finding}
use Rattle.tcap_judge.specs.declared.findings.Finding.TheVariants as findings
use Rattle.tcap_judge.specs.BlameOutcome.{ends_of, finding_line, comes_after}

-- the end that sent an entry; A if neither did
abbrev pub sender_at : List Entry → ℕ → Side
sender_at entries number = by (slice_get entries number)
  where
    by_side : Option Side → Side
    by_side None = sides.A
    by_side (Some side) = side

    by : Option Entry → Side
    by None = sides.A
    by (Some entry) = by_side entry.side

-- whether this refutation was printed already
abbrev pub is_shown : Option Refutation → Refutation → Bool
is_shown None r = false
is_shown (Some shown) r = (shown.entry == r.entry) && (kind_number shown.kind == kind_number r.kind)

-- the words on the first entry that is no message, which ends the search
unfoldable pub unread_words : ℕ → List ℕ
unread_words count =
    codes "  entry " ++ decimal count ++ codes " is no message, and nothing from there on is looked at\n"

-- the words on an end without a fault
unfoldable pub none_found_words : List ℕ
none_found_words = codes "  no fault is found; that does not clear it\n"

-- Of `all` entries, `count` were searched and none is blamed. The words say why: an entry is no message, or no fault is
-- found.
abbrev pub unblamed_words : ℕ → ℕ → List ℕ
unblamed_words count all = cond (nat_lt count all) (unread_words count) none_found_words

-- the reasons for a finding on an end, unless it is the refutation printed already
abbrev pub after_text : Table → List Entry → Option Refutation → Side → Finding → List ℕ
after_text table entries shown side (findings.Blamed r) =
    cond (is_shown shown r) [] (refutation_text true table side entries r)
after_text table entries shown side (findings.Lawful count unheard) = []
after_text table entries shown side (findings.NotBlamed count) = unblamed_words count (length entries)

-- the line of a finding on an end, and the reasons
abbrev pub end_text : Table → List Entry → Option Refutation → Side → Finding → List ℕ
end_text table entries shown side finding = finding_line side finding ++ after_text table entries shown side finding

-- the findings on both ends, the one with the lower blamed entry first
abbrev pub both_text : Table → List Entry → Option Refutation → Ends → List ℕ
both_text table entries shown ends = cond (comes_after ends.a ends.b)
    (end_text table entries shown sides.B ends.b ++ end_text table entries shown sides.A ends.a)
    (end_text table entries shown sides.A ends.a ++ end_text table entries shown sides.B ends.b)

-- the findings on both ends, if both are judged
abbrev pub ends_judged : Option Side → Table → List Entry → Option Ends
ends_judged None table entries = Some (ends_of table entries)
ends_judged (Some side) table entries = None

-- the lines of these findings, with the reasons; none if there are no findings
abbrev pub findings_text : Table → List Entry → Option Ends → List ℕ
findings_text table entries None = []
findings_text table entries (Some ends) = both_text table entries None ends

-- whether an end is blamed for entry `number` or an earlier one
abbrev pub is_blamed_by : ℕ → Finding → Bool
is_blamed_by number (findings.Blamed r) = nat_le r.entry number
is_blamed_by number said = false

-- Why nobody is blamed for a refuted entry. If an end is blamed for an entry up to it, that blame comes first, and
-- there are no such lines.
abbrev pub unblamed_lines : Table → Side → List Entry → ℕ → Ends → List ℕ
unblamed_lines table side entries number ends =
    cond (is_blamed_by number ends.a || is_blamed_by number ends.b) [] (unblamed_text table side entries number)

-- the lines after REFUTED, for both ends or for the judged end
abbrev pub refuted_lines : Option Side → Table → List Entry → Refutation → List ℕ
refuted_lines (Some side) table entries r = refutation_text true table side entries r
refuted_lines None table entries r =
    refutation_text false table (sender_at entries r.entry) entries r
    ++ unblamed_lines table (sender_at entries r.entry) entries r.entry (ends_of table entries)
    ++ both_text table entries (Some r) (ends_of table entries)
