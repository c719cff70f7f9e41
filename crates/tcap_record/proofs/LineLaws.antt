-- Growing texts, and the lines of entries one after the other.
use Rattle.std.proofs.Common.{◌≡◌, ℕ, ◌+◌, ◌<◌, suc, List, [], ◌∷◌, ◌++◌, length, take, get_or, arith, length-take-le, Option, sym, ap, ◌∙◌, subst, append_assoc, append-nil}
use Rattle.std.proofs.KnownBytes.{Appends-trans}
use Rattle.std.proofs.lemmas.List.{take_more}
use Rattle.std.specs.Io.KnownBytes.{Appends}
use Rattle.tcap_record.specs.declared.entry.Entry.{Entry}
use Rattle.tcap_record.specs.Lines.{entry_lines, lines_from, lines_of}

-- the lines of one more entry
pub lines_one_more : (number k : ℕ) (entries : List Entry) (entry : Entry) → k ≡ number + length entries
    → lines_from number (entries ++ entry ∷ []) ≡ lines_from number entries ++ entry_lines k entry
lines_one_more number k [] entry e =
    let same : number ≡ k = omega arith in append-nil (entry_lines number entry) ∙ ap (λ n. entry_lines n entry) same
lines_one_more number k (first ∷ entries) entry e =
    ap (λ l. entry_lines number first ++ l) (lines_one_more (suc number) k entries entry (omega arith))
    ∙ sym (append_assoc (entry_lines number first) _ _)

-- the first i + 1 entries
lines_step : (entries : List Entry) (i : ℕ) (entry : Entry) → i < length entries → get_or entries i entry ≡ entry
    → lines_of (take (i + 1) entries) ≡ lines_of (take i entries) ++ entry_lines i entry
lines_step entries i entry within is =
    let same : i ≡ 0 + length (take i entries) = omega (arith, length-take-le i entries (omega arith)) in
    ap lines_of (take_more entries i entry within ∙ ap (λ x. take i entries ++ x ∷ []) is)
    ∙ lines_one_more 0 i (take i entries) entry same

-- after the lines of the first i entries, the writer took those of the next
pub lines_written : (old mid new : Option (List ℕ)) (entries : List Entry) (i : ℕ) (entry : Entry) (text : List ℕ)
    → i < length entries → entry ≡ get_or entries i entry → text ≡ entry_lines i entry
    → Appends old mid (lines_of (take i entries)) → Appends mid new text → Appends old new (lines_of (take (i + 1) entries))
lines_written old mid new entries i entry text within is text_is before more =
    subst (Appends old new) (sym (lines_step entries i entry within (sym is)))
    (Appends-trans old mid new _ _ before (rw text_is at more))
