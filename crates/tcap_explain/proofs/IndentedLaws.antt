-- A text is indented one line at a time.
use Rattle.std.proofs.Common.{◌≡◌, ◌≢◌, ℕ, suc, ◌<◌, ◌==◌, Bool, false, List, [], ◌∷◌, ◌++◌, length, get_or, refl, sym, ap, ◌∙◌, arith, append_assoc}
use Rattle.std.specs.Prelude.{OnOk, Result, Ok, Err, codes}
use Rattle.std.proofs.lemmas.Bool.{ne_eqb}
use Rattle.tcap_record.specs.Lines.{line_end}
use Rattle.tcap_explain.specs.IndentedText.{indented, indented_at}

-- no line ends within these octets
abbrev pub IsWithin : List ℕ → Type 0
IsWithin line = (i : ℕ) → i < length line → get_or line i 0 ≢ 10

later : (c : ℕ) (line : List ℕ) → IsWithin (c ∷ line) → IsWithin line
later c line within i less = within (suc i) (omega (arith, less))

within_on : (c : ℕ) (line : List ℕ) → IsWithin (c ∷ line) → (c == 10) ≡ false
within_on c line within = ne_eqb c 10 (within 0 (omega arith))

line_on : (line more : List ℕ) → IsWithin line → indented_at false (line ++ 10 ∷ more) ≡ line ++ line_end ++ indented more
line_on [] more within = refl
line_on (c ∷ line) more within =
    ap (λ (b : Bool). c ∷ indented_at b (line ++ 10 ∷ more)) (within_on c line within)
    ∙ ap (λ (xs : List ℕ). c ∷ xs) (line_on line more (later c line within))

last_on : (line : List ℕ) → IsWithin line → indented_at false line ≡ line ++ line_end
last_on [] within = refl
last_on (c ∷ line) within =
    ap (λ (b : Bool). c ∷ indented_at b line) (within_on c line within)
    ∙ ap (λ (xs : List ℕ). c ∷ xs) (last_on line (later c line within))

-- The first line is indented, then the rest.
pub line_first : (line more : List ℕ) → IsWithin line → indented (line ++ 10 ∷ more) ≡ codes "  " ++ line ++ line_end ++ indented more
line_first [] more within = refl
line_first (c ∷ line) more within =
    ap (λ (b : Bool). codes "  " ++ c ∷ indented_at b (line ++ 10 ∷ more)) (within_on c line within)
    ∙ ap (λ (xs : List ℕ). codes "  " ++ c ∷ xs) (line_on line more (later c line within))

-- The last line is indented, and ended.
pub line_last : (line : List ℕ) → IsWithin line → 0 < length line → indented line ≡ codes "  " ++ line ++ line_end
line_last [] within some = absurd (omega (arith, some))
line_last (c ∷ line) within some =
    ap (λ (b : Bool). codes "  " ++ c ∷ indented_at b line) (within_on c line within)
    ∙ ap (λ (xs : List ℕ). codes "  " ++ c ∷ xs) (last_on line (later c line within))

-- ---- one line more is written

pub written_first : (new old line more left : List ℕ) → new ≡ old ++ codes "  " ++ line ++ line_end → left ≡ line ++ 10 ∷ more
    → IsWithin line → new ++ indented more ≡ old ++ indented left
written_first new old line more left is parts within =
    ap (λ (xs : List ℕ). xs ++ indented more) is
    ∙ ap (λ (xs : List ℕ). xs ++ line_end ++ indented more) (append_assoc old (codes "  ") line)
    ∙ ap (λ (xs : List ℕ). xs ++ indented more) (append_assoc old (codes "  " ++ line) line_end)
    ∙ append_assoc old (codes "  " ++ line ++ line_end) (indented more)
    ∙ ap (λ (xs : List ℕ). old ++ xs) (sym (line_first line more within) ∙ ap indented (sym parts))

pub written_last : {A F : Type 0} (result : Result A F) (new old left all : List ℕ)
    → OnOk result (new ≡ old ++ codes "  " ++ left ++ line_end) → IsWithin left → 0 < length left → old ++ indented left ≡ all
    → OnOk result (new ≡ all)
written_last (Err fault) new old left all is within some so = tt
written_last (Ok done) new old left all is within some so =
    is ∙ ap (λ (xs : List ℕ). xs ++ line_end) (append_assoc old (codes "  ") left)
    ∙ append_assoc old (codes "  " ++ left) line_end ∙ ap (λ (xs : List ℕ). old ++ xs) (sym (line_last left within some)) ∙ so
