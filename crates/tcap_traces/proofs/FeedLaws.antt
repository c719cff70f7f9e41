-- The octets that a reader holds after more were fed.
use Rattle.std.proofs.Common.{◌≡◌, ℕ, ◌+◌, ◌-◌, ◌≤◌, arith, List, drop, length, take, sym, ap, ◌∙◌}
use Rattle.std.specs.Prelude.{Result, Ok, Err, OnOk, if◌then◌else◌}
use Rattle.std.specs.Result.{is_ok}
use Rattle.std.specs.List.{copy_within}
use Rattle.std.proofs.lemmas.List.{length-drop, take-append-le}
use Rattle.std.proofs.Math.Seq.{take-length}
use Rattle.std.proofs.lemmas.List.Edits.{paste_all}

-- The octets from n on are moved to the front, and the others are dropped.
pub front_dropped : (xs : List ℕ) (n : ℕ) → n ≤ length xs → take (length xs - n) (copy_within xs n (length xs) 0) ≡ drop n xs
front_dropped xs n within =
    let len : length xs - n ≡ length (drop n xs) = sym (length-drop n xs) in
    ap (take (length xs - n)) (paste_all xs 0 (drop n xs) (length xs - n) len)
    ∙ take-append-le (length xs - n) (drop n xs) (drop (0 + (length xs - n)) xs) (omega (len, arith))
    ∙ ap (λ k. take k (drop n xs)) len ∙ take-length (drop n xs)

-- What holds for a result that is Ok.
pub if_ok : {T E : Type 0} (result : Result T E) (new both old : List ℕ)
    → new ≡ (if is_ok result then both else old) → OnOk result (new ≡ both)
if_ok (Ok x) new both old is = is
if_ok (Err e) new both old is = tt
