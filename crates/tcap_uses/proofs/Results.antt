-- Answers of readers, and the octets that they returned.
use Rattle.std.proofs.Common.{◌++◌, List, None, Some, sym, ap, ◌∙◌}
use Rattle.std.proofs.lemmas.List.{append-nil}
use Rattle.std.specs.Io.KnownBytes.{Consumes, IsAtEnd}
use Rattle.std.specs.Prelude.{◌≡◌, ℕ, Option, Result, Ok}
use Rattle.tcap_ber.specs.declared.fault.Fault.{Fault}

-- the result of a successful reading
abbrev pub read_as : {A : Type 0} → A × ℕ → Result (A × ℕ) Fault
read_as answer = Ok answer

-- If two answers are equal, so are their values.
pub same_answer : {A : Type 0} (x y : A × ℕ) → read_as x ≡ read_as y → y ≡ x
same_answer x y e = cc

pub same_value : {A : Type 0} (x y : A) (m n : ℕ) → read_as (x, m) ≡ read_as (y, n) → y ≡ x
same_value {A} x y m n e = ap (λ (answer : A × ℕ). answer.0) (same_answer (x, m) (y, n) e)

-- If a reader of known octets is at its end, it returned all of them.
pub told_all : (whole returned : List ℕ) (after : Option (List ℕ)) → Consumes (Some whole) after returned → IsAtEnd after
    → returned ≡ whole
told_all whole returned None consumes at = absurd consumes
told_all whole returned (Some left) consumes at =
    sym (consumes ∙ ap (λ (x : List ℕ). returned ++ x) at ∙ append-nil returned)
