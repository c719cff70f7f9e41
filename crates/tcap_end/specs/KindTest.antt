-- What a closure that tests the kinds of a row answers.
use Rattle.std.specs.Prelude.{◌≡◌, Bool}
use Rattle.std.specs.Borrow.{Bor}
use Rattle.std.specs.Fn.{Shared}

-- Each call of the closure at a kind returns what the test says.
abbrev pub IsTest : {F K : Type 0} → Shared F (Bor K × Unit {0}) Bool → F → (K → Bool) → Type 0
IsTest {F} {K} g f test = (kind : Bor K) (fit : Bool) → g.post f (kind, tt) fit → fit ≡ test kind.now
