-- What follows when a chain of steps is Ok.
use Rattle.std.proofs.Common.{◌≡◌, Bool, true, false, Option, Some, None, Result, Ok, Err, refl}
use Rattle.std.specs.Prelude.{ok_or}
use Rattle.tcap_end.specs.Step.{needs, ◌>>◌, ◌>>=◌}

-- A chain that begins with a condition is Ok only if the condition holds and the rest is Ok.
pub needs_ok : {A F : Type 0} (so : Bool) (reason : F) (rest : Result A F) (x : A) → (needs so reason >> rest) ≡ Ok x
    → (so ≡ true) × (rest ≡ Ok x)
needs_ok true reason rest x is = (refl, is)
needs_ok false reason rest x is = cc

-- Both steps are Ok, the second from the result of the first.
pub then_ok : {A B F : Type 0} (step : Result A F) (rest : A → Result B F) (y : B) → (step >>= rest) ≡ Ok y
    → (x : A) × (step ≡ Ok x) × (rest x ≡ Ok y)
then_ok (Ok x) rest y is = (x, refl, is)
then_ok (Err reason) rest y is = cc

pub some_ok : {A F : Type 0} (o : Option A) (reason : F) (x : A) → ok_or o reason ≡ Ok x → o ≡ Some x
some_ok None reason x is = cc
some_ok (Some y) reason x is = cc

pub ok_same : {A F : Type 0} (x y : A) → (let r : Result A F = Ok x in r) ≡ Ok y → x ≡ y
ok_same x y is = cc
