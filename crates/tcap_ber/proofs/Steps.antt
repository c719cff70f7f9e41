-- Chains of reading steps: what their results say about each step.
use Rattle.std.proofs.Common.{◌≡◌, Bool, true, false, cond, Result, Ok, Err, refl, ap, inl, inr, ◌⊎◌}
use Rattle.tcap_ber.specs.declared.fault.Fault.{Fault}
use Rattle.tcap_ber.specs.HeaderReading.{◌>>=◌}

-- the branch of a conditional that was taken
pub chosen : {A : Type 0} (b : Bool) (x y z : A) → cond b x y ≡ z → ((b ≡ true) × (x ≡ z)) ⊎ ((b ≡ false) × (y ≡ z))
chosen true x y z e = inl (refl, e)
chosen false x y z e = inr (refl, e)

-- the value of a step in a chain that succeeded
pub bind_ok : {A B : Type 0} (r : Result A Fault) (f : A → Result B Fault) (y : B) → (r >>= f) ≡ Ok y → (x : A) × (r ≡ Ok x) × (f x ≡ Ok y)
bind_ok (Ok x) f y e = (x, refl, e)
bind_ok (Err d) f y e = absurd cc

-- the step that failed
pub bind_err : {A B : Type 0} (r : Result A Fault) (f : A → Result B Fault) (d : Fault) → (r >>= f) ≡ Err d → (r ≡ Err d) ⊎ ((x : A) × (r ≡ Ok x) × (f x ≡ Err d))
bind_err (Ok x) f d e = inr (x, refl, e)
bind_err (Err c) f d e = let h : c ≡ d = cc in inl (ap (λ (w : Fault). Err w) h)

abbrev done : {A : Type 0} → A → Result A Fault
done x = Ok x

abbrev failed : {A : Type 0} → Fault → Result A Fault
failed f = Err f

pub ok_is : {A : Type 0} (x y : A) → done x ≡ done y → x ≡ y
ok_is x y e = cc

pub err_is : {A : Type 0} (x y : Fault) → failed {A = A} x ≡ failed {A = A} y → x ≡ y
err_is x y e = cc

pub ok_not_err : {A : Type 0} (x : A) (f : Fault) → done x ≡ failed f → ⊥
ok_not_err x f e = cc
