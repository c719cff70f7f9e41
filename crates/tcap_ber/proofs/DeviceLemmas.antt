-- The effect of several reads or writes on known octets.
use Rattle.std.proofs.Common.{◌≡◌, ℕ, ◌+◌, ◌++◌, List, Option, Result, Ok, Err, refl, take, drop, take-append-drop, sym, ap, subst, ◌∙◌}
use Rattle.std.proofs.KnownBytes.{Appends-trans}
use Rattle.std.specs.Io.KnownBytes.{Appends}
use Rattle.tcap_ber.specs.declared.device.Failed.{Failed}
use Rattle.tcap_ber.specs.Device.{Takes}
use lib.Seq.{take-add}

-- the writer took n more octets
pub Appends-more : (a b c : Option (List ℕ)) (octets rest : List ℕ) (taken n : ℕ) → rest ≡ drop taken octets → Appends a b (take taken octets)
    → Appends b c (take n rest) → Appends a c (take (taken + n) octets)
Appends-more a b c octets rest taken n is before more =
    subst (Appends a c) (ap (λ (x : List ℕ). take taken octets ++ take n x) is ∙ sym (take-add taken n octets)) (Appends-trans a b c _ _ before more)

-- the writer took the first octets, and then the result of writing the rest
pub Takes-behind : (a b c : Option (List ℕ)) (octets : List ℕ) (taken : ℕ) (result : Result (Unit {0}) Failed) → Appends a b (take taken octets)
    → Takes b c result (drop taken octets) → Takes a c result octets
Takes-behind a b c octets taken (Ok _) before behind =
    subst (Appends a c) (take-append-drop taken octets) (Appends-trans a b c _ _ before behind)
Takes-behind a b c octets taken (Err _) before (n, behind) = (taken + n, Appends-more a b c octets (drop taken octets) taken n refl before behind)
