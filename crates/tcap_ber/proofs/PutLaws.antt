-- The shortest contents of an INTEGER are the last of its four octets.
use Rattle.std.proofs.Common.{◌≡◌, ℕ, suc, ◌-◌, ◌^◌, ◌<◌, ◌≤◌, ◌/◌, ◌%◌, ℤ, pos, negsuc, Bool, true, false, cond, nat_lt, nat_le, inl, inr, List, [], ◌∷◌, ◌++◌, length, take, drop, Option, Some, None, Result, Ok, Err, OnOk, w32, ◌+◌, append_assoc, refl, ap, ◌∙◌, subst, arith}
use Rattle.std.specs.Option.{option_map, IsSome}
use Rattle.std.proofs.KnownBytes.{Appends-trans}
use Rattle.std.specs.Io.KnownBytes.{Appends}
use Rattle.std.specs.Int.{cast_unsigned}
use Rattle.std.proofs.lemmas.Bool.{ltb-true, le-leb, lt-leb}
use Rattle.std.proofs.lemmas.Bool.Decides.{nat_tests}
use Rattle.std.proofs.lemmas.List.{take_rest, length-append, append-nil}
use Rattle.tcap_ber.specs.Canonical.{magnitude, shortest_header, element_around, integer_len, integer_octets, twos_complement, number_octets, ◌⧺◌}
use Rattle.tcap_ber.specs.declared.device.Failed.{Failed}
use Rattle.tcap_ber.specs.Device.{Takes}
use Rattle.tcap_ber.proofs.Steps.{chosen}

-- the last `count` of the four octets are those of the shorter number
abbrev Ends : ℤ → ℕ → Type 0
Ends value count = drop (4 - count) (number_octets 4 (cast_unsigned w32 value)) ≡ number_octets count (twos_complement count value)

ends-1 : (value : ℤ) → magnitude value < 0x80 → Ends value 1
ends-1 (pos n) h = refl
ends-1 (negsuc n) h =
    let a : (2 ^ 32 - suc n) % 256 ≡ (256 ^ 1 - 1 - n) % 256 = omega arith in
    cc

ends-2 : (value : ℤ) → magnitude value < 0x8000 → Ends value 2
ends-2 (pos n) h = refl
ends-2 (negsuc n) h =
    let a : (2 ^ 32 - suc n) % 256 ≡ (256 ^ 2 - 1 - n) % 256 = omega arith in
    let b : (2 ^ 32 - suc n) / 256 % 256 ≡ (256 ^ 2 - 1 - n) / 256 % 256 = omega arith in
    cc

ends-3 : (value : ℤ) → magnitude value < 0x800000 → Ends value 3
ends-3 (pos n) h = refl
ends-3 (negsuc n) h =
    let a : (2 ^ 32 - suc n) % 256 ≡ (256 ^ 3 - 1 - n) % 256 = omega arith in
    let b : (2 ^ 32 - suc n) / 256 % 256 ≡ (256 ^ 3 - 1 - n) / 256 % 256 = omega arith in
    let d : (2 ^ 32 - suc n) / 256 / 256 % 256 ≡ (256 ^ 3 - 1 - n) / 256 / 256 % 256 = omega arith in
    cc

ends-4 : (value : ℤ) → Ends value 4
ends-4 (pos n) = refl
ends-4 (negsuc n) = let a : 2 ^ 32 - suc n ≡ 256 ^ 4 - 1 - n = omega arith in ap (number_octets 4) a

pub last_octets : (value : ℤ) → drop (4 - integer_len value) (number_octets 4 (cast_unsigned w32 value)) ≡ integer_octets value
last_octets value = of_one (nat_lt (magnitude value) 0x80) refl
  where
    of_three : (b : Bool) → nat_lt (magnitude value) 0x800000 ≡ b → Ends value (cond b 3 4)
    of_three true e = ends-3 value (ltb-true (magnitude value) 0x800000 e)
    of_three false e = ends-4 value

    of_two : (b : Bool) → nat_lt (magnitude value) 0x8000 ≡ b → Ends value (cond b 2 (cond (nat_lt (magnitude value) 0x800000) 3 4))
    of_two true e = ends-2 value (ltb-true (magnitude value) 0x8000 e)
    of_two false e = of_three (nat_lt (magnitude value) 0x800000) refl

    of_one : (b : Bool) → nat_lt (magnitude value) 0x80 ≡ b → Ends value (cond b 1 (cond (nat_lt (magnitude value) 0x8000) 2 (cond (nat_lt (magnitude value) 0x800000) 3 4)))
    of_one true e = ends-1 value (ltb-true (magnitude value) 0x80 e)
    of_one false e = of_two (nat_lt (magnitude value) 0x8000) refl

-- a write, and then octets taken
pub takes_then : (a b c : Option (List ℕ)) (front octets rest : List ℕ) (r : Result (Unit {0}) Failed) → Appends a b front → Takes b c r octets → octets ≡ rest
    → OnOk r (Appends a c (front ++ rest))
takes_then a b c front octets rest (Ok _) before more same = subst (λ (x : List ℕ). Appends a c (front ++ x)) same (Appends-trans a b c front octets before more)
takes_then a b c front octets rest (Err _) before more same = tt

-- the octets of the four that are written
pub contents_of : (value : ℤ) (len : ℕ) (octets : List ℕ) → len ≡ integer_len value → octets ≡ number_octets 4 (cast_unsigned w32 value)
    → take (4 - (4 - len)) (drop (4 - len) octets) ≡ integer_octets value
contents_of value len octets l o =
    rw (l, o) (take_rest (number_octets 4 (cast_unsigned w32 value)) (4 - integer_len value) ∙ last_octets value)

at_most_four : (m : ℕ) → cond (nat_lt m 0x80) 1 (cond (nat_lt m 0x8000) 2 (cond (nat_lt m 0x800000) 3 4)) ≤ 4
at_most_four m = grind (arith, nat_tests)

-- ---- an element around a content

abbrev there : List ℕ → Option (List ℕ)
there x = Some x

pub around_short : (tag : ℕ) (content : List ℕ) → length content ≤ 65535 → element_around tag (Some content) ≡ Some (shortest_header tag (length content) ++ content)
around_short tag content h = rw (le-leb (length content) 65535 h) refl

pub around_long : (tag : ℕ) (content : List ℕ) → 65535 < length content → element_around tag (Some content) ≡ None
around_long tag content h = rw (lt-leb (length content) 65535 h) refl

pub around_len : (tag : ℕ) (content : List ℕ) (len header : ℕ) → len ≡ length content → len ≤ 65535 → header ≡ length (shortest_header tag len)
    → option_map length (element_around tag (Some content)) ≡ Some (header + len)
around_len tag content len header l h e =
    let fits : length content ≤ 65535 = omega arith in
    let same : header ≡ length (shortest_header tag (length content)) = e ∙ ap (λ (n : ℕ). length (shortest_header tag n)) l in
    let total : length (shortest_header tag (length content) ++ content) ≡ header + len = omega (arith, length-append (shortest_header tag (length content)) content, same) in
    ap (option_map length) (around_short tag content fits) ∙ ap (λ (n : ℕ). Some n) total

-- ---- two parts one after the other

pub join_nil : (x : Option (List ℕ)) → Some [] ⧺ x ≡ x
join_nil None = refl
join_nil (Some x) = refl

pub nil_join : (x : Option (List ℕ)) → x ⧺ Some [] ≡ x
nil_join None = refl
nil_join (Some x) = ap (λ (y : List ℕ). Some y) (append-nil x)

pub join_assoc : (x y z : Option (List ℕ)) → (x ⧺ y) ⧺ z ≡ x ⧺ (y ⧺ z)
join_assoc None y z = refl
join_assoc (Some a) None z = refl
join_assoc (Some a) (Some b) None = refl
join_assoc (Some a) (Some b) (Some d) = ap (λ (y : List ℕ). Some y) (append_assoc a b d)

pub join_none : (x : Option (List ℕ)) → x ⧺ None ≡ None
join_none None = refl
join_none (Some a) = refl

pub some_same : (n m : ℕ) → (let a : Option ℕ = Some n in a) ≡ Some m → n ≡ m
some_same n m e = cc

pub join_len : (x y : Option (List ℕ)) (n m : ℕ) → option_map length x ≡ Some n → option_map length y ≡ Some m → option_map length (x ⧺ y) ≡ Some (n + m)
join_len None y n m p q = absurd cc
join_len (Some a) None n m p q = absurd cc
join_len (Some a) (Some b) n m p q =
    let k : length (a ++ b) ≡ n + m = omega (arith, length-append a b, some_same (length a) n p, some_same (length b) m q) in
    ap (λ (x : ℕ). Some x) k

-- if there is no length, there are no octets
pub no_len : (x : Option (List ℕ)) → None ≡ option_map length x → x ≡ None
no_len None e = refl
no_len (Some x) e = absurd cc

pub some_there : (x : Option (List ℕ)) → IsSome x → (octets : List ℕ) × (x ≡ Some octets)
some_there None h = absurd cc
some_there (Some x) h = (x, refl)

-- the spelling of an element with this content
pub around_is : (tag : ℕ) (content octets : List ℕ) → element_around tag (Some content) ≡ Some octets → shortest_header tag (length content) ++ content ≡ octets
around_is tag content octets e =
    elim (chosen (nat_le (length content) 65535) (there (shortest_header tag (length content) ++ content)) None (Some octets) e) [
      | inl h ↦ some_octets_same _ octets h.1
      | inr h ↦ absurd cc
    ]
  where
    some_octets_same : (x y : List ℕ) → there x ≡ there y → x ≡ y
    some_octets_same x y e = cc
