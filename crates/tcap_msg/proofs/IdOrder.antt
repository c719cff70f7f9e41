-- The keys of transaction IDs order them as their octets do.
use Rattle.std.proofs.Common.{◌≡◌, ℕ, zero, suc, ◌+◌, ◌*◌, ◌<◌, ◌≤◌, List, [], ◌∷◌, All, length, get_or, take, drop, subst, sym, ap, ◌∙◌, nat_eq, arith, length-take-le, Ordering, Less, Equal, Greater}
use Rattle.std.specs.Prelude.{replicate, ◌-◌}
use Rattle.std.specs.Ordering.{is_eq, nat_cmp, ordering_then, MatchOrdering}
use Rattle.std.specs.Cmp.{nat_cmp_is, ranks, unsigned_ties}
use Rattle.std.specs.Cmp.Lexicographic.{pointwise, slice_cmp, texts_ties}
use Rattle.std.proofs.lemmas.Grind.{common_steps}
use Rattle.tcap_msg.specs.TransactionId.{IsTransactionId, filled, key}

abbrev pub AreOctets : List ℕ → Type 0
AreOctets xs = All (λ x. x < 256) xs

head_of : (x : ℕ) (xs : List ℕ) → AreOctets (x ∷ xs) → x < 256
head_of x xs are = are 0 0 (omega arith)

rest_of : (x : ℕ) (xs : List ℕ) → AreOctets (x ∷ xs) → AreOctets xs
rest_of x xs are k d less = are (suc k) d (omega arith)

-- a greater number stays greater with more octets after it
pub rises : (k p q : ℕ) (xs ys : List ℕ) → AreOctets xs → p < q → filled k p xs < filled k q ys
unfolding filled
rises zero p q xs ys are less = less
rises (suc k) p q [] [] are less = rises k (p * 256) (q * 256) [] [] are (omega arith)
rises (suc k) p q [] (y ∷ ys) are less = rises k (p * 256) (q * 256 + y) [] ys are (omega arith)
rises (suc k) p q (x ∷ xs) [] are less =
    let b : x < 256 = head_of x xs are in
    rises k (p * 256 + x) (q * 256) xs [] (rest_of x xs are) (omega arith)
rises (suc k) p q (x ∷ xs) (y ∷ ys) are less =
    let b : x < 256 = head_of x xs are in
    rises k (p * 256 + x) (q * 256 + y) xs ys (rest_of x xs are) (omega arith)

-- no octets are at most some octets
pub falls : (k p q : ℕ) (ys : List ℕ) → p ≤ q → filled k p [] ≤ filled k q ys
unfolding filled
falls zero p q ys h = h
falls (suc k) p q [] h = falls k (p * 256) (q * 256) [] (omega arith)
falls (suc k) p q (y ∷ ys) h = falls k (p * 256) (q * 256 + y) ys (omega arith)

-- numbers with a count after each have this order
abbrev pub Ranks : Ordering → ℕ → ℕ → ℕ → ℕ → Type 0
Ranks o p i q j = MatchOrdering o (p * 256 + i < q * 256 + j) (p * 256 + i ≡ q * 256 + j) (q * 256 + j < p * 256 + i)

by_first : (k p i j x y : ℕ) (xs ys : List ℕ) (o : Ordering) → MatchOrdering o (x < y) (x ≡ y) (y < x)
    → AreOctets (x ∷ xs) → AreOctets (y ∷ ys) → i < 256 → j < 256
    → Ranks (slice_cmp nat_cmp xs ys) (filled k (p * 256 + x) xs) i (filled k (p * 256 + x) ys) j
    → Ranks (ordering_then o (slice_cmp nat_cmp xs ys)) (filled k (p * 256 + x) xs) i (filled k (p * 256 + y) ys) j
by_first k p i j x y xs ys Less h xo yo a b ih =
    let less = rises k (p * 256 + x) (p * 256 + y) xs ys (rest_of x xs xo) (omega arith) in
    omega arith
by_first k p i j x y xs ys Greater h xo yo a b ih =
    let less = rises k (p * 256 + y) (p * 256 + x) ys xs (rest_of y ys yo) (omega arith) in
    omega arith
by_first k p i j x y xs ys Equal h xo yo a b ih =
    subst (λ z. Ranks (slice_cmp nat_cmp xs ys) (filled k (p * 256 + x) xs) i (filled k (p * 256 + z) ys) j) h ih

-- octets and then their count have the order of the octets
ordered : (k p i j : ℕ) (xs ys : List ℕ) → length xs ≤ k → length ys ≤ k → AreOctets xs → AreOctets ys
    → i + length ys ≡ j + length xs → i < 256 → j < 256 → Ranks (slice_cmp nat_cmp xs ys) (filled k p xs) i (filled k p ys) j
unfolding filled
ordered k p i j [] [] lx ly xo yo e a b = omega arith
ordered (suc k) p i j [] (y ∷ ys) lx ly xo yo e a b =
    let h = falls k (p * 256) (p * 256 + y) ys (omega arith) in
    omega arith
ordered (suc k) p i j (x ∷ xs) [] lx ly xo yo e a b =
    let h = falls k (p * 256) (p * 256 + x) xs (omega arith) in
    omega arith
ordered (suc k) p i j (x ∷ xs) (y ∷ ys) lx ly xo yo e a b =
    by_first k p i j x y xs ys (nat_cmp x y) (ranks x y) xo yo a b
    (ordered k (p * 256 + x) i j xs ys (omega arith) (omega arith) (rest_of x xs xo) (rest_of y ys yo) (omega arith) a b)
ordered zero p i j (x ∷ xs) [] lx ly xo yo e a b = omega arith
ordered zero p i j (x ∷ xs) (y ∷ ys) lx ly xo yo e a b = let no : ⊥ = omega arith in absurd no
ordered zero p i j [] (y ∷ ys) lx ly xo yo e a b = omega arith

-- keys have the order of the IDs
pub keys_ordered : (xs ys : List ℕ) → IsTransactionId xs → IsTransactionId ys → AreOctets xs → AreOctets ys
    → slice_cmp nat_cmp xs ys ≡ nat_cmp (key xs) (key ys)
unfolding key
keys_ordered xs ys x y xo yo = nat_cmp_is (key xs) (key ys) (slice_cmp nat_cmp xs ys)
    (ordered 4 0 (length xs) (length ys) xs ys x.1 y.1 xo yo (omega arith) (omega arith) (omega arith))

-- keys are equal if the IDs are
pub keys_equal : (xs ys : List ℕ) → IsTransactionId xs → IsTransactionId ys → AreOctets xs → AreOctets ys
    → nat_eq (key xs) (key ys) ≡ pointwise nat_eq xs ys
keys_equal xs ys x y xo yo =
    unsigned_ties (key xs) (key ys) ∙ ap is_eq (sym (keys_ordered xs ys x y xo yo)) ∙ sym (texts_ties xs ys)

-- the key of octets padded with zeros is that of the ID
pub padded_key : (kept : List ℕ) (n : ℕ) → length kept ≡ 4 → (0 < n) × (n ≤ 4) × (drop n kept ≡ replicate (4 - n) 0)
    → (((get_or kept 0 0 * 256 + get_or kept 1 0) * 256 + get_or kept 2 0) * 256 + get_or kept 3 0) * 256 + n ≡ key (take n kept)
unfolding filled key
padded_key (a ∷ b ∷ c ∷ d ∷ []) (suc zero) l h = grind arith
padded_key (a ∷ b ∷ c ∷ d ∷ []) (suc (suc zero)) l h = grind arith
padded_key (a ∷ b ∷ c ∷ d ∷ []) (suc (suc (suc zero))) l h = grind arith
padded_key (a ∷ b ∷ c ∷ d ∷ []) (suc (suc (suc (suc zero)))) l h = grind arith
padded_key (a ∷ b ∷ c ∷ d ∷ []) zero l h = grind arith
padded_key (a ∷ b ∷ c ∷ d ∷ []) (suc (suc (suc (suc (suc n))))) l h = grind arith
padded_key [] n l h = grind arith
padded_key (a ∷ []) n l h = grind arith
padded_key (a ∷ b ∷ []) n l h = grind arith
padded_key (a ∷ b ∷ c ∷ []) n l h = grind arith
padded_key (a ∷ b ∷ c ∷ d ∷ x ∷ xs) n l h = grind arith

-- the kept numbers are octets
pub four_octets : (kept : List ℕ) → length kept ≡ 4
    → (get_or kept 0 0 < 256) × (get_or kept 1 0 < 256) × (get_or kept 2 0 < 256) × (get_or kept 3 0 < 256) → AreOctets kept
four_octets (a ∷ b ∷ c ∷ d ∷ []) l h zero z k = h.0
four_octets (a ∷ b ∷ c ∷ d ∷ []) l h (suc zero) z k = h.1
four_octets (a ∷ b ∷ c ∷ d ∷ []) l h (suc (suc zero)) z k = h.2
four_octets (a ∷ b ∷ c ∷ d ∷ []) l h (suc (suc (suc zero))) z k = h.3
four_octets (a ∷ b ∷ c ∷ d ∷ []) l h (suc (suc (suc (suc i)))) z k = grind arith
four_octets [] l h i z k = grind arith
four_octets (a ∷ []) l h i z k = grind arith
four_octets (a ∷ b ∷ []) l h i z k = grind arith
four_octets (a ∷ b ∷ c ∷ []) l h i z k = grind arith
four_octets (a ∷ b ∷ c ∷ d ∷ x ∷ xs) l h i z k = grind arith

pub id_octets : (kept : List ℕ) (n : ℕ) → length kept ≡ 4 → (0 < n) × (n ≤ 4) → AreOctets kept
    → IsTransactionId (take n kept) × AreOctets (take n kept)
id_octets kept n l h are =
    let e : length (take n kept) ≡ n = length-take-le n kept (omega arith) in
    ((omega arith, omega arith), grind (arith, common_steps))
