-- Indexes in lists of entries.
use Rattle.tcap_evidence_laws.proofs.Common.{◌≡◌, ◌⊎◌, inl, inr, ℕ, zero, suc, ◌<◌, arith, List, [], ◌∷◌, ◌++◌, length, Some, None, Result, refl, slice_get, Reason, Item}

abbrev pub Entries : Type 0
Entries = List (Result Item Reason)

-- An entry keeps its index if more are appended.
pub keeps_at : (xs ys : Entries) (k : ℕ) (y : Result Item Reason) → slice_get xs k ≡ Some y → slice_get (xs ++ ys) k ≡ Some y
keeps_at [] ys k y is = let bad : None ≡ Some y = is in cc
keeps_at (x ∷ xs) ys zero y is = is
keeps_at (x ∷ xs) ys (suc k) y is = keeps_at xs ys k y is

-- The first appended entry is at the index that was the length.
pub here_at : (xs ys : Entries) (x : Result Item Reason) → slice_get (xs ++ x ∷ ys) (length xs) ≡ Some x
here_at [] ys x = refl
here_at (z ∷ xs) ys x = here_at xs ys x

-- After one entry is appended, the entry at an index is an earlier one or this one.
pub push_at : (xs : Entries) (x : Result Item Reason) (j : ℕ) (y : Result Item Reason) → slice_get (xs ++ x ∷ []) j ≡ Some y
    → (slice_get xs j ≡ Some y) ⊎ (x ≡ y)
push_at [] x zero y is = inr (let it : Some x ≡ Some y = is in cc)
push_at [] x (suc j) y is = let bad : None ≡ Some y = is in cc
push_at (z ∷ xs) x zero y is = inl is
push_at (z ∷ xs) x (suc j) y is = push_at xs x j y is

-- An index with an entry is below the length.
pub within_at : (xs : Entries) (j : ℕ) (y : Result Item Reason) → slice_get xs j ≡ Some y → j < length xs
within_at [] j y is = let bad : None ≡ Some y = is in cc
within_at (x ∷ xs) zero y is = omega arith
within_at (x ∷ xs) (suc j) y is = let more = within_at xs j y is in omega arith

-- An entry of two joined lists whose index is within the first is in the first.
pub front_at : (xs ys : Entries) (j : ℕ) (y : Result Item Reason) → j < length xs → slice_get (xs ++ ys) j ≡ Some y
    → slice_get xs j ≡ Some y
front_at [] ys j y below is = absurd (omega arith)
front_at (x ∷ xs) ys zero y below is = is
front_at (x ∷ xs) ys (suc j) y below is = front_at xs ys j y (omega arith) is
