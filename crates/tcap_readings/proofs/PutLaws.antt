-- Entries with others in place of one.
use Rattle.std.proofs.Common.{arith, ◌≡◌, ◌≤◌, ℕ, zero, suc, List, [], ◌∷◌, length, refl, ap}
use Rattle.std.specs.Prelude.{slice_set}
use Rattle.std.specs.List.{remove}
use Rattle.tcap_record.specs.declared.entry.Entry.{Entry}
use Rattle.tcap_readings.specs.Readings.{put}

-- The entry with a number beyond the last is in no list.
pub put_beyond : (n : ℕ) (given entries : List Entry) → length entries ≤ n → put n given entries ≡ entries
put_beyond n given [] le = refl
put_beyond zero given (entry ∷ entries) le = absurd (omega (le, arith))
put_beyond (suc n) given (entry ∷ entries) le = ap (λ xs. entry ∷ xs) (put_beyond n given entries (omega (le, arith)))

pub put_removes : (n : ℕ) (entries : List Entry) → put n [] entries ≡ remove entries n
put_removes zero [] = refl
put_removes (suc n) [] = refl
put_removes zero (entry ∷ entries) = refl
put_removes (suc n) (entry ∷ entries) = ap (λ xs. entry ∷ xs) (put_removes n entries)

-- At most one entry in place of one makes no longer list.
pub put_fewer : (n : ℕ) (given entries : List Entry) → length given ≤ 1 → length (put n given entries) ≤ length entries
put_fewer n given [] few = omega arith
put_fewer zero [] (entry ∷ entries) few = omega arith
put_fewer zero (one ∷ []) (entry ∷ entries) few = omega arith
put_fewer zero (one ∷ two ∷ more) (entry ∷ entries) few = absurd (omega (few, arith))
put_fewer (suc n) given (entry ∷ entries) few = let rest = put_fewer n given entries few in omega (rest, arith)

pub put_sets : (n : ℕ) (given : Entry) (entries : List Entry) → slice_set entries n given ≡ put n (given ∷ []) entries
put_sets zero given [] = refl
put_sets (suc n) given [] = refl
put_sets zero given (entry ∷ entries) = refl
put_sets (suc n) given (entry ∷ entries) = ap (λ xs. entry ∷ xs) (put_sets n given entries)
