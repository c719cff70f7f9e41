-- Lookups and insertions of codes, with local codes before global ones.
use Rattle.std.proofs.Common.{◌≡◌, ℕ, ℤ, Bool, false, IsTrue, ◌↔◌, List, [], ◌∷◌, ◌++◌, map, length, Some, None, cond, Vec, Global as Alloc, Ordering, Less, Equal, Greater, int_cmp, nat_cmp, refl, sym, ap, ◌∙◌, suc-ne-zero, true≢false}
use Rattle.std.specs.Cmp.Lexicographic.{slice_cmp}
use Rattle.std.specs.Ordering.{match_ordering}
use Rattle.std.specs.Map.{lookup}
use Rattle.std.specs.BTreeMap.{insert_entry, is_at}
use Rattle.tcap_parts.specs.declared.code.Code.{Code}
use Rattle.tcap_parts.specs.declared.code.Code.TheVariants.{Local, Global}
use Rattle.tcap_lists.specs.CodeMap.{code_cmp}

abbrev vec_cmp : Vec ℕ Alloc → Vec ℕ Alloc → Ordering
vec_cmp a b = slice_cmp nat_cmp a.items b.items

module _ {V : Type 0} where
  abbrev pub locals : List (ℤ × V) → List (Code × V)
  locals ls = map (λ e. (Local e.0, e.1)) ls

  abbrev pub globals : List (Vec ℕ Alloc × V) → List (Code × V)
  globals gs = map (λ e. (Global e.0.items, e.1)) gs

  no_local : (n : ℤ) (gs : List (Vec ℕ Alloc × V)) → lookup (is_at (code_cmp (Local n))) (globals gs) ≡ None
  no_local n [] = refl
  no_local n (e ∷ gs) = no_local n gs

  pub local_lookup : (n : ℤ) (ls : List (ℤ × V)) (gs : List (Vec ℕ Alloc × V))
      → lookup (is_at (int_cmp n)) ls ≡ lookup (is_at (code_cmp (Local n))) (locals ls ++ globals gs)
  local_lookup n [] gs = sym (no_local n gs)
  local_lookup n (e ∷ ls) gs = ap (cond (is_at (int_cmp n) e.0) (Some e.1)) (local_lookup n ls gs)

  pub global_lookup : (octets : List ℕ) (ls : List (ℤ × V)) (gs : List (Vec ℕ Alloc × V))
      → lookup (is_at (λ k. slice_cmp nat_cmp octets k.items)) gs ≡ lookup (is_at (code_cmp (Global octets))) (locals ls ++ globals gs)
  global_lookup octets [] [] = refl
  global_lookup octets [] (e ∷ gs) = ap (cond (is_at (slice_cmp nat_cmp octets) e.0.items) (Some e.1)) (global_lookup octets [] gs)
  global_lookup octets (e ∷ ls) gs = global_lookup octets ls gs

  local_step : (o : Ordering) (n : ℤ) (v : V) (e : ℤ × V) (ls more : List (ℤ × V)) (gs : List (Vec ℕ Alloc × V)) (rest : List (Code × V))
      → locals more ++ globals gs ≡ rest
      → locals (match_ordering o ((n, v) ∷ e ∷ ls) ((e.0, v) ∷ ls) (e ∷ more)) ++ globals gs
      ≡ match_ordering o ((Local n, v) ∷ locals (e ∷ ls) ++ globals gs) ((Local e.0, v) ∷ locals ls ++ globals gs) ((Local e.0, e.1) ∷ rest)
  local_step Less n v e ls more gs rest h = refl
  local_step Equal n v e ls more gs rest h = refl
  local_step Greater n v e ls more gs rest h = ap (λ r. (Local e.0, e.1) ∷ r) h

  pub local_insert : (n : ℤ) (v : V) (ls : List (ℤ × V)) (gs : List (Vec ℕ Alloc × V))
      → locals (insert_entry int_cmp ls n v) ++ globals gs ≡ insert_entry code_cmp (locals ls ++ globals gs) (Local n) v
  local_insert n v [] [] = refl
  local_insert n v [] (e ∷ gs) = refl
  local_insert n v (e ∷ ls) gs = local_step (int_cmp n e.0) n v e ls _ gs _ (local_insert n v ls gs)

  global_step : (o : Ordering) (k : Vec ℕ Alloc) (v : V) (e : Vec ℕ Alloc × V) (gs more : List (Vec ℕ Alloc × V)) (rest : List (Code × V))
      → globals more ≡ rest
      → globals (match_ordering o ((k, v) ∷ e ∷ gs) ((e.0, v) ∷ gs) (e ∷ more))
      ≡ match_ordering o ((Global k.items, v) ∷ globals (e ∷ gs)) ((Global e.0.items, v) ∷ globals gs) ((Global e.0.items, e.1) ∷ rest)
  global_step Less k v e gs more rest h = refl
  global_step Equal k v e gs more rest h = refl
  global_step Greater k v e gs more rest h = ap (λ r. (Global e.0.items, e.1) ∷ r) h

  pub global_insert : (k : Vec ℕ Alloc) (v : V) (ls : List (ℤ × V)) (gs : List (Vec ℕ Alloc × V))
      → locals ls ++ globals (insert_entry vec_cmp gs k v) ≡ insert_entry code_cmp (locals ls ++ globals gs) (Global k.items) v
  global_insert k v [] [] = refl
  global_insert k v [] (e ∷ gs) = global_step (vec_cmp k e.0) k v e gs _ _ (global_insert k v [] gs)
  global_insert k v (e ∷ ls) gs = ap (λ r. (Local e.0, e.1) ∷ r) (global_insert k v ls gs)

  pub something_left : (b : Bool) (ls : List (ℤ × V)) (gs : List (Vec ℕ Alloc × V)) → (IsTrue b ↔ (length ls ≡ 0)) → b ≡ false
      → IsTrue b ↔ (locals ls ++ globals gs ≡ [])
  something_left b [] gs some e = absurd (true≢false (sym (some.1 refl) ∙ e))
  something_left b (l ∷ ls) gs some e = (λ is. absurd (suc-ne-zero _ (some.0 is)), λ is. absurd (suc-ne-zero _ (ap length is)))
