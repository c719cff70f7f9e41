-- Reading items one after the other in a loop or with a cursor.
use Rattle.std.proofs.Common.{◌≡◌, ◌≢◌, ℕ, ◌<◌, Bool, true, false, List, [], ◌∷◌, ◌++◌, length, Result, Ok, Err, refl, sym, ap, subst, ◌∙◌, arith, append_assoc}
use Rattle.std.specs.Prelude.{◌==◌}
use Rattle.std.proofs.lemmas.Bool.{eqb-true, eqb-false}
use Rattle.tcap_ber.specs.declared.fault.Fault.{Fault}
use Rattle.tcap_ber.specs.Grammar.{Field, SpellsEach}
use Rattle.tcap_ber.specs.ExactReader.{ReadsField}
use Rattle.tcap_ber.specs.Span.{Span}
use Rattle.tcap_ber.specs.Reading.{◌>>=◌, each_of, is_read, read_or_none}
use Rattle.tcap_ber.proofs.EachLaws.{HasOctets, item_is_shorter, each_of-empty, each_of-step, reads_each}

-- ---- the loop's test: are octets left?

pub not_empty : (n : ℕ) (b : Bool) → b ≡ (n == 0) → b ≡ false → 0 < n
not_empty n b e f = let k = eqb-false n 0 (sym e ∙ f) in omega (arith, k)

pub is_empty : (n : ℕ) (b : Bool) → b ≡ (n == 0) → b ≡ true → n ≡ 0
is_empty n b e f = eqb-true n 0 (sym e ∙ f)

-- ---- the items before, and those still to read

abbrev pub with_front : {V : Type 0} → List V → Result (List V) Fault → Result (List V) Fault
with_front front read = read >>= λ vs. Ok (front ++ vs)

-- an item more in front changes neither success nor the fault
pub is_read-with_front : {V : Type 0} (front : List V) (read : Result (List V) Fault) → is_read (with_front front read) ≡ is_read read
is_read-with_front front (Ok vs) = refl
is_read-with_front front (Err f) = refl

pub with_front-err : {V : Type 0} (front : List V) (read : Result (List V) Fault) (f : Fault) → read ≡ Err f → with_front front read ≡ Err f
with_front-err front read f e = rw e refl

pub with_front-with_front : {V : Type 0} (front : List V) (v : V) (read : Result (List V) Fault) → with_front front (with_front (v ∷ []) read) ≡ with_front (front ++ v ∷ []) read
with_front-with_front {V} front v (Ok vs) = ap (λ (x : List V). Ok x) (sym (append_assoc front (v ∷ []) vs))
with_front-with_front front v (Err f) = refl

pub not_read : {V : Type 0} (read : Result (List V) Fault) (f : Fault) → is_read read ≡ true → read ≡ Err f → ⊥
not_read (Ok vs) f r e = cc
not_read (Err g) f r e = cc

-- ---- one item, and then the others

pub each_step : {V : Type 0} (item : Field V) (read : Span → Result (V × Span) Fault) → ReadsField item read → HasOctets item
    → (s : Span) (v : V) (rest : Span) → 0 < length s.octets → read s ≡ Ok (v, rest) → each_of read s ≡ with_front (v ∷ []) (each_of read rest)
each_step item read reads has s v rest some e = each_of-step item read reads has s some ∙ rw e refl

pub each_fault : {V : Type 0} (item : Field V) (read : Span → Result (V × Span) Fault) → ReadsField item read → HasOctets item
    → (s : Span) (f : Fault) → 0 < length s.octets → read s ≡ Err f → each_of read s ≡ Err f
each_fault item read reads has s f some e = each_of-step item read reads has s some ∙ rw e refl

pub rest_is_shorter : {V : Type 0} (item : Field V) (read : Span → Result (V × Span) Fault) → ReadsField item read → HasOctets item
    → (s : Span) (v : V) (rest : Span) → read s ≡ Ok (v, rest) → length rest.octets < length s.octets
rest_is_shorter item read reads has s v rest e = item_is_shorter item read reads has s (v, rest) e

pub rest_is_read : {V : Type 0} (item : Field V) (read : Span → Result (V × Span) Fault) → ReadsField item read → HasOctets item
    → (s : Span) (v : V) (rest : Span) → 0 < length s.octets → read s ≡ Ok (v, rest) → is_read (each_of read rest) ≡ is_read (each_of read s)
rest_is_read item read reads has s v rest some e =
    sym (is_read-with_front (v ∷ []) (each_of read rest)) ∙ ap is_read (sym (each_step item read reads has s v rest some e))

-- ---- what a cursor has left

pub left_step : {V : Type 0} (item : Field V) (read : Span → Result (V × Span) Fault) → ReadsField item read → HasOctets item
    → (s : Span) (v : V) (rest : Span) → 0 < length s.octets → read s ≡ Ok (v, rest) → is_read (each_of read s) ≡ true
    → read_or_none (each_of read s) ≡ v ∷ read_or_none (each_of read rest)
left_step {V} item read reads has s v rest some e whole =
    ap read_or_none (each_step item read reads has s v rest some e) ∙ behind (each_of read rest) (rest_is_read item read reads has s v rest some e ∙ whole)
  where
    behind : (r : Result (List V) Fault) → is_read r ≡ true → read_or_none (with_front (v ∷ []) r) ≡ v ∷ read_or_none r
    behind (Ok vs) k = refl
    behind (Err f) k = absurd cc

pub left_end : {V : Type 0} (read : Span → Result (V × Span) Fault) (s : Span) → length s.octets ≡ 0 → read_or_none (each_of read s) ≡ []
left_end read s e = ap read_or_none (each_of-empty read s e)

-- octets spell at least one item
pub filled : {V : Type 0} (item : Field V) (vs : List V) (octets : List ℕ) → 0 < length octets → SpellsEach item vs octets → vs ≢ []
filled item [] octets some spelled e = absurd (omega (arith, ap length spelled, some))
filled item (v ∷ vs) octets some spelled e = cc

-- items that were read are spelled there
each_sound : {V : Type 0} (item : Field V) (read : Span → Result (V × Span) Fault) → ReadsField item read → HasOctets item
    → (s : Span) (vs : List V) → each_of read s ≡ Ok vs → SpellsEach item vs s.octets
each_sound {V} item read reads has s vs e =
    let a = (reads_each item read reads has).sound s vs e in
    subst (λ (x : List V). SpellsEach item x s.octets) (sym a.1) a.2

-- if octets are left, so are items
pub some_left : {V : Type 0} (item : Field V) (read : Span → Result (V × Span) Fault) → ReadsField item read → HasOctets item
    → (s : Span) → 0 < length s.octets → is_read (each_of read s) ≡ true → read_or_none (each_of read s) ≢ []
some_left {V} item read reads has s some whole = of_it (each_of read s) refl
  where
    of_it : (r : Result (List V) Fault) → each_of read s ≡ r → read_or_none (each_of read s) ≢ []
    of_it (Ok vs) e = λ none. filled item vs s.octets some (each_sound item read reads has s vs e) (sym (ap read_or_none e) ∙ none)
    of_it (Err f) e = absurd (not_read (each_of read s) f whole e)
