-- Reading items one after the other is exact.
use Rattle.std.proofs.Common.{zero, suc, ◌≡◌, ℕ, ◌+◌, ◌<◌, ◌≤◌, List, [], ◌∷◌, length, Result, Ok, Err, refl, sym, ap, subst, ◌∙◌, inl, inr, arith}
use Rattle.std.specs.Prelude.{◌==◌, if◌then◌else◌}
use Rattle.std.proofs.lemmas.Bool.{eqb-true, eqb-false, eq-eqb, ne_eqb}
use Rattle.std.proofs.lemmas.List.{length-append, nil_from_length}
use Rattle.tcap_ber.specs.declared.fault.Fault.{Fault}
use Rattle.tcap_ber.specs.declared.fault.Reason.{Reason}
use Rattle.tcap_ber.specs.Grammar.{Field, SpellsEach, IsFaultyAfter, each, after}
use Rattle.tcap_ber.specs.ExactReader.{ReadsField, ReadsContent}
use Rattle.tcap_ber.specs.Span.{Span}
use Rattle.tcap_ber.specs.Reading.{◌>>=◌, each_at, each_of}
use Rattle.tcap_ber.proofs.Steps.{chosen, bind_ok, bind_err, ok_is, ok_not_err}
use Rattle.tcap_ber.proofs.GrammarLaws.{is_after, not_none}

-- two chains are equal if their continuations agree on the value read
bind_same : {A B : Type 0} (r : Result A Fault) (f g : A → Result B Fault) → ((x : A) → r ≡ Ok x → f x ≡ g x) → (r >>= f) ≡ (r >>= g)
bind_same (Ok x) f g same = same x refl
bind_same (Err e) f g same = refl

abbrev pub HasOctets : {V : Type 0} → Field V → Type 0
HasOctets {V} item = (v : V) (front rest : List ℕ) → item.spells v front rest → 0 < length front

-- after an item, fewer octets are left
pub item_is_shorter : {V : Type 0} (item : Field V) (read : Span → Result (V × Span) Fault) → ReadsField item read → HasOctets item
    → (s : Span) (x : V × Span) → read s ≡ Ok x → length x.1.octets < length s.octets
item_is_shorter item read reads has s x e =
    let t = reads.sound s x.0 x.1 e in
    omega (arith, ap length t.joined, length-append t.front x.1.octets, has x.0 t.front x.1.octets t.is_part)

-- if an item is faulty, octets are left
pub wrong_after_some : {V : Type 0} (item : Field V) → HasOctets item → (vs : List V) (s : Span) (reason : Reason) (place : ℕ)
    → IsFaultyAfter item vs s reason place → 0 < length s.octets
wrong_after_some item has [] s reason place h = h.0
wrong_after_some item has (v ∷ vs) s reason place h = omega (arith, ap length h.2, length-append h.0 h.1, has v h.0 h.1 h.3)

-- an empty window has no items
each_at-empty : {V : Type 0} (read : Span → Result (V × Span) Fault) (n : ℕ) (s : Span) → length s.octets ≡ 0 → each_at read n s ≡ Ok []
each_at-empty read zero s e = rw (eq-eqb (length s.octets) 0 e) refl
each_at-empty read (suc n) s e = rw (eq-eqb (length s.octets) 0 e) refl

-- the octet count is enough as a bound on the items
each_at-enough : {V : Type 0} (item : Field V) (read : Span → Result (V × Span) Fault) → ReadsField item read → HasOctets item
    → (n m : ℕ) (s : Span) → length s.octets ≤ n → length s.octets ≤ m → each_at read n s ≡ each_at read m s
each_at-enough item read reads has zero m s a b =
    let none : length s.octets ≡ 0 = omega arith in each_at-empty read zero s none ∙ sym (each_at-empty read m s none)
each_at-enough item read reads has (suc n) zero s a b =
    let none : length s.octets ≡ 0 = omega arith in each_at-empty read (suc n) s none ∙ sym (each_at-empty read zero s none)
each_at-enough {V} item read reads has (suc n) (suc m) s a b =
    ap (λ (r : Result (List V) Fault). if length s.octets == 0 then Ok [] else r) (bind_same (read s) _ _ (λ x e.
    let less = item_is_shorter item read reads has s x e in
    ap (λ (r : Result (List V) Fault). r >>= λ vs. Ok (x.0 ∷ vs)) (each_at-enough item read reads has n m x.1 (omega (arith, less, a)) (omega (arith, less, b)))))

pub each_of-empty : {V : Type 0} (read : Span → Result (V × Span) Fault) (s : Span) → length s.octets ≡ 0 → each_of read s ≡ Ok []
unfolding each_of
each_of-empty read s e = each_at-empty read (length s.octets) s e

-- the first item, and then the others
pub each_of-step : {V : Type 0} (item : Field V) (read : Span → Result (V × Span) Fault) → ReadsField item read → HasOctets item → (s : Span) → 0 < length s.octets
    → each_of read s ≡ (read s >>= λ x. each_of read x.1 >>= λ vs. Ok (x.0 ∷ vs))
unfolding each_of
each_of-step {V} item read reads has s some =
    let filled : length s.octets ≡ 0 → ⊥ = λ (z : length s.octets ≡ 0). omega arith in
    let first : each_at read (suc (length s.octets)) s ≡ (read s >>= λ x. each_at read (length s.octets) x.1 >>= λ vs. Ok (x.0 ∷ vs)) =
    rw (ne_eqb (length s.octets) 0 filled) refl in
    each_at-enough item read reads has (length s.octets) (suc (length s.octets)) s (omega arith) (omega arith) ∙ first ∙ bind_same (read s) _ _ (λ x e.
    let less = item_is_shorter item read reads has s x e in
    ap (λ (r : Result (List V) Fault). r >>= λ vs. Ok (x.0 ∷ vs)) (each_at-enough item read reads has (length s.octets) (length x.1.octets) x.1 (omega (arith, less)) (omega arith)))

pub reads_each : {V : Type 0} (item : Field V) (read : Span → Result (V × Span) Fault) → ReadsField item read → HasOctets item
    → ReadsContent (each item) (λ vs. vs) (each_of read)
unfolding each_of
reads_each {V} item read reads has = record {
  sound = λ s vs e. (vs, refl, sound (length s.octets) s vs e);
  complete = λ s vs h. complete (length s.octets) s vs (omega arith) h;
  refuses = λ s f e. refuses (length s.octets) s f (omega arith) e;
  stops = λ s f h. stops (length s.octets) s f h.0 (omega arith) h.1;
}
  where
    sound : (n : ℕ) (s : Span) (vs : List V) → each_at read n s ≡ Ok vs → SpellsEach item vs s.octets
    sound zero s vs e =
        elim (chosen (length s.octets == 0) _ _ (Ok vs) e) [
          | inl h ↦ subst (λ (w : List V). SpellsEach item w s.octets) (ok_is [] vs h.1) (nil_from_length s.octets (eqb-true (length s.octets) 0 h.0))
          | inr h ↦ absurd cc
        ]
    sound (suc n) s vs e =
        elim (chosen (length s.octets == 0) _ _ (Ok vs) e) [
          | inl h ↦ subst (λ (w : List V). SpellsEach item w s.octets) (ok_is [] vs h.1) (nil_from_length s.octets (eqb-true (length s.octets) 0 h.0))
          | inr h ↦
              let a = bind_ok (read s) (λ x. each_at read n x.1 >>= λ ws. Ok (x.0 ∷ ws)) vs h.1 in
              let b = bind_ok (each_at read n a.0.1) (λ ws. Ok (a.0.0 ∷ ws)) vs a.2 in
              let t = reads.sound s a.0.0 a.0.1 a.1 in
              subst (λ (w : List V). SpellsEach item w s.octets) (ok_is (a.0.0 ∷ b.0) vs b.2)
              (t.front, a.0.1.octets, t.joined, t.is_part, sound n a.0.1 b.0 b.1)
        ]

    complete : (n : ℕ) (s : Span) (vs : List V) → length s.octets ≤ n → SpellsEach item vs s.octets → each_at read n s ≡ Ok vs
    complete n s [] room h = each_at-empty read n s (ap length h)
    complete zero s (v ∷ vs) room h = absurd (omega (arith, ap length h.2, length-append h.0 h.1, has v h.0 h.1 h.3))
    complete (suc n) s (v ∷ vs) room h =
        let total : length s.octets ≡ length h.0 + length h.1 = ap length h.2 ∙ length-append h.0 h.1 in
        let some = has v h.0 h.1 h.3 in
        let filled : length s.octets ≡ 0 → ⊥ = λ (z : length s.octets ≡ 0). omega (arith, z, total, some) in
        let here : read s ≡ Ok (v, after s.place h.0 h.1) = ap (λ (y : List ℕ). read (record { octets = y; place = s.place })) h.2 ∙ reads.complete s.place v h.0 h.1 h.3 in
        rw (ne_eqb (length s.octets) 0 filled, here, complete n (after s.place h.0 h.1) vs (omega (arith, total, some, room)) h.4) refl

    refuses : (n : ℕ) (s : Span) (f : Fault) → length s.octets ≤ n → each_at read n s ≡ Err f → (vs : List V) × IsFaultyAfter item vs s f.reason f.place
    refuses zero s f room e = absurd (ok_not_err [] f (sym (each_at-empty read zero s (omega arith)) ∙ e))
    refuses (suc n) s f room e =
        elim (chosen (length s.octets == 0) _ _ (Err f) e) [
          | inl h ↦ absurd cc
          | inr h ↦ elim (bind_err (read s) (λ x. each_at read n x.1 >>= λ ws. Ok (x.0 ∷ ws)) f h.1) [
            | inl k ↦ let filled = eqb-false (length s.octets) 0 h.0 in ([], (omega (arith, filled), reads.refuses s f k))
            | inr a ↦ elim (bind_err (each_at read n a.0.1) (λ ws. Ok (a.0.0 ∷ ws)) f a.2) [
              | inl k ↦ behind_item n s f a.0 a.1 (refuses n a.0.1 f (omega (arith, item_is_shorter item read reads has s a.0 a.1, room)) k)
              | inr b ↦ absurd cc
            ]
          ]
        ]
      where
        behind_item : (n : ℕ) (s : Span) (f : Fault) (x : V × Span) → read s ≡ Ok x → ((vs : List V) × IsFaultyAfter item vs x.1 f.reason f.place) → (vs : List V) × IsFaultyAfter item vs s f.reason f.place
        behind_item n s f x e wrong =
            let t = reads.sound s x.0 x.1 e in
            (x.0 ∷ wrong.0, (t.front, x.1.octets, t.joined, t.is_part, subst (λ (r : Span). IsFaultyAfter item wrong.0 r f.reason f.place) (is_after s.place t.front x.1 t.place) wrong.1))

    stops : (n : ℕ) (s : Span) (f : Fault) (vs : List V) → length s.octets ≤ n → IsFaultyAfter item vs s f.reason f.place → each_at read n s ≡ Err f
    stops zero s f vs room h = absurd (omega (arith, room, wrong_after_some item has vs s f.reason f.place h))
    stops (suc n) s f [] room h = rw (ne_eqb (length s.octets) 0 (not_none (length s.octets) h.0), reads.stops s f h.1) refl
    stops (suc n) s f (v ∷ vs) room h =
        let total : length s.octets ≡ length h.0 + length h.1 = ap length h.2 ∙ length-append h.0 h.1 in
        let some = has v h.0 h.1 h.3 in
        let filled : length s.octets ≡ 0 → ⊥ = λ (z : length s.octets ≡ 0). omega (arith, z, total, some) in
        let here : read s ≡ Ok (v, after s.place h.0 h.1) = ap (λ (y : List ℕ). read (record { octets = y; place = s.place })) h.2 ∙ reads.complete s.place v h.0 h.1 h.3 in
        rw (ne_eqb (length s.octets) 0 filled, here, stops n (after s.place h.0 h.1) f vs (omega (arith, total, some, room)) h.4) refl
