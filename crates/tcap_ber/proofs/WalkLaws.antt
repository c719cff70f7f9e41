-- One step of a walk, and that any number of steps above the octet count gives the same result.
use Rattle.std.proofs.Common.{◌≡◌, ℕ, zero, suc, ◌+◌, ◌-◌, ◌<◌, ◌≤◌, Bool, true, false, cond, List, [], ◌∷◌, ◌++◌, length, drop, Option, Some, None, Result, Ok, Err, refl, sym, ap, subst, ◌∙◌, inl, inr, arith}
use Rattle.std.specs.Prelude.{◌≢◌, nat_lt, ◌==◌, ◌&&◌}
use Rattle.std.proofs.lemmas.List.{length-drop}
use Rattle.std.proofs.lemmas.Bool.{ltb-false, le-ltb, eqb-true, eqb-false, ne_eqb, and_parts}
use Rattle.tcap_ber.specs.declared.fault.Fault.{Fault}
use Rattle.tcap_ber.specs.declared.header.Opening.{Opening}
use Rattle.tcap_ber.specs.declared.header.Opening.TheVariants.{Definite, Indefinite}
use Rattle.tcap_ber.specs.declared.progress.Progress.{Progress}
use Rattle.tcap_ber.specs.declared.element.Outer.{Outer}
use Rattle.tcap_ber.specs.Element.{IsTag, IsLength, depth_limit}
use Rattle.tcap_ber.specs.HeaderReading.{◌>>=◌, opening_at}
use Rattle.tcap_ber.specs.WalkResult.{is_ending, within_limit, opened, closed, passed, behind_header, gone_to, gone_on, walk_on, goes_to, goes_by, goes, stopped_by, stopped_on, noted_by, noted_on, note}
use Rattle.tcap_ber.specs.Progress.{header_octets}
use Rattle.tcap_ber.proofs.Steps.{chosen, ok_is}
use Rattle.tcap_ber.proofs.OpeningLaws.{from, definite_sound}
use Rattle.tcap_ber.proofs.OpeningPlaceLaws.{opening_within}
use Rattle.tcap_ber.proofs.HeaderLaws.{FindsHeader}

-- the walk goes on to `next` in one step
pub record Goes (p : Progress) (octets : List ℕ) (next : Progress) : Type 0 where
  pub opening : Opening
  pub read : opening_at (from p.at octets) ≡ Ok (Some opening)
  pub behind : behind_header p octets opening ≡ Ok next
  pub room : next.at - p.at ≤ length octets
  pub some : p.at < next.at
  pub inside : 0 < next.depth

-- a header that begins with two zero octets is these two
pub zeros_header : (tag lens rest : List ℕ) (n : ℕ) → IsTag tag → IsLength n lens → is_ending (tag ++ (lens ++ rest)) ≡ true → (tag ≡ 0 ∷ []) × (lens ≡ 0 ∷ []) × (n ≡ 0)
zeros_header [] lens rest n t l e = absurd t
zeros_header (first ∷ []) [] rest n t l e = absurd l
zeros_header (first ∷ []) (second ∷ more) rest n t (inl h) e =
    let z = and_parts (first == 0) (second == 0) e in
    let a : first ≡ 0 = eqb-true first 0 z.0 in
    let b : second ≡ 0 = eqb-true second 0 z.1 in
    (ap (λ (x : ℕ). x ∷ []) a, ap (λ (x : ℕ). x ∷ more) b ∙ ap (λ (x : List ℕ). 0 ∷ x) h.1, h.2 ∙ b)
zeros_header (first ∷ []) (second ∷ more) rest n t (inr h) e =
    let z = and_parts (first == 0) (second == 0) e in
    let b : second ≡ 0 = eqb-true second 0 z.1 in
    absurd (omega (arith, h.0, b))
zeros_header (first ∷ next ∷ more) lens rest n (inl t) l e = absurd cc
zeros_header (first ∷ next ∷ more) lens rest n (inr t) l e =
    let z = and_parts (first == 0) (next == 0) e in
    let a : first ≡ 0 = eqb-true first 0 z.0 in
    absurd (omega (arith, t.0, a))

-- the value of `within_limit`
pub limit_ok : (p q next : Progress) → within_limit p q ≡ Ok next → q ≡ next
limit_ok p q next e =
    elim (chosen (nat_lt p.limit q.at) _ _ (Ok next) e) [
      | inl k ↦ absurd cc
      | inr k ↦ ok_is q next k.1
    ]

-- opening moves the offset by the header's length
pub opened_ok : (p next : Progress) (len : ℕ) → opened p len ≡ Ok next → next.at ≡ p.at + len
opened_ok p next len e =
    elim (chosen (nat_lt p.depth depth_limit) _ _ (Ok next) e) [
      | inl k ↦ elim (chosen (p.depth == 0) _ _ (Ok next) k.1) [
        | inl l ↦ sym (ap (λ (x : Progress). x.at) (ok_is _ next l.1))
        | inr l ↦ sym (ap (λ (x : Progress). x.at) (limit_ok p _ next l.1))
      ]
      | inr k ↦ absurd cc
    ]

-- closing moves the offset by two
pub closed_ok : (p next : Progress) → closed p ≡ Ok next → next.at ≡ p.at + 2
closed_ok p next e =
    elim (chosen (p.depth == 1) _ _ (Ok next) e) [
      | inl l ↦ sym (ap (λ (x : Progress). x.at) (ok_is _ next l.1))
      | inr l ↦ sym (ap (λ (x : Progress). x.at) (limit_ok p _ next l.1))
    ]

-- passing moves the offset by the element's length
pub passed_ok : (p next : Progress) (len : ℕ) → passed p len ≡ Ok next → next.at ≡ p.at + len
passed_ok p next len e =
    elim (chosen (p.depth == 0) _ _ (Ok next) e) [
      | inl l ↦ sym (ap (λ (x : Progress). x.at) (ok_is _ next l.1))
      | inr l ↦ sym (ap (λ (x : Progress). x.at) (limit_ok p _ next l.1))
    ]

-- a step moves the offset at least by the header's length
pub behind_further : (p next : Progress) (octets : List ℕ) (opening : Opening) → opening_at (from p.at octets) ≡ Ok (Some opening) → behind_header p octets opening ≡ Ok next
    → p.at + header_octets opening ≤ next.at
behind_further p next octets (Indefinite tag) read behind = omega (arith, opened_ok p next (tag + 1) behind)
behind_further p next octets (Definite h) read behind =
    elim (chosen (nat_lt 0 p.depth && is_ending octets) _ _ (Ok next) behind) [
      | inl k ↦ omega (arith, closed_ok p next k.1, ending_len (definite_sound p.at octets h read) (and_parts _ _ k.0).1)
      | inr k ↦ omega (arith, passed_ok p next (h.len + h.content_len) k.1)
    ]
  where
    ending_len : FindsHeader octets h → is_ending octets ≡ true → h.len ≡ 2
    ending_len f e =
        let z = zeros_header f.tag f.length_octets f.rest h.content_len f.is_tag f.is_length (rw f.joined at e) in
        omega (arith, f.len, ap length z.0, ap length z.1)

-- the walk goes on after a header if the octets are there and an element is open
pub goes_there : (p next : Progress) (octets : List ℕ) (opening : Opening) → opening_at (from p.at octets) ≡ Ok (Some opening) → behind_header p octets opening ≡ Ok next
    → nat_lt (length octets) (next.at - p.at) ≡ false → (next.depth == 0) ≡ false → Goes p octets next
goes_there p next octets opening read behind k l = record {
  opening = opening;
  read = read;
  behind = behind;
  room = ltb-false (length octets) (next.at - p.at) k;
  some = omega (arith, behind_further p next octets opening read behind, (opening_within p.at octets opening read).0);
  inside = let d : next.depth ≢ 0 = eqb-false next.depth 0 l in omega (arith, d);
}

pub goes_sound : (p next : Progress) (octets : List ℕ) → goes p octets ≡ Some next → Goes p octets next
unfolding goes
goes_sound p next octets e = by_result (opening_at (from p.at octets)) refl e
  where
    by_next : (opening : Opening) (q : Progress) → opening_at (from p.at octets) ≡ Ok (Some opening) → behind_header p octets opening ≡ Ok q
        → goes_to p octets (Ok q) ≡ Some next → Goes p octets next
    by_next opening q read behind e =
        elim (chosen (nat_lt (length octets) (q.at - p.at)) _ _ (Some next) e) [
          | inl k ↦ absurd cc
          | inr k ↦ elim (chosen (q.depth == 0) _ _ (Some next) k.1) [
            | inl l ↦ absurd cc
            | inr l ↦ let same : q ≡ next = cc in subst (Goes p octets) same (goes_there p q octets opening read behind k.0 l.0)
          ]
        ]

    by_behind : (opening : Opening) (b : Result Progress Fault) → opening_at (from p.at octets) ≡ Ok (Some opening) → behind_header p octets opening ≡ b
        → goes_to p octets b ≡ Some next → Goes p octets next
    by_behind opening (Ok q) read behind e = by_next opening q read behind e
    by_behind opening (Err f) read behind e = absurd cc

    by_result : (r : Result (Option Opening) Fault) → opening_at (from p.at octets) ≡ r → goes_by p octets r ≡ Some next → Goes p octets next
    by_result (Err f) a e = absurd cc
    by_result (Ok None) a e = absurd cc
    by_result (Ok (Some opening)) a e = by_behind opening (behind_header p octets opening) a refl e

pub goes_complete : (p next : Progress) (octets : List ℕ) → Goes p octets next → goes p octets ≡ Some next
unfolding goes
goes_complete p next octets g =
    let deep : next.depth ≢ 0 = λ e. omega (arith, g.inside, e) in
    rw (g.read, g.behind, le-ltb (length octets) (next.at - p.at) g.room, ne_eqb next.depth 0 deep) refl

-- the octets left after a step
abbrev pub left : Progress → Progress → List ℕ → List ℕ
left p next octets = drop (next.at - p.at) octets

pub left_shorter : (p next : Progress) (octets : List ℕ) → Goes p octets next → length (left p next octets) + (next.at - p.at) ≡ length octets
left_shorter p next octets g = omega (arith, length-drop (next.at - p.at) octets, g.room)

-- ---- enough steps

abbrev pub walk : Progress → List ℕ → Result Outer Fault
walk p octets = walk_on (length octets + 1) p octets

abbrev pub stops : Progress → List ℕ → Progress × List ℕ
stops p octets = stopped_on (length octets + 1) p octets

abbrev pub notes : ℕ → ℕ → Progress → List ℕ → ℕ
notes depth noted p octets = noted_on (length octets + 1) depth noted p octets

pub cond_same : {A : Type 0} (b : Bool) (x y z : A) → (b ≡ false → y ≡ z) → cond b x y ≡ cond b x z
cond_same true x y z h = refl
cond_same false x y z h = h refl

-- a step is the same with two continuations that agree on what is left
pub step_same : (p : Progress) (octets : List ℕ) (f g : Progress → List ℕ → Result Outer Fault) → ((next : Progress) → Goes p octets next → f next (left p next octets) ≡ g next (left p next octets))
    → (opening_at (from p.at octets) >>= gone_on f p octets) ≡ (opening_at (from p.at octets) >>= gone_on g p octets)
step_same p octets f g same = by_result (opening_at (from p.at octets)) refl
  where
    by_behind : (opening : Opening) (b : Result Progress Fault) → opening_at (from p.at octets) ≡ Ok (Some opening) → behind_header p octets opening ≡ b
        → (b >>= gone_to f p octets) ≡ (b >>= gone_to g p octets)
    by_behind opening (Err d) read behind = refl
    by_behind opening (Ok q) read behind =
        cond_same (nat_lt (length octets) (q.at - p.at)) _ _ _ (λ k. cond_same (q.depth == 0) _ _ _ (λ l. same q (goes_there p q octets opening read behind k l)))

    by_result : (r : Result (Option Opening) Fault) → opening_at (from p.at octets) ≡ r → (r >>= gone_on f p octets) ≡ (r >>= gone_on g p octets)
    by_result (Err d) a = refl
    by_result (Ok None) a = refl
    by_result (Ok (Some opening)) a = by_behind opening (behind_header p octets opening) a refl

-- a step that goes on
pub step_goes : (p next : Progress) (octets : List ℕ) (f : Progress → List ℕ → Result Outer Fault) → Goes p octets next → (opening_at (from p.at octets) >>= gone_on f p octets) ≡ f next (left p next octets)
step_goes p next octets f g =
    let deep : next.depth ≢ 0 = λ e. omega (arith, g.inside, e) in
    rw (g.read, g.behind, le-ltb (length octets) (next.at - p.at) g.room, ne_eqb next.depth 0 deep) refl

-- a step that goes on leaves fewer octets
pub fewer_left : (n : ℕ) (p next : Progress) (octets : List ℕ) → Goes p octets next → length octets < suc n → length (left p next octets) < n
fewer_left n p next octets g more = omega (arith, left_shorter p next octets g, g.some, more)

-- all step counts above the octet count give the same result
pub walk_same : (m n : ℕ) (p : Progress) (octets : List ℕ) → length octets < m → length octets < n → walk_on m p octets ≡ walk_on n p octets
walk_same zero n p octets a b = absurd (omega arith)
walk_same (suc m) zero p octets a b = absurd (omega arith)
walk_same (suc m) (suc n) p octets a b =
    step_same p octets (walk_on m) (walk_on n) (λ next g. walk_same m n next (left p next octets) (fewer_left m p next octets g a) (fewer_left n p next octets g b))

-- the walk as one step and then the others
pub walk_first : (p : Progress) (octets : List ℕ) → walk p octets ≡ walk_on (suc (length octets)) p octets
walk_first p octets = walk_same (length octets + 1) (suc (length octets)) p octets (omega arith) (omega arith)

pub enough_steps : (n : ℕ) (p : Progress) (octets : List ℕ) → length octets < n → walk_on n p octets ≡ walk p octets
enough_steps n p octets more = walk_same n (length octets + 1) p octets more (omega arith)

pub walk_goes : (p next : Progress) (octets : List ℕ) → Goes p octets next → walk p octets ≡ walk next (left p next octets)
walk_goes p next octets g =
    walk_first p octets ∙ step_goes p next octets (walk_on (length octets)) g
    ∙ enough_steps (length octets) next (left p next octets) (fewer_left (length octets) p next octets g (omega arith))

-- a walk that stops does not go on
pub goes_nowhere : (p next : Progress) (octets : List ℕ) → goes p octets ≡ None → Goes p octets next → ⊥
goes_nowhere p next octets e g = let h = goes_complete p next octets g in cc

pub walk_stops : (p : Progress) (octets : List ℕ) (other : Progress → List ℕ → Result Outer Fault) → goes p octets ≡ None → walk p octets ≡ (opening_at (from p.at octets) >>= gone_on other p octets)
walk_stops p octets other e = walk_first p octets ∙ step_same p octets (walk_on (length octets)) other (λ next g. absurd (goes_nowhere p next octets e g))

-- the stop is the same with two continuations that agree on what is left
pub stop_same : (p : Progress) (octets : List ℕ) (f g : Progress → List ℕ → Progress × List ℕ) (found : Option Progress) → ((next : Progress) → found ≡ Some next → f next (left p next octets) ≡ g next (left p next octets))
    → stopped_by f p octets found ≡ stopped_by g p octets found
stop_same p octets f g None same = refl
stop_same p octets f g (Some next) same = same next refl

-- all step counts above the octet count stop at the same place
pub stops_same : (m n : ℕ) (p : Progress) (octets : List ℕ) → length octets < m → length octets < n → stopped_on m p octets ≡ stopped_on n p octets
stops_same zero n p octets a b = absurd (omega arith)
stops_same (suc m) zero p octets a b = absurd (omega arith)
stops_same (suc m) (suc n) p octets a b =
    stop_same p octets (stopped_on m) (stopped_on n) (goes p octets)
    (λ next e. let g = goes_sound p next octets e in stops_same m n next (left p next octets) (fewer_left m p next octets g a) (fewer_left n p next octets g b))

-- the stop after one step and then the others
pub stops_first : (p : Progress) (octets : List ℕ) → stops p octets ≡ stopped_on (suc (length octets)) p octets
stops_first p octets = stops_same (length octets + 1) (suc (length octets)) p octets (omega arith) (omega arith)

pub stops_goes : (p next : Progress) (octets : List ℕ) → Goes p octets next → stops p octets ≡ stops next (left p next octets)
stops_goes p next octets g =
    stops_first p octets ∙ ap (stopped_by (stopped_on (length octets)) p octets) (goes_complete p next octets g)
    ∙ stops_same (length octets) (length (left p next octets) + 1) next (left p next octets) (fewer_left (length octets) p next octets g (omega arith)) (omega arith)

pub stops_there : (p : Progress) (octets : List ℕ) → goes p octets ≡ None → stops p octets ≡ (p, octets)
stops_there p octets e = stops_first p octets ∙ ap (stopped_by (stopped_on (length octets)) p octets) e

-- the noted place is the same with two continuations that agree on what is left
pub note_same : (depth noted : ℕ) (p : Progress) (octets : List ℕ) (f g : ℕ → Progress → List ℕ → ℕ) (found : Option Progress)
    → ((next : Progress) → found ≡ Some next → f (note depth noted p next) next (left p next octets) ≡ g (note depth noted p next) next (left p next octets))
    → noted_by f depth noted p octets found ≡ noted_by g depth noted p octets found
note_same depth noted p octets f g None same = refl
note_same depth noted p octets f g (Some next) same = same next refl

-- all step counts above the octet count note the same place
pub notes_same : (m n depth noted : ℕ) (p : Progress) (octets : List ℕ) → length octets < m → length octets < n → noted_on m depth noted p octets ≡ noted_on n depth noted p octets
notes_same zero n depth noted p octets a b = absurd (omega arith)
notes_same (suc m) zero depth noted p octets a b = absurd (omega arith)
notes_same (suc m) (suc n) depth noted p octets a b =
    note_same depth noted p octets (noted_on m depth) (noted_on n depth) (goes p octets)
    (λ next e. let g = goes_sound p next octets e in notes_same m n depth (note depth noted p next) next (left p next octets) (fewer_left m p next octets g a) (fewer_left n p next octets g b))

-- the noted place after one step and then the others
pub notes_first : (depth noted : ℕ) (p : Progress) (octets : List ℕ) → notes depth noted p octets ≡ noted_on (suc (length octets)) depth noted p octets
notes_first depth noted p octets = notes_same (length octets + 1) (suc (length octets)) depth noted p octets (omega arith) (omega arith)

pub notes_goes : (depth noted : ℕ) (p next : Progress) (octets : List ℕ) → Goes p octets next → notes depth noted p octets ≡ notes depth (note depth noted p next) next (left p next octets)
notes_goes depth noted p next octets g =
    notes_first depth noted p octets ∙ ap (noted_by (noted_on (length octets) depth) depth noted p octets) (goes_complete p next octets g)
    ∙ notes_same (length octets) (length (left p next octets) + 1) depth (note depth noted p next) next (left p next octets) (fewer_left (length octets) p next octets g (omega arith)) (omega arith)

pub notes_there : (depth noted : ℕ) (p : Progress) (octets : List ℕ) → goes p octets ≡ None → notes depth noted p octets ≡ noted
notes_there depth noted p octets e = notes_first depth noted p octets ∙ ap (noted_by (noted_on (length octets) depth) depth noted p octets) e
