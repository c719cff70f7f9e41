-- A stopped walk returns for later octets what a walk over all octets at once returns.
use Rattle.std.proofs.Common.{◌≡◌, ℕ, zero, suc, ◌+◌, ◌-◌, ◌*◌, ◌<◌, ◌≤◌, ◌⊎◌, Bool, true, false, List, [], ◌∷◌, ◌++◌, length, take, drop, Option, Some, None, Result, Ok, Err, refl, sym, ap, subst, ◌∙◌, inl, inr, arith, append_assoc, add-one}
use Rattle.std.specs.Prelude.{◌≢◌, nat_lt, ◌==◌, ◌&&◌}
use Rattle.std.proofs.lemmas.List.{length-append, length-drop, drop-drop, drop_at, drop-append-le, take-append-drop}
use Rattle.std.proofs.lemmas.Bool.Decides.{nat_tests}
use Rattle.std.proofs.lemmas.Bool.{ltb-true, ltb-false, lt-ltb, le-ltb, eqb-true, eqb-false, ne_eqb}
use Rattle.tcap_ber.specs.declared.fault.Fault.{Fault}
use Rattle.tcap_ber.specs.declared.header.Opening.{Opening}
use Rattle.tcap_ber.specs.declared.header.Opening.TheVariants.{Definite, Indefinite}
use Rattle.tcap_ber.specs.declared.progress.Progress.{Progress}
use Rattle.tcap_ber.specs.declared.element.Outer.{Outer}
use Rattle.tcap_ber.specs.declared.element.Outer.TheVariants.{Whole, Need}
use Rattle.tcap_ber.specs.Element.{depth_limit}
use Rattle.tcap_ber.specs.HeaderReading.{◌>>=◌, opening_at}
use Rattle.tcap_ber.specs.WalkResult.{is_ending, within_limit, opened, closed, passed, behind_header, gone_to, gone_on, walk_on, resume}
use Rattle.tcap_ber.specs.Progress.{header_octets}
use Rattle.tcap_ber.proofs.Steps.{chosen, bind_ok, ok_is}
use Rattle.tcap_ber.proofs.OpeningLaws.{from}
use Rattle.tcap_ber.proofs.OpeningPlaceLaws.{opening_stays, fault_stays, opening_within, opening_exact}
use Rattle.tcap_ber.proofs.WalkLaws.{left, walk, enough_steps, behind_further}

-- two octets decide whether they are end-of-contents octets
ending_stays : (octets more : List ℕ) → 2 ≤ length octets → is_ending (octets ++ more) ≡ is_ending octets
ending_stays [] more long = absurd (omega arith)
ending_stays (first ∷ []) more long = absurd (omega arith)
ending_stays (first ∷ second ∷ octets) more long = refl

-- comparisons of two pairs of numbers with the same difference
same_test : (a b c d : ℕ) → a + d ≡ b + c → nat_lt a b ≡ nat_lt c d
same_test a b c d e = grind (arith, nat_tests)

-- the walk is not at its end
not_over : (p : Progress) → ((p.depth ≡ 0) × (0 < p.at) → ⊥) → ((p.depth == 0) && nat_lt 0 p.at) ≡ false
not_over p goes_on = alike p.depth p.at goes_on
  where
    alike : (depth at : ℕ) → ((depth ≡ 0) × (0 < at) → ⊥) → ((depth == 0) && nat_lt 0 at) ≡ false
    alike zero zero h = refl
    alike zero (suc at) h = absurd (h (refl, omega arith))
    alike (suc depth) at h = rw (ne_eqb (suc depth) 0 (λ e. absurd cc)) refl

-- octets after a whole header do not change the step
pub behind_stays : (p : Progress) (octets more : List ℕ) (opening : Opening) → opening_at (from p.at octets) ≡ Ok (Some opening) → behind_header p (octets ++ more) opening ≡ behind_header p octets opening
behind_stays p octets more (Indefinite tag) read = refl
behind_stays p octets more (Definite h) read =
    let w = opening_within p.at octets (Definite h) read in
    rw (ending_stays octets more (omega (arith, w.0, w.1))) refl

-- with nothing to skip and not at the end, resuming is the walk
pub resume_is_walk : (header octets : List ℕ) (p : Progress) → ((p.depth ≡ 0) × (0 < p.at) → ⊥) → resume 0 header p octets ≡ walk p (header ++ octets)
resume_is_walk header octets p goes_on =
    rw (le-ltb (length octets) 0 (omega arith), not_over p goes_on)
    (enough_steps (length header + length octets + 1) p (header ++ octets) (omega (arith, length-append header octets)))

-- octets can be skipped in any pieces
pub skips : (count skip : ℕ) (header octets : List ℕ) (p : Progress) → count ≤ skip → count ≤ length octets → resume (skip - count) header p (drop count octets) ≡ resume skip header p octets
skips count skip header octets p fewer there =
    let short : length (drop count octets) + count ≡ length octets = omega (arith, length-drop count octets) in
    let rest : drop (skip - count) (drop count octets) ≡ drop skip octets =
    drop-drop (skip - count) count octets ∙ ap (λ (n : ℕ). drop n octets) (omega arith) in
    let len : length (header ++ drop skip octets) ≡ length header + (length octets - skip) =
    omega (arith, length-append header (drop skip octets), length-drop skip octets) in
    let less = enough_steps (length header + length (drop count octets) + 1) p (header ++ drop skip octets) (omega arith) in
    let all = enough_steps (length header + length octets + 1) p (header ++ drop skip octets) (omega arith) in
    rw (same_test (length (drop count octets)) (skip - count) (length octets) skip (omega arith), rest, less, all) refl

-- a header that is still incomplete
pub holds : (octet : ℕ) (header octets : List ℕ) (p : Progress) → ((p.depth ≡ 0) × (0 < p.at) → ⊥) → resume 0 (header ++ octet ∷ []) p octets ≡ resume 0 header p (octet ∷ octets)
holds octet header octets p goes_on =
    resume_is_walk (header ++ octet ∷ []) octets p goes_on
    ∙ ap (walk p) (append_assoc header (octet ∷ []) octets)
    ∙ sym (resume_is_walk header (octet ∷ octets) p goes_on)

-- a header that an octet completes is read with more octets after it
read_there : (octet : ℕ) (header octets : List ℕ) (p : Progress) (opening : Opening) → opening_at (from p.at (header ++ octet ∷ [])) ≡ Ok (Some opening) → opening_at (from p.at (header ++ octet ∷ octets)) ≡ Ok (Some opening)
read_there octet header octets p opening e =
    ap (λ (x : List ℕ). opening_at (from p.at x)) (sym (append_assoc header (octet ∷ []) octets)) ∙ opening_stays p.at (header ++ octet ∷ []) octets opening e

-- the step after a header that an octet completes
behind_there : (octet : ℕ) (header octets : List ℕ) (p : Progress) (opening : Opening) → opening_at (from p.at (header ++ octet ∷ [])) ≡ Ok (Some opening) → behind_header p (header ++ octet ∷ octets) opening ≡ behind_header p (header ++ octet ∷ []) opening
behind_there octet header octets p opening e =
    ap (λ (x : List ℕ). behind_header p x opening) (sym (append_assoc header (octet ∷ []) octets)) ∙ behind_stays p (header ++ octet ∷ []) octets opening e

-- the first step of a walk
walk_step : (p : Progress) (octets : List ℕ) → walk p octets ≡ (opening_at (from p.at octets) >>= gone_on (walk_on (length octets)) p octets)
walk_step p octets = rw add-one refl

-- the header is faulty
pub fails : (octet : ℕ) (header octets : List ℕ) (p : Progress) (f : Fault) → ((p.depth ≡ 0) × (0 < p.at) → ⊥) → opening_at (from p.at (header ++ octet ∷ [])) ≡ Err f → resume 0 header p (octet ∷ octets) ≡ Err f
fails octet header octets p f goes_on e =
    let wrong : opening_at (from p.at (header ++ octet ∷ octets)) ≡ Err f =
    ap (λ (x : List ℕ). opening_at (from p.at x)) (sym (append_assoc header (octet ∷ []) octets)) ∙ fault_stays p.at (header ++ octet ∷ []) octets f e in
    resume_is_walk header (octet ∷ octets) p goes_on ∙ walk_step p (header ++ octet ∷ octets)
    ∙ ap (λ (r : Result (Option Opening) Fault). r >>= gone_on (walk_on (length (header ++ octet ∷ octets))) p (header ++ octet ∷ octets)) wrong

-- the step after the header is faulty
pub fails_behind : (octet : ℕ) (header octets : List ℕ) (p : Progress) (opening : Opening) (f : Fault) → ((p.depth ≡ 0) × (0 < p.at) → ⊥) → opening_at (from p.at (header ++ octet ∷ [])) ≡ Ok (Some opening)
    → behind_header p (header ++ octet ∷ []) opening ≡ Err f → resume 0 header p (octet ∷ octets) ≡ Err f
fails_behind octet header octets p opening f goes_on e behind =
    let all = header ++ octet ∷ octets in
    resume_is_walk header (octet ∷ octets) p goes_on ∙ walk_step p all
    ∙ ap (λ (r : Result (Option Opening) Fault). r >>= gone_on (walk_on (length all)) p all) (read_there octet header octets p opening e)
    ∙ ap (λ (r : Result Progress Fault). r >>= gone_to (walk_on (length all)) p all) (behind_there octet header octets p opening e ∙ behind)

and_true : (b : Bool) → (b && true) ≡ b
and_true true = refl
and_true false = refl

-- resuming after the octets of a header
behind_it : (front octets : List ℕ) (p next : Progress) → 0 < length front → p.at + length front ≤ next.at
    → resume (next.at - p.at - length front) [] next octets ≡ gone_to (walk_on (length (front ++ octets))) p (front ++ octets) next
behind_it front octets p next some further =
    let skip : ℕ = next.at - p.at - length front in
    let len = length-append front octets in
    let test : nat_lt (length octets) skip ≡ nat_lt (length (front ++ octets)) (next.at - p.at) =
    same_test (length octets) skip (length (front ++ octets)) (next.at - p.at) (omega (arith, len)) in
    let over : ((next.depth == 0) && nat_lt 0 next.at) ≡ (next.depth == 0) =
    ap (λ (b : Bool). (next.depth == 0) && b) (lt-ltb 0 next.at (omega arith)) ∙ and_true (next.depth == 0) in
    let gone : drop (next.at - p.at) (front ++ octets) ≡ drop skip octets =
    ap (λ (n : ℕ). drop n (front ++ octets)) (omega arith) ∙ sym (drop-drop skip (length front) (front ++ octets)) ∙ ap (drop skip) (drop_at front octets (length front) refl) in
    let here = enough_steps (length {A = ℕ} [] + length octets + 1) next (drop skip octets) (omega (arith, length-drop skip octets)) in
    let there = enough_steps (length (front ++ octets)) next (drop skip octets) (omega (arith, len, length-drop skip octets)) in
    rw (test, over, gone, here, there) refl

-- after a whole header, its content is skipped
walks_behind : (octets : List ℕ) (p next : Progress) (opening : Opening) → opening_at (from p.at octets) ≡ Ok (Some opening) → behind_header p octets opening ≡ Ok next
    → resume (next.at - p.at - header_octets opening) [] next (drop (header_octets opening) octets) ≡ walk p octets
walks_behind octets p next opening read behind =
    let count = header_octets opening in
    let front = take count octets in
    let within = opening_within p.at octets opening read in
    let joined = take-append-drop count octets in
    let len : length front ≡ count = omega (arith, ap length joined, length-append front (drop count octets), length-drop count octets, within.1) in
    ap (λ (n : ℕ). resume (next.at - p.at - n) [] next (drop count octets)) (sym len)
    ∙ behind_it front (drop count octets) p next (omega (arith, len, within.0)) (omega (arith, len, behind_further p next octets opening read behind))
    ∙ ap (λ (x : List ℕ). gone_to (walk_on (length x)) p x next) joined
    ∙ sym (walk_step p octets
    ∙ ap (λ (r : Result (Option Opening) Fault). r >>= gone_on (walk_on (length octets)) p octets) read
    ∙ ap (λ (r : Result Progress Fault). r >>= gone_to (walk_on (length octets)) p octets) behind)

-- a header that this octet completes
pub goes_behind : (octet : ℕ) (header octets : List ℕ) (p next : Progress) (opening : Opening) → ((p.depth ≡ 0) × (0 < p.at) → ⊥) → opening_at (from p.at header) ≡ Ok None
    → opening_at (from p.at (header ++ octet ∷ [])) ≡ Ok (Some opening) → behind_header p (header ++ octet ∷ []) opening ≡ Ok next
    → resume (next.at - p.at - (length header + 1)) [] next octets ≡ resume 0 header p (octet ∷ octets)
goes_behind octet header octets p next opening goes_on none e behind =
    let front = header ++ octet ∷ [] in
    let exact = opening_exact p.at octet header opening none e in
    let gone : drop (length header + 1) (header ++ octet ∷ octets) ≡ octets =
    ap (drop (length header + 1)) (sym (append_assoc header (octet ∷ []) octets)) ∙ drop_at front octets (length header + 1) (length-append header (octet ∷ [])) in
    ap (resume (next.at - p.at - (length header + 1)) [] next) (sym gone)
    ∙ ap (λ (n : ℕ). resume (next.at - p.at - n) [] next (drop n (header ++ octet ∷ octets))) (sym exact)
    ∙ walks_behind (header ++ octet ∷ octets) p next opening (read_there octet header octets p opening e) (behind_there octet header octets p opening e ∙ behind)
    ∙ sym (resume_is_walk header (octet ∷ octets) p goes_on)

-- a header that is whole from the start
pub goes_behind_whole : (octets more : List ℕ) (p next : Progress) (opening : Opening) → ((p.depth ≡ 0) × (0 < p.at) → ⊥) → opening_at (from p.at octets) ≡ Ok (Some opening)
    → behind_header p octets opening ≡ Ok next → resume (next.at - p.at - header_octets opening) [] next (drop (header_octets opening) (octets ++ more)) ≡ resume 0 [] p (octets ++ more)
goes_behind_whole octets more p next opening goes_on read behind =
    walks_behind (octets ++ more) p next opening (opening_stays p.at octets more opening read) (behind_stays p octets more opening read ∙ behind)
    ∙ sym (resume_is_walk [] (octets ++ more) p goes_on)

-- ---- how many octets are needed at least

-- a place, plus the end-of-contents octets still to come
abbrev reach : Progress → ℕ
reach p = p.at + 2 * p.depth

-- the value of `within_limit`
within_is : (p q next : Progress) → within_limit p q ≡ Ok next → q ≡ next
within_is p q next e = elim (chosen (nat_lt p.limit q.at) _ _ (Ok next) e) [ inl k ↦ absurd cc | inr k ↦ ok_is q next k.1 ]

-- opening an element does not lessen the reach
opened_rises : (p next : Progress) (len : ℕ) → opened p len ≡ Ok next → reach p ≤ reach next
opened_rises p next len e =
    elim (chosen (nat_lt p.depth depth_limit) _ _ (Ok next) e) [
      | inl h ↦ elim (chosen (p.depth == 0) _ _ (Ok next) h.1) [
        | inl k ↦ subst (λ (q : Progress). reach p ≤ reach q) (ok_is _ next k.1) (omega (arith, eqb-true p.depth 0 k.0))
        | inr k ↦ subst (λ (q : Progress). reach p ≤ reach q) (within_is p _ next k.1) (omega arith)
      ]
      | inr h ↦ absurd cc
    ]

-- closing an element does not lessen the reach
closed_rises : (p next : Progress) → closed p ≡ Ok next → reach p ≤ reach next
closed_rises p next e =
    elim (chosen (p.depth == 1) _ _ (Ok next) e) [
      | inl h ↦ subst (λ (q : Progress). reach p ≤ reach q) (ok_is _ next h.1) (omega (arith, eqb-true p.depth 1 h.0))
      | inr h ↦ subst (λ (q : Progress). reach p ≤ reach q) (within_is p _ next h.1) (omega arith)
    ]

-- passing an element does not lessen the reach
passed_rises : (p next : Progress) (len : ℕ) → passed p len ≡ Ok next → reach p ≤ reach next
passed_rises p next len e =
    elim (chosen (p.depth == 0) _ _ (Ok next) e) [
      | inl h ↦ subst (λ (q : Progress). reach p ≤ reach q) (ok_is _ next h.1) (omega (arith, eqb-true p.depth 0 h.0))
      | inr h ↦ subst (λ (q : Progress). reach p ≤ reach q) (within_is p _ next h.1) (omega arith)
    ]

-- no step lessens the reach
step_rises : (p next : Progress) (octets : List ℕ) (opening : Opening) → behind_header p octets opening ≡ Ok next → reach p ≤ reach next
step_rises p next octets (Indefinite tag) behind = opened_rises p next (tag + 1) behind
step_rises p next octets (Definite h) behind =
    elim (chosen (nat_lt 0 p.depth && is_ending octets) _ _ (Ok next) behind) [
      | inl k ↦ closed_rises p next k.1
      | inr k ↦ passed_rises p next (h.len + h.content_len) k.1
    ]

-- a step that read a whole header
record Stepped (steps : ℕ) (p : Progress) (octets : List ℕ) (out : Outer) : Type 0 where
  opening : Opening
  next : Progress
  read : opening_at (from p.at octets) ≡ Ok (Some opening)
  behind : behind_header p octets opening ≡ Ok next
  gone : gone_to (walk_on steps) p octets next ≡ Ok out

-- a step reads a whole header, or needs another octet
step_of : (steps : ℕ) (p : Progress) (octets : List ℕ) (out : Outer) → walk_on (suc steps) p octets ≡ Ok out → (Need (p.at + length octets + 1) ≡ out) ⊎ Stepped steps p octets out
step_of steps p octets out e = let a = bind_ok (opening_at (from p.at octets)) (gone_on (walk_on steps) p octets) out e in of_found a.0 a.1 a.2
  where
    of_found : (found : Option Opening) → opening_at (from p.at octets) ≡ Ok found → gone_on (walk_on steps) p octets found ≡ Ok out → (Need (p.at + length octets + 1) ≡ out) ⊎ Stepped steps p octets out
    of_found None a b = inl (ok_is _ out b)
    of_found (Some opening) a b =
        let c = bind_ok (behind_header p octets opening) (gone_to (walk_on steps) p octets) out b in
        inr (record { opening = opening; next = c.0; read = a; behind = c.1; gone = c.2 })

-- after a header, octets are missing, or the walk ended, or it goes on
gone_of : (walk : Progress → List ℕ → Result Outer Fault) (p : Progress) (octets : List ℕ) (next : Progress) (out : Outer) → gone_to walk p octets next ≡ Ok out
    → ((length octets < next.at - p.at) × (Need (reach next) ≡ out))
    ⊎ ((next.at - p.at ≤ length octets) × (((next.depth ≡ 0) × (Whole next.at ≡ out)) ⊎ ((next.depth ≢ 0) × (walk next (left p next octets) ≡ Ok out))))
gone_of walk p octets next out e =
    elim (chosen (nat_lt (length octets) (next.at - p.at)) _ _ (Ok out) e) [
      | inl h ↦ inl (ltb-true (length octets) (next.at - p.at) h.0, ok_is _ out h.1)
      | inr h ↦ inr (
        ltb-false (length octets) (next.at - p.at) h.0,
        elim (chosen (next.depth == 0) _ _ (Ok out) h.1) [
          | inl k ↦ inl (eqb-true next.depth 0 k.0, ok_is _ out k.1)
          | inr k ↦ inr (eqb-false next.depth 0 k.0, k.1)
        ],
      )
    ]

need_is : (n m : ℕ) → (let a : Outer = Need n in a) ≡ Need m → n ≡ m
need_is n m e = cc

whole_is : (n m : ℕ) → (let a : Outer = Whole n in a) ≡ Whole m → n ≡ m
whole_is n m e = cc

need_not_whole : (n m : ℕ) → (let a : Outer = Need n in a) ≡ Whole m → ⊥
need_not_whole n m e = cc

-- an element that ends is at least as long as the reach after this step
whole_gone : (walk : Progress → List ℕ → Result Outer Fault) (p next : Progress) (octets : List ℕ) (n : ℕ) → ((q : Progress) (rest : List ℕ) → walk q rest ≡ Ok (Whole n) → reach q ≤ n)
    → gone_to walk p octets next ≡ Ok (Whole n) → reach next ≤ n
whole_gone walk p next octets n on e =
    elim (gone_of walk p octets next (Whole n) e) [
      | inl k ↦ absurd (need_not_whole _ n k.1)
      | inr k ↦ elim k.1 [
        | inl l ↦ omega (arith, l.0, whole_is next.at n l.1)
        | inr l ↦ on next (left p next octets) l.1
      ]
    ]

-- an element found in n steps is at least as long as the reach
whole_on : (steps : ℕ) (p : Progress) (octets : List ℕ) (n : ℕ) → walk_on steps p octets ≡ Ok (Whole n) → reach p ≤ n
whole_on zero p octets n e = absurd cc
whole_on (suc steps) p octets n e =
    elim (step_of steps p octets (Whole n) e) [
      | inl k ↦ absurd (need_not_whole _ n k)
      | inr g ↦ omega (arith, step_rises p g.next octets g.opening g.behind, whole_gone (walk_on steps) p g.next octets n (λ q rest. whole_on steps q rest n) g.gone)
    ]

-- the rest is shorter by the step's length
left_there : (p next : Progress) (octets : List ℕ) → p.at ≤ next.at → next.at - p.at ≤ length octets → next.at + length (left p next octets) ≡ p.at + length octets
left_there p next octets further room = omega (arith, length-drop (next.at - p.at) octets)

-- with more octets the first step is the same
more_gone : (steps : ℕ) (p next : Progress) (octets more : List ℕ) (opening : Opening) (out : Outer) → opening_at (from p.at octets) ≡ Ok (Some opening) → behind_header p octets opening ≡ Ok next
    → walk_on (suc steps) p (octets ++ more) ≡ Ok out → gone_to (walk_on steps) p (octets ++ more) next ≡ Ok out
more_gone steps p next octets more opening out read behind e =
    let same = opening_stays p.at octets more opening read in
    sym (ap (λ (r : Result (Option Opening) Fault). r >>= gone_on (walk_on steps) p (octets ++ more)) same
    ∙ ap (λ (r : Result Progress Fault). r >>= gone_to (walk_on steps) p (octets ++ more)) (behind_stays p octets more opening read ∙ behind)) ∙ e

-- more octets after the rest
more_left : (steps : ℕ) (p next : Progress) (octets more : List ℕ) (m : ℕ) → next.at - p.at ≤ length octets → next.depth ≢ 0 → gone_to (walk_on steps) p (octets ++ more) next ≡ Ok (Whole m)
    → walk_on steps next (left p next octets ++ more) ≡ Ok (Whole m)
more_left steps p next octets more m room inside e =
    elim (gone_of (walk_on steps) p (octets ++ more) next (Whole m) e) [
      | inl k ↦ absurd (need_not_whole _ m k.1)
      | inr k ↦ elim k.1 [
        | inl l ↦ absurd (inside l.0)
        | inr l ↦ ap (walk_on steps next) (sym (drop-append-le (next.at - p.at) octets more room)) ∙ l.1
      ]
    ]

-- in any number of steps: if more octets complete the element, it has the octets that were needed
needed_on : (steps more_steps : ℕ) (p : Progress) (octets more : List ℕ) (n m : ℕ) → walk_on steps p octets ≡ Ok (Need n) → walk_on more_steps p (octets ++ more) ≡ Ok (Whole m) → (n ≤ m) ⊎ (n ≡ p.at + length octets + 1)
needed_on zero more_steps p octets more n m short whole = inr (sym (need_is _ n (ok_is _ _ short)))
needed_on (suc steps) zero p octets more n m short whole = absurd cc
needed_on (suc steps) (suc more_steps) p octets more n m short whole =
    elim (step_of steps p octets (Need n) short) [
      | inl k ↦ inr (sym (need_is _ n k))
      | inr g ↦
          let gone = more_gone more_steps p g.next octets more g.opening (Whole m) g.read g.behind whole in
          elim (gone_of (walk_on steps) p octets g.next (Need n) g.gone) [
            | inl k ↦ inl (omega (arith, need_is _ n k.1, whole_gone (walk_on more_steps) p g.next (octets ++ more) m (λ q rest. whole_on more_steps q rest m) gone))
            | inr k ↦ elim k.1 [
              | inl l ↦ absurd (need_not_whole n _ (sym l.1))
              | inr l ↦
                  let further = behind_further p g.next octets g.opening g.read g.behind in
                  let there = left_there p g.next octets (omega (arith, further)) k.0 in
                  elim (needed_on steps more_steps g.next (left p g.next octets) more n m l.1 (more_left more_steps p g.next octets more m k.0 l.0 gone)) [
                    | inl r ↦ inl r
                    | inr r ↦ inr (omega (arith, r, there))
                  ]
            ]
          ]
    ]

-- if more octets complete the element, it has the octets that were needed
pub needed : (p : Progress) (octets more : List ℕ) (n m : ℕ) → walk p octets ≡ Ok (Need n) → walk p (octets ++ more) ≡ Ok (Whole m) → (n ≤ m) ⊎ (n ≡ p.at + length octets + 1)
needed p octets more n m short whole = needed_on (length octets + 1) (length (octets ++ more) + 1) p octets more n m short whole

-- in n steps, the octets needed are more than those given
needs_on : (steps : ℕ) (p : Progress) (octets : List ℕ) (n : ℕ) → walk_on steps p octets ≡ Ok (Need n) → p.at + length octets < n
needs_on zero p octets n e = omega (arith, need_is _ n (ok_is _ _ e))
needs_on (suc steps) p octets n e =
    elim (step_of steps p octets (Need n) e) [
      | inl k ↦ omega (arith, need_is _ n k)
      | inr g ↦ elim (gone_of (walk_on steps) p octets g.next (Need n) g.gone) [
        | inl k ↦ omega (arith, k.0, need_is _ n k.1)
        | inr k ↦ elim k.1 [
          | inl l ↦ absurd (need_not_whole n _ (sym l.1))
          | inr l ↦
              let further = behind_further p g.next octets g.opening g.read g.behind in
              let there = left_there p g.next octets (omega (arith, further)) k.0 in
              omega (arith, there, needs_on steps g.next (left p g.next octets) n l.1)
        ]
      ]
    ]

-- the octets needed are more than those given
pub needs_more : (p : Progress) (octets : List ℕ) (n : ℕ) → walk p octets ≡ Ok (Need n) → p.at + length octets < n
needs_more p octets n e = needs_on (length octets + 1) p octets n e
