-- The cases of one step of a walk.
use Rattle.std.proofs.Common.{◌≡◌, ℕ, zero, suc, ◌+◌, ◌-◌, ◌<◌, ◌≤◌, ◌⊎◌, Bool, true, false, List, [], ◌∷◌, length, Result, Ok, Err, refl, ap, subst, ◌∙◌, inl, inr, arith}
use Rattle.std.specs.Prelude.{◌≢◌, nat_lt, ◌==◌, ◌&&◌}
use Rattle.std.proofs.lemmas.Bool.{ltb-true, ltb-false, lt-ltb, eqb-true, eqb-false, and_parts, and_from}
use Rattle.tcap_ber.specs.declared.fault.Fault.{Fault}
use Rattle.tcap_ber.specs.declared.fault.Reason.TheVariants as reasons
use Rattle.tcap_ber.specs.declared.header.Header.{Header}
use Rattle.tcap_ber.specs.declared.header.Opening.TheVariants.{Definite}
use Rattle.tcap_ber.specs.declared.progress.Progress.{Progress}
use Rattle.tcap_ber.specs.Element.{content_limit, depth_limit}
use Rattle.tcap_ber.specs.WalkPlaces.{Level, walked, AreOpen, IsWalked}
use Rattle.tcap_ber.specs.HeaderReading.{fault}
use Rattle.tcap_ber.specs.WalkResult.{is_ending, within_limit, opened, closed, passed, behind_header}
use Rattle.tcap_ber.proofs.Steps.{chosen, ok_is, err_is, ok_not_err}
use Rattle.tcap_ber.proofs.WalkLaws.{left}
use Rattle.tcap_ber.proofs.ReachLaws.{progress_of}

pub nothing_walked : (octets : List ℕ) → IsWalked octets [] octets
nothing_walked octets = record { left = depth_limit; are_open = refl; is_within = omega arith; joined = refl }

-- the open elements and those that may still open are `depth_limit` together
pub open_within : (n : ℕ) (levels : List Level) → AreOpen n levels → n + length levels ≡ depth_limit
open_within n [] o = omega (arith, o)
open_within n (level ∷ outer) o = omega (arith, open_within (suc n) outer o.3)

-- one more element may open below the limit
pub one_more : (n : ℕ) (levels : List Level) → AreOpen n levels → length levels < depth_limit → (m : ℕ) × AreOpen (suc m) levels
one_more zero levels o deep = absurd (omega (arith, open_within zero levels o))
one_more (suc m) levels o deep = (m, o)

-- ---- the result of a step

pub place_is : (p q : Progress) → p.at ≡ q.at → p.depth ≡ q.depth → p.limit ≡ q.limit → p ≡ q
place_is p q a b c =
    let at : Progress = record { at = q.at; depth = p.depth; limit = p.limit } in
    let depth : Progress = record { at = q.at; depth = q.depth; limit = p.limit } in
    let one : p ≡ at = ap (λ (n : ℕ). record { at = n; depth = p.depth; limit = p.limit }) a in
    let two : at ≡ depth = ap (λ (n : ℕ). record { at = q.at; depth = n; limit = p.limit }) b in
    let three : depth ≡ q = ap (λ (n : ℕ). record { at = q.at; depth = q.depth; limit = n }) c in
    one ∙ two ∙ three

-- the walk's offset is the number of octets walked
pub walked_at : (levels : List Level) → (progress_of levels).at ≡ length (walked levels)
walked_at [] = refl
walked_at (level ∷ outer) = refl

-- the walk's depth is the number of open elements
pub walked_depth : (levels : List Level) → (progress_of levels).depth ≡ length levels
walked_depth [] = refl
walked_depth (level ∷ outer) = refl

-- a place within the limit
pub within_ok : (p next q : Progress) → within_limit p next ≡ Ok q → (next ≡ q) × (next.at ≤ p.limit)
within_ok p next q e =
    elim (chosen (nat_lt p.limit next.at) _ _ (Ok q) e) [
      | inl k ↦ absurd cc
      | inr k ↦ (ok_is next q k.1, ltb-false p.limit next.at k.0)
    ]

-- a place over the limit
pub within_err : (p next : Progress) (f : Fault) → within_limit p next ≡ Err f → (p.limit < next.at) × (fault reasons.TooLong 0 ≡ f)
within_err p next f e =
    elim (chosen (nat_lt p.limit next.at) _ _ (Err f) e) [
      | inl k ↦ (ltb-true p.limit next.at k.0, err_is {A = Progress} (fault reasons.TooLong 0) f k.1)
      | inr k ↦ absurd (ok_not_err next f k.1)
    ]

-- a step of this length to this depth, inside an open element
pub record Moves (p : Progress) (len depth : ℕ) (next : Progress) : Type 0 where
  pub at_is : next.at ≡ p.at + len
  pub depth_is : next.depth ≡ depth
  pub limit_is : next.limit ≡ p.limit
  pub within : next.at ≤ p.limit

-- a step within the limit is such a step
pub moves : (p : Progress) (len depth : ℕ) (next : Progress) → within_limit p (record { at = p.at + len; depth = depth; limit = p.limit }) ≡ Ok next → Moves p len depth next
moves p len depth next e =
    let w = within_ok p (record { at = p.at + len; depth = depth; limit = p.limit }) next e in
    subst (Moves p len depth) w.0 (record { at_is = refl; depth_is = refl; limit_is = refl; within = w.1 })

-- the outermost element opens, or an inner one
pub opens_ok : (p next : Progress) (len : ℕ) → opened p len ≡ Ok next
    → (p.depth < depth_limit) × (((p.depth ≡ 0) × (record { at = p.at + len; depth = 1; limit = p.at + len + content_limit } ≡ next)) ⊎ ((p.depth ≢ 0) × Moves p len (p.depth + 1) next))
opens_ok p next len e =
    elim (chosen (nat_lt p.depth depth_limit) _ _ (Ok next) e) [
      | inl k ↦ elim (chosen (p.depth == 0) _ _ (Ok next) k.1) [
        | inl l ↦ (ltb-true p.depth depth_limit k.0, inl (eqb-true p.depth 0 l.0, ok_is _ next l.1))
        | inr l ↦ (ltb-true p.depth depth_limit k.0, inr (eqb-false p.depth 0 l.0, moves p len (p.depth + 1) next l.1))
      ]
      | inr k ↦ absurd cc
    ]

-- why no element opens
pub opens_err : (p : Progress) (len : ℕ) (f : Fault) → opened p len ≡ Err f
    → ((depth_limit ≤ p.depth) × (fault reasons.TooDeep p.at ≡ f)) ⊎ ((p.depth < depth_limit) × (p.depth ≢ 0) × (p.limit < p.at + len) × (fault reasons.TooLong 0 ≡ f))
opens_err p len f e =
    elim (chosen (nat_lt p.depth depth_limit) _ _ (Err f) e) [
      | inl k ↦ elim (chosen (p.depth == 0) _ _ (Err f) k.1) [
        | inl l ↦ absurd cc
        | inr l ↦ let w = within_err p _ f l.1 in inr (ltb-true p.depth depth_limit k.0, eqb-false p.depth 0 l.0, w.0, w.1)
      ]
      | inr k ↦ inl (ltb-false p.depth depth_limit k.0, err_is {A = Progress} (fault reasons.TooDeep p.at) f k.1)
    ]

-- the outermost element closes, or an inner one
pub closes_ok : (p next : Progress) → closed p ≡ Ok next
    → ((p.depth ≡ 1) × (record { at = p.at + 2; depth = 0; limit = p.limit } ≡ next)) ⊎ ((p.depth ≢ 1) × Moves p 2 (p.depth - 1) next)
closes_ok p next e =
    elim (chosen (p.depth == 1) _ _ (Ok next) e) [
      | inl l ↦ inl (eqb-true p.depth 1 l.0, ok_is _ next l.1)
      | inr l ↦ inr (eqb-false p.depth 1 l.0, moves p 2 (p.depth - 1) next l.1)
    ]

-- why no element closes
pub closes_err : (p : Progress) (f : Fault) → closed p ≡ Err f → (p.depth ≢ 1) × (p.limit < p.at + 2) × (fault reasons.TooLong 0 ≡ f)
closes_err p f e =
    elim (chosen (p.depth == 1) _ _ (Err f) e) [
      | inl l ↦ absurd cc
      | inr l ↦ let w = within_err p _ f l.1 in (eqb-false p.depth 1 l.0, w.0, w.1)
    ]

-- an outermost element of definite length is passed, or an inner one
pub passes_ok : (p next : Progress) (len : ℕ) → passed p len ≡ Ok next
    → ((p.depth ≡ 0) × (record { at = p.at + len; depth = 0; limit = p.limit } ≡ next)) ⊎ ((p.depth ≢ 0) × Moves p len p.depth next)
passes_ok p next len e =
    elim (chosen (p.depth == 0) _ _ (Ok next) e) [
      | inl l ↦ inl (eqb-true p.depth 0 l.0, ok_is _ next l.1)
      | inr l ↦ inr (eqb-false p.depth 0 l.0, moves p len p.depth next l.1)
    ]

-- why no element is passed
pub passes_err : (p : Progress) (len : ℕ) (f : Fault) → passed p len ≡ Err f → (p.depth ≢ 0) × (p.limit < p.at + len) × (fault reasons.TooLong 0 ≡ f)
passes_err p len f e =
    elim (chosen (p.depth == 0) _ _ (Err f) e) [
      | inl l ↦ absurd cc
      | inr l ↦ let w = within_err p _ f l.1 in (eqb-false p.depth 0 l.0, w.0, w.1)
    ]

-- a header of definite length is that of an element, or end-of-contents octets
pub definite_step : (p : Progress) (octets : List ℕ) (h : Header) (r : Result Progress Fault) → behind_header p octets (Definite h) ≡ r
    → ((0 < p.depth) × (is_ending octets ≡ true) × (closed p ≡ r)) ⊎ (((0 < p.depth → is_ending octets ≡ false)) × (passed p (h.len + h.content_len) ≡ r))
definite_step p octets h r e =
    elim (chosen (nat_lt 0 p.depth && is_ending octets) _ _ r e) [
      | inl k ↦ let b = and_parts (nat_lt 0 p.depth) (is_ending octets) k.0 in inl (ltb-true 0 p.depth b.0, b.1, k.1)
      | inr k ↦ inr (λ inside. not_both inside (is_ending octets) refl k.0, k.1)
    ]
  where
    not_both : 0 < p.depth → (b : Bool) → is_ending octets ≡ b → (nat_lt 0 p.depth && is_ending octets) ≡ false → is_ending octets ≡ false
    not_both inside false i a = i
    not_both inside true i a = let t = and_from (nat_lt 0 p.depth) (is_ending octets) (lt-ltb 0 p.depth inside) i in absurd cc
