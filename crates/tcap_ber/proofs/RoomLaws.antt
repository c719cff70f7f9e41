-- Octets of an incomplete element are at most 65,550.
use Rattle.std.proofs.Common.{◌≡◌, ℕ, suc, ◌+◌, ◌-◌, ◌<◌, ◌≤◌, List, [], ◌∷◌, length, Option, Some, None, Result, Ok, refl, sym, ap, ◌∙◌, inl, inr, arith}
use Rattle.std.specs.Prelude.{nat_lt, ◌==◌, ◌&&◌}
use Rattle.std.proofs.lemmas.List.{length-append}
use Rattle.std.proofs.lemmas.Bool.{ltb-true, ltb-false, eqb-true}
use Rattle.tcap_ber.specs.declared.fault.Fault.{Fault}
use Rattle.tcap_ber.specs.declared.header.Opening.{Opening}
use Rattle.tcap_ber.specs.declared.header.Opening.TheVariants.{Definite, Indefinite}
use Rattle.tcap_ber.specs.declared.progress.Progress.{Progress}
use Rattle.tcap_ber.specs.declared.element.Outer.{Outer}
use Rattle.tcap_ber.specs.declared.element.Outer.TheVariants.{Whole, Need}
use Rattle.tcap_ber.specs.Element.{IsTag, IsLength, IsElement, depth_limit}
use Rattle.tcap_ber.specs.WalkPlaces.{Level, walked, AreOpen, IsWalked}
use Rattle.tcap_ber.specs.HeaderReading.{◌>>=◌, opening_at}
use Rattle.tcap_ber.specs.WalkResult.{is_ending, within_limit, opened, closed, passed, behind_header, gone_to, gone_on, outer_at}
use Rattle.tcap_ber.proofs.Steps.{chosen, bind_ok, ok_is}
use Rattle.tcap_ber.proofs.OpeningLaws.{from, definite_sound, indefinite_sound}
use Rattle.tcap_ber.proofs.OpeningPlaceLaws.{unfinished_within}
use Rattle.tcap_ber.proofs.WalkLaws.{walk_stops}
use Rattle.tcap_ber.proofs.ReachLaws.{content_began, content_count, progress_of}
use Rattle.tcap_ber.proofs.OuterLaws.{stop_of}
use Rattle.tcap_ber.proofs.ElementLaws.{IsInner, element_form, definite_len, indefinite_len}

-- ---- lengths of headers

-- a tag has at most five octets
tag_within : (tag : List ℕ) → IsTag tag → length tag ≤ 5
tag_within [] t = absurd t
tag_within (first ∷ more) (inl h) = omega (arith, ap length h.1)
tag_within (first ∷ more) (inr h) = omega (arith, h.2)

-- a length has at most five octets
length_within : (n : ℕ) (octets : List ℕ) → IsLength n octets → length octets ≤ 5
length_within n [] l = absurd l
length_within n (first ∷ more) (inl h) = omega (arith, ap length h.1)
length_within n (first ∷ more) (inr h) = omega (arith, h.2)

-- an element has at most 65,545 octets
pub element_within : (tag content octets : List ℕ) → IsElement tag content octets → length octets ≤ 65545
element_within tag content octets e =
    elim (element_form tag content octets e) [
      | inl d ↦ omega (arith, definite_len tag content octets d, d.is_within, tag_within tag d.is_tag, length_within (length content) d.length_octets d.is_length)
      | inr i ↦ omega (arith, indefinite_len (IsInner i.0) tag content octets i.1, i.1.is_within, tag_within tag i.1.is_tag)
    ]

-- the header of the outermost open element has at most six octets
began_within : (n : ℕ) (levels : List Level) → AreOpen n levels → content_began levels ≤ 6
began_within n [] o = omega arith
began_within n (level ∷ []) o = omega (arith, tag_within level.tag o.0)
began_within n (level ∷ next ∷ outer) o = began_within (suc n) (next ∷ outer) o.3

-- ---- where a walk may be

-- The place and the limit are at most a header's length over the content limit; if no element is open, nothing was
-- walked.
record IsNear (p : Progress) : Type 0 where
  pub at_within : p.at ≤ 65541
  pub limit_within : p.limit ≤ 65541
  pub none_walked : p.depth ≡ 0 → p.at ≡ 0

-- the walk's offset is the number of octets walked
walked_at : (levels : List Level) → (progress_of levels).at ≡ length (walked levels)
walked_at [] = refl
walked_at (level ∷ outer) = refl

-- the walk is near whenever octets are walked
near : (octets rest : List ℕ) (levels : List Level) → IsWalked octets levels rest → IsNear (progress_of levels)
near octets rest [] w = record { at_within = omega arith; limit_within = omega arith; none_walked = λ _. refl }
near octets rest (level ∷ outer) w =
    let began = began_within w.left (level ∷ outer) w.are_open in
    record {
      at_within = omega (arith, began, content_count (level ∷ outer), w.is_within);
      limit_within = omega (arith, began);
      none_walked = λ none. absurd (omega (arith, none));
    }

-- ---- where a step may lead

-- a place within the limit
limit_kept : (p q next : Progress) → within_limit p q ≡ Ok next → next.at ≤ p.limit
limit_kept p q next e =
    elim (chosen (nat_lt p.limit q.at) _ _ (Ok next) e) [
      | inl k ↦ absurd cc
      | inr k ↦ omega (arith, ltb-false p.limit q.at k.0, ap (λ (x : Progress). x.at) (ok_is q next k.1))
    ]

-- after a header that opens an element
opened_within : (p next : Progress) (len : ℕ) → IsNear p → len ≤ 6 → opened p len ≡ Ok next → next.at ≤ 65550
opened_within p next len is_near short e =
    elim (chosen (nat_lt p.depth depth_limit) _ _ (Ok next) e) [
      | inl h ↦ elim (chosen (p.depth == 0) _ _ (Ok next) h.1) [
        | inl k ↦ omega (arith, ap (λ (x : Progress). x.at) (ok_is _ next k.1), is_near.at_within, short)
        | inr k ↦ omega (arith, limit_kept p _ next k.1, is_near.limit_within)
      ]
      | inr h ↦ absurd cc
    ]

-- after end-of-contents octets
closed_within : (p next : Progress) → IsNear p → closed p ≡ Ok next → next.at ≤ 65550
closed_within p next is_near e =
    elim (chosen (p.depth == 1) _ _ (Ok next) e) [
      | inl h ↦ omega (arith, ap (λ (x : Progress). x.at) (ok_is _ next h.1), is_near.at_within)
      | inr h ↦ omega (arith, limit_kept p _ next h.1, is_near.limit_within)
    ]

-- after an element of definite length
passed_within : (p next : Progress) (len : ℕ) → IsNear p → len ≤ 65545 → passed p len ≡ Ok next → next.at ≤ 65550
passed_within p next len is_near short e =
    elim (chosen (p.depth == 0) _ _ (Ok next) e) [
      | inl h ↦ omega (arith, ap (λ (x : Progress). x.at) (ok_is _ next h.1), is_near.none_walked (eqb-true p.depth 0 h.0), short)
      | inr h ↦ omega (arith, limit_kept p _ next h.1, is_near.limit_within)
    ]

-- after a whole header
step_within : (p next : Progress) (octets : List ℕ) (opening : Opening) → IsNear p → opening_at (from p.at octets) ≡ Ok (Some opening) → behind_header p octets opening ≡ Ok next → next.at ≤ 65550
step_within p next octets (Indefinite tag) is_near read behind =
    let f = indefinite_sound p.at octets tag read in
    opened_within p next (tag + 1) is_near (omega (arith, f.count_is, tag_within f.tag f.is_tag)) behind
step_within p next octets (Definite h) is_near read behind =
    let f = definite_sound p.at octets h read in
    let short : h.len + h.content_len ≤ 65545 = omega (arith, f.len, f.within, tag_within f.tag f.is_tag, length_within h.content_len f.length_octets f.is_length) in
    elim (chosen (nat_lt 0 p.depth && is_ending octets) _ _ (Ok next) behind) [
      | inl k ↦ closed_within p next is_near k.1
      | inr k ↦ passed_within p next (h.len + h.content_len) is_near short k.1
    ]

-- ---- where the walk stops

-- a continuation that takes no step
abbrev nowhere : Progress → List ℕ → Result Outer Fault
nowhere p octets = Ok (Whole 0)

-- octets are missing for the step
too_few : (p next : Progress) (octets : List ℕ) (n : ℕ) → gone_to nowhere p octets next ≡ Ok (Need n) → length octets < next.at - p.at
too_few p next octets n e =
    elim (chosen (nat_lt (length octets) (next.at - p.at)) _ _ (Ok (Need n)) e) [
      | inl h ↦ ltb-true (length octets) (next.at - p.at) h.0
      | inr h ↦ elim (chosen (next.depth == 0) _ _ (Ok (Need n)) h.1) [
        | inl k ↦ absurd cc
        | inr k ↦ absurd cc
      ]
    ]

-- if the walk needs more, the octets walked and left are few
stop_within : (p : Progress) (octets : List ℕ) (n : ℕ) → IsNear p → (opening_at (from p.at octets) >>= gone_on nowhere p octets) ≡ Ok (Need n) → p.at + length octets ≤ 65550
stop_within p octets n is_near e =
    let a = bind_ok (opening_at (from p.at octets)) (gone_on nowhere p octets) (Need n) e in
    of_found a.0 a.1 a.2
  where
    of_found : (found : Option Opening) → opening_at (from p.at octets) ≡ Ok found → gone_on nowhere p octets found ≡ Ok (Need n) → p.at + length octets ≤ 65550
    of_found None read a = omega (arith, is_near.at_within, unfinished_within p.at octets read)
    of_found (Some opening) read a =
        let b = bind_ok (behind_header p octets opening) (gone_to nowhere p octets) (Need n) a in
        omega (arith, step_within p b.0 octets opening is_near read b.1, too_few p b.0 octets n b.2)

-- octets that need more
pub need_within : (octets : List ℕ) (n : ℕ) → outer_at octets ≡ Ok (Need n) → length octets ≤ 65550
unfolding outer_at
need_within octets n e =
    let s = stop_of octets in
    let p : Progress = progress_of s.levels in
    let few = stop_within p s.rest n (near octets s.rest s.levels s.is_walked) (sym (walk_stops p s.rest nowhere s.ends) ∙ sym s.walks ∙ e) in
    omega (arith, few, walked_at s.levels, ap length s.is_walked.joined, length-append (walked s.levels) s.rest)
