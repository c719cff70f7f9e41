-- The place that a walk notes is that of the innermost open element.
use Rattle.std.proofs.Common.{◌≡◌, ℕ, zero, suc, ◌+◌, ◌-◌, ◌<◌, ◌≤◌, ◌⊎◌, Bool, true, false, List, [], ◌∷◌, ◌++◌, length, Option, Some, None, Result, Ok, refl, sym, ap, subst, ◌∙◌, inl, inr, arith, append_assoc}
use Rattle.std.specs.Prelude.{◌≢◌, nat_lt, ◌==◌, if◌then◌else◌}
use Rattle.std.specs.List.{AllByRecursion, concat}
use Rattle.std.proofs.lemmas.List.{length-append}
use Rattle.std.proofs.lemmas.Bool.{ltb-true, ltb-false, lt-ltb, le-ltb, eqb-true, eqb-false, eq-eqb, ne_eqb}
use Rattle.tcap_ber.specs.declared.fault.Fault.{Fault}
use Rattle.tcap_ber.specs.declared.header.Opening.{Opening}
use Rattle.tcap_ber.specs.declared.header.Opening.TheVariants.{Definite, Indefinite}
use Rattle.tcap_ber.specs.declared.progress.Progress.{Progress}
use Rattle.tcap_ber.specs.Element.{IsTag, content_limit, IsConstructed, ending, IsNested, depth_limit}
use Rattle.tcap_ber.specs.WalkPlaces.{Level, walked, content_walked, IsWalked, innermost}
use Rattle.tcap_ber.specs.WalkResult.{opened, closed, passed, behind_header, at_first, goes, note}
use Rattle.tcap_ber.proofs.OpeningLaws.{indefinite_complete}
use Rattle.tcap_ber.proofs.WalkLaws.{Goes, left, notes, notes_goes, notes_there, left_shorter}
use Rattle.tcap_ber.proofs.ReachLaws.{Reaches, ReachesIn, content_began, content_count, progress_of, reaches_fewer, moved, passes_all, reaches_levels}
use Rattle.tcap_ber.proofs.WalkedStepLaws.{open_within, place_is, walked_at, walked_depth, Moves, opens_ok, closes_ok, passes_ok, definite_step}
use Rattle.tcap_ber.proofs.WalkedOpenLaws.{begun, left_behind, fresh, fresh_length}
use Rattle.tcap_ber.proofs.WalkedStopLaws.{and_off}

-- ---- the innermost open element

-- the place of the open element of this depth, else `noted`
abbrev pub opened_at : ℕ → List Level → ℕ → ℕ
opened_at depth [] noted = noted
opened_at depth (level ∷ outer) noted = if suc (length outer) == depth then length (walked outer) else opened_at depth outer noted

pub tested : (b : Bool) → (b ≡ true) ⊎ (b ≡ false)
tested true = inl refl
tested false = inr refl

-- a step goes at most one level deeper
pub rises : (p next : Progress) (octets : List ℕ) → Goes p octets next → next.depth ≤ p.depth + 1
rises p next octets g = by_opening g.opening g.behind
  where
    by_opening : (opening : Opening) → behind_header p octets opening ≡ Ok next → next.depth ≤ p.depth + 1
    by_opening (Indefinite tag) e =
        elim (opens_ok p next (tag + 1) e).1 [
          | inl k ↦ omega (arith, ap (λ (q : Progress). q.depth) k.1)
          | inr k ↦ omega (arith, k.1.depth_is)
        ]
    by_opening (Definite h) e =
        elim (definite_step p octets h (Ok next) e) [
          | inl k ↦ elim (closes_ok p next k.2) [
            | inl l ↦ omega (arith, ap (λ (q : Progress). q.depth) l.1)
            | inr l ↦ omega (arith, l.1.depth_is)
          ]
          | inr k ↦ elim (passes_ok p next (h.len + h.content_len) k.1) [
            | inl l ↦ omega (arith, ap (λ (q : Progress). q.depth) l.1)
            | inr l ↦ omega (arith, l.1.depth_is)
          ]
        ]

-- a step that opens an element of this depth notes its place
pub note_at : (d noted : ℕ) (p next : Progress) → p.depth + 1 ≡ d → next.depth ≡ d → note d noted p next ≡ p.at
note_at d noted p next a b = rw (eq-eqb (p.depth + 1) d a, eq-eqb next.depth d b) refl

-- a step from a depth other than the one above notes nothing
pub note_from : (d noted : ℕ) (p next : Progress) → p.depth + 1 ≢ d → note d noted p next ≡ noted
note_from d noted p next a = rw (ne_eqb (p.depth + 1) d a) refl

-- a step to another depth notes nothing
pub note_to : (d noted : ℕ) (p next : Progress) → next.depth ≢ d → note d noted p next ≡ noted
note_to d noted p next b = rw (and_off (p.depth + 1 == d) (next.depth == d) (ne_eqb next.depth d b)) refl

-- the note from p is the note from a place that p reaches, given some earlier note
pub notes_reach : (d n noted : ℕ) (p q : Progress) (octets rest : List ℕ) → ReachesIn n p octets q rest → (x : ℕ) × (notes d noted p octets ≡ notes d x q rest)
notes_reach d zero noted p q octets rest r = (noted, ap (λ (x : Progress). notes d noted x octets) r.0 ∙ ap (notes d noted q) r.1)
notes_reach d (suc n) noted p q octets rest r =
    let k = notes_reach d n (note d noted p r.0) r.0 q (left p r.0 octets) rest r.2 in
    (k.0, notes_goes d noted p r.0 octets r.1 ∙ k.1)

-- earlier notes make no difference if the step notes the same
pub same_note : (d one two : ℕ) (p next : Progress) (octets : List ℕ) → Goes p octets next → note d one p next ≡ note d two p next → notes d one p octets ≡ notes d two p octets
same_note d one two p next octets g e = notes_goes d one p next octets g ∙ ap (λ (x : ℕ). notes d x next (left p next octets)) e ∙ sym (notes_goes d two p next octets g)

-- a step to another depth
pub unnoted : (d noted : ℕ) (p next : Progress) (octets : List ℕ) → Goes p octets next → next.depth ≢ d → notes d noted p octets ≡ notes d noted next (left p next octets)
unnoted d noted p next octets g other = notes_goes d noted p next octets g ∙ ap (λ (x : ℕ). notes d x next (left p next octets)) (note_to d noted p next other)

-- notes from before the walk came to this depth make no difference
pub notes_any : (d n one two : ℕ) (p q : Progress) (octets rest : List ℕ) → p.depth < d → q.depth ≡ d → ReachesIn n p octets q rest → notes d one p octets ≡ notes d two p octets
notes_any d zero one two p q octets rest low there r = absurd (omega (arith, low, there, ap (λ (x : Progress). x.depth) r.0))
notes_any d (suc n) one two p q octets rest low there r =
    let up = rises p r.0 octets r.1 in
    elim (tested (r.0.depth == d)) [
      | inl t ↦
          let here : r.0.depth ≡ d = eqb-true r.0.depth d t in
          let above : p.depth + 1 ≡ d = omega (arith, low, here, up) in
          same_note d one two p r.0 octets r.1 (note_at d one p r.0 above here ∙ sym (note_at d two p r.0 above here))
      | inr t ↦
          let other = eqb-false r.0.depth d t in
          let more = notes_any d n one two r.0 q (left p r.0 octets) rest (omega (arith, low, other, up)) there r.2 in
          unnoted d one p r.0 octets r.1 other ∙ more ∙ sym (unnoted d two p r.0 octets r.1 other)
    ]

-- ---- the same octets, s levels deeper

-- the progress, s levels deeper
abbrev pub shift : ℕ → Progress → Progress
shift s p = record { at = p.at; depth = p.depth + s; limit = p.limit }

-- a move of equal length leads to the same place, s levels deeper
pub same_moves : (s len depth deeper : ℕ) (p next other : Progress) → deeper ≡ depth + s → Moves p len depth next → Moves (shift s p) len deeper other → other ≡ shift s next
same_moves s len depth deeper p next other e a b =
    place_is other (shift s next) (omega (arith, a.at_is, b.at_is)) (omega (arith, e, a.depth_is, b.depth_is)) (b.limit_is ∙ sym a.limit_is)

-- a step over the same octets leads to the same place, s levels deeper
pub same_step : (s : ℕ) (p next other : Progress) (octets : List ℕ) → 0 < p.depth → Goes p octets next → Goes (shift s p) octets other → other ≡ shift s next
same_step s p next other octets inside g k = by_opening g.opening g.behind (subst (λ (x : Opening). behind_header (shift s p) octets x ≡ Ok other) (opening_is k.opening g.opening (sym k.read ∙ g.read)) k.behind)
  where
    opening_is : (x y : Opening) → (let a : Result (Option Opening) Fault = Ok (Some x) in a) ≡ Ok (Some y) → x ≡ y
    opening_is x y e = cc

    by_opening : (opening : Opening) → behind_header p octets opening ≡ Ok next → behind_header (shift s p) octets opening ≡ Ok other → other ≡ shift s next
    by_opening (Indefinite tag) a b =
        elim (opens_ok p next (tag + 1) a).1 [
          | inl m ↦ absurd (omega (arith, inside, m.0))
          | inr m ↦ elim (opens_ok (shift s p) other (tag + 1) b).1 [
            | inl n ↦ absurd (omega (arith, inside, n.0))
            | inr n ↦ same_moves s (tag + 1) (p.depth + 1) (p.depth + s + 1) p next other (omega arith) m.1 n.1
          ]
        ]
    by_opening (Definite h) a b =
        elim (definite_step p octets h (Ok next) a) [
          | inl m ↦ elim (definite_step (shift s p) octets h (Ok other) b) [
            | inl n ↦ by_closing m.2 n.2
            | inr n ↦ let f = n.0 (omega (arith, inside)) in let t = m.1 in absurd cc
          ]
          | inr m ↦ elim (definite_step (shift s p) octets h (Ok other) b) [
            | inl n ↦ let f = m.0 inside in let t = n.1 in absurd cc
            | inr n ↦ by_passing (h.len + h.content_len) m.1 n.1
          ]
        ]
      where
        by_closing : closed p ≡ Ok next → closed (shift s p) ≡ Ok other → other ≡ shift s next
        by_closing a b =
            elim (closes_ok p next a) [
              | inl m ↦ absurd (omega (arith, g.inside, ap (λ (q : Progress). q.depth) m.1))
              | inr m ↦ elim (closes_ok (shift s p) other b) [
                | inl n ↦ absurd (omega (arith, inside, m.0, n.0))
                | inr n ↦ same_moves s 2 (p.depth - 1) (p.depth + s - 1) p next other (omega (arith, inside)) m.1 n.1
              ]
            ]

        by_passing : (len : ℕ) → passed p len ≡ Ok next → passed (shift s p) len ≡ Ok other → other ≡ shift s next
        by_passing len a b =
            elim (passes_ok p next len a) [
              | inl m ↦ absurd (omega (arith, inside, m.0))
              | inr m ↦ elim (passes_ok (shift s p) other len b) [
                | inl n ↦ absurd (omega (arith, inside, n.0))
                | inr n ↦ same_moves s len p.depth (p.depth + s) p next other refl m.1 n.1
              ]
            ]

-- a step has octets
pub not_still : (n : ℕ) (p q : Progress) (octets rest : List ℕ) → ReachesIn (suc n) p octets q rest → octets ≢ rest
not_still n p q octets rest r e =
    omega (arith, ap length e, left_shorter p r.0 octets r.1, r.1.some, reaches_fewer r.0 q (left p r.0 octets) rest (n, r.2))

-- while an element is open, its steps s levels deeper note nothing at depths down to its own
pub notes_deep : (d s n m noted : ℕ) (p q r : Progress) (octets rest : List ℕ) → d ≤ s + 1 → 0 < p.depth → ReachesIn n p octets q rest → ReachesIn m (shift s p) octets r rest → notes d noted (shift s p) octets ≡ notes d noted r rest
notes_deep d s zero zero noted p q r octets rest low inside a b = ap (λ (x : Progress). notes d noted x octets) b.0 ∙ ap (notes d noted r) b.1
notes_deep d s zero (suc m) noted p q r octets rest low inside a b = absurd (not_still m (shift s p) r octets rest b a.1)
notes_deep d s (suc n) zero noted p q r octets rest low inside a b = absurd (not_still n p q octets rest a b.1)
notes_deep d s (suc n) (suc m) noted p q r octets rest low inside a b =
    let same = same_step s p a.0 b.0 octets inside a.1 b.1 in
    let kept : note d noted (shift s p) b.0 ≡ noted = note_from d noted (shift s p) b.0 (λ e. omega (arith, e, low, inside)) in
    let more : ReachesIn m (shift s a.0) (left p a.0 octets) r rest = subst (λ (x : Progress). ReachesIn m x (left (shift s p) x octets) r rest) same b.2 in
    notes_goes d noted (shift s p) b.0 octets b.1
    ∙ ap (λ (x : ℕ). notes d x b.0 (left (shift s p) b.0 octets)) kept
    ∙ ap (λ (x : Progress). notes d noted x (left (shift s p) x octets)) same
    ∙ notes_deep d s n m noted a.0 q r (left p a.0 octets) rest low a.1.inside a.2 more

-- nothing is noted over the items of an open element
pub notes_items : (d depth noted : ℕ) (items : List (List ℕ)) (rest : List ℕ) (p : Progress) → AllByRecursion (λ item. ((tag content : List ℕ) × IsNested depth tag content item) × (item ≢ ending)) items
    → d ≤ p.depth → 0 < p.depth → p.depth + depth ≤ depth_limit → p.at + length (concat items) ≤ p.limit → notes d noted p (concat items ++ rest) ≡ notes d noted (moved (length (concat items)) p) rest
notes_items d depth noted items rest p all low inside deep within =
    let first : Progress = record { at = p.at; depth = 1; limit = p.limit } in
    let same : shift (p.depth - 1) first ≡ p = place_is (shift (p.depth - 1) first) p refl (omega (arith, inside)) refl in
    let a = passes_all depth items rest first all (omega arith) (omega (arith, deep, inside)) within in
    let b = passes_all depth items rest p all inside deep within in
    let c = subst (λ (x : Progress). ReachesIn b.0 x (concat items ++ rest) (moved (length (concat items)) p) rest) (sym same) b.1 in
    ap (λ (x : Progress). notes d noted x (concat items ++ rest)) (sym same)
    ∙ notes_deep d (p.depth - 1) a.0 b.0 noted first (moved (length (concat items)) first) (moved (length (concat items)) p) (concat items ++ rest) rest (omega (arith, low, inside)) (omega arith) a.1 c

-- ---- with these elements open

-- the outermost content walked does not lessen when an element opens
pub outer_content : (level : Level) (outer : List Level) → content_walked outer ≤ content_walked (level ∷ outer)
outer_content level [] = omega arith
outer_content level (next ∷ outer) = omega arith

-- the outermost content walked is at least that after the innermost header
pub fresh_content : (level : Level) (outer : List Level) → content_walked (fresh level.tag ∷ outer) ≤ content_walked (level ∷ outer)
fresh_content level [] = omega arith
fresh_content level (next ∷ outer) = omega (arith, length-append level.tag (0x80 ∷ concat level.items), length-append level.tag (0x80 ∷ []))

-- opening an element does not move where the outermost content begins
pub fresh_began : (level : Level) (outer : List Level) → content_began (fresh level.tag ∷ outer) ≡ content_began (level ∷ outer)
fresh_began level [] = refl
fresh_began level (next ∷ outer) = refl

-- the items come after the header
pub full_length : (level : Level) (outer : List Level) → length (walked (level ∷ outer)) ≡ length (walked (fresh level.tag ∷ outer)) + length (concat level.items)
full_length level outer = omega (arith, length-append (walked outer) (begun level), length-append level.tag (0x80 ∷ concat level.items), fresh_length level.tag outer)

-- the octets left when the element opened
pub opened_rest : (level : Level) (rest : List ℕ) → begun level ++ rest ≡ level.tag ++ 0x80 ∷ (concat level.items ++ rest)
opened_rest level rest = append_assoc level.tag (0x80 ∷ concat level.items) rest

-- the walk before the innermost element opened
pub outer_walked : (octets rest : List ℕ) (level : Level) (outer : List Level) → IsWalked octets (level ∷ outer) rest → IsWalked octets outer (level.tag ++ 0x80 ∷ (concat level.items ++ rest))
outer_walked octets rest level outer w = record {
  left = suc w.left;
  are_open = w.are_open.3;
  is_within = omega (arith, outer_content level outer, w.is_within);
  joined = w.joined ∙ append_assoc (walked outer) (begun level) rest ∙ ap (λ (x : List ℕ). walked outer ++ x) (opened_rest level rest);
}

-- an element opens inside another, within the limits
pub opens_within : (p : Progress) (len : ℕ) → p.depth < depth_limit → p.depth ≢ 0 → p.at + len ≤ p.limit → opened p len ≡ Ok (record { at = p.at + len; depth = p.depth + 1; limit = p.limit })
opens_within p len deep inside within = rw (lt-ltb p.depth depth_limit deep, ne_eqb p.depth 0 inside, le-ltb p.limit (p.at + len) within) refl

-- an element opens inside these
pub opens_fresh : (tag : List ℕ) (levels : List Level) → length levels < depth_limit → content_walked (fresh tag ∷ levels) ≤ content_limit → opened (progress_of levels) (length tag + 1) ≡ Ok (progress_of (fresh tag ∷ levels))
opens_fresh tag [] deep within = ap (λ (x : Progress). Ok x) (place_is _ (progress_of (fresh tag ∷ [])) (omega (arith, fresh_length tag [])) refl (omega arith))
opens_fresh tag (level ∷ outer) deep within =
    let p : Progress = progress_of (level ∷ outer) in
    let len = fresh_length tag (level ∷ outer) in
    let room : p.at + (length tag + 1) ≤ p.limit = omega (arith, within, len, content_count (fresh tag ∷ level ∷ outer)) in
    opens_within p (length tag + 1) deep (λ e. omega (arith, e)) room ∙ ap (λ (x : Progress). Ok x) (place_is _ (progress_of (fresh tag ∷ level ∷ outer)) (omega (arith, len)) (omega arith) refl)

-- the walk goes past its header
pub goes_fresh : (tag more : List ℕ) (levels : List Level) → IsTag tag → IsConstructed tag → length levels < depth_limit → content_walked (fresh tag ∷ levels) ≤ content_limit → Goes (progress_of levels) (tag ++ 0x80 ∷ more) (progress_of (fresh tag ∷ levels))
goes_fresh tag more levels is_tag is_constructed deep within = record {
  opening = Indefinite (length tag);
  read = indefinite_complete (progress_of levels).at tag more is_tag is_constructed;
  behind = opens_fresh tag levels deep within;
  room = omega (arith, fresh_length tag levels, walked_at levels, length-append tag (0x80 ∷ more));
  some = omega (arith, fresh_length tag levels, walked_at levels);
  inside = omega arith;
}

-- the note from the element's opening to the walk's place in it
pub notes_level : (d noted : ℕ) (octets rest : List ℕ) (level : Level) (outer : List Level) → IsWalked octets (level ∷ outer) rest → d ≤ suc (length outer)
    → notes d noted (progress_of outer) (level.tag ++ 0x80 ∷ (concat level.items ++ rest)) ≡ notes d (note d noted (progress_of outer) (progress_of (fresh level.tag ∷ outer))) (progress_of (level ∷ outer)) rest
notes_level d noted octets rest level outer w low =
    let p : Progress = progress_of outer in
    let q : Progress = progress_of (fresh level.tag ∷ outer) in
    let here : List ℕ = level.tag ++ 0x80 ∷ (concat level.items ++ rest) in
    let behind : List ℕ = concat level.items ++ rest in
    let x : ℕ = note d noted p q in
    let o = w.are_open in
    let count = open_within w.left (level ∷ outer) o in
    let g = goes_fresh level.tag behind outer o.0 o.1 (omega (arith, count)) (omega (arith, fresh_content level outer, w.is_within)) in
    let at : q.at ≡ p.at + length (level.tag ++ 0x80 ∷ []) = omega (arith, fresh_length level.tag outer, walked_at outer, length-append level.tag (0x80 ∷ [])) in
    let left_is : left p q here ≡ behind = left_behind p q here (level.tag ++ 0x80 ∷ []) behind (sym (append_assoc level.tag (0x80 ∷ []) behind)) at in
    let room : q.at + length (concat level.items) ≤ q.limit = omega (arith, full_length level outer, fresh_began level outer, content_count (level ∷ outer), w.is_within) in
    let end : moved (length (concat level.items)) q ≡ progress_of (level ∷ outer) = place_is _ (progress_of (level ∷ outer)) (sym (full_length level outer)) refl (omega (arith, fresh_began level outer)) in
    notes_goes d noted p q here g
    ∙ ap (notes d x q) left_is
    ∙ notes_items d w.left x level.items rest q o.2 low (omega arith) (omega (arith, count)) room
    ∙ ap (λ (y : Progress). notes d x y rest) end

-- the walk has noted the place of each open element
pub notes_levels : (d : ℕ) (octets rest : List ℕ) (levels : List Level) → IsWalked octets levels rest → d ≤ length levels → notes d 0 at_first octets ≡ notes d (opened_at d levels 0) (progress_of levels) rest
notes_levels d octets rest [] w low = ap (notes d 0 at_first) w.joined
notes_levels d octets rest (level ∷ outer) w low =
    let p : Progress = progress_of outer in
    let q : Progress = progress_of (fresh level.tag ∷ outer) in
    let here : List ℕ = level.tag ++ 0x80 ∷ (concat level.items ++ rest) in
    let v = outer_walked octets rest level outer w in
    let last : ℕ → ℕ = λ x. notes d x (progress_of (level ∷ outer)) rest in
    elim (tested (suc (length outer) == d)) [
      | inl t ↦
          let deep : suc (length outer) ≡ d = eqb-true (suc (length outer)) d t in
          let r = reaches_levels octets here outer v in
          let k = notes_reach d r.0 0 at_first p octets here r.1 in
          let is : opened_at d (level ∷ outer) 0 ≡ length (walked outer) = rw t refl in
          k.1 ∙ notes_level d k.0 octets rest level outer w low ∙ ap last (note_at d k.0 p q (omega (arith, deep, walked_depth outer)) deep ∙ walked_at outer ∙ sym is)
      | inr t ↦
          let other = eqb-false (suc (length outer)) d t in
          let x : ℕ = opened_at d outer 0 in
          let is : opened_at d (level ∷ outer) 0 ≡ x = rw t refl in
          notes_levels d octets here outer v (omega (arith, low, other)) ∙ notes_level d x octets rest level outer w low ∙ ap last (note_to d x p q other ∙ sym is)
    ]

-- the walk notes the place of the open element at the depth of its stop
pub noted_there : (octets rest behind : List ℕ) (levels others : List Level) (noted : ℕ) → IsWalked octets levels rest → IsWalked octets others behind → Reaches (progress_of levels) rest (progress_of others) behind
    → goes (progress_of others) behind ≡ None → (length others ≤ length levels → noted ≡ opened_at (length others) levels 0)
    → notes (length others) noted (progress_of levels) rest ≡ opened_at (length others) others 0
noted_there octets rest behind levels others noted w v r stop e =
    let d : ℕ = length others in
    let end : notes d 0 at_first octets ≡ opened_at d others 0 =
    notes_levels d octets behind others v (omega arith) ∙ notes_there d (opened_at d others 0) (progress_of others) behind stop in
    elim (tested (nat_lt (length levels) d)) [
      | inl t ↦
          let k = reaches_levels octets rest levels w in
          let x = notes_reach d k.0 0 at_first (progress_of levels) octets rest k.1 in
          let low : (progress_of levels).depth < d = omega (arith, walked_depth levels, ltb-true (length levels) d t) in
          notes_any d r.0 noted x.0 (progress_of levels) (progress_of others) rest behind low (walked_depth others) r.1 ∙ sym x.1 ∙ end
      | inr t ↦
          let low : d ≤ length levels = ltb-false (length levels) d t in
          ap (λ (x : ℕ). notes d x (progress_of levels) rest) (e low) ∙ sym (notes_levels d octets rest levels w low) ∙ end
    ]

pub opened_innermost : (levels : List Level) → opened_at (length levels) levels 0 ≡ innermost levels []
opened_innermost [] = refl
opened_innermost (level ∷ outer) = rw (eq-eqb (suc (length outer)) (suc (length outer)) refl) refl
