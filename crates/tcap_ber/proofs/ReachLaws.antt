-- Which places a walk reaches. It passes each element inside an open one.
use Rattle.std.proofs.Common.{◌≡◌, ℕ, zero, suc, ◌+◌, ◌-◌, ◌<◌, ◌≤◌, true, false, List, [], ◌∷◌, ◌++◌, length, drop, Option, Some, None, Ok, refl, sym, ap, subst, ◌∙◌, inl, inr, arith, append_assoc}
use Rattle.std.specs.Prelude.{◌≢◌}
use Rattle.std.specs.List.{AllByRecursion, concat}
use Rattle.std.proofs.lemmas.List.{drop_at, length-append, nil_from_length}
use Rattle.std.proofs.lemmas.Bool.{lt-ltb, le-ltb, eq-eqb, ne_eqb, false_from_ne_true}
use Rattle.tcap_ber.specs.declared.header.Header.{Header}
use Rattle.tcap_ber.specs.declared.header.Opening.{Opening}
use Rattle.tcap_ber.specs.declared.header.Opening.TheVariants.{Definite, Indefinite}
use Rattle.tcap_ber.specs.declared.progress.Progress.{Progress}
use Rattle.tcap_ber.specs.declared.element.Outer.TheVariants.{Whole}
use Rattle.tcap_ber.specs.Element.{IsTag, content_limit, IsConstructed, ending, IsDefinite, IsIndefinite, IsNested, depth_limit, IsElement}
use Rattle.tcap_ber.specs.WalkPlaces.{Level, walked, AreOpen, content_walked, IsWalked}
use Rattle.tcap_ber.specs.HeaderReading.{opening_at}
use Rattle.tcap_ber.specs.WalkResult.{is_ending, opened, behind_header, at_first, goes, stopped_by, stopped_on}
use Rattle.tcap_ber.proofs.OpeningLaws.{from, definite_complete, indefinite_complete}
use Rattle.tcap_ber.proofs.OpeningPlaceLaws.{opening_within}
use Rattle.tcap_ber.proofs.WalkLaws.{Goes, zeros_header, behind_further, goes_sound, left, left_shorter, walk, stops, fewer_left, walk_first, walk_goes, stops_goes}

-- ---- reached places

-- the place is reached in n steps
abbrev pub ReachesIn : ℕ → Progress → List ℕ → Progress → List ℕ → Type 0
ReachesIn zero p octets q rest = (p ≡ q) × (octets ≡ rest)
ReachesIn (suc n) p octets q rest = (next : Progress) × Goes p octets next × ReachesIn n next (left p next octets) q rest

abbrev pub Reaches : Progress → List ℕ → Progress → List ℕ → Type 0
Reaches p octets q rest = (n : ℕ) × ReachesIn n p octets q rest

pub reaches_on : (p q r : Progress) (octets rest behind : List ℕ) → Reaches p octets q rest → Reaches q rest r behind → Reaches p octets r behind
reaches_on p q r octets rest behind a b = on_in a.0 p octets a.1
  where
    on_in : (n : ℕ) (p : Progress) (octets : List ℕ) → ReachesIn n p octets q rest → Reaches p octets r behind
    on_in zero p octets h = subst (λ (x : Progress). Reaches x octets r behind) (sym h.0) (subst (λ (x : List ℕ). Reaches q x r behind) (sym h.1) b)
    on_in (suc n) p octets h =
        let t = on_in n h.0 (left p h.0 octets) h.2 in
        (suc t.0, (h.0, h.1, t.1))

-- a function that no step changes is the same at a reached place
pub same_in : {A : Type 0} (f : Progress → List ℕ → A) → ((p next : Progress) (octets : List ℕ) → Goes p octets next → f p octets ≡ f next (left p next octets))
    → (n : ℕ) (p q : Progress) (octets rest : List ℕ) → ReachesIn n p octets q rest → f p octets ≡ f q rest
same_in f step zero p q octets rest h = ap (λ (x : Progress). f x octets) h.0 ∙ ap (f q) h.1
same_in f step (suc n) p q octets rest h = step p h.0 octets h.1 ∙ same_in f step n h.0 q (left p h.0 octets) rest h.2

pub reaches_walk : (p q : Progress) (octets rest : List ℕ) → Reaches p octets q rest → walk p octets ≡ walk q rest
reaches_walk p q octets rest a = same_in walk walk_goes a.0 p q octets rest a.1

pub reaches_stops : (p q : Progress) (octets rest : List ℕ) → Reaches p octets q rest → stops p octets ≡ stops q rest
reaches_stops p q octets rest a = same_in stops stops_goes a.0 p q octets rest a.1

pub reaches_fewer : (p q : Progress) (octets rest : List ℕ) → Reaches p octets q rest → length rest ≤ length octets
reaches_fewer p q octets rest a = fewer_in a.0 p octets a.1
  where
    fewer_in : (n : ℕ) (p : Progress) (octets : List ℕ) → ReachesIn n p octets q rest → length rest ≤ length octets
    fewer_in zero p octets h = omega (arith, ap length h.1)
    fewer_in (suc n) p octets h = omega (arith, left_shorter p h.0 octets h.1, fewer_in n h.0 (left p h.0 octets) h.2)

-- the place is reached, and the walk stops there
abbrev pub EndsAt : Progress → List ℕ → Progress × List ℕ → Type 0
EndsAt p octets place = Reaches p octets place.0 place.1 × (goes place.0 place.1 ≡ None)

-- one more step
pub ends_on : (p : Progress) (octets : List ℕ) (f : Progress → List ℕ → Progress × List ℕ) (found : Option Progress) → goes p octets ≡ found
    → ((next : Progress) → Goes p octets next → EndsAt next (left p next octets) (f next (left p next octets))) → EndsAt p octets (stopped_by f p octets found)
ends_on p octets f None e h = ((zero, (refl, refl)), e)
ends_on p octets f (Some next) e h =
    let g = goes_sound p next octets e in
    let r = h next g in
    ((suc r.0.0, (next, g, r.0.1)), r.1)

-- with more steps than octets, the walk stops
pub ends_in : (n : ℕ) (p : Progress) (octets : List ℕ) → length octets < n → EndsAt p octets (stopped_on n p octets)
ends_in zero p octets more = absurd (omega arith)
ends_in (suc n) p octets more = ends_on p octets (stopped_on n) (goes p octets) refl (λ next g. ends_in n next (left p next octets) (fewer_left n p next octets g more))

-- from each place the walk reaches one at which it stops
pub reaches_stop : (p : Progress) (octets : List ℕ) → Reaches p octets (stops p octets).0 (stops p octets).1 × (goes (stops p octets).0 (stops p octets).1 ≡ None)
reaches_stop p octets = ends_in (length octets + 1) p octets (omega arith)

-- ---- the walk passes each element inside an open one

abbrev pub moved : ℕ → Progress → Progress
moved n p = record { at = p.at + n; depth = p.depth; limit = p.limit }

-- one step over the octets in front
pub over : (p next : Progress) (octets front rest : List ℕ) (opening : Opening) → octets ≡ front ++ rest → opening_at (from p.at octets) ≡ Ok (Some opening)
    → behind_header p octets opening ≡ Ok next → next.at ≡ p.at + length front → 0 < next.depth → Reaches p octets next rest
over p next octets front rest opening joined read behind at inside =
    let count : next.at - p.at ≡ length front = omega (arith, at) in
    let g : Goes p octets next = record {
      opening = opening;
      read = read;
      behind = behind;
      room = omega (arith, count, ap length joined, length-append front rest);
      some = omega (arith, behind_further p next octets opening read behind, (opening_within p.at octets opening read).0);
      inside = inside;
    } in
    let gone : left p next octets ≡ rest = ap (drop (next.at - p.at)) joined ∙ drop_at front rest (next.at - p.at) (sym count) in
    (suc zero, (next, g, (refl, gone)))

-- `Reaches` with equal places and octets
pub reaches_is : (p q r : Progress) (octets others rest : List ℕ) → octets ≡ others → q ≡ r → Reaches p octets q rest → Reaches p others r rest
reaches_is p q r octets others rest e f a = subst (λ (x : Progress). Reaches p others x rest) f (subst (λ (x : List ℕ). Reaches p x q rest) e a)

-- an element of definite length in front
pub definite_grouped : (tag content item rest : List ℕ) (d : IsDefinite tag content item) → item ++ rest ≡ tag ++ (d.length_octets ++ (content ++ rest))
definite_grouped tag content item rest d =
    ap (λ (x : List ℕ). x ++ rest) d.joined ∙ append_assoc (tag ++ d.length_octets) content rest ∙ append_assoc tag d.length_octets (content ++ rest)

pub definite_len : (tag content item : List ℕ) (d : IsDefinite tag content item) → length item ≡ length tag + length d.length_octets + length content
definite_len tag content item d =
    omega (arith, ap length d.joined, length-append (tag ++ d.length_octets) content, length-append tag d.length_octets)

-- the header of an element of definite length
abbrev pub header_for : (tag lens : List ℕ) → ℕ → Header
header_for tag lens n = record { tag_len = length tag; len = length tag + length lens; content_len = n }

-- reading the opening returns this header
pub definite_read : (place : ℕ) (tag content item rest : List ℕ) (d : IsDefinite tag content item)
    → opening_at (from place (item ++ rest)) ≡ Ok (Some (Definite (header_for tag d.length_octets (length content))))
definite_read place tag content item rest d =
    ap (λ (x : List ℕ). opening_at (from place x)) (definite_grouped tag content item rest d)
    ∙ definite_complete place (length content) tag d.length_octets (content ++ rest) d.is_tag d.is_length d.is_within

-- an element of definite length that is not two zero octets does not begin with them
pub no_ending : (tag content item rest : List ℕ) → IsDefinite tag content item → item ≢ ending → is_ending (item ++ rest) ≡ false
no_ending tag content item rest d other = false_from_ne_true (is_ending (item ++ rest)) (λ e. other (is_it e))
  where
    is_it : is_ending (item ++ rest) ≡ true → item ≡ ending
    is_it e =
        let f : is_ending (tag ++ (d.length_octets ++ (content ++ rest))) ≡ true = ap is_ending (sym (definite_grouped tag content item rest d)) ∙ e in
        let z = zeros_header tag d.length_octets (content ++ rest) (length content) d.is_tag d.is_length f in
        let nothing : content ≡ [] = nil_from_length content z.2 in
        d.joined ∙ ap (λ (x : List ℕ). (x ++ d.length_octets) ++ content) z.0 ∙ ap (λ (x : List ℕ). ((0 ∷ []) ++ x) ++ content) z.1 ∙ ap (λ (x : List ℕ). (0 ∷ 0 ∷ []) ++ x) nothing

-- one step passes an element of definite length
pub passes_definite : (tag content item rest : List ℕ) (p : Progress) → IsDefinite tag content item → item ≢ ending → 0 < p.depth → p.at + length item ≤ p.limit
    → Reaches p (item ++ rest) (moved (length item) p) rest
passes_definite tag content item rest p d other inside within =
    over p (moved (length item) p) (item ++ rest) item rest (Definite h) refl (definite_read p.at tag content item rest d) behind refl inside
  where
    h : Header
    h = header_for tag d.length_octets (length content)

    behind : behind_header p (item ++ rest) (Definite (header_for tag d.length_octets (length content))) ≡ Ok (moved (length item) p)
    behind =
        let len = definite_len tag content item d in
        let deep : p.depth ≢ 0 = λ e. omega (arith, inside, e) in
        let room : p.at + (length tag + length d.length_octets + length content) ≤ p.limit = omega (arith, len, within) in
        rw (no_ending tag content item rest d other, lt-ltb 0 p.depth inside, ne_eqb p.depth 0 deep, le-ltb p.limit (p.at + (length tag + length d.length_octets + length content)) room)
        (ap (λ (n : ℕ). Ok (moved n p)) (sym len))

-- the place after the header of an element of indefinite length inside an open one
abbrev pub deeper : ℕ → Progress → Progress
deeper n p = record { at = p.at + n; depth = p.depth + 1; limit = p.limit }

-- one step reaches that place
pub opens : (tag rest : List ℕ) (p : Progress) → IsTag tag → IsConstructed tag → 0 < p.depth → p.depth < depth_limit → p.at + (length tag + 1) ≤ p.limit
    → Reaches p (tag ++ 0x80 ∷ rest) (deeper (length tag + 1) p) rest
opens tag rest p t c inside deep within =
    let deeply : p.depth ≢ 0 = λ e. omega (arith, inside, e) in
    let behind : opened p (length tag + 1) ≡ Ok (deeper (length tag + 1) p) =
    rw (lt-ltb p.depth depth_limit deep, ne_eqb p.depth 0 deeply, le-ltb p.limit (p.at + (length tag + 1)) within) refl in
    over p (deeper (length tag + 1) p) (tag ++ 0x80 ∷ rest) (tag ++ 0x80 ∷ []) rest (Indefinite (length tag)) (sym (append_assoc tag (0x80 ∷ []) rest))
    (indefinite_complete p.at tag rest t c) behind (omega (arith, length-append tag (0x80 ∷ []))) (omega arith)

-- the place after the header of the outermost element
abbrev pub started : ℕ → Progress
started n = record { at = n; depth = 1; limit = n + content_limit }

-- one step reaches that place from the start
pub opens_first : (tag rest : List ℕ) → IsTag tag → IsConstructed tag → Reaches at_first (tag ++ 0x80 ∷ rest) (started (length tag + 1)) rest
opens_first tag rest t c =
    let start : 0 + (length tag + 1) ≡ length tag + 1 = omega arith in
    let behind : opened at_first (length tag + 1) ≡ Ok (started (length tag + 1)) = ap (λ (n : ℕ). Ok (started n)) start in
    over at_first (started (length tag + 1)) (tag ++ 0x80 ∷ rest) (tag ++ 0x80 ∷ []) rest (Indefinite (length tag)) (sym (append_assoc tag (0x80 ∷ []) rest))
    (indefinite_complete 0 tag rest t c) behind (omega (arith, length-append tag (0x80 ∷ []))) (omega arith)

-- end-of-contents octets in front
pub ending_read : (place : ℕ) (rest : List ℕ) → opening_at (from place (ending ++ rest)) ≡ Ok (Some (Definite (header_for (0 ∷ []) (0 ∷ []) 0)))
ending_read place rest = definite_complete place 0 (0 ∷ []) (0 ∷ []) rest (inl (λ e. cc, refl)) (inl (omega arith, refl, refl)) (omega arith)

-- one step passes end-of-contents octets, and closes an element
pub closes : (rest : List ℕ) (p : Progress) → 1 < p.depth → p.at + 2 ≤ p.limit → Reaches p (ending ++ rest) (record { at = p.at + 2; depth = p.depth - 1; limit = p.limit }) rest
closes rest p inside within =
    let next : Progress = record { at = p.at + 2; depth = p.depth - 1; limit = p.limit } in
    let deep : p.depth ≢ 1 = λ e. omega (arith, inside, e) in
    let behind : behind_header p (ending ++ rest) (Definite (header_for (0 ∷ []) (0 ∷ []) 0)) ≡ Ok next =
    rw (lt-ltb 0 p.depth (omega (arith, inside)), ne_eqb p.depth 1 deep, le-ltb p.limit (p.at + 2) within) refl in
    over p next (ending ++ rest) ending rest (Definite (header_for (0 ∷ []) (0 ∷ []) 0)) refl (ending_read p.at rest) behind refl (omega (arith, inside))

-- the progress with another offset
abbrev pub placed_at : ℕ → Progress → Progress
placed_at n p = record { at = n; depth = p.depth; limit = p.limit }

-- the progress with another depth
abbrev pub at_depth : ℕ → Progress → Progress
at_depth n p = record { at = p.at; depth = n; limit = p.limit }

abbrev pub shallower : Progress → Progress
shallower p = at_depth (p.depth - 1) p

-- the walk passes each element of this nesting depth
abbrev pub PassesEach : ℕ → Type 0
PassesEach depth = (tag content item rest : List ℕ) (p : Progress) → IsNested depth tag content item → item ≢ ending → 0 < p.depth → p.depth + depth ≤ depth_limit → p.at + length item ≤ p.limit
    → Reaches p (item ++ rest) (moved (length item) p) rest

-- the walk passes items one after the other
pub items_passed : (depth : ℕ) → PassesEach depth → (items : List (List ℕ)) (rest : List ℕ) (p : Progress) → AllByRecursion (λ item. ((tag content : List ℕ) × IsNested depth tag content item) × (item ≢ ending)) items
    → 0 < p.depth → p.depth + depth ≤ depth_limit → p.at + length (concat items) ≤ p.limit → Reaches p (concat items ++ rest) (moved (length (concat items)) p) rest
items_passed depth each [] rest p all inside deep within =
    let here : p.at ≡ p.at + 0 = omega arith in
    let placed = λ (n : ℕ). placed_at n p in
    (zero, (ap placed here, refl))
items_passed depth each (item ∷ items) rest p all inside deep within =
    let len : length (item ++ concat items) ≡ length item + length (concat items) = length-append item (concat items) in
    let q : Progress = moved (length item) p in
    let one : Reaches p (item ++ (concat items ++ rest)) q (concat items ++ rest) =
    each all.0.0.0 all.0.0.1 item (concat items ++ rest) p all.0.0.2 all.0.1 inside deep (omega (arith, len, within)) in
    let more : Reaches q (concat items ++ rest) (moved (length (concat items)) q) rest =
    items_passed depth each items rest q all.1 inside deep (omega (arith, len, within)) in
    let total : p.at + length item + length (concat items) ≡ p.at + length (item ++ concat items) = omega (arith, len) in
    let placed = λ (n : ℕ). placed_at n p in
    reaches_is p (moved (length (concat items)) q) (moved (length (item ++ concat items)) p) (item ++ (concat items ++ rest)) ((item ++ concat items) ++ rest) rest
    (sym (append_assoc item (concat items) rest)) (ap placed total)
    (reaches_on p q (moved (length (concat items)) q) (item ++ (concat items ++ rest)) (concat items ++ rest) rest one more)

-- an element of indefinite length in front
pub indefinite_grouped : (IsInner : List ℕ → Type 0) (tag content item rest : List ℕ) (i : IsIndefinite IsInner tag content item)
    → item ++ rest ≡ tag ++ 0x80 ∷ (concat i.items ++ (ending ++ rest))
indefinite_grouped IsInner tag content item rest i =
    ap (λ (x : List ℕ). x ++ rest) i.joined ∙ append_assoc (tag ++ 0x80 ∷ content) ending rest ∙ append_assoc tag (0x80 ∷ content) (ending ++ rest)
    ∙ ap (λ (x : List ℕ). tag ++ 0x80 ∷ (x ++ (ending ++ rest))) i.content_is

pub indefinite_len : (IsInner : List ℕ → Type 0) (tag content item : List ℕ) (i : IsIndefinite IsInner tag content item) → length item ≡ length tag + 1 + length (concat i.items) + 2
indefinite_len IsInner tag content item i =
    omega (arith, ap length i.joined, length-append (tag ++ 0x80 ∷ content) ending, length-append tag (0x80 ∷ content), ap length i.content_is)

-- the walk passes an element of indefinite length: it opens it, passes its elements and closes it
pub passes_indefinite : (depth : ℕ) → PassesEach depth → (tag content item rest : List ℕ) (p : Progress) → IsIndefinite (λ item. (inner_tag inner : List ℕ) × IsNested depth inner_tag inner item) tag content item
    → 0 < p.depth → p.depth + suc depth ≤ depth_limit → p.at + length item ≤ p.limit → Reaches p (item ++ rest) (moved (length item) p) rest
passes_indefinite depth each tag content item rest p i inside deep within =
    let len : length item ≡ length tag + 1 + length (concat i.items) + 2 = indefinite_len _ tag content item i in
    let inner : List ℕ = concat i.items in
    let q : Progress = deeper (length tag + 1) p in
    let r : Progress = moved (length inner) q in
    let one : Reaches p (tag ++ 0x80 ∷ (inner ++ (ending ++ rest))) q (inner ++ (ending ++ rest)) =
    opens tag (inner ++ (ending ++ rest)) p i.is_tag i.is_constructed inside (omega (arith, deep)) (omega (arith, len, within)) in
    let more : Reaches q (inner ++ (ending ++ rest)) r (ending ++ rest) =
    items_passed depth each i.items (ending ++ rest) q i.are_items (omega arith) (omega (arith, deep)) (omega (arith, len, within)) in
    let last : Reaches r (ending ++ rest) (placed_at (r.at + 2) (shallower r)) rest = closes rest r (omega (arith, inside)) (omega (arith, len, within)) in
    let total : p.at + (length tag + 1) + length inner + 2 ≡ p.at + length item = omega (arith, len) in
    let back : p.depth + 1 - 1 ≡ p.depth = omega arith in
    let placed = λ (n : ℕ). placed_at n p in
    let with_depth = λ (n : ℕ). at_depth n (placed_at (r.at + 2) p) in
    reaches_is p (placed_at (r.at + 2) (shallower r)) (moved (length item) p) (tag ++ 0x80 ∷ (inner ++ (ending ++ rest))) (item ++ rest) rest
    (sym (indefinite_grouped _ tag content item rest i)) (ap with_depth back ∙ ap placed total)
    (reaches_on p q (placed_at (r.at + 2) (shallower r)) (tag ++ 0x80 ∷ (inner ++ (ending ++ rest))) (inner ++ (ending ++ rest)) rest one
    (reaches_on q r (placed_at (r.at + 2) (shallower r)) (inner ++ (ending ++ rest)) (ending ++ rest) rest more last))

pub passes : (depth : ℕ) (tag content item rest : List ℕ) (p : Progress) → IsNested depth tag content item → item ≢ ending → 0 < p.depth → p.depth + depth ≤ depth_limit → p.at + length item ≤ p.limit
    → Reaches p (item ++ rest) (moved (length item) p) rest
passes zero tag content item rest p d other inside deep within = passes_definite tag content item rest p d other inside within
passes (suc depth) tag content item rest p (inl d) other inside deep within = passes_definite tag content item rest p d other inside within
passes (suc depth) tag content item rest p (inr i) other inside deep within =
    let each : PassesEach depth = λ t c x b q n o a l w. passes depth t c x b q n o a l w in
    passes_indefinite depth each tag content item rest p i inside deep within

pub passes_all : (depth : ℕ) (items : List (List ℕ)) (rest : List ℕ) (p : Progress) → AllByRecursion (λ item. ((tag content : List ℕ) × IsNested depth tag content item) × (item ≢ ending)) items
    → 0 < p.depth → p.depth + depth ≤ depth_limit → p.at + length (concat items) ≤ p.limit → Reaches p (concat items ++ rest) (moved (length (concat items)) p) rest
passes_all depth items rest p all inside deep within = items_passed depth (passes depth) items rest p all inside deep within

-- the place at which the content of the outermost open element begins
abbrev pub content_began : List Level → ℕ
content_began [] = 0
content_began (level ∷ []) = length level.tag + 1
content_began (level ∷ next ∷ outer) = content_began (next ∷ outer)

pub content_count : (levels : List Level) → content_began levels + content_walked levels ≡ length (walked levels)
content_count [] = refl
content_count (level ∷ []) = omega (arith, length-append level.tag (0x80 ∷ concat level.items))
content_count (level ∷ next ∷ outer) =
    omega (arith, content_count (next ∷ outer), length-append (walked (next ∷ outer)) (level.tag ++ 0x80 ∷ concat level.items))

-- the walk's progress with these elements open
abbrev pub progress_of : List Level → Progress
progress_of [] = at_first
progress_of (level ∷ outer) = record { at = length (walked (level ∷ outer)); depth = length (level ∷ outer); limit = content_began (level ∷ outer) + content_limit }

-- the open elements and those that may still open are `depth_limit` together
pub open_count : (n : ℕ) (levels : List Level) → AreOpen n levels → n + length levels ≡ depth_limit
open_count n [] o = omega (arith, o)
open_count n (level ∷ outer) o = omega (arith, open_count (suc n) outer o.3)

-- the place at which the content of the innermost element begins
abbrev pub content_place : Level → List Level → Progress
content_place level outer =
    record { at = length (walked outer) + (length level.tag + 1); depth = length (level ∷ outer); limit = content_began (level ∷ outer) + content_limit }

-- the number of octets walked with one more element open
pub walked_len : (level : Level) (outer : List Level) → length (walked (level ∷ outer)) ≡ length (walked outer) + (length level.tag + 1) + length (concat level.items)
walked_len level outer =
    omega (arith, length-append (walked outer) (level.tag ++ 0x80 ∷ concat level.items), length-append level.tag (0x80 ∷ concat level.items))

-- one more open element does not lessen the content walked
pub outer_walked : (level : Level) (outer : List Level) → content_walked outer ≤ content_walked (level ∷ outer)
outer_walked level [] = omega arith
outer_walked level (next ∷ outer) = omega arith

-- one step opens an element
pub opens_level : (level : Level) (outer : List Level) (rest : List ℕ) → IsTag level.tag → IsConstructed level.tag → length outer < depth_limit → content_walked (level ∷ outer) ≤ content_limit
    → Reaches (progress_of outer) (level.tag ++ 0x80 ∷ rest) (content_place level outer) rest
opens_level level [] rest t c deep within =
    let start : length level.tag + 1 ≡ 0 + (length level.tag + 1) = omega arith in
    let placed = λ (n : ℕ). placed_at n (started (length level.tag + 1)) in
    reaches_is at_first (started (length level.tag + 1)) (content_place level []) (level.tag ++ 0x80 ∷ rest) (level.tag ++ 0x80 ∷ rest) rest refl (ap placed start)
    (opens_first level.tag rest t c)
opens_level level (next ∷ outer) rest t c deep within =
    let before = content_count (next ∷ outer) in
    let p : Progress = progress_of (next ∷ outer) in
    let q : Progress = deeper (length level.tag + 1) p in
    let more : length (next ∷ outer) + 1 ≡ length (level ∷ next ∷ outer) = omega arith in
    let with_depth = λ (n : ℕ). at_depth n q in
    reaches_is p q (content_place level (next ∷ outer)) (level.tag ++ 0x80 ∷ rest) (level.tag ++ 0x80 ∷ rest) rest refl (ap with_depth more)
    (opens level.tag rest p t c (omega arith) deep (omega (arith, before, within, length-append level.tag (0x80 ∷ concat level.items))))

-- the walk reaches the progress with these elements open
pub levels_reached : (n : ℕ) (levels : List Level) (rest : List ℕ) → AreOpen n levels → content_walked levels ≤ content_limit → Reaches at_first (walked levels ++ rest) (progress_of levels) rest
levels_reached n [] rest o within = (zero, (refl, refl))
levels_reached n (level ∷ outer) rest o within =
    let count = open_count n (level ∷ outer) o in
    let total = content_count (level ∷ outer) in
    let len = walked_len level outer in
    let inner : List ℕ = concat level.items in
    let p : Progress = progress_of outer in
    let q : Progress = content_place level outer in
    let behind : List ℕ = level.tag ++ 0x80 ∷ (inner ++ rest) in
    let a : Reaches at_first (walked outer ++ behind) p behind = levels_reached (suc n) outer behind o.3 (omega (arith, within, outer_walked level outer)) in
    let b : Reaches p behind q (inner ++ rest) = opens_level level outer (inner ++ rest) o.0 o.1 (omega (arith, count)) within in
    let c : Reaches q (inner ++ rest) (moved (length inner) q) rest =
    passes_all n level.items rest q o.2 (omega arith) (omega (arith, count)) (omega (arith, total, within, len)) in
    let grouped : walked outer ++ behind ≡ walked (level ∷ outer) ++ rest =
    sym (append_assoc (walked outer) (level.tag ++ 0x80 ∷ inner) rest ∙ ap (λ (x : List ℕ). walked outer ++ x) (append_assoc level.tag (0x80 ∷ inner) rest)) in
    let placed = λ (n : ℕ). placed_at n q in
    reaches_is at_first (moved (length inner) q) (progress_of (level ∷ outer)) (walked outer ++ behind) (walked (level ∷ outer) ++ rest) rest grouped (ap placed (sym len))
    (reaches_on at_first p (moved (length inner) q) (walked outer ++ behind) behind rest a
    (reaches_on p q (moved (length inner) q) behind (inner ++ rest) rest b c))

pub reaches_levels : (octets rest : List ℕ) (levels : List Level) → IsWalked octets levels rest → Reaches at_first octets (progress_of levels) rest
reaches_levels octets rest levels w =
    reaches_is at_first (progress_of levels) (progress_of levels) (walked levels ++ rest) octets rest (sym w.joined) refl (levels_reached w.left levels rest w.are_open w.is_within)

-- a step that closes the last open element
pub ends_whole : (p next : Progress) (octets front rest : List ℕ) (opening : Opening) → octets ≡ front ++ rest → opening_at (from p.at octets) ≡ Ok (Some opening)
    → behind_header p octets opening ≡ Ok next → next.at ≡ p.at + length front → next.depth ≡ 0 → walk p octets ≡ Ok (Whole next.at)
ends_whole p next octets front rest opening joined read behind at closing =
    let room : next.at - p.at ≤ length octets = omega (arith, at, ap length joined, length-append front rest) in
    walk_first p octets ∙ rw (read, behind, le-ltb (length octets) (next.at - p.at) room, eq-eqb next.depth 0 closing) refl

-- a walk over an element of definite length
pub definite_walked : (tag content element rest : List ℕ) → IsDefinite tag content element → walk at_first (element ++ rest) ≡ Ok (Whole (length element))
definite_walked tag content element rest d =
    let len = definite_len tag content element d in
    let h : Header = header_for tag d.length_octets (length content) in
    let next : Progress = placed_at (0 + (h.len + h.content_len)) at_first in
    let same : next.at ≡ length element = omega (arith, len) in
    ends_whole at_first next (element ++ rest) element rest (Definite h) refl (definite_read 0 tag content element rest d) refl (omega (arith, len)) refl
    ∙ ap (λ (n : ℕ). Ok (Whole n)) same

-- a walk over an element of indefinite length
pub indefinite_walked : (depth : ℕ) (tag content element rest : List ℕ) → suc depth ≡ depth_limit → IsIndefinite (λ item. (inner_tag inner : List ℕ) × IsNested depth inner_tag inner item) tag content element
    → walk at_first (element ++ rest) ≡ Ok (Whole (length element))
indefinite_walked depth tag content element rest limit i =
    let len = indefinite_len _ tag content element i in
    let inner : List ℕ = concat i.items in
    let q : Progress = started (length tag + 1) in
    let r : Progress = moved (length inner) q in
    let next : Progress = record { at = r.at + 2; depth = 0; limit = r.limit } in
    let one : Reaches at_first (tag ++ 0x80 ∷ (inner ++ (ending ++ rest))) q (inner ++ (ending ++ rest)) =
    opens_first tag (inner ++ (ending ++ rest)) i.is_tag i.is_constructed in
    let more : Reaches q (inner ++ (ending ++ rest)) r (ending ++ rest) =
    passes_all depth i.items (ending ++ rest) q i.are_items (omega arith) (omega (arith, limit)) (omega (arith, i.is_within, ap length i.content_is)) in
    let last : walk r (ending ++ rest) ≡ Ok (Whole next.at) =
    ends_whole r next (ending ++ rest) ending rest (Definite (header_for (0 ∷ []) (0 ∷ []) 0)) refl (ending_read r.at rest) refl refl refl in
    let same : next.at ≡ length element = omega (arith, len) in
    ap (walk at_first) (indefinite_grouped _ tag content element rest i)
    ∙ reaches_walk at_first r (tag ++ 0x80 ∷ (inner ++ (ending ++ rest))) (ending ++ rest) (reaches_on at_first q r (tag ++ 0x80 ∷ (inner ++ (ending ++ rest))) (inner ++ (ending ++ rest)) (ending ++ rest) one more)
    ∙ last ∙ ap (λ (n : ℕ). Ok (Whole n)) same

-- a walk over an element
pub nested_walked : (depth : ℕ) (tag content element rest : List ℕ) → depth ≡ depth_limit → IsNested depth tag content element → walk at_first (element ++ rest) ≡ Ok (Whole (length element))
nested_walked zero tag content element rest limit d = definite_walked tag content element rest d
nested_walked (suc depth) tag content element rest limit (inl d) = definite_walked tag content element rest d
nested_walked (suc depth) tag content element rest limit (inr i) = indefinite_walked depth tag content element rest limit i

-- a walk over the element at the front returns its length
pub walk_of_element : (tag content element rest : List ℕ) → IsElement tag content element → walk at_first (element ++ rest) ≡ Ok (Whole (length element))
unfolding IsElement
walk_of_element tag content element rest e = nested_walked depth_limit tag content element rest refl e
