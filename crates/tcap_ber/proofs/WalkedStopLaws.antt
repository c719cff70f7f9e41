-- The result of a walk at the place where it stops is correct.
use Rattle.std.proofs.Common.{◌≡◌, ℕ, ◌+◌, ◌-◌, ◌<◌, ◌≤◌, Bool, true, false, List, [], ◌∷◌, ◌++◌, length, Option, Some, None, Result, Ok, Err, refl, sym, ap, subst, ◌∙◌, inl, inr, arith, append_assoc, add-one}
use Rattle.std.specs.Prelude.{◌≢◌, ◌%◌, nat_lt, ◌==◌, ◌&&◌}
use Rattle.std.specs.List.{concat}
use Rattle.std.proofs.lemmas.List.{length-append}
use Rattle.std.proofs.lemmas.Bool.{ltb-false, lt-ltb, le-ltb, eqb-true, ne_eqb, and_from}
use Rattle.tcap_ber.specs.declared.fault.Fault.{Fault}
use Rattle.tcap_ber.specs.declared.fault.Reason.{Reason}
use Rattle.tcap_ber.specs.declared.fault.Reason.TheVariants as reasons
use Rattle.tcap_ber.specs.declared.header.Header.{Header}
use Rattle.tcap_ber.specs.declared.header.Opening.{Opening}
use Rattle.tcap_ber.specs.declared.header.Opening.TheVariants.{Definite, Indefinite}
use Rattle.tcap_ber.specs.declared.progress.Progress.{Progress}
use Rattle.tcap_ber.specs.declared.element.Outer.{Outer}
use Rattle.tcap_ber.specs.declared.element.Outer.TheVariants.{Whole, Need}
use Rattle.tcap_ber.specs.Element.{IsTag, IsLength, content_limit, IsConstructed, ending, IsNested, depth_limit, IsElement}
use Rattle.tcap_ber.specs.Header.{HasLongTag, HasLengthOctet}
use Rattle.tcap_ber.specs.WalkPlaces.{Level, walked, content_walked, IsWalked, Announces, IsWrongThere, BeginsElement}
use Rattle.tcap_ber.specs.HeaderReading.{fault, ◌>>=◌, opening_at}
use Rattle.tcap_ber.specs.WalkResult.{is_ending, opened, closed, passed, behind_header, gone_to, gone_on, walk_on, at_first, goes}
use Rattle.tcap_ber.proofs.Steps.{chosen, bind_ok, bind_err}
use Rattle.tcap_ber.proofs.OpeningLaws.{from, FindsIndefinite, IsOpeningFault, definite_sound, indefinite_sound, definite_complete, indefinite_complete, opening_fault, opening_refused}
use Rattle.tcap_ber.proofs.HeaderLaws.{FindsHeader}
use Rattle.tcap_ber.proofs.WalkLaws.{left, walk, walk_stops}
use Rattle.tcap_ber.proofs.ReachLaws.{content_count, progress_of}
use Rattle.tcap_ber.proofs.WalkedStepLaws.{open_within, place_is, walked_at, walked_depth, opens_ok, opens_err, closes_ok, closes_err, passes_ok, passes_err, definite_step}
use Rattle.tcap_ber.proofs.WalkedOpenLaws.{begun, whole, finds_definite, definite_nested, ending_there, not_ending, whole_length, begun_length, whole_nested, first_content}

-- ---- where the walk stops

-- a continuation that takes no step
abbrev pub nowhere : Progress → List ℕ → Result Outer Fault
nowhere p octets = Ok (Need 0)

-- the walk is at the end of the outermost element
pub ends_whole : (p next : Progress) (octets : List ℕ) (n : ℕ) → gone_to nowhere p octets next ≡ Ok (Whole n) → (next.at - p.at ≤ length octets) × (next.depth ≡ 0) × (next.at ≡ n)
ends_whole p next octets n e =
    elim (chosen (nat_lt (length octets) (next.at - p.at)) _ _ (Ok (Whole n)) e) [
      | inl k ↦ absurd cc
      | inr k ↦ elim (chosen (next.depth == 0) _ _ (Ok (Whole n)) k.1) [
        | inl l ↦ (ltb-false (length octets) (next.at - p.at) k.0, eqb-true next.depth 0 l.0, whole_is next.at n l.1)
        | inr l ↦ absurd cc
      ]
    ]
  where
    whole_is : (n m : ℕ) → (let a : Result Outer Fault = Ok (Whole n) in a) ≡ Ok (Whole m) → n ≡ m
    whole_is n m e = cc

-- an element nested up to the limit is an element
pub nested_element : (tag content item : List ℕ) → IsNested depth_limit tag content item → IsElement tag content item
unfolding IsElement
nested_element tag content item nested = nested

-- end-of-contents octets of the outermost element
pub whole_closed : (octets rest : List ℕ) (levels : List Level) (next : Progress) → IsWalked octets levels rest → next.depth ≡ 0 → 0 < (progress_of levels).depth → is_ending rest ≡ true → closed (progress_of levels) ≡ Ok next
    → BeginsElement octets next.at
whole_closed octets rest [] next w none inside ends e = absurd (omega (arith, inside))
whole_closed octets rest (level ∷ []) next w none inside ends e =
    elim (closes_ok (progress_of (level ∷ [])) next e) [
      | inl k ↦
          let behind = ending_there rest ends in
          let nested = whole_nested w.left level [] w.are_open (omega (arith, first_content level [], w.is_within)) in
          record {
            tag = level.tag;
            content = concat level.items;
            element = whole level;
            rest = behind.0;
            is_element = nested_element level.tag (concat level.items) (whole level) (subst (λ (n : ℕ). IsNested n level.tag (concat level.items) (whole level)) w.are_open.3 nested);
            joined = w.joined ∙ ap (λ (x : List ℕ). begun level ++ x) behind.1 ∙ sym (append_assoc (begun level) ending behind.0);
            len = omega (arith, ap (λ (q : Progress). q.at) k.1, whole_length level);
          }
      | inr k ↦ absurd (k.0 refl)
    ]
whole_closed octets rest (level ∷ within ∷ outer) next w none inside ends e =
    elim (closes_ok (progress_of (level ∷ within ∷ outer)) next e) [
      | inl k ↦ absurd (omega (arith, k.0))
      | inr k ↦ absurd (omega (arith, k.1.depth_is, none))
    ]

-- an outermost element of definite length
pub whole_passed : (octets rest : List ℕ) (levels : List Level) (next : Progress) (h : Header) → IsWalked octets levels rest → next.depth ≡ 0 → next.at - (progress_of levels).at ≤ length rest → FindsHeader rest h
    → passed (progress_of levels) (h.len + h.content_len) ≡ Ok next → BeginsElement octets next.at
whole_passed octets rest [] next h w none room f e =
    elim (passes_ok at_first next (h.len + h.content_len) e) [
      | inl k ↦
          let at : next.at ≡ h.len + h.content_len = omega (arith, ap (λ (q : Progress). q.at) k.1) in
          let d = finds_definite rest h f (omega (arith, at, room)) in
          record {
            tag = d.tag;
            content = d.content;
            element = d.item;
            rest = d.behind;
            is_element = nested_element d.tag d.content d.item (definite_nested depth_limit d.tag d.content d.item d.is_definite);
            joined = w.joined ∙ d.joined;
            len = omega (arith, at, d.len_is);
          }
      | inr k ↦ absurd (k.0 refl)
    ]
whole_passed octets rest (level ∷ outer) next h w none room f e =
    elim (passes_ok (progress_of (level ∷ outer)) next (h.len + h.content_len) e) [
      | inl k ↦ absurd (omega (arith, k.0))
      | inr k ↦ absurd (omega (arith, k.1.depth_is, none))
    ]

-- the outermost element ends after this step
pub whole_behind : (octets rest : List ℕ) (levels : List Level) (opening : Opening) (next : Progress) → IsWalked octets levels rest → opening_at (from (progress_of levels).at rest) ≡ Ok (Some opening)
    → behind_header (progress_of levels) rest opening ≡ Ok next → next.depth ≡ 0 → next.at - (progress_of levels).at ≤ length rest → BeginsElement octets next.at
whole_behind octets rest levels (Indefinite tag) next w read e none room =
    elim (opens_ok (progress_of levels) next (tag + 1) e).1 [
      | inl k ↦ absurd (omega (arith, ap (λ (q : Progress). q.depth) k.1, none))
      | inr k ↦ absurd (omega (arith, k.1.depth_is, none))
    ]
whole_behind octets rest levels (Definite h) next w read e none room =
    elim (definite_step (progress_of levels) rest h (Ok next) e) [
      | inl k ↦ whole_closed octets rest levels next w none k.0 k.1 k.2
      | inr k ↦ whole_passed octets rest levels next h w none room (definite_sound (progress_of levels).at rest h read) k.1
    ]

pub whole_there : (octets rest : List ℕ) (levels : List Level) (n : ℕ) → IsWalked octets levels rest → goes (progress_of levels) rest ≡ None → walk (progress_of levels) rest ≡ Ok (Whole n) → BeginsElement octets n
whole_there octets rest levels n w stop e =
    let a = bind_ok (opening_at (from (progress_of levels).at rest)) (gone_on nowhere (progress_of levels) rest) (Whole n) (sym (walk_stops (progress_of levels) rest nowhere stop) ∙ e) in
    by_found a.0 a.1 a.2
  where
    by_found : (found : Option Opening) → opening_at (from (progress_of levels).at rest) ≡ Ok found → gone_on nowhere (progress_of levels) rest found ≡ Ok (Whole n) → BeginsElement octets n
    by_found None read a = absurd cc
    by_found (Some opening) read a =
        let b = bind_ok (behind_header (progress_of levels) rest opening) (gone_to nowhere (progress_of levels) rest) (Whole n) a in
        let end = ends_whole (progress_of levels) b.0 rest n b.2 in
        subst (BeginsElement octets) end.2 (whole_behind octets rest levels opening b.0 w read b.1 end.1 end.0)

-- a fault of the header is a fault at the walk's place
pub wrong_header : (rest : List ℕ) (levels : List Level) (reason : Reason) (place offset : ℕ) → place ≡ (progress_of levels).at + offset → IsOpeningFault rest reason offset → IsWrongThere levels rest reason place
wrong_header rest levels reasons.TagForm place offset at wrong = (wrong.0, omega (arith, at, walked_at levels, wrong.1))
wrong_header rest levels reasons.LengthForm place offset at wrong = (wrong.0, offset, wrong.1, wrong.2, omega (arith, at, walked_at levels))
wrong_header rest levels reasons.Indefinite place offset at wrong = (offset, wrong.0, wrong.1, omega (arith, at, walked_at levels))
wrong_header rest levels reasons.TooLong place offset at wrong = inl (wrong.0, omega (arith, at, walked_at levels, wrong.1))
wrong_header rest levels _ place offset at wrong = absurd wrong

-- the announced octets are over the limit
pub wrong_count : (rest front more : List ℕ) (levels : List Level) (count : ℕ) → (progress_of levels).depth ≢ 0 → rest ≡ front ++ more → Announces levels front count
    → (progress_of levels).limit < (progress_of levels).at + count → IsWrongThere levels rest reasons.TooLong 0
wrong_count rest front more [] count inside joined announces over = absurd (inside refl)
wrong_count rest front more (level ∷ outer) count inside joined announces over =
    inr (λ e. absurd cc, refl, (front, more, count, joined, announces, omega (arith, over, content_count (level ∷ outer))))

-- if no element opens, too many are open or the header is over the limit
pub wrong_opened : (octets rest : List ℕ) (levels : List Level) (tag : ℕ) (f : Fault) → IsWalked octets levels rest → FindsIndefinite rest tag → opened (progress_of levels) (tag + 1) ≡ Err f → IsWrongThere levels rest f.reason f.place
wrong_opened octets rest levels tag f w i e =
    elim (opens_err (progress_of levels) (tag + 1) f e) [
      | inl k ↦ subst (λ (x : Fault). IsWrongThere levels rest x.reason x.place) k.1
          (length i.tag, record { tag = i.tag; rest = i.rest; is_tag = i.is_tag; joined = i.joined; place_is = refl }, i.is_constructed, omega (arith, k.0, walked_depth levels, open_within w.left levels w.are_open), walked_at levels)
      | inr k ↦
          let front : List ℕ = i.tag ++ 0x80 ∷ [] in
          let joined : rest ≡ front ++ i.rest = i.joined ∙ sym (append_assoc i.tag (0x80 ∷ []) i.rest) in
          let count : tag + 1 ≡ length front = omega (arith, i.count_is, length-append i.tag (0x80 ∷ [])) in
          subst (λ (x : Fault). IsWrongThere levels rest x.reason x.place) k.3
          (wrong_count rest front i.rest levels (tag + 1) k.1 joined (inr (inl (i.tag, i.is_tag, i.is_constructed, omega (arith, k.0, walked_depth levels), refl, count))) k.2)
    ]

-- if no element closes, its end-of-contents octets are over the limit
pub wrong_closed : (rest : List ℕ) (levels : List Level) (f : Fault) → 0 < (progress_of levels).depth → is_ending rest ≡ true → closed (progress_of levels) ≡ Err f → IsWrongThere levels rest f.reason f.place
wrong_closed rest levels f inside ends e =
    let behind = ending_there rest ends in
    let k = closes_err (progress_of levels) f e in
    let deep : 1 < length levels = omega (arith, k.0, inside, walked_depth levels) in
    let outside : (progress_of levels).depth ≢ 0 = λ e. omega (arith, e, inside) in
    subst (λ (x : Fault). IsWrongThere levels rest x.reason x.place) k.2 (wrong_count rest ending behind.0 levels 2 outside behind.1 (inr (inr (refl, deep, refl))) k.1)

-- if an element of definite length is not passed, it is over the limit
pub wrong_passed : (rest : List ℕ) (levels : List Level) (h : Header) (f : Fault) → FindsHeader rest h → (0 < (progress_of levels).depth → is_ending rest ≡ false) → passed (progress_of levels) (h.len + h.content_len) ≡ Err f
    → IsWrongThere levels rest f.reason f.place
wrong_passed rest levels h f d other e =
    let k = passes_err (progress_of levels) (h.len + h.content_len) f e in
    let front : List ℕ = d.tag ++ d.length_octets in
    let joined : rest ≡ front ++ d.rest = d.joined ∙ sym (append_assoc d.tag d.length_octets d.rest) in
    let no_end : front ≢ ending = not_ending rest front d.rest (other (omega (arith, k.0))) joined in
    let count : h.len + h.content_len ≡ length front + h.content_len = omega (arith, d.len, length-append d.tag d.length_octets) in
    subst (λ (x : Fault). IsWrongThere levels rest x.reason x.place) k.2
    (wrong_count rest front d.rest levels (h.len + h.content_len) k.0 joined (inl (d.tag, d.length_octets, h.content_len, d.is_tag, d.is_length, d.within, refl, no_end, count)) k.1)

-- a fault after the header is a fault at the walk's place
pub wrong_behind : (octets rest : List ℕ) (levels : List Level) (opening : Opening) (f : Fault) → IsWalked octets levels rest → opening_at (from (progress_of levels).at rest) ≡ Ok (Some opening)
    → behind_header (progress_of levels) rest opening ≡ Err f → IsWrongThere levels rest f.reason f.place
wrong_behind octets rest levels (Indefinite tag) f w read e = wrong_opened octets rest levels tag f w (indefinite_sound (progress_of levels).at rest tag read) e
wrong_behind octets rest levels (Definite h) f w read e =
    elim (definite_step (progress_of levels) rest h (Err f) e) [
      | inl k ↦ wrong_closed rest levels f k.0 k.1 k.2
      | inr k ↦ wrong_passed rest levels h f (definite_sound (progress_of levels).at rest h read) k.0 k.1
    ]

-- this continuation has no fault
pub ends_well : (p next : Progress) (octets : List ℕ) (f : Fault) → gone_to nowhere p octets next ≡ Err f → ⊥
ends_well p next octets f e =
    elim (chosen (nat_lt (length octets) (next.at - p.at)) _ _ (Err f) e) [
      | inl k ↦ absurd cc
      | inr k ↦ elim (chosen (next.depth == 0) _ _ (Err f) k.1) [
        | inl l ↦ absurd cc
        | inr l ↦ absurd cc
      ]
    ]

pub wrong_there : (octets rest : List ℕ) (levels : List Level) (f : Fault) → IsWalked octets levels rest → goes (progress_of levels) rest ≡ None → walk (progress_of levels) rest ≡ Err f → IsWrongThere levels rest f.reason f.place
wrong_there octets rest levels f w stop e =
    elim (bind_err (opening_at (from (progress_of levels).at rest)) (gone_on nowhere (progress_of levels) rest) f (sym (walk_stops (progress_of levels) rest nowhere stop) ∙ e)) [
      | inl a ↦ let k = opening_fault (progress_of levels).at rest f a in wrong_header rest levels f.reason f.place k.0 k.1 k.2
      | inr a ↦ by_found a.0 a.1 a.2
    ]
  where
    by_found : (found : Option Opening) → opening_at (from (progress_of levels).at rest) ≡ Ok found → gone_on nowhere (progress_of levels) rest found ≡ Err f → IsWrongThere levels rest f.reason f.place
    by_found None read a = absurd cc
    by_found (Some opening) read a =
        elim (bind_err (behind_header (progress_of levels) rest opening) (gone_to nowhere (progress_of levels) rest) f a) [
          | inl b ↦ wrong_behind octets rest levels opening f w read b
          | inr b ↦ absurd (ends_well (progress_of levels) b.0 rest f b.2)
        ]

-- the first step of a walk
pub walk_step : (p : Progress) (octets : List ℕ) → walk p octets ≡ (opening_at (from p.at octets) >>= gone_on (walk_on (length octets)) p octets)
walk_step p octets = ap (λ (n : ℕ). walk_on n p octets) (add-one (length octets))

-- the walk returns a fault of the header
pub refused_header : (rest : List ℕ) (levels : List Level) (reason : Reason) (place offset : ℕ) → place ≡ length (walked levels) + offset → IsOpeningFault rest reason offset → walk (progress_of levels) rest ≡ Err (fault reason place)
refused_header rest levels reason place offset at wrong =
    let place_is : (progress_of levels).at + offset ≡ place = omega (arith, at, walked_at levels) in
    walk_step (progress_of levels) rest
    ∙ ap (λ (r : Result (Option Opening) Fault). r >>= gone_on (walk_on (length rest)) (progress_of levels) rest) (opening_refused (progress_of levels).at offset rest reason wrong)
    ∙ ap (λ (n : ℕ). Err (fault reason n)) place_is

-- the walk returns a fault after the header
pub refused_behind : (p : Progress) (octets joined : List ℕ) (opening : Opening) (f : Fault) → octets ≡ joined → opening_at (from p.at joined) ≡ Ok (Some opening) → behind_header p octets opening ≡ Err f → walk p octets ≡ Err f
refused_behind p octets joined opening f same read e =
    walk_step p octets
    ∙ ap (λ (r : Result (Option Opening) Fault). r >>= gone_on (walk_on (length octets)) p octets) (ap (λ (x : List ℕ). opening_at (from p.at x)) same ∙ read)
    ∙ ap (λ (r : Result Progress Fault). r >>= gone_to (walk_on (length octets)) p octets) e

-- no element opens at the depth limit
pub opens_deep : (p : Progress) (len : ℕ) → depth_limit ≤ p.depth → opened p len ≡ Err (fault reasons.TooDeep p.at)
opens_deep p len deep = rw (le-ltb p.depth depth_limit deep) refl

-- no element opens if its header is over the content limit
pub opens_long : (p : Progress) (len : ℕ) → p.depth < depth_limit → p.depth ≢ 0 → p.limit < p.at + len → opened p len ≡ Err (fault reasons.TooLong 0)
opens_long p len deep inside over = rw (lt-ltb p.depth depth_limit deep, ne_eqb p.depth 0 inside, lt-ltb p.limit (p.at + len) over) refl

-- end-of-contents octets over the limit are refused
pub closes_long : (p : Progress) (octets : List ℕ) (h : Header) → 1 < p.depth → is_ending octets ≡ true → p.limit < p.at + 2 → behind_header p octets (Definite h) ≡ Err (fault reasons.TooLong 0)
closes_long p octets h inside ends over =
    rw (and_from (nat_lt 0 p.depth) (is_ending octets) (lt-ltb 0 p.depth (omega arith)) ends, ne_eqb p.depth 1 (λ e. omega arith), lt-ltb p.limit (p.at + 2) over) refl

pub and_off : (b c : Bool) → c ≡ false → (b && c) ≡ false
and_off false c e = refl
and_off true c e = e

-- an element of definite length over the limit is refused
pub passes_long : (p : Progress) (octets : List ℕ) (h : Header) → p.depth ≢ 0 → is_ending octets ≡ false → p.limit < p.at + (h.len + h.content_len) → behind_header p octets (Definite h) ≡ Err (fault reasons.TooLong 0)
passes_long p octets h inside other over =
    rw (and_off (nat_lt 0 p.depth) (is_ending octets) other, ne_eqb p.depth 0 inside, lt-ltb p.limit (p.at + (h.len + h.content_len)) over) refl

-- a header of definite length that begins with two zero octets is these two
pub header_ending : (tag length_octets more behind : List ℕ) (n : ℕ) → IsTag tag → IsLength n length_octets → (tag ++ length_octets) ++ more ≡ ending ++ behind → tag ++ length_octets ≡ ending
header_ending [] length_octets more behind n t l e = absurd t
header_ending (first ∷ tag) [] more behind n t l e = absurd l
header_ending (first ∷ []) (octet ∷ octets) more behind n t (inl l) e =
    let a : first ≡ 0 = cc in
    let b : octet ≡ 0 = cc in
    ap (λ (x : ℕ). x ∷ octet ∷ octets) a ∙ ap (λ (x : ℕ). 0 ∷ x ∷ octets) b ∙ ap (λ (x : List ℕ). 0 ∷ 0 ∷ x) l.1
header_ending (first ∷ []) (octet ∷ octets) more behind n t (inr l) e = let b : octet ≡ 0 = cc in absurd (omega (arith, b, l.0))
header_ending (first ∷ second ∷ tag) (octet ∷ octets) more behind n (inl t) l e = absurd cc
header_ending (first ∷ second ∷ tag) (octet ∷ octets) more behind n (inr t) l e = let a : first ≡ 0 = cc in absurd (omega (arith, ap (λ (x : ℕ). x % 32) a, t.0))

pub from_not_true : (b : Bool) → (b ≡ true → ⊥) → b ≡ false
from_not_true false not = refl
from_not_true true not = absurd (not refl)

-- a header of definite length that is not two zero octets does not begin with them
pub header_no_ending : (tag length_octets more : List ℕ) (n : ℕ) → IsTag tag → IsLength n length_octets → tag ++ length_octets ≢ ending → is_ending ((tag ++ length_octets) ++ more) ≡ false
header_no_ending tag length_octets more n t l other =
    from_not_true (is_ending ((tag ++ length_octets) ++ more)) (λ ends.
    let behind = ending_there ((tag ++ length_octets) ++ more) ends in
    other (header_ending tag length_octets more behind.0 n t l behind.1))

-- the walk returns TooLong if more is announced than the limit allows
pub refused_count : (rest front more : List ℕ) (count : ℕ) (levels : List Level) → levels ≢ [] → rest ≡ front ++ more → Announces levels front count → content_limit < content_walked levels + count
    → walk (progress_of levels) rest ≡ Err (fault reasons.TooLong 0)
refused_count rest front more count [] some joined announces over = absurd (some refl)
refused_count rest front more count (level ∷ outer) some joined (inl a) over =
    let p : Progress = progress_of (level ∷ outer) in
    let h : Header = record { tag_len = length a.0; len = length a.0 + length a.1; content_len = a.2 } in
    let here : rest ≡ (a.0 ++ a.1) ++ more = joined ∙ ap (λ (x : List ℕ). x ++ more) a.6 in
    let other : a.0 ++ a.1 ≢ ending = λ e. a.7 (a.6 ∙ e) in
    let no_end : is_ending rest ≡ false = ap is_ending here ∙ header_no_ending a.0 a.1 more a.2 a.3 a.4 other in
    let behind = passes_long p rest h (λ e. omega (arith, e)) no_end (omega (arith, over, a.8, ap length a.6, length-append a.0 a.1, content_count (level ∷ outer))) in
    refused_behind p rest (a.0 ++ (a.1 ++ more)) (Definite h) (fault reasons.TooLong 0) (here ∙ append_assoc a.0 a.1 more) (definite_complete p.at a.2 a.0 a.1 more a.3 a.4 a.5) behind
refused_count rest front more count (level ∷ outer) some joined (inr (inl a)) over =
    let p : Progress = progress_of (level ∷ outer) in
    let here : rest ≡ a.0 ++ 0x80 ∷ more = joined ∙ ap (λ (x : List ℕ). x ++ more) a.4 ∙ append_assoc a.0 (0x80 ∷ []) more in
    let behind = opens_long p (length a.0 + 1) a.3 (λ e. omega (arith, e)) (omega (arith, over, a.5, ap length a.4, length-append a.0 (0x80 ∷ []), content_count (level ∷ outer))) in
    refused_behind p rest (a.0 ++ 0x80 ∷ more) (Indefinite (length a.0)) (fault reasons.TooLong 0) here (indefinite_complete p.at a.0 more a.1 a.2) behind
refused_count rest front more count (level ∷ outer) some joined (inr (inr a)) over =
    let p : Progress = progress_of (level ∷ outer) in
    let h : Header = record { tag_len = 1; len = 2; content_len = 0 } in
    let here : rest ≡ ending ++ more = joined ∙ ap (λ (x : List ℕ). x ++ more) a.0 in
    let read : opening_at (from p.at (ending ++ more)) ≡ Ok (Some (Definite h)) =
    definite_complete p.at 0 (0 ∷ []) (0 ∷ []) more (inl ((λ e. omega (arith, e)), refl)) (inl (omega arith, refl, refl)) (omega arith) in
    let behind = closes_long p rest h a.1 (ap is_ending here) (omega (arith, over, a.2, ap length a.0, content_count (level ∷ outer))) in
    refused_behind p rest (ending ++ more) (Definite h) (fault reasons.TooLong 0) here read behind

-- the walk returns TooDeep for one more element than may be open
pub refused_deep : (rest : List ℕ) (levels : List Level) (offset : ℕ) (h : HasLengthOctet 0x80 rest offset) → IsConstructed h.tag → length levels ≡ depth_limit → walk (progress_of levels) rest ≡ Err (fault reasons.TooDeep (progress_of levels).at)
refused_deep rest levels offset h constructed deep =
    refused_behind (progress_of levels) rest (h.tag ++ 0x80 ∷ h.rest) (Indefinite (length h.tag)) (fault reasons.TooDeep (progress_of levels).at) h.joined
    (indefinite_complete (progress_of levels).at h.tag h.rest h.is_tag constructed) (opens_deep (progress_of levels) (length h.tag + 1) (omega (arith, deep, walked_depth levels)))

pub refused_there : (octets rest : List ℕ) (levels : List Level) (reason : Reason) (place : ℕ) → IsWalked octets levels rest → IsWrongThere levels rest reason place → walk (progress_of levels) rest ≡ Err (fault reason place)
refused_there octets rest levels reasons.TagForm place w wrong = refused_header rest levels reasons.TagForm place 0 (omega (arith, wrong.1)) (wrong.0, refl)
refused_there octets rest levels reasons.LengthForm place w wrong = refused_header rest levels reasons.LengthForm place wrong.1 wrong.4 (wrong.0, wrong.2, wrong.3)
refused_there octets rest levels reasons.Indefinite place w wrong = refused_header rest levels reasons.Indefinite place wrong.0 wrong.3 (wrong.1, wrong.2)
refused_there octets rest levels reasons.TooDeep place w wrong =
    refused_deep rest levels wrong.0 wrong.1 wrong.2 wrong.3 ∙ ap (λ (n : ℕ). Err (fault reasons.TooDeep n)) (walked_at levels ∙ sym wrong.4)
refused_there octets rest levels reasons.TooLong place w (inl wrong) = refused_header rest levels reasons.TooLong place 0 (omega (arith, wrong.1)) (wrong.0, refl)
refused_there octets rest levels reasons.TooLong place w (inr wrong) =
    refused_count rest wrong.2.0 wrong.2.1 wrong.2.2 levels wrong.0 wrong.2.3 wrong.2.4 wrong.2.5 ∙ ap (λ (n : ℕ). Err (fault reasons.TooLong n)) (sym wrong.1)
refused_there octets rest levels _ place w wrong = absurd wrong

-- the octets are those walked and those left
pub all_octets : (octets rest : List ℕ) (levels : List Level) → IsWalked octets levels rest → length octets ≡ length (walked levels) + length rest
all_octets octets rest levels w = ap length w.joined ∙ length-append (walked levels) rest

-- a length octet is among the octets
pub octet_within : (octet offset : ℕ) (rest : List ℕ) → HasLengthOctet octet rest offset → offset < length rest
octet_within octet offset rest h = omega (arith, h.place_is, ap length h.joined, length-append h.tag (octet ∷ h.rest))

pub long_tag_within : (rest : List ℕ) → HasLongTag rest → 0 < length rest
long_tag_within rest h = omega (arith, ap length h.joined)

pub long_length_within : (rest tag length_octets behind : List ℕ) → IsTag tag → rest ≡ tag ++ length_octets ++ behind → 0 < length rest
long_length_within rest [] length_octets behind t joined = absurd t
long_length_within rest (first ∷ tag) length_octets behind t joined = omega (arith, ap length joined)

-- open elements have octets
pub some_within : (levels : List Level) → levels ≢ [] → 0 < length (walked levels)
some_within [] some = absurd (some refl)
some_within (level ∷ outer) some = omega (arith, length-append (walked outer) (begun level), begun_length level)

-- the place of a fault is among the octets
pub wrong_within : (octets rest : List ℕ) (levels : List Level) (reason : Reason) (place : ℕ) → IsWalked octets levels rest → IsWrongThere levels rest reason place → place < length octets
wrong_within octets rest levels reasons.TagForm place w wrong = omega (arith, all_octets octets rest levels w, wrong.1, long_tag_within rest wrong.0)
wrong_within octets rest levels reasons.LengthForm place w wrong = omega (arith, all_octets octets rest levels w, wrong.4, octet_within wrong.0 wrong.1 rest wrong.3)
wrong_within octets rest levels reasons.Indefinite place w wrong = omega (arith, all_octets octets rest levels w, wrong.3, octet_within 0x80 wrong.0 rest wrong.1)
wrong_within octets rest levels reasons.TooDeep place w wrong = omega (arith, all_octets octets rest levels w, wrong.4, octet_within 0x80 wrong.0 rest wrong.1)
wrong_within octets rest levels reasons.TooLong place w (inl wrong) =
    let h = wrong.0 in omega (arith, all_octets octets rest levels w, wrong.1, long_length_within rest h.tag h.length_octets h.rest h.is_tag h.joined)
wrong_within octets rest levels reasons.TooLong place w (inr wrong) = omega (arith, all_octets octets rest levels w, wrong.1, some_within levels wrong.0)
wrong_within octets rest levels _ place w wrong = absurd wrong
