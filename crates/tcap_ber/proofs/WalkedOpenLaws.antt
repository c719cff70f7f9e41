-- The elements that are open at each place of a walk.
use Rattle.std.proofs.Common.{◌≡◌, ℕ, zero, suc, ◌+◌, ◌-◌, ◌<◌, ◌≤◌, ◌⊎◌, true, false, List, [], ◌∷◌, ◌++◌, length, take, drop, Some, Ok, refl, sym, ap, subst, ◌∙◌, inl, inr, arith, append_assoc}
use Rattle.std.specs.Prelude.{◌≢◌, ◌==◌}
use Rattle.std.specs.List.{AllByRecursion, concat}
use Rattle.std.proofs.lemmas.List.{drop_at, take-append-drop, length-append, length-take-le, append-nil}
use Rattle.std.proofs.lemmas.List.Folds.{concat-append}
use Rattle.std.proofs.lemmas.Bool.{eqb-true, and_parts}
use Rattle.tcap_ber.specs.declared.header.Header.{Header}
use Rattle.tcap_ber.specs.declared.header.Opening.{Opening}
use Rattle.tcap_ber.specs.declared.header.Opening.TheVariants.{Definite, Indefinite}
use Rattle.tcap_ber.specs.declared.progress.Progress.{Progress}
use Rattle.tcap_ber.specs.Element.{IsTag, IsLength, content_limit, IsConstructed, ending, IsDefinite, IsNested}
use Rattle.tcap_ber.specs.WalkPlaces.{Level, walked, AreOpen, content_walked, IsWalked}
use Rattle.tcap_ber.specs.HeaderReading.{opening_at}
use Rattle.tcap_ber.specs.WalkResult.{is_ending, opened, closed, passed, behind_header, at_first}
use Rattle.tcap_ber.proofs.OpeningLaws.{from, FindsIndefinite, definite_sound, indefinite_sound}
use Rattle.tcap_ber.proofs.HeaderLaws.{FindsHeader}
use Rattle.tcap_ber.proofs.WalkLaws.{Goes, left}
use Rattle.tcap_ber.proofs.ReachLaws.{Reaches, ReachesIn, content_began, content_count, progress_of}
use Rattle.tcap_ber.proofs.WalkedStepLaws.{one_more, place_is, walked_at, walked_depth, Moves, opens_ok, closes_ok, passes_ok, definite_step}

-- ---- the open elements

-- the octets of an open element up to its last item
abbrev pub begun : Level → List ℕ
begun level = level.tag ++ 0x80 ∷ concat level.items

-- an open element with one more item
abbrev pub grow : Level → List ℕ → Level
grow level item = record { tag = level.tag; items = level.items ++ item ∷ [] }

-- an open element with its end-of-contents octets
abbrev pub whole : Level → List ℕ
whole level = level.tag ++ 0x80 ∷ concat level.items ++ ending

pub concat_push : (items : List (List ℕ)) (item : List ℕ) → concat (items ++ item ∷ []) ≡ concat items ++ item
concat_push items item = concat-append items (item ∷ []) ∙ ap (λ (x : List ℕ). concat items ++ x) (append-nil item)

pub all_push : {X : Type 0} (P : X → Type 0) (items : List X) (item : X) → AllByRecursion P items → P item → AllByRecursion P (items ++ item ∷ [])
all_push P [] item a b = (b, tt)
all_push P (first ∷ more) item a b = (a.0, all_push P more item a.1 b)

-- one more item is walked after the others
pub grown_walked : (level : Level) (outer : List Level) (item : List ℕ) → walked (grow level item ∷ outer) ≡ walked (level ∷ outer) ++ item
grown_walked level outer item =
    ap (λ (x : List ℕ). walked outer ++ (level.tag ++ 0x80 ∷ x)) (concat_push level.items item)
    ∙ ap (λ (x : List ℕ). walked outer ++ x) (sym (append_assoc level.tag (0x80 ∷ concat level.items) item))
    ∙ sym (append_assoc (walked outer) (begun level) item)

-- one more item does not move where the outermost content begins
pub grown_began : (level : Level) (outer : List Level) (item : List ℕ) → content_began (grow level item ∷ outer) ≡ content_began (level ∷ outer)
grown_began level [] item = refl
grown_began level (next ∷ outer) item = refl

-- the number of octets walked grows by the item
pub grown_length : (level : Level) (outer : List Level) (item : List ℕ) → length (walked (grow level item ∷ outer)) ≡ length (walked (level ∷ outer)) + length item
grown_length level outer item = ap length (grown_walked level outer item) ∙ length-append (walked (level ∷ outer)) item

-- the outermost content walked grows by the item
pub grown_content : (level : Level) (outer : List Level) (item : List ℕ) → content_walked (grow level item ∷ outer) ≡ content_walked (level ∷ outer) + length item
grown_content level outer item =
    omega (arith, content_count (grow level item ∷ outer), content_count (level ∷ outer), grown_began level outer item, grown_length level outer item)

-- elements stay open with one more item
pub grown_open : (n : ℕ) (level : Level) (outer : List Level) (item : List ℕ) → AreOpen n (level ∷ outer) → ((tag content : List ℕ) × IsNested n tag content item) → item ≢ ending → AreOpen n (grow level item ∷ outer)
grown_open n level outer item o nested other =
    (o.0, o.1, all_push (λ x. ((tag content : List ℕ) × IsNested n tag content x) × (x ≢ ending)) level.items item o.2 (nested, other), o.3)

-- the octets are walked up to the end of one more item
pub grown : (octets behind : List ℕ) (n : ℕ) (level : Level) (outer : List Level) (item : List ℕ) → AreOpen n (level ∷ outer) → ((tag content : List ℕ) × IsNested n tag content item) → item ≢ ending
    → content_walked (level ∷ outer) + length item ≤ content_limit → octets ≡ (walked (level ∷ outer) ++ item) ++ behind → IsWalked octets (grow level item ∷ outer) behind
grown octets behind n level outer item o nested other within joined = record {
  left = n;
  are_open = grown_open n level outer item o nested other;
  is_within = omega (arith, grown_content level outer item, within);
  joined = joined ∙ ap (λ (x : List ℕ). x ++ behind) (sym (grown_walked level outer item));
}

-- the progress after one more item
pub grown_place : (next : Progress) (level : Level) (outer : List Level) (item : List ℕ) → next.at ≡ length (walked (level ∷ outer)) + length item → next.depth ≡ suc (length outer)
    → next.limit ≡ content_began (level ∷ outer) + content_limit → next ≡ progress_of (grow level item ∷ outer)
grown_place next level outer item a b c =
    place_is next (progress_of (grow level item ∷ outer)) (omega (arith, a, grown_length level outer item)) b (omega (arith, c, grown_began level outer item))

-- the octets left after these
pub left_behind : (p next : Progress) (rest front behind : List ℕ) → rest ≡ front ++ behind → next.at ≡ p.at + length front → left p next rest ≡ behind
left_behind p next rest front behind joined at = ap (drop (next.at - p.at)) joined ∙ drop_at front behind (next.at - p.at) (omega (arith, at))

-- an element of definite length at the front
pub record FindsDefinite (rest : List ℕ) (len : ℕ) : Type 0 where
  pub tag : List ℕ
  pub content : List ℕ
  pub item : List ℕ
  pub behind : List ℕ
  pub is_definite : IsDefinite tag content item
  pub joined : rest ≡ item ++ behind
  pub len_is : length item ≡ len

-- a header of definite length with its whole content begins an element
pub finds_definite : (rest : List ℕ) (h : Header) → FindsHeader rest h → h.len + h.content_len ≤ length rest → FindsDefinite rest (h.len + h.content_len)
finds_definite rest h f room =
    let header : List ℕ = f.tag ++ f.length_octets in
    let content : List ℕ = take h.content_len f.rest in
    let here : rest ≡ header ++ f.rest = f.joined ∙ sym (append_assoc f.tag f.length_octets f.rest) in
    let header_len : length header ≡ h.len = omega (arith, length-append f.tag f.length_octets, f.len) in
    let content_len : length content ≡ h.content_len = length-take-le h.content_len f.rest (omega (arith, ap length here, length-append header f.rest, header_len, room)) in
    record {
      tag = f.tag;
      content = content;
      item = header ++ content;
      behind = drop h.content_len f.rest;
      is_definite = record {
        length_octets = f.length_octets;
        is_tag = f.is_tag;
        is_length = subst (λ (n : ℕ). IsLength n f.length_octets) (sym content_len) f.is_length;
        is_within = omega (arith, content_len, f.within);
        joined = refl;
      };
      joined = here ∙ ap (λ (x : List ℕ). header ++ x) (sym (take-append-drop h.content_len f.rest)) ∙ sym (append_assoc header content (drop h.content_len f.rest));
      len_is = omega (arith, length-append header content, header_len, content_len);
    }

-- an element of definite length may be inside any other
pub definite_nested : (n : ℕ) (tag content item : List ℕ) → IsDefinite tag content item → IsNested n tag content item
definite_nested zero tag content item d = d
definite_nested (suc n) tag content item d = inl d

-- the octets left begin with two zero octets
pub ending_there : (rest : List ℕ) → is_ending rest ≡ true → (behind : List ℕ) × (rest ≡ ending ++ behind)
ending_there [] e = absurd cc
ending_there (first ∷ []) e = absurd cc
ending_there (first ∷ second ∷ more) e =
    let b = and_parts (first == 0) (second == 0) e in
    let one : first ∷ second ∷ more ≡ 0 ∷ second ∷ more = ap (λ (x : ℕ). x ∷ second ∷ more) (eqb-true first 0 b.0) in
    (more, one ∙ ap (λ (x : ℕ). 0 ∷ x ∷ more) (eqb-true second 0 b.1))

-- octets that are not end-of-contents octets, by their front
pub not_ending : (rest front behind : List ℕ) → is_ending rest ≡ false → rest ≡ front ++ behind → front ≢ ending
not_ending rest front behind e joined same =
    let there : is_ending rest ≡ true = ap is_ending (joined ∙ ap (λ (x : List ℕ). x ++ behind) same) in absurd cc

-- an element is two octets longer than its open part
pub whole_length : (level : Level) → length (whole level) ≡ length (begun level) + 2
whole_length level = length-append (begun level) ending

-- an open element has octets
pub begun_length : (level : Level) → 1 ≤ length (begun level)
begun_length level = omega (arith, length-append level.tag (0x80 ∷ concat level.items))

-- an element of indefinite length is not end-of-contents octets
pub whole_no_ending : (level : Level) → whole level ≢ ending
whole_no_ending level same = omega (arith, ap length same, whole_length level, begun_length level)

-- closing an open element makes an element of its items
pub whole_nested : (n : ℕ) (level : Level) (outer : List Level) → AreOpen n (level ∷ outer) → length (concat level.items) ≤ content_limit → IsNested (suc n) level.tag (concat level.items) (whole level)
whole_nested n level outer o within = inr (record { items = level.items; is_tag = o.0; is_constructed = o.1; are_items = o.2; content_is = refl; is_within = within; joined = refl })

-- the innermost content is at most the outermost
pub first_content : (level : Level) (outer : List Level) → length (concat level.items) ≤ content_walked (level ∷ outer)
first_content level [] = omega arith
first_content level (next ∷ outer) = omega (arith, length-append level.tag (0x80 ∷ concat level.items))

-- end-of-contents octets make the innermost open element an item
pub closed_length : (level : Level) (outer : List Level) → length (walked (level ∷ outer)) + 2 ≡ length (walked outer) + length (whole level)
closed_length level outer = omega (arith, length-append (walked outer) (begun level), whole_length level)

-- an element with no item yet
abbrev pub fresh : List ℕ → Level
fresh tag = record { tag = tag; items = [] }

-- a step leads to a place with these elements open
pub record Stepped (octets : List ℕ) (levels : List Level) (rest : List ℕ) (next : Progress) : Type 0 where
  pub others : List Level
  pub is_walked : IsWalked octets others (left (progress_of levels) next rest)
  pub next_is : next ≡ progress_of others

-- the octets are walked up to the end of a header of indefinite length
pub fresh_walked : (octets behind tag : List ℕ) (m : ℕ) (levels : List Level) → AreOpen (suc m) levels → IsTag tag → IsConstructed tag → content_walked (fresh tag ∷ levels) ≤ content_limit
    → octets ≡ walked levels ++ (tag ++ 0x80 ∷ behind) → IsWalked octets (fresh tag ∷ levels) behind
fresh_walked octets behind tag m levels o is_tag is_constructed within joined = record {
  left = m;
  are_open = (is_tag, is_constructed, tt, o);
  is_within = within;
  joined = joined ∙ ap (λ (x : List ℕ). walked levels ++ x) (sym (append_assoc tag (0x80 ∷ []) behind)) ∙ sym (append_assoc (walked levels) (tag ++ 0x80 ∷ []) behind);
}

-- the number of octets walked grows by the header
pub fresh_length : (tag : List ℕ) (levels : List Level) → length (walked (fresh tag ∷ levels)) ≡ length (walked levels) + (length tag + 1)
fresh_length tag levels = omega (arith, length-append (walked levels) (tag ++ 0x80 ∷ []), length-append tag (0x80 ∷ []))

-- the progress after the header, whose content is within the limit
pub fresh_place : (tag : List ℕ) (levels : List Level) (next : Progress)
    → (((progress_of levels).depth ≡ 0) × (record { at = (progress_of levels).at + (length tag + 1); depth = 1; limit = (progress_of levels).at + (length tag + 1) + content_limit } ≡ next))
    ⊎ (((progress_of levels).depth ≢ 0) × Moves (progress_of levels) (length tag + 1) ((progress_of levels).depth + 1) next)
    → (next ≡ progress_of (fresh tag ∷ levels)) × (content_walked (fresh tag ∷ levels) ≤ content_limit)
fresh_place tag [] next (inl k) = (sym k.1 ∙ place_is _ (progress_of (fresh tag ∷ [])) (omega (arith, fresh_length tag [])) refl (omega arith), omega arith)
fresh_place tag [] next (inr k) = absurd (k.0 refl)
fresh_place tag (level ∷ outer) next (inl k) = absurd (omega (arith, k.0))
fresh_place tag (level ∷ outer) next (inr k) =
    let l = fresh_length tag (level ∷ outer) in (
      place_is next (progress_of (fresh tag ∷ level ∷ outer)) (omega (arith, k.1.at_is, l)) (omega (arith, k.1.depth_is)) k.1.limit_is,
      omega (arith, k.1.at_is, k.1.within, l, content_count (level ∷ outer), content_count (fresh tag ∷ level ∷ outer)),
    )

-- a step over a header of indefinite length
pub step_opened : (octets rest : List ℕ) (tag : ℕ) (levels : List Level) (next : Progress) → IsWalked octets levels rest → FindsIndefinite rest tag → opened (progress_of levels) (tag + 1) ≡ Ok next → Stepped octets levels rest next
step_opened octets rest tag levels next w f e =
    let o = opens_ok (progress_of levels) next (length f.tag + 1) (rw (← f.count_is) e) in
    let at = fresh_place f.tag levels next o.1 in
    let more = one_more w.left levels w.are_open (omega (arith, o.0, walked_depth levels)) in
    let front : rest ≡ (f.tag ++ 0x80 ∷ []) ++ f.rest = f.joined ∙ sym (append_assoc f.tag (0x80 ∷ []) f.rest) in
    let behind : left (progress_of levels) next rest ≡ f.rest = left_behind (progress_of levels) next rest (f.tag ++ 0x80 ∷ []) f.rest front
    (omega (arith, ap (λ (q : Progress). q.at) at.0, fresh_length f.tag levels, walked_at levels, length-append f.tag (0x80 ∷ []))) in
    record {
      others = fresh f.tag ∷ levels;
      is_walked = subst (IsWalked octets (fresh f.tag ∷ levels)) (sym behind) (fresh_walked octets f.rest f.tag more.0 levels more.1 f.is_tag f.is_constructed at.1 (w.joined ∙ ap (λ (x : List ℕ). walked levels ++ x) f.joined));
      next_is = at.0;
    }

-- a step over end-of-contents octets of an inner element
pub step_closed : (octets rest : List ℕ) (levels : List Level) (next : Progress) → IsWalked octets levels rest → 0 < next.depth → is_ending rest ≡ true → closed (progress_of levels) ≡ Ok next → Stepped octets levels rest next
step_closed octets rest [] next w inside ends e =
    elim (closes_ok at_first next e) [
      | inl k ↦ absurd (omega (arith, k.0))
      | inr k ↦ absurd (omega (arith, k.1.depth_is, inside))
    ]
step_closed octets rest (level ∷ []) next w inside ends e =
    elim (closes_ok (progress_of (level ∷ [])) next e) [
      | inl k ↦ absurd (omega (arith, ap (λ (q : Progress). q.depth) k.1, inside))
      | inr k ↦ absurd (k.0 refl)
    ]
step_closed octets rest (level ∷ within ∷ outer) next w inside ends e =
    elim (closes_ok (progress_of (level ∷ within ∷ outer)) next e) [
      | inl k ↦ absurd (omega (arith, k.0))
      | inr k ↦
          let o = w.are_open in
          let behind = ending_there rest ends in
          let all = content_count (level ∷ within ∷ outer) in
          let len = closed_length level (within ∷ outer) in
          let room : content_walked (within ∷ outer) + length (whole level) ≤ content_limit = omega (arith, k.1.at_is, k.1.within, len, content_count (within ∷ outer)) in
          let nested = whole_nested w.left level (within ∷ outer) o (omega (arith, first_content level (within ∷ outer), w.is_within)) in
          let joined = w.joined ∙ ap (λ (x : List ℕ). walked (level ∷ within ∷ outer) ++ x) behind.1 ∙ sym (append_assoc (walked (level ∷ within ∷ outer)) ending behind.0)
          ∙ ap (λ (x : List ℕ). x ++ behind.0) (append_assoc (walked (within ∷ outer)) (begun level) ending) in
          let left_is : left (progress_of (level ∷ within ∷ outer)) next rest ≡ behind.0 = left_behind (progress_of (level ∷ within ∷ outer)) next rest ending behind.0 behind.1 k.1.at_is in
          record {
            others = grow within (whole level) ∷ outer;
            is_walked = subst (IsWalked octets (grow within (whole level) ∷ outer)) (sym left_is)
                (grown octets behind.0 (suc w.left) within outer (whole level) o.3 (level.tag, concat level.items, nested) (whole_no_ending level) room joined);
            next_is = grown_place next within outer (whole level) (omega (arith, k.1.at_is, len)) (omega (arith, k.1.depth_is)) k.1.limit_is;
          }
    ]

-- a step over an element of definite length inside another
pub step_passed : (octets rest : List ℕ) (levels : List Level) (next : Progress) (h : Header) → IsWalked octets levels rest → 0 < next.depth → next.at - (progress_of levels).at ≤ length rest → FindsHeader rest h
    → (0 < (progress_of levels).depth → is_ending rest ≡ false) → passed (progress_of levels) (h.len + h.content_len) ≡ Ok next → Stepped octets levels rest next
step_passed octets rest [] next h w inside room f other e =
    elim (passes_ok at_first next (h.len + h.content_len) e) [
      | inl k ↦ absurd (omega (arith, ap (λ (q : Progress). q.depth) k.1, inside))
      | inr k ↦ absurd (k.0 refl)
    ]
step_passed octets rest (level ∷ outer) next h w inside room f other e =
    elim (passes_ok (progress_of (level ∷ outer)) next (h.len + h.content_len) e) [
      | inl k ↦ absurd (omega (arith, k.0))
      | inr k ↦
          let d = finds_definite rest h f (omega (arith, k.1.at_is, room)) in
          let within : content_walked (level ∷ outer) + length d.item ≤ content_limit = omega (arith, k.1.at_is, k.1.within, d.len_is, content_count (level ∷ outer)) in
          let joined = w.joined ∙ ap (λ (x : List ℕ). walked (level ∷ outer) ++ x) d.joined ∙ sym (append_assoc (walked (level ∷ outer)) d.item d.behind) in
          let no_end = not_ending rest d.item d.behind (other (omega arith)) d.joined in
          let at : next.at ≡ length (walked (level ∷ outer)) + length d.item = omega (arith, k.1.at_is, d.len_is) in
          let left_is : left (progress_of (level ∷ outer)) next rest ≡ d.behind = left_behind (progress_of (level ∷ outer)) next rest d.item d.behind d.joined at in
          record {
            others = grow level d.item ∷ outer;
            is_walked = subst (IsWalked octets (grow level d.item ∷ outer)) (sym left_is)
                (grown octets d.behind w.left level outer d.item w.are_open (d.tag, d.content, definite_nested w.left d.tag d.content d.item d.is_definite) no_end within joined);
            next_is = grown_place next level outer d.item at k.1.depth_is k.1.limit_is;
          }
    ]

pub steps : (octets rest : List ℕ) (levels : List Level) (next : Progress) → IsWalked octets levels rest → Goes (progress_of levels) rest next → Stepped octets levels rest next
steps octets rest levels next w g = by_opening g.opening g.read g.behind
  where
    by_opening : (opening : Opening) → opening_at (from (progress_of levels).at rest) ≡ Ok (Some opening) → behind_header (progress_of levels) rest opening ≡ Ok next → Stepped octets levels rest next
    by_opening (Indefinite tag) read behind = step_opened octets rest tag levels next w (indefinite_sound (progress_of levels).at rest tag read) behind
    by_opening (Definite h) read behind =
        elim (definite_step (progress_of levels) rest h (Ok next) behind) [
          | inl k ↦ step_closed octets rest levels next w g.inside k.1 k.2
          | inr k ↦ step_passed octets rest levels next h w g.inside g.room (definite_sound (progress_of levels).at rest h read) k.0 k.1
        ]

-- the progress at a place with these elements open
pub record StandsAt (octets : List ℕ) (q : Progress) (rest : List ℕ) : Type 0 where
  pub levels : List Level
  pub is_walked : IsWalked octets levels rest
  pub place_is : q ≡ progress_of levels

pub stands : (octets rest behind : List ℕ) (levels : List Level) (q : Progress) → IsWalked octets levels rest → Reaches (progress_of levels) rest q behind → StandsAt octets q behind
stands octets rest behind levels q w r = by_steps r.0 rest levels w r.1
  where
    by_steps : (n : ℕ) (rest : List ℕ) (levels : List Level) → IsWalked octets levels rest → ReachesIn n (progress_of levels) rest q behind → StandsAt octets q behind
    by_steps zero rest levels w r = record { levels = levels; is_walked = subst (IsWalked octets levels) r.1 w; place_is = sym r.0 }
    by_steps (suc n) rest levels w r =
        let s = steps octets rest levels r.0 w r.1 in
        by_steps n (left (progress_of levels) r.0 rest) s.others s.is_walked (subst (λ (x : Progress). ReachesIn n x (left (progress_of levels) r.0 rest) q behind) s.next_is r.2)
