-- Places and the halves that they lead to: changing one place, and indexes after a half is put.
use Rattle.std.proofs.Common.{◌≡◌, ◌≢◌, ℕ, cond, List, [], ◌∷◌, Option, Some, ◌⊎◌, inl, inr, refl, sym, ap, subst, ◌∙◌}
use Rattle.std.specs.declared.cmp.Ordering.{Ordering}
use Rattle.std.specs.declared.cmp.Ordering.TheVariants.{Less, Equal, Greater}
use Rattle.std.specs.List.Sorted.{IsStrictlySortedBy}
use Rattle.std.specs.BTreeMap.{BTreeMap, insert_entry}
use Rattle.std.specs.Ordering.{is_eq, match_ordering}
use Rattle.std.proofs.lemmas.Map.Lookups.{exact_bytes}
use Rattle.slab.specs.Slab.{Slab, get}
use Rattle.tcap_end.specs.declared.half.Slot.{Slot}
use Rattle.tcap_end.specs.declared.half.Slot.TheVariants.{Begun, Accepted}
use Rattle.tcap_end.specs.declared.half_state.HalfState.{HalfState}
use Rattle.tcap_end.specs.declared.halves.Halves.{Halves}
use Rattle.tcap_end.specs.declared.halves.Place.{Place}
use Rattle.tcap_end.specs.declared.halves.Place.TheVariants.{Open}
use Rattle.tcap_end.specs.Table.{octets_cmp}
use Rattle.tcap_end.specs.Half.{Half}
use Rattle.tcap_end.specs.HalfState.{half_of}
use Rattle.tcap_end.specs.End.{End, put}
use Rattle.tcap_end.specs.ReachableEnd.{HasHalf, IsHalfKey, Rises, halves_of}
use Rattle.tcap_end.specs.Halves.{Indexes, IsAt, IsHeld, IsOpen, end_of, half_at, half_in, halves_at, places_of, keyed_half}
use Rattle.tcap_lists.proofs.MapLaws.{behind_first, below_first, found_first, found_inserted, found_later, found_new, found_other, keys_eq, kept_at, tied}
use Rattle.tcap_end.proofs.FoundLaws.{octets_total}
use Rattle.tcap_end.proofs.FindLaws.{had_there, has_there}

-- Two slots are equal or not.
pub slots_eq : (a b : Slot) → (a ≡ b) ⊎ (a ≢ b)
slots_eq Begun Begun = inl refl
slots_eq Begun Accepted = inr (λ is. cc)
slots_eq Accepted Begun = inr (λ is. cc)
slots_eq Accepted Accepted = inl refl

-- ---- the halves at places

-- The places have the same halves in two slabs.
pub halves_same : (s t : Slab HalfState) (slot : Slot) (es : List (List ℕ × Place)) → Rises octets_cmp es
    → ((q : List ℕ) (p : Place) → kept_at octets_cmp es q ≡ Some p → half_at t slot q p ≡ half_at s slot q p)
    → halves_at t slot es ≡ halves_at s slot es
unfolding IsStrictlySortedBy
halves_same s t slot [] rises same = refl
halves_same s t slot (e ∷ es) rises same =
    let more = halves_same s t slot es rises.1 (λ q p found. same q p (found_later octets_total e es q p rises found)) in
    ap (λ h. (e.0, h) ∷ halves_at t slot es) (same e.0 e.1 (found_first octets_total e es))
    ∙ ap (λ hs. (e.0, half_at s slot e.0 e.1) ∷ hs) more

-- One place changes, and the others keep their halves.
pub halves_put : (s t : Slab HalfState) (slot : Slot) (key : List ℕ) (old place : Place) (es : List (List ℕ × Place))
    → Rises octets_cmp es → kept_at octets_cmp es key ≡ Some old
    → ((q : List ℕ) (p : Place) → q ≢ key → kept_at octets_cmp es q ≡ Some p → half_at t slot q p ≡ half_at s slot q p)
    → halves_at t slot (insert_entry octets_cmp es key place)
    ≡ insert_entry octets_cmp (halves_at s slot es) key (half_at t slot key place)
unfolding IsStrictlySortedBy
halves_put s t slot key old place [] rises there same = cc
halves_put s t slot key old place (e ∷ es) rises there same =
    by (octets_cmp key e.0) refl there
    (λ found. halves_put s t slot key old place es rises.1 found (λ q p apart more. same q p apart (later q p more)))
  where
    later : (q : List ℕ) (p : Place) → kept_at octets_cmp es q ≡ Some p → kept_at octets_cmp (e ∷ es) q ≡ Some p
    later q p found = found_later octets_total e es q p rises found

    behind : (q : List ℕ) (p : Place) → kept_at octets_cmp es q ≡ Some p → q ≢ e.0
    behind q p found is =
        let other = behind_first octets_total q e es p rises found in
        let yes = tied octets_total q e.0 is in cc

    first_apart : octets_cmp key e.0 ≡ Greater → e.0 ≢ key
    first_apart is same_key = let yes = sym (ap is_eq is) ∙ tied octets_total key e.0 (sym same_key) in cc

    by : (r : Ordering) → octets_cmp key e.0 ≡ r → cond (is_eq r) (Some e.1) (kept_at octets_cmp es key) ≡ Some old
        → (kept_at octets_cmp es key ≡ Some old → halves_at t slot (insert_entry octets_cmp es key place)
        ≡ insert_entry octets_cmp (halves_at s slot es) key (half_at t slot key place))
        → halves_at t slot (match_ordering r ((key, place) ∷ e ∷ es) ((e.0, place) ∷ es) (e ∷ insert_entry octets_cmp es key place))
        ≡ match_ordering r ((key, half_at t slot key place) ∷ (e.0, half_at s slot e.0 e.1) ∷ halves_at s slot es)
        ((e.0, half_at t slot key place) ∷ halves_at s slot es)
        ((e.0, half_at s slot e.0 e.1) ∷ insert_entry octets_cmp (halves_at s slot es) key (half_at t slot key place))
    by Less is found rest = below_first octets_total key e es old rises is found
    by Equal is found rest =
        let key_is : key ≡ e.0 = exact_bytes key e.0 is in
        ap (λ q. (e.0, half_at t slot q place) ∷ halves_at t slot es) (sym key_is)
        ∙ ap (λ hs. (e.0, half_at t slot key place) ∷ hs)
        (halves_same s t slot es rises.1 (λ q p more. same q p (λ q_is. behind q p more (q_is ∙ key_is)) (later q p more)))
    by Greater is found rest =
        ap (λ h. (e.0, h) ∷ halves_at t slot (insert_entry octets_cmp es key place))
        (same e.0 e.1 (first_apart is) (found_first octets_total e es))
        ∙ ap (λ hs. (e.0, half_at s slot e.0 e.1) ∷ hs) (rest found)

-- ---- a stored end

pub halves_placed : (s : Halves) (slot : Slot) → halves_of slot (end_of s) ≡ halves_at s.slab slot (places_of slot s)
halves_placed s Begun = refl
halves_placed s Accepted = refl

pub places_rise : (s : Halves) (slot : Slot) → IsHeld s → Rises octets_cmp (places_of slot s)
places_rise s Begun held = held.begun
places_rise s Accepted held = held.accepted

-- The places do not depend on the slab.
pub over_slab : (s : Halves) (t : Slab HalfState) (slot : Slot) → places_of slot (record s { slab = t }) ≡ places_of slot s
over_slab s t Begun = refl
over_slab s t Accepted = refl

-- equal maps have equal entries
pub entries_are : {a b : BTreeMap (List ℕ) Place} → a ≡ b → a.entries ≡ b.entries
entries_are is = ap (λ (places : BTreeMap (List ℕ) Place). places.entries) is

-- The places of the other slot do not change.
pub elsewhere : (s next : Halves) (slot : Slot)
    → (slot ≢ Begun → next.begun ≡ s.begun) → (slot ≢ Accepted → next.accepted ≡ s.accepted)
    → (other : Slot) → other ≢ slot → places_of other next ≡ places_of other s
elsewhere s next slot begun accepted Begun apart = entries_are (begun (λ is. apart (sym is)))
elsewhere s next slot begun accepted Accepted apart = entries_are (accepted (λ is. apart (sym is)))

-- the half under a number
pub the_open : (s : Halves) (slot : Slot) (key : List ℕ) (k : ℕ) (h : Half) (was : HalfState) → IsAt slot key (Open k) s
    → get s.slab k ≡ Some was → HasHalf (end_of s) (keyed_half slot key h) → h ≡ half_of was
the_open s slot key k h was is under had = had_there s slot key (Open k) h is had ∙ ap half_in under

pub has_open : (s : Halves) (slot : Slot) (key : List ℕ) (k : ℕ) (was : HalfState) → IsAt slot key (Open k) s
    → get s.slab k ≡ Some was → HasHalf (end_of s) (keyed_half slot key (half_of was))
has_open s slot key k was is under =
    subst (λ (o : Option HalfState). HasHalf (end_of s) (keyed_half slot key (half_in o))) under (has_there s slot key (Open k) is)

-- The half is kept by its ID.
pub kept_by : (s : Halves) (slot : Slot) (key : List ℕ) (k : ℕ) (h : HalfState) → IsHeld s → IsAt slot key (Open k) s
    → get s.slab k ≡ Some h → IsHalfKey slot key (half_of h)
kept_by s slot key k h held is was = by (held.places slot key k is)
  where
    by : IsOpen slot key k s → IsHalfKey slot key (half_of h)
    by there = let same : there.0 ≡ h = cc in subst (λ (x : HalfState). IsHalfKey slot key (half_of x)) same there.4

one_key : (slot : Slot) (key q : List ℕ) (h : Half) → IsHalfKey slot key h → IsHalfKey slot q h → q ≡ key
one_key Begun key q h kept too = cc
one_key Accepted key q h kept too = cc

one_open : (s : Halves) (slot other : Slot) (key q : List ℕ) (k : ℕ) → IsOpen slot key k s → IsOpen other q k s
    → (other ≡ slot) × (q ≡ key)
one_open s slot other key q k first second =
    let same : second.0 ≡ first.0 = cc in
    let slots : other ≡ slot = sym second.2 ∙ ap (λ (h : HalfState). h.slot) same ∙ first.2 in
    let kept = subst (λ (h : HalfState). IsHalfKey other q (half_of h)) same second.4 in
    (slots, one_key slot key q (half_of first.0) first.4 (subst (λ (x : Slot). IsHalfKey x q (half_of first.0)) slots kept))

-- A number has only one place.
pub one_place : (s : Halves) (slot other : Slot) (key q : List ℕ) (k : ℕ) → IsHeld s → IsAt slot key (Open k) s
    → IsAt other q (Open k) s → (other ≡ slot) × (q ≡ key)
one_place s slot other key q k held is too = one_open s slot other key q k (held.places slot key k is) (held.places other q k too)

-- ---- putting a half

-- an end that differs in one half
pub put_is : (slot : Slot) (key : List ℕ) (g : Half) (e next : End) → halves_of slot next ≡ insert_entry octets_cmp (halves_of slot e) key g
    → ((other : Slot) → other ≢ slot → halves_of other next ≡ halves_of other e) → next ≡ put e slot key g
put_is Begun key g e next here there =
    ap (λ es. record next { begun = es }) here
    ∙ ap (λ es. record next { begun = insert_entry octets_cmp e.begun key g; accepted = es }) (there Accepted (λ is. cc))
put_is Accepted key g e next here there =
    ap (λ es. record next { accepted = es }) here
    ∙ ap (λ es. record next { begun = es; accepted = insert_entry octets_cmp e.accepted key g }) (there Begun (λ is. cc))

-- Each half with an ID has a counterpart in the other end, with the same ID.
abbrev Alike : Slot → (Half → Option (List ℕ)) → End → End → Type 0
Alike place of e next = (q : List ℕ) (x : Half) → HasHalf e (keyed_half place q x) → (y : Half) × HasHalf next (keyed_half place q y) × (of y ≡ of x)

alike_put : (of : Half → Option (List ℕ)) (es : List (List ℕ × Half)) (key : List ℕ) (h g : Half)
    → kept_at octets_cmp es key ≡ Some h → of g ≡ of h → (q : List ℕ) (x : Half) → kept_at octets_cmp es q ≡ Some x
    → (y : Half) × (kept_at octets_cmp (insert_entry octets_cmp es key g) q ≡ Some y) × (of y ≡ of x)
alike_put of es key h g had same q x found = by (keys_eq octets_total exact_bytes q key)
  where
    by : (q ≡ key) ⊎ (q ≢ key) → (y : Half) × (kept_at octets_cmp (insert_entry octets_cmp es key g) q ≡ Some y) × (of y ≡ of x)
    by (inl is) =
        let there : kept_at octets_cmp es key ≡ Some x = subst (λ (k : List ℕ). kept_at octets_cmp es k ≡ Some x) is found in
        let halves : h ≡ x = cc in
        let new = found_new octets_total key g es in
        (g, subst (λ (k : List ℕ). kept_at octets_cmp (insert_entry octets_cmp es key g) k ≡ Some g) (sym is) new, same ∙ ap of halves)
    by (inr apart) = (x, found_other octets_total exact_bytes q key g x es apart found, refl)

alike_back : (of : Half → Option (List ℕ)) (es : List (List ℕ × Half)) (key : List ℕ) (h g : Half)
    → kept_at octets_cmp es key ≡ Some h → of g ≡ of h → (q : List ℕ) (x : Half)
    → kept_at octets_cmp (insert_entry octets_cmp es key g) q ≡ Some x
    → (y : Half) × (kept_at octets_cmp es q ≡ Some y) × (of y ≡ of x)
alike_back of es key h g had same q x found = by (found_inserted octets_total exact_bytes q key g x es found)
  where
    by : ((q ≡ key) × (x ≡ g)) ⊎ (kept_at octets_cmp es q ≡ Some x) → (y : Half) × (kept_at octets_cmp es q ≡ Some y) × (of y ≡ of x)
    by (inl new) =
        (h, subst (λ (k : List ℕ). kept_at octets_cmp es k ≡ Some h) (sym new.0) had, sym same ∙ ap of (sym new.1))
    by (inr old) = (x, old, refl)

put_alike : (of : Half → Option (List ℕ)) (e : End) (slot place : Slot) (key : List ℕ) (h g : Half)
    → HasHalf e (keyed_half slot key h) → of g ≡ of h → Alike place of e (put e slot key g)
put_alike of e Begun Begun key h g had same q x found = alike_put of e.begun key h g had same q x found
put_alike of e Begun Accepted key h g had same q x found = (x, found, refl)
put_alike of e Accepted Begun key h g had same q x found = (x, found, refl)
put_alike of e Accepted Accepted key h g had same q x found = alike_put of e.accepted key h g had same q x found

alike_before : (of : Half → Option (List ℕ)) (e : End) (slot place : Slot) (key : List ℕ) (h g : Half)
    → HasHalf e (keyed_half slot key h) → of g ≡ of h → Alike place of (put e slot key g) e
alike_before of e Begun Begun key h g had same q x found = alike_back of e.begun key h g had same q x found
alike_before of e Begun Accepted key h g had same q x found = (x, found, refl)
alike_before of e Accepted Begun key h g had same q x found = (x, found, refl)
alike_before of e Accepted Accepted key h g had same q x found = alike_back of e.accepted key h g had same q x found

-- The index is exact after a half is put that has the ID of the half in its place.
pub indexes_put : (of : Half → Option (List ℕ)) (index : List (List ℕ × List ℕ)) (e : End) (slot place : Slot) (key : List ℕ) (h g : Half)
    → HasHalf e (keyed_half slot key h) → of g ≡ of h → Indexes index place of e → Indexes index place of (put e slot key g)
indexes_put of index e slot place key h g had same serves id q = (
  λ found.
      let was = (serves id q).0 found in
      let now = put_alike of e slot place key h g had same q was.0 was.1 in
      (now.0, now.1, now.2 ∙ was.2),
  λ now.
      let was = alike_before of e slot place key h g had same q now.0 now.1 in
      (serves id q).1 (was.0, was.1, was.2 ∙ now.2),
)
