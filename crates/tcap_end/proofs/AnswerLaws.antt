-- An open half gets its second ID and an index entry for it; the stored end is still sound.
use Rattle.std.proofs.Common.{◌≡◌, ◌≢◌, ℕ, false, cond, List, [], ◌∷◌, Option, Some, None, Result, Ok, Err, OnOk, ◌⊎◌, inl, inr, refl, sym, ap, subst, ◌∙◌}
use Rattle.std.specs.declared.cmp.Ordering.{Ordering}
use Rattle.std.specs.declared.cmp.Ordering.TheVariants.{Less, Equal, Greater}
use Rattle.std.specs.Result.{is_err}
use Rattle.std.specs.Map.{remove_entry}
use Rattle.std.specs.BTreeMap.{BTreeMap, insert_entry, is_at}
use Rattle.std.specs.Ordering.{is_eq, match_ordering}
use Rattle.std.proofs.lemmas.Bool.{cases_eq}
use Rattle.std.proofs.lemmas.Cmp.{tied_itself}
use Rattle.std.proofs.lemmas.Map.Lookups.{exact_bytes}
use Rattle.slab.specs.Slab.{Slab, Updates, get, with_value}
use Rattle.slab.proofs.SlabLemmas.{Updates-with_value}
use Rattle.tcap_parts.specs.declared.component.Component.{Component}
use Rattle.tcap_end.specs.declared.half.Slot.{Slot}
use Rattle.tcap_end.specs.declared.half.Slot.TheVariants.{Begun, Accepted}
use Rattle.tcap_end.specs.declared.half_components.Direction.{Direction}
use Rattle.tcap_end.specs.declared.half_components.Direction.TheVariants.{Out, In}
use Rattle.tcap_end.specs.declared.half_state.HalfState.{HalfState}
use Rattle.tcap_end.specs.declared.halves.Halves.{Halves}
use Rattle.tcap_end.specs.declared.halves.Place.{Place}
use Rattle.tcap_end.specs.declared.halves.Place.TheVariants.{Open}
use Rattle.tcap_end.specs.Table.{Table, octets_cmp}
use Rattle.tcap_end.specs.Half.{Half, is_closed}
use Rattle.tcap_end.specs.HalfState.{half_of, other_id}
use Rattle.tcap_end.specs.Message.{active_half, receive_components}
use Rattle.tcap_end.specs.ComponentSteps.{components_by}
use Rattle.tcap_end.specs.End.{End, KeyedHalf, put}
use Rattle.tcap_end.specs.ReachableEnd.{HasHalf, IsHalfKey, halves_of}
use Rattle.tcap_end.specs.Halves.{AllPlaced, Indexes, IsAt, IsHeld, IsOpen, end_of, index_of, keyed_half, places_of}
use Rattle.tcap_lists.proofs.MapLaws.{found_inserted, found_new, found_other, kept_at}
use Rattle.tcap_end.proofs.FoundLaws.{octets_total}
use Rattle.tcap_end.proofs.HalfLaws.{Follows}
use Rattle.tcap_end.proofs.AnsweringLaws.{ok_same}
use Rattle.tcap_end.proofs.ComponentLaws.{all_receives, all_sends}
use Rattle.tcap_end.proofs.WayLaws.{receives_in, sends_out}
use Rattle.tcap_end.proofs.PlacedLaws.{entries_are, has_open, indexes_put, kept_by, one_place, over_slab, slots_eq}
use Rattle.tcap_end.proofs.ChangeLaws.{end_on, going_on}
use Rattle.tcap_end.proofs.AllPlacedLaws.{placed_same}

-- ---- results and entries

-- what holds if the result is Ok
pub on_ok : {T E P : Type 0} (r : Result T E) → is_err r ≡ false → OnOk r P → P
on_ok (Ok _) is holds = holds
on_ok (Err _) is holds = cc

-- Removing an entry undoes inserting it at a new key.
pub taken_out : {A : Type 0} (k : List ℕ) (v : A) (es : List (List ℕ × A)) → kept_at octets_cmp es k ≡ None
    → remove_entry (is_at (octets_cmp k)) (insert_entry octets_cmp es k v) ≡ es
taken_out k v [] none = ap (λ r. cond (is_eq r) [] ((k, v) ∷ [])) (tied_itself octets_total k)
taken_out k v (e ∷ es) none = by (octets_cmp k e.0) refl none (taken_out k v es)
  where
    by : (r : Ordering) → octets_cmp k e.0 ≡ r → cond (is_eq r) (Some e.1) (kept_at octets_cmp es k) ≡ None
        → (kept_at octets_cmp es k ≡ None → remove_entry (is_at (octets_cmp k)) (insert_entry octets_cmp es k v) ≡ es)
        → remove_entry (is_at (octets_cmp k)) (match_ordering r ((k, v) ∷ e ∷ es) ((e.0, v) ∷ es) (e ∷ insert_entry octets_cmp es k v))
        ≡ e ∷ es
    by Less is none rest =
        ap (λ r. cond (is_eq r) (e ∷ es) ((k, v) ∷ remove_entry (is_at (octets_cmp k)) (e ∷ es))) (tied_itself octets_total k)
    by Equal is none rest = cc
    by Greater is none rest =
        let more = insert_entry octets_cmp es k v in
        ap (λ r. cond (is_eq r) more (e ∷ remove_entry (is_at (octets_cmp k)) more)) is ∙ ap (λ left. e ∷ left) (rest none)

-- ---- an index

-- An index has no entry for an ID that no half has.
pub not_led : (of : Half → Option (List ℕ)) (index : List (List ℕ × List ℕ)) (e : End) (slot : Slot) (id : List ℕ)
    → ((f : KeyedHalf) → HasHalf e f → of f.half ≢ Some id) → Indexes index slot of e → kept_at octets_cmp index id ≡ None
not_led of index e slot id unused serves = by (kept_at octets_cmp index id) refl
  where
    by : (o : Option (List ℕ)) → kept_at octets_cmp index id ≡ o → kept_at octets_cmp index id ≡ None
    by None is = is
    by (Some key) is = let it = (serves id key).0 is in absurd (unused (keyed_half slot key it.0) it.1 it.2)

put_here : (e : End) (slot : Slot) (key : List ℕ) (g : Half)
    → halves_of slot (put e slot key g) ≡ insert_entry octets_cmp (halves_of slot e) key g
put_here e Begun key g = refl
put_here e Accepted key g = refl

module _ (of : Half → Option (List ℕ)) (index : List (List ℕ × List ℕ)) (e : End) (slot : Slot) (key id : List ℕ) (h g : Half)
    (had : HasHalf e (keyed_half slot key h)) (unknown : of h ≡ None) (gained : of g ≡ Some id)
    (unused : (f : KeyedHalf) → HasHalf e f → of f.half ≢ Some id) (serves : Indexes index slot of e) where
  -- A half with that ID is kept there.
  abbrev Leads : List ℕ → List ℕ → Type 0
  Leads q p = (x : Half) × HasHalf (put e slot key g) (keyed_half slot p x) × (of x ≡ Some q)

  stays : (q p : List ℕ) (x : Half) → HasHalf e (keyed_half slot p x) → of x ≡ Some q → HasHalf (put e slot key g) (keyed_half slot p x)
  stays q p x there its =
      subst (λ (hs : List (List ℕ × Half)). kept_at octets_cmp hs p ≡ Some x) (sym (put_here e slot key g))
      (found_other octets_total exact_bytes p key g x (halves_of slot e) apart there)
    where
      apart : p ≢ key
      apart is =
          let same = subst (λ (y : List ℕ). HasHalf e (keyed_half slot y x)) is there in
          let halves : x ≡ h = cc in
          let bad = sym its ∙ ap of halves ∙ unknown in cc

  leads : (q p : List ℕ) → kept_at octets_cmp (insert_entry octets_cmp index id key) q ≡ Some p → Leads q p
  leads q p found = by (found_inserted octets_total exact_bytes q id key p index found)
    where
      here : HasHalf (put e slot key g) (keyed_half slot key g)
      here = subst (λ (hs : List (List ℕ × Half)). kept_at octets_cmp hs key ≡ Some g) (sym (put_here e slot key g))
          (found_new octets_total key g (halves_of slot e))

      by : ((q ≡ id) × (p ≡ key)) ⊎ (kept_at octets_cmp index q ≡ Some p) → Leads q p
      by (inl new) =
          (g, subst (λ (y : List ℕ). HasHalf (put e slot key g) (keyed_half slot y g)) (sym new.1) here, gained ∙ ap Some (sym new.0))
      by (inr was) = let it = (serves q p).0 was in (it.0, stays q p it.0 it.1 it.2, it.2)

  led : (q p : List ℕ) → Leads q p → kept_at octets_cmp (insert_entry octets_cmp index id key) q ≡ Some p
  led q p there =
      by (found_inserted octets_total exact_bytes p key g there.0 (halves_of slot e)
      (subst (λ (hs : List (List ℕ × Half)). kept_at octets_cmp hs p ≡ Some there.0) (put_here e slot key g) there.1))
    where
      by : ((p ≡ key) × (there.0 ≡ g)) ⊎ (kept_at octets_cmp (halves_of slot e) p ≡ Some there.0)
          → kept_at octets_cmp (insert_entry octets_cmp index id key) q ≡ Some p
      by (inl new) =
          let both = sym there.2 ∙ ap of new.1 ∙ gained in
          let ids : q ≡ id = cc in
          subst (λ (y : List ℕ). kept_at octets_cmp (insert_entry octets_cmp index id key) y ≡ Some p) (sym ids)
          (found_new octets_total id key index ∙ ap Some (sym new.0))
      by (inr was) =
          found_other octets_total exact_bytes q id key p index (λ is. unused (keyed_half slot p there.0) was (there.2 ∙ ap Some is))
          ((serves q p).1 (there.0, was, there.2))

  -- With an entry for the new ID, the index is exact after the half is put.
  index_gains : Indexes (insert_entry octets_cmp index id key) slot of (put e slot key g)
  index_gains q p = (leads q p, led q p)

-- ---- components

-- Components change neither the phase, the IDs nor the dialogue state.
pub steps_follow : (way : Direction) (table : Table) (components : List Component) (h g : Half) → components_by way table h components ≡ Ok g
    → Follows h g
steps_follow Out table components h g made = (all_sends table components h g (sym (sends_out table h components) ∙ made)).follows
steps_follow In table components h g made =
    let same = ok_same (receive_components table h components) g (sym (receives_in table h components) ∙ made) in
    subst (λ (x : Half). Follows h x) same (all_receives table components h).follows

-- ---- halves with another index

pub over_index : (s : Halves) (slab : Slab HalfState) (slot : Slot) → index_of slot (record s { slab = slab }) ≡ index_of slot s
over_index s slab Begun = refl
over_index s slab Accepted = refl

pub serves_of : (s : Halves) (slot : Slot) → IsHeld s → Indexes (index_of slot s) slot (λ h. other_id slot h) (end_of s)
serves_of s Begun held = held.by_peer
serves_of s Accepted held = held.by_own

-- Only the index of one slot differs.
pub record Reindexed (slot : Slot) (index : List (List ℕ × List ℕ)) (s t : Halves) : Type 0 where
  pub halves : (t.slab ≡ s.slab) × (t.begun ≡ s.begun) × (t.accepted ≡ s.accepted)
  pub here : index_of slot t ≡ index
  pub there : (at : Slot) → at ≢ slot → index_of at t ≡ index_of at s

pub reindexed : (s t : Halves) (slot : Slot) (index : List (List ℕ × List ℕ)) → index_of slot t ≡ index
    → (slot ≢ Accepted → t.by_own ≡ s.by_own) → (slot ≢ Begun → t.by_peer ≡ s.by_peer)
    → (t.slab ≡ s.slab) × (t.begun ≡ s.begun) × (t.accepted ≡ s.accepted) → Reindexed slot index s t
reindexed s t slot index here by_own by_peer halves = record { halves = halves; here = here; there = there }
  where
    there : (at : Slot) → at ≢ slot → index_of at t ≡ index_of at s
    there Begun apart = ap (λ (m : BTreeMap (List ℕ) (List ℕ)). m.entries) (by_peer (λ is. apart (sym is)))
    there Accepted apart = ap (λ (m : BTreeMap (List ℕ) (List ℕ)). m.entries) (by_own (λ is. apart (sym is)))

-- one change of an index after another
pub reindexed_then : {s t u : Halves} {slot : Slot} {index after : List (List ℕ × List ℕ)} → Reindexed slot index s t
    → Reindexed slot after t u → Reindexed slot after s u
reindexed_then r next = record {
  halves = (next.halves.0 ∙ r.halves.0, next.halves.1 ∙ r.halves.1, next.halves.2 ∙ r.halves.2);
  here = next.here;
  there = λ at apart. next.there at apart ∙ r.there at apart;
}

module _ {slot : Slot} {index : List (List ℕ × List ℕ)} {s t : Halves} (r : Reindexed slot index s t) where
  pub same_end : end_of t ≡ end_of s
  same_end = rw (r.halves.0, r.halves.1, r.halves.2) refl

  same_places : (at : Slot) → places_of at t ≡ places_of at s
  same_places Begun = entries_are r.halves.1
  same_places Accepted = entries_are r.halves.2

  pub at_before : (at : Slot) (key : List ℕ) (place : Place) → IsAt at key place t → IsAt at key place s
  at_before at key place is = subst (λ (es : List (List ℕ × Place)). kept_at octets_cmp es key ≡ Some place) (same_places at) is

  pub under_before : (k : ℕ) (h : HalfState) → get t.slab k ≡ Some h → get s.slab k ≡ Some h
  under_before k h under = ap (λ slab. get slab k) (sym r.halves.0) ∙ under

  -- Every half in the slab still has a place.
  pub placed_too : AllPlaced s → AllPlaced t
  placed_too = placed_same s t same_places (λ k h taken. (h, under_before k h taken, refl))

  -- The same holds after a half changes.
  pub reindexed_on : (k : ℕ) (g : HalfState) → Reindexed slot index (going_on s k g) (going_on t k g)
  reindexed_on k g = record {
    halves = (ap (λ slab. with_value slab k g) r.halves.0, r.halves.1, r.halves.2);
    here = over_index t (with_value t.slab k g) slot ∙ r.here;
    there = λ at apart.
        over_index t (with_value t.slab k g) at ∙ r.there at apart ∙ sym (over_index s (with_value s.slab k g) at);
  }

  -- With its old entries in the index, the stored end is still sound.
  pub held_too : IsHeld s → index ≡ index_of slot s → IsHeld t
  held_too held same = record {
    begun = rw r.halves.1 held.begun;
    accepted = rw r.halves.2 held.accepted;
    places = λ at key j is.
        let old = held.places at key j (at_before at key (Open j) is) in
        (old.0, ap (λ slab. get slab j) r.halves.0 ∙ old.1, old.2, old.3, old.4);
    by_own = serves Accepted;
    by_peer = serves Begun;
  }
    where
      entries : (at : Slot) → (at ≡ slot) ⊎ (at ≢ slot) → index_of at t ≡ index_of at s
      entries at (inl is) = subst (λ (x : Slot). index_of x t ≡ index_of x s) (sym is) (r.here ∙ same)
      entries at (inr apart) = r.there at apart

      serves : (at : Slot) → Indexes (index_of at t) at (λ h. other_id at h) (end_of t)
      serves at = rw (entries at (slots_eq at slot), same_end) (serves_of s at held)

-- ---- an open half gets an ID

-- The half is still open and kept by the same ID, and now has the other ID.
record Gains (slot : Slot) (id : List ℕ) (h g : Half) : Type 0 where
  open_half : is_closed g.phase ≡ false
  kept : (key : List ℕ) → IsHalfKey slot key h → IsHalfKey slot key g
  gained : other_id slot g ≡ Some id

active_gains : (slot : Slot) (id : List ℕ) (h g : Half) → Follows (active_half slot id h) g → Gains slot id h g
active_gains Begun id h g follows =
    record { open_half = ap is_closed follows.phase; kept = λ q by_own. follows.own ∙ by_own; gained = follows.peer }
active_gains Accepted id h g follows =
    record { open_half = ap is_closed follows.phase; kept = λ q by_peer. follows.peer ∙ by_peer; gained = follows.own }

-- The ID by which a half is kept is the other ID of the other slot.
kept_id : (at slot : Slot) (key : List ℕ) (h g : Half) → at ≢ slot → IsHalfKey slot key h → IsHalfKey slot key g → other_id at g ≡ other_id at h
kept_id Begun Begun key h g apart kept too = absurd (apart refl)
kept_id Begun Accepted key h g apart kept too = too ∙ sym kept
kept_id Accepted Begun key h g apart kept too = too ∙ sym kept
kept_id Accepted Accepted key h g apart kept too = absurd (apart refl)

-- An open half is in the slot in which it is kept.
pub slot_of : (s : Halves) (slot : Slot) (key : List ℕ) (k : ℕ) (h : HalfState) → IsHeld s → IsAt slot key (Open k) s
    → get s.slab k ≡ Some h → h.slot ≡ slot
slot_of s slot key k h held is was = by (held.places slot key k is)
  where
    by : IsOpen slot key k s → h.slot ≡ slot
    by there = let same : there.0 ≡ h = cc in ap (λ (x : HalfState). x.slot) (sym same) ∙ there.2

module _ (s next : Halves) (slot : Slot) (key id : List ℕ) (k : ℕ) (h g : HalfState)
    (held : IsHeld s) (is : IsAt slot key (Open k) s) (was : get s.slab k ≡ Some h)
    (slots : g.slot ≡ h.slot) (follows : Follows (active_half slot id (half_of h)) (half_of g))
    (r : Reindexed slot (insert_entry octets_cmp (index_of slot s) id key) (going_on s k g) next) where
  gains : Gains slot id (half_of h) (half_of g)
  gains = active_gains slot id (half_of h) (half_of g) follows

  updates : Updates s.slab next.slab k (Some g)
  updates = rw r.halves.0 (Updates-with_value s.slab k g (rw was refl))

  by_key : IsHalfKey slot key (half_of h)
  by_key = kept_by s slot key k h held is was

  here : IsOpen slot key k next
  here = (g, updates.changed, slots ∙ slot_of s slot key k h held is was, gains.open_half, gains.kept key by_key)

  open_at : (other : Slot) (q : List ℕ) (j : ℕ) → IsAt other q (Open j) s → IsOpen other q j next
  open_at other q j there = by (cases_eq j k)
    where
      by : (j ≡ k) ⊎ (j ≢ k) → IsOpen other q j next
      by (inl j_is) =
          let one = one_place s slot other key q k held is (subst (λ (n : ℕ). IsAt other q (Open n) s) j_is there) in
          subst (λ (x : Slot). IsOpen x q j next) (sym one.0)
          (subst (λ (x : List ℕ). IsOpen slot x j next) (sym one.1)
          (subst (λ (n : ℕ). IsOpen slot key n next) (sym j_is) here))
      by (inr apart) = let old = held.places other q j there in (old.0, updates.others j apart ∙ old.1, old.2, old.3, old.4)

  -- The stored end is still sound, if no half had the ID and the index has an entry for it.
  pub held_gains : ((x : Half) → HasHalf (end_of s) (keyed_half slot key x) → other_id slot x ≡ None)
      → ((f : KeyedHalf) → HasHalf (end_of s) f → other_id slot f.half ≢ Some id) → IsHeld next
  held_gains unknown unused = record {
    begun = rw r.halves.1 held.begun;
    accepted = rw r.halves.2 held.accepted;
    places = λ other q j found. open_at other q j
        (subst (λ (es : List (List ℕ × Place)). kept_at octets_cmp es q ≡ Some (Open j))
        (same_places r other ∙ over_slab s (with_value s.slab k g) other) found);
    by_own = serves Accepted (slots_eq Accepted slot);
    by_peer = serves Begun (slots_eq Begun slot);
  }
    where
      had : HasHalf (end_of s) (keyed_half slot key (half_of h))
      had = has_open s slot key k h is was

      next_is : end_of next ≡ put (end_of s) slot key (half_of g)
      next_is = same_end r ∙ end_on s slot key k h held is was g

      serves : (at : Slot) → (at ≡ slot) ⊎ (at ≢ slot) → Indexes (index_of at next) at (λ x. other_id at x) (end_of next)
      serves at (inl same) =
          subst (λ (x : Slot). Indexes (index_of x next) x (λ y. other_id x y) (end_of next)) (sym same)
          (rw (r.here, next_is)
          (index_gains (λ (x : Half). other_id slot x) (index_of slot s) (end_of s) slot key id (half_of h) (half_of g)
          had (unknown (half_of h) had) gains.gained unused (serves_of s slot held)))
      serves at (inr apart) =
          rw (r.there at apart ∙ over_index s (with_value s.slab k g) at, next_is)
          (indexes_put (λ (x : Half). other_id at x) (index_of at s) (end_of s) slot at key (half_of h) (half_of g) had
          (kept_id at slot key (half_of h) (half_of g) apart by_key (gains.kept key by_key)) (serves_of s at held))
